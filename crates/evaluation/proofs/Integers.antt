-- Signed numbers of the machine: what a comparison of two says of the integers, and that sums and differences of small ones fit.
use Prim.Native.Nat.{ℕ, zero, suc, ◌+◌, ◌-◌, ◌^◌, ◌≤◌, ◌<◌}
use native.Mathlib.Omega.{arith}
use native.Mathlib.Nat.{le_trans}
use native.Mathlib.Decide.{ℕ_discrete}
use mathlib.Core.Path.{◌≡◌, refl, sym, ap, ap₂, ◌∙◌}
use mathlib.Core.Bool.{Bool, true, false, not, cond, ◌&&◌}
use lib.Dec.{eqb, ltb}
use lib.IntN.{ℤ, pos, negsuc, neg_ℤ, ◌+ℤ◌, ◌-ℤ◌, +ℤ_comm, +ℤ-neg_ℤ_cancel}
use lib.Signed.{mag, lt_z, le_z}
use mir.Syntax.{Width, w16, w32, w64}
use mir.Val.{SFits, to_z, of_z, bool_byte}
use mir.ValLaws.{to_z-of_z}
use borrow.Author.Tests.{eq-eqb, ne_eqb}
use Rattle.logic.specs.Bound.{one_if}
use Rattle.logic.proofs.Naturals.{ltb_leb, eqb_leb}

pub less_is : (a b : ℤ) → lt_z a b ≡ not (le_z b a)
less_is (pos a) (pos b) = ltb_leb a b
less_is (pos a) (negsuc b) = refl
less_is (negsuc a) (pos b) = refl
less_is (negsuc a) (negsuc b) = ltb_leb b a

-- Two numbers are equal when their bits are.
pub same_bits : (a b : ℤ) → SFits w64 a → SFits w64 b → eqb (of_z w64 a) (of_z w64 b) ≡ (le_z a b && le_z b a)
same_bits (pos a) (pos b) h g = eqb_leb a b
same_bits (pos a) (negsuc b) h g = let x = h.sfits in let y = g.sfits in ne_eqb a (2 ^ 64 - suc b) (λ e. omega arith)
same_bits (negsuc a) (pos b) h g = let x = h.sfits in let y = g.sfits in ne_eqb (2 ^ 64 - suc a) b (λ e. omega arith)
same_bits (negsuc a) (negsuc b) h g = go (ℕ_discrete a b) ∙ eqb_leb b a
  where
    go : Dec (a ≡ b) → eqb (2 ^ 64 - suc a) (2 ^ 64 - suc b) ≡ eqb b a
    go (yes e) = eq-eqb (2 ^ 64 - suc a) (2 ^ 64 - suc b) (omega arith) ∙ sym (eq-eqb b a (omega arith))
    go (no f) = let x = h.sfits in let y = g.sfits in ne_eqb (2 ^ 64 - suc a) (2 ^ 64 - suc b) (λ e. f (omega arith)) ∙ sym (ne_eqb b a (λ e. f (omega arith)))

pub fits32 : (z : ℤ) → mag z < 2 ^ 31 → to_z w32 (of_z w32 z) ≡ z
fits32 z h = to_z-of_z w32 z (record { sfits = h })

-- A number that both widths hold can be widened, and is the same.
pub wide_fits : (v w : Width) (z : ℤ) → SFits v z → SFits w z → SFits w (to_z v (of_z v z))
wide_fits v w z h g = rw (to_z-of_z v z h) g

pub wide_is : (v w : Width) (z : ℤ) → SFits v z → SFits w z → to_z w (of_z w (to_z v (of_z v z))) ≡ z
wide_is v w z h g = ap (λ x. to_z w (of_z w x)) (to_z-of_z v z h) ∙ to_z-of_z w z g

-- The sum of a number and one of 16 bits, which is widened first.
pub sum16 : (x y : ℤ) → mag x < 2 ^ 31 → mag y < 2 ^ 15 → mag (x +ℤ y) < 2 ^ 31
    → to_z w32 (of_z w32 (to_z w32 (of_z w32 x) +ℤ to_z w32 (of_z w32 (to_z w16 (of_z w16 y))))) ≡ x +ℤ y
sum16 x y h g k = ap₂ (λ a b. to_z w32 (of_z w32 (a +ℤ b))) (fits32 x h) (wide_is w16 w32 y (record { sfits = g }) (record { sfits = omega arith })) ∙ fits32 (x +ℤ y) k

pub wider : (z : ℤ) → mag z < 2 ^ 31 → SFits w64 (to_z w32 (of_z w32 z))
wider z h = wide_fits w32 w64 z (record { sfits = h }) (record { sfits = omega arith })

pub widened : (z : ℤ) → mag z < 2 ^ 31 → to_z w64 (of_z w64 (to_z w32 (of_z w32 z))) ≡ z
widened z h = wide_is w32 w64 z (record { sfits = h }) (record { sfits = omega arith })

mag_sub : (a b : ℕ) (t : Bool) → ltb a b ≡ t → mag (cond t (negsuc (b - suc a)) (pos (a - b))) ≤ a + b
mag_sub a b true e = omega arith
mag_sub a b false e = omega arith

pub mag_add : (x y : ℤ) → mag (x +ℤ y) ≤ mag x + mag y + 1
mag_add (pos a) (pos b) = omega arith
mag_add (pos a) (negsuc b) = le_trans (mag_sub a (suc b) (ltb a (suc b)) refl) (omega arith)
mag_add (negsuc a) (pos b) = le_trans (mag_sub b (suc a) (ltb b (suc a)) refl) (omega arith)
mag_add (negsuc a) (negsuc b) = omega arith

mag_negative : (x : ℤ) → mag (neg_ℤ x) ≤ mag x + 1
mag_negative (pos zero) = omega arith
mag_negative (pos (suc n)) = omega arith
mag_negative (negsuc n) = omega arith

-- The difference of two numbers of 32 bits is small, and fits in 64.
pub difference_small : (x y : ℤ) → mag x < 2 ^ 31 → mag y < 2 ^ 31 → mag (x -ℤ y) < 2 ^ 33
difference_small x y h g =
    let c = mag_add x (neg_ℤ y) in
    let d = mag_negative y in
    omega arith

pub difference_fits : (x y : ℤ) → mag x < 2 ^ 31 → mag y < 2 ^ 31 → SFits w64 (x -ℤ y)
difference_fits x y h g = let s = difference_small x y h g in record { sfits = omega arith }

-- The sum of a number of 64 bits that is small and a natural number, as the machine makes it.
module _ (x : ℤ) (n : ℕ) (h : mag x < 2 ^ 33) (g : n < 2 ^ 16) where
  both_are : to_z w64 (of_z w64 x) +ℤ to_z w64 n ≡ x +ℤ pos n
  both_are = ap₂ ◌+ℤ◌ (to_z-of_z w64 x (record { sfits = omega arith })) (to_z-of_z w64 (pos n) (record { sfits = omega arith }))

  sum_small : mag (x +ℤ pos n) < 2 ^ 34
  sum_small = omega (arith, mag_add x (pos n))

  pub sum_fits : SFits w64 (to_z w64 (of_z w64 x) +ℤ to_z w64 n)
  sum_fits = rw both_are (record { sfits = omega (arith, sum_small) })

  pub sum_is : to_z w64 (of_z w64 (to_z w64 (of_z w64 x) +ℤ to_z w64 n)) ≡ x +ℤ pos n
  sum_is = ap (λ z. to_z w64 (of_z w64 z)) both_are ∙ to_z-of_z w64 (x +ℤ pos n) (record { sfits = omega (arith, sum_small) })

  -- Where it is natural, it is so as an unsigned number too.
  pub natural_fits : {y : ℕ} → x +ℤ pos n ≡ pos y → y < 2 ^ 64
  natural_fits e = omega (arith, ap mag e, sum_small)

-- What is left of a sum without its first part.
pub rest_of_sum : (x y : ℤ) → (x +ℤ y) -ℤ x ≡ y
rest_of_sum x y = ap (λ z. z -ℤ x) (+ℤ_comm x y) ∙ +ℤ-neg_ℤ_cancel y x

-- A number of 32 bits that was widened by `from` is read as itself.
pub read_wider : (x z : ℤ) → mag x < 2 ^ 31 → z ≡ to_z w32 (of_z w32 x) → to_z w64 (of_z w64 z) ≡ x
read_wider x z h e = ap (λ z. to_z w64 (of_z w64 z)) e ∙ widened x h

-- The byte that `from` makes of a truth value.
pub byte_is : (t : Bool) → bool_byte t ≡ one_if t
unfolding one_if
byte_is true = refl
byte_is false = refl
