-- Facts about two's complement that the readers' proofs share.
use Prim.Native.Nat.{ℕ, suc, ◌+◌, ◌-◌, ◌^◌, ◌≤◌, ◌<◌}
use native.Mathlib.Omega.{arith}
use native.Mathlib.Nat.{pow-suc}
use native.Mathlib.Numerals.{add-one}
use mathlib.Core.Path.{◌≡◌, refl, sym, ap, ◌∙◌}
use mathlib.Core.Logic.{◌↔◌}
use mathlib.Core.Bool.{Bool, true, false, cond}
use lib.Dec.{ltb}
use lib.IntN.{ℤ, pos, negsuc}
use lib.Signed.{mag}
use mir.Syntax.{w64}
use mir.Val.{of_z, sel}
use borrow.Author.Tests.{lt-ltb, le-ltb, ltb-true, ltb-false}
use Rattle.blocks.specs.Bytes.{signed, twos_complement}

-- ---- the signed reading of a number

module _ (k x : ℕ) where
  pub signed_low : x < 2 ^ k → signed k x ≡ pos x
  unfolding signed
  signed_low h = rw (lt-ltb x (2 ^ k) h) refl

  pub signed_high : 2 ^ k ≤ x → signed k x ≡ negsuc (2 ^ (k + 1) - 1 - x)
  unfolding signed
  signed_high h = rw (le-ltb x (2 ^ k) h) refl

-- Two's complement there and back: k + 1 bits hold z, and x is a number of k + 1 bits.
module _ (k : ℕ) where
  doubled : 2 ^ (k + 1) ≡ 2 ^ k + 2 ^ k
  doubled = ap (λ n. 2 ^ n) (add-one k) ∙ pow-suc 2 k ∙ omega arith

  pub signed_twos : (z : ℤ) → mag z < 2 ^ k → signed k (twos_complement k z) ≡ z
  unfolding twos_complement
  signed_twos (pos x) h = signed_low k x h
  signed_twos (negsuc x) h =
      let e : 2 ^ (k + 1) - 1 - (2 ^ (k + 1) - 1 - x) ≡ x = omega (arith, doubled) in
      signed_high k (2 ^ (k + 1) - 1 - x) (omega (arith, doubled)) ∙ ap negsuc e

  pub twos_signed : (x : ℕ) → x < 2 ^ (k + 1) → twos_complement k (signed k x) ≡ x
  unfolding signed twos_complement
  twos_signed x h = by (ltb x (2 ^ k)) refl
    where
      by : (t : Bool) → ltb x (2 ^ k) ≡ t → twos_complement k (signed k x) ≡ x
      by true q = ap (twos_complement k) (signed_low k x (ltb-true x (2 ^ k) q))
      by false q = ap (twos_complement k) (signed_high k x (ltb-false x (2 ^ k) q)) ∙ omega arith

  pub twos_small : (z : ℤ) → mag z < 2 ^ k → twos_complement k z < 2 ^ (k + 1)
  unfolding twos_complement
  twos_small (pos x) h = omega (arith, doubled)
  twos_small (negsuc x) h = omega (arith, doubled)

  -- A number w that k bits hold is meant by w itself and by no other x: those from 2 to the k up stand for numbers below 0.
  pub signed_natural : (x w : ℕ) → x < 2 ^ (k + 1) → w < 2 ^ k → (signed k x ≡ pos w) ↔ (x ≡ w)
  unfolding twos_complement
  signed_natural x w h g = (λ e. sym (twos_signed x h) ∙ ap (twos_complement k) e, λ e. ap (signed k) e ∙ signed_low k w g)

-- ---- as the machine casts it

-- The bits of an unsigned number, read as a signed one, and those of a signed number: at k + 1 bits, what `cast_signed` and `cast_unsigned`
-- give.
pub cast_reads : (k x : ℕ) → sel (ltb x (2 ^ k)) (pos x) (negsuc (2 ^ (k + 1) - suc x)) ≡ signed k x
unfolding signed
cast_reads k x = by (ltb x (2 ^ k))
  where
    by : (t : Bool) → sel t (pos x) (negsuc (2 ^ (k + 1) - suc x)) ≡ cond t (pos x) (negsuc (2 ^ (k + 1) - 1 - x))
    by true = refl
    by false = ap negsuc (omega arith)

pub cast_bits : (z : ℤ) → of_z w64 z ≡ twos_complement 63 z
unfolding twos_complement
cast_bits (pos x) = refl
cast_bits (negsuc x) = omega arith
