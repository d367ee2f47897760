-- Two postconditions that contradict are not true of one state, so that the state reached tells which outcome it was. A mask that has all
-- bits of one and none of another leaves them no bit in common, by halving all three.
use Prim.Native.Nat.{ℕ, ◌+◌, ◌*◌, ◌/◌, ◌%◌, min}
use native.Mathlib.Omega.{arith}
use mathlib.Core.Path.{◌≡◌, refl, sym, ap, ◌∙◌}
use mathlib.Core.Bool.{true, not, ◌||◌, false≢true}
use lib.Dec.{eqb}
use lib.Arith.{bin_ind}
use lib.Bits.{bit_and, and_step}
use Rattle.logic.specs.Model.{Literals, true_of, contradict}
use Rattle.logic.proofs.Tests.{and_both, eqb_eq}

-- Bits that are all in v have none in common with bits of which none is in v.
no_common_bit : (t v f : ℕ) → bit_and v t ≡ t → bit_and v f ≡ 0 → bit_and t f ≡ 0
no_common_bit t = bin_ind (λ n. (v f : ℕ) → bit_and v n ≡ n → bit_and v f ≡ 0 → bit_and n f ≡ 0) (λ v f p q. refl) step t
  where
    step : (n : ℕ) → ((v f : ℕ) → bit_and v (n / 2) ≡ n / 2 → bit_and v f ≡ 0 → bit_and (n / 2) f ≡ 0) → (v f : ℕ) → bit_and v n ≡ n → bit_and v f ≡ 0 → bit_and n f ≡ 0
    step n ih v f p q =
        let a = sym (and_step v n) ∙ p in
        let b = sym (and_step v f) ∙ q in
        let i = ih (v / 2) (f / 2) (halves (bit_and (v / 2) (n / 2)) (v % 2) n a) (zeros (bit_and (v / 2) (f / 2)) _ b) in
        and_step n f ∙ last (bit_and (n / 2) (f / 2)) n v f (bit_and (v / 2) (n / 2)) (bit_and (v / 2) (f / 2)) i a b
      where
        halves : (x y n : ℕ) → x * 2 + min y (n % 2) ≡ n → x ≡ n / 2
        halves x y n e = omega arith

        zeros : (x y : ℕ) → x * 2 + y ≡ 0 → x ≡ 0
        zeros x y e = omega arith

        last : (x n v f y z : ℕ) → x ≡ 0 → y * 2 + min (v % 2) (n % 2) ≡ n → z * 2 + min (v % 2) (f % 2) ≡ 0 → x * 2 + min (n % 2) (f % 2) ≡ 0
        last x n v f y z h e g = omega arith

-- What is true of a state has all bits that it demands true, and none that it demands false.
true_masks : (l : Literals) (v : ℕ) → true_of l v ≡ true → (bit_and v l.positive ≡ l.positive) × (bit_and v l.negative ≡ 0)
unfolding true_of
true_masks l v e =
    let w = and_both (eqb (bit_and v l.positive) l.positive) (eqb (bit_and v l.negative) 0) e in
    (eqb_eq _ _ w.0, eqb_eq _ _ w.1)

pub not_both : (k l : Literals) (v : ℕ) → contradict k l ≡ true → true_of k v ≡ true → true_of l v ≡ true → ⊥
unfolding contradict
not_both k l v c a b =
    let x = true_masks k v a in
    let y = true_masks l v b in
    clash (bit_and k.positive l.negative) (bit_and l.positive k.negative)
    (no_common_bit k.positive v l.negative x.0 y.1) (no_common_bit l.positive v k.negative y.0 x.1) c
  where
    clash : (x y : ℕ) → x ≡ 0 → y ≡ 0 → (not (eqb x 0) || not (eqb y 0)) ≡ true → ⊥
    clash x y e f h = false≢true (sym (ap (λ z. not (eqb z 0) || not (eqb y 0)) e ∙ ap (λ z. not (eqb z 0)) f) ∙ h)
