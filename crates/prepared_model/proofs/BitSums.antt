-- The bits of numbers, and of the machine's operations on them; sums over the outcomes of a choice.
use Prim.Native.Nat.{ℕ, zero, suc, ◌+◌, ◌-◌, ◌/◌, ◌%◌, ◌^◌, ◌≤◌, ◌<◌}
use native.Mathlib.Omega.{arith}
use native.Mathlib.Nat.{pow-suc, pow-succ', zero-div, div-one, div-div-eq-div-mul, eq-or-lt_of_le}
use mathlib.Core.Path.{◌≡◌, refl, sym, ap, ◌∙◌}
use mathlib.Core.Logic.{◌⊎◌, inl, inr, ⊎_elim}
use lib.Bits.{bit_xor, xor_shr, xor_mod}
use lib.Dec.{eqb}
use lib.Pow.{pow_pos, shr-shr}
use Rattle.logic.specs.Bound.{one_if}
use Rattle.blocks.specs.Block.{sum_below}
use Rattle.prepared_model.specs.promises.Rows.{lane}

-- ---- lanes by halving

pub lane_zero : (x : ℕ) → lane x 0 ≡ x % 2
unfolding lane
lane_zero x = ap (λ y. y % 2) (div-one x)

pub lane_suc : (x i : ℕ) → lane x (suc i) ≡ lane (x / 2) i
unfolding lane
lane_suc x i = ap (λ y. y % 2) (ap (λ p. x / p) (pow-succ' 2 i) ∙ sym (div-div-eq-div-mul x 2 (2 ^ i)))

pub lane_shr : (x j i : ℕ) → lane (x / 2 ^ j) i ≡ lane x (j + i)
unfolding lane
lane_shr x j i = ap (λ y. y % 2) (shr-shr x j i)

pub lane_bit : (x i : ℕ) → (lane x i ≡ 0) ⊎ (lane x i ≡ 1)
unfolding lane
lane_bit x i = go (x / 2 ^ i % 2) (omega arith)
  where
    go : (b : ℕ) → b < 2 → (b ≡ 0) ⊎ (b ≡ 1)
    go zero h = inl refl
    go (suc b) h = inr (omega arith)

pub lane_none : (i : ℕ) → lane 0 i ≡ 0
unfolding lane
lane_none i = ap (λ y. y % 2) (zero-div (2 ^ i))

-- All ones.
pub lane_ones : (n i : ℕ) → i < n → lane (2 ^ n - 1) i ≡ 1
lane_ones zero i h = absurd (omega arith)
lane_ones (suc n) zero h = let e = pow-suc 2 n in let p = pow_pos n in lane_zero (2 ^ suc n - 1) ∙ omega arith
lane_ones (suc n) (suc i) h =
    let e = pow-suc 2 n in
    let p = pow_pos n in
    let k : (2 ^ suc n - 1) / 2 ≡ 2 ^ n - 1 = omega arith in
    lane_suc (2 ^ suc n - 1) i ∙ ap (λ x. lane x i) k ∙ lane_ones n i (omega arith)

-- Against all ones, each lane is the other bit.
pub lane_flip : (x i : ℕ) → i < 32 → lane (bit_xor x 4294967295) i ≡ one_if (eqb (lane x i) 0)
unfolding lane one_if
lane_flip x i h =
    ap (λ y. y % 2) (xor_shr x 4294967295 i) ∙ xor_mod (x / 2 ^ i) (4294967295 / 2 ^ i) 1 ∙ ap (bit_xor (x / 2 ^ i % 2)) (lane_ones 32 i h)
    ∙ ⊎_elim (λ e. rw e refl) (λ e. rw e refl) (lane_bit x i)

-- The four lowest lanes of a word are those of its remainder by 16.
pub lane_low : (x o : ℕ) → o < 4 → lane (x % 16) o ≡ lane x o
unfolding lane
lane_low x zero h = omega arith
lane_low x (suc zero) h = omega arith
lane_low x (suc (suc zero)) h = omega arith
lane_low x (suc (suc (suc zero))) h = omega arith
lane_low x (suc (suc (suc (suc o)))) h = absurd (omega arith)

-- ---- sums

pub sum_short : (f : ℕ → ℕ) (n k : ℕ) → n ≤ k → ((o : ℕ) → n ≤ o → o < k → f o ≡ 0) → sum_below k f ≡ sum_below n f
unfolding sum_below
sum_short f n zero h g = let e : 0 ≡ n = omega arith in ap (λ i. sum_below i f) e
sum_short f n (suc k) h g =
    ⊎_elim (λ e. ap (λ i. sum_below i f) (sym e))
    (λ l. let z = g k (omega arith) (omega arith) in let s = sum_short f n k (omega arith) (λ o p q. g o p (omega arith)) in omega arith)
    (eq-or-lt_of_le h)

pub sum_four : (f : ℕ → ℕ) → f 0 + f 1 + f 2 + f 3 ≡ sum_below 4 f
unfolding sum_below
sum_four f = omega arith
