-- Sums of equal numbers, and of numbers that are equal but for one.
use Prim.Native.Nat.{ℕ, zero, suc, ◌+◌, ◌%◌, ◌<◌}
use native.Mathlib.Omega.{arith}
use mathlib.Core.Path.{◌≡◌, refl, ap₂}
use mathlib.Core.Bool.{Bool, true, false}
use lib.Dec.{ltb}
use borrow.Author.Tests.{ltb-true, ltb-false}
use Rattle.blocks.specs.Block.{sum_below}

pub sum_same : (f g : ℕ → ℕ) (n : ℕ) → ((i : ℕ) → i < n → f i ≡ g i) → sum_below n f ≡ sum_below n g
unfolding sum_below
sum_same f g zero h = refl
sum_same f g (suc n) h = ap₂ ◌+◌ (sum_same f g n (λ i l. h i (omega arith))) (h n (omega arith))

-- Where all numbers but that at j are equal, the sums differ by what these two differ.
module _ (f g : ℕ → ℕ) (j : ℕ) where
  sum_but_one : (n : ℕ) → j < n → ((i : ℕ) → i < n → (i ≡ j → ⊥) → f i ≡ g i) → sum_below n f + g j ≡ sum_below n g + f j
  unfolding sum_below
  sum_but_one zero l h = absurd (omega arith)
  sum_but_one (suc n) l h = by (ltb j n) refl (λ k. sum_but_one n k (λ i m. h i (omega arith)))
    where
      by : (t : Bool) → ltb j n ≡ t → (j < n → sum_below n f + g j ≡ sum_below n g + f j) → sum_below n f + f n + g j ≡ sum_below n g + g n + f j
      by true q below =
          let k : j < n = ltb-true j n q in
          let e = below k in
          let last : f n ≡ g n = h n (omega arith) (λ z. omega arith) in
          omega arith
      by false q below =
          let z : j ≡ n = omega (arith, ltb-false j n q) in
          let e = sum_same f g n (λ i m. h i (omega arith) (λ y. omega arith)) in
          rw (z, e) (omega arith)

  -- So a word is told by the other words and the sum modulo 65,536.
  pub told_word : (n : ℕ) → j < n → ((i : ℕ) → i < n → (i ≡ j → ⊥) → f i ≡ g i) → f j < 65536 → g j < 65536
      → sum_below n f % 65536 ≡ sum_below n g % 65536 → f j ≡ g j
  told_word n l h x y e = let s = sum_but_one n l h in omega arith
