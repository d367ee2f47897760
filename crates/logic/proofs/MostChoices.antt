-- How many choices a plan has: laws of `most_choices` (one step more, one outcome more, and that six steps are the most), and at least one.
use Prim.Native.Nat.{ℕ, zero, suc, ◌+◌, ◌*◌, ◌-◌, ◌<◌, ◌≤◌, zero-le}
use native.Mathlib.Omega.{arith}
use mathlib.Core.Path.{◌≡◌, refl}
use native.Mathlib.Nat.{suc-mul, mul-le-mul_right, not-suc-le-zero, le_of_suc-le-suc}
use lib.ListN.{length}
use Rattle.logic.specs.Plan.{Plan, choices}
use Rattle.logic.specs.promises.MostChoices.{most_choices}

-- One outcome more.
pub most_choices_more : (n i : ℕ) → i < 4 → i * most_choices n + most_choices n ≤ 4 * most_choices n
most_choices_more n i h = omega (arith, suc-mul i (most_choices n), mul-le-mul_right {m = suc i} {n = 4} (most_choices n) (omega arith))

pub most_choices_step : (n : ℕ) → (n ≡ 0 → ⊥) → most_choices n ≡ 1 + 4 * most_choices (n - 1)
unfolding most_choices
most_choices_step zero z = absurd (z refl)
most_choices_step (suc n) z =
    let one : suc n - 1 ≡ n = omega arith in
    rw one refl

most_choices_rises : (n k : ℕ) → n ≤ k → most_choices n ≤ most_choices k
unfolding most_choices
most_choices_rises zero k h = zero-le
most_choices_rises (suc n) zero h = absurd (not-suc-le-zero h)
most_choices_rises (suc n) (suc k) h = omega (arith, most_choices_rises n k (le_of_suc-le-suc h))

pub most_choices_6 : (n : ℕ) → n ≤ 6 → most_choices n ≤ 1365
unfolding most_choices
most_choices_6 n h = most_choices_rises n 6 h

-- A plan of at least one step has a choice.
pub some_choice : (n : ℕ) (π : Plan n) → 1 ≤ n → 1 ≤ length (choices n π)
unfolding choices
some_choice zero π h = h
some_choice (suc n) π h = omega arith
