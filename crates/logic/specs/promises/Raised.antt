-- Gains as natural numbers: every reward raised by 1000, since none is below -1000. Searches sum these.
use Rattle.std.specs.Prelude.{ℕ, zero, suc, ◌+◌, ◌*◌, ◌-◌, ◌^◌, ◌≤◌, Bool, ◌≡◌, ℤ, pos, negsuc, ◌+ℤ◌, take, drop}
use mathlib.Core.List.{List, Memᴰ}
use Rattle.logic.specs.Model.{Model, Step, enabled, outcomes}
use Rattle.logic.specs.Quantity.{naturals, sum}
use Rattle.logic.specs.Accepted.{Executable}
use Rattle.logic.specs.promises.Orders.{weights, order}
use Rattle.logic.specs.promises.Recursion.{best_choice, greatest}

unfoldable pub raise : ℤ → ℕ
raise (pos k) = 1000 + k
raise (negsuc k) = 999 - k

-- The raised rewards of the steps after the first a, up to step u, summed: the gain of steps a + 1 to u, and 1000 for each of them.
unfoldable pub raised : (a u : ℕ) → List Step → ℕ
raised a u ρ = sum naturals (λ o. raise o.reward) (drop a (take u ρ))

-- ---- by the steps left

-- Whether the first of the steps left is one of those that earn: the steps after the first a of them, up to step u.
unfoldable pub pay : (a u : ℕ) → ℕ
pay zero zero = 0
pay zero (suc u) = 1
pay (suc a) u = 0

module _ (least : Bool) (m : Model) where
  -- What a choice is worth with n steps below it: each outcome's weight times what its step earns, over those steps, and the best below it.
  unfoldable pub gain_worth : (n a u s : ℕ) → ℕ → ℕ
  gain_worth n a u s c =
      sum naturals
      (λ o. o.weight * (m.denominator ^ n * (pay a u * raise o.reward) + greatest (weights (order least)) m n o.target (raised (a - 1) (u - 1))))
      (outcomes m s c)

  -- The first of the best choices.
  unfoldable pub gain_choice : (n a u s : ℕ) → ℕ
  gain_choice n a u s = best_choice (weights (order least)) (gain_worth n a u s) (enabled m s)

-- ---- rewards

-- A reward from -1000 to 1000, by what raising makes of it.
pub record Modest (z : ℤ) : Type 0 where
  pub up : pos (raise z) ≡ z +ℤ pos 1000
  pub small : raise z ≤ 2000

-- All rewards of a model are such.
pub record ModestRewards (m : Model) : Type 0 where
  pub modest : {s a : ℕ} → Executable m s a → (o : Step) → Memᴰ o (outcomes m s a) → Modest o.reward
