-- The two totals of grounds 24 and 25, by recursion over the steps, on states, without the search. Document 01, "Refused because of the
-- state". That they count paths and plans is proved (`Counting`, `Dictionary`).
use Rattle.std.specs.Prelude.{ℕ, zero, suc, ◌*◌, Bool, true, not, ◌||◌, List, [], ◌∷◌, leb, length}
use Rattle.logic.specs.Lists.{all, every}
use Rattle.logic.specs.Checked.{Checked}
use Rattle.logic.specs.Grounds.{Ground, ◌unless◌, decided}
use Rattle.logic.specs.Model.{Model, enabled, outcomes}
use Rattle.logic.specs.Quantity.{naturals, sum, Relation}
use Rattle.logic.specs.Formula.{Formula, on_bound}
use Rattle.logic.specs.Verdict.{is_equal}

-- The number of n-step paths under all enabled choices.
unfoldable pub path_total : Model → ℕ → ℕ → ℕ
path_total m zero s = 1
path_total m (suc n) s = sum naturals (λ a. sum naturals (λ o. path_total m n o.target) (outcomes m s a)) (enabled m s)

unfoldable pub multiply : {A : Type 0} → (A → ℕ) → List A → ℕ
multiply f [] = 1
multiply f (x ∷ xs) = f x * multiply f xs

-- The number of n-step plans.
unfoldable pub plan_total : Model → ℕ → ℕ → ℕ
plan_total m zero s = 1
plan_total m (suc n) s = sum naturals (λ a. multiply (λ o. plan_total m n o.target) (outcomes m s a)) (enabled m s)

-- f is true of the steps and the relation of each node that sets a bound on plans, in every state of the model.
unfoldable pub every_plan : (ℕ → Relation → ℕ → Bool) → Model → List Formula → Bool
every_plan f m fs = all (on_bound true (λ n r. every (length m.states) (f n r))) fs

-- 24: over 1,000,000 paths; 25: over 65,536 plans of an "equal" node.
abbrev pub limit_grounds : Model → List Formula → List Ground
limit_grounds m fs =
    24 unless every_plan (λ n r s. leb (path_total m n s) 1000000) m fs
    ∷ 25 unless every_plan (λ n r s. not (is_equal r) || leb (plan_total m n s) 65536) m fs
    ∷ []

unfoldable pub limits : Model → List Formula → Checked (Unit {0})
limits m fs = decided (limit_grounds m fs) tt
