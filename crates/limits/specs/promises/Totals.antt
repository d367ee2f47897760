-- The two totals of grounds 24 and 25 as one, by what is counted: paths, or with `plans` true, plans. Below a choice the numbers of its
-- outcomes are added for paths and multiplied for plans. They are kept exactly up to a cap, one above the limit.
use Rattle.std.specs.Prelude.{ℕ, ◌+◌, ◌*◌, ◌<◌, min, ◌≡◌, Bool, true, false, not, ◌&&◌, ◌||◌, List, [], ◌∷◌, leb, eqb, get_or, length}
use Rattle.logic.specs.Lists.{every}
use Rattle.logic.specs.Model.{Model, enabled, outcomes}
use Rattle.logic.specs.Quantity.{naturals, sum, Relation}
use Rattle.logic.specs.Formula.{Node, relation}
use Rattle.logic.specs.Verdict.{is_equal}
use Rattle.logic.specs.Limits.{path_total, plan_total}
use Rattle.questions.specs.promises.Formed.{sets_bound}

unfoldable pub total : Bool → Model → ℕ → ℕ → ℕ
total true m n s = plan_total m n s
total false m n s = path_total m n s

unfoldable pub none : Bool → ℕ
none true = 1
none false = 0

unfoldable pub joined : Bool → ℕ → ℕ → ℕ
joined true x y = x * y
joined false x y = x + y

-- The total below a choice, of its outcomes' totals.
unfoldable pub gather : Bool → {A : Type 0} → (A → ℕ) → List A → ℕ
gather plans f [] = none plans
gather plans f (x ∷ l) = joined plans (f x) (gather plans f l)

-- The total of a state, of the totals f of the states that a step leads to.
unfoldable pub step_total : Bool → Model → (ℕ → ℕ) → ℕ → ℕ
step_total plans m f s = sum naturals (λ a. gather plans (λ o. f o.target) (outcomes m s a)) (enabled m s)

unfoldable pub limit : Bool → ℕ
limit true = 65536
limit false = 1000000

abbrev pub cap : Bool → ℕ
cap plans = limit plans + 1

-- A table of the totals of fewer than so many steps, 32 states each.
pub record Totals (plans : Bool) (m : Model) (rows : ℕ) (table : List ℕ) : Type 0 where
  pub at : (n s : ℕ) → n < rows → s < length m.states → get_or table (32 * n + s) 0 ≡ min (cap plans) (total plans m n s)

-- What grounds 24 and 25 ask of each node that sets a bound on plans and each state: for plans, of "equal" nodes only.
unfoldable pub fits : Bool → Model → ℕ → Relation → ℕ → Bool
fits true m n r s = not (is_equal r) || leb (plan_total m n s) 65536
fits false m n r s = leb (path_total m n s) 1000000

unfoldable pub node_fits : Bool → Model → Node → Bool
node_fits plans m x = not (sets_bound x.operator) || every (length m.states) (fits plans m x.n (relation x.right))

-- Whether a limit is set to a node, by its numbers.
unfoldable pub bounded : Bool → Node → Bool
bounded plans x = sets_bound x.operator && (not plans || eqb x.right 2)
