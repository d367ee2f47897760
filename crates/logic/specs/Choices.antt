-- The plan on a sheet, read from its choices. Document 01: "Choices run depth first: the action for a history, then the choices below
-- each outcome in postcondition order."
use Rattle.std.specs.Prelude.{ℕ, zero, suc, List, [], ◌∷◌, eqb}
use Rattle.logic.specs.Lists.{any, is_empty}
use Rattle.logic.specs.Checked.{Checked, ok, refused, ◌>>=◌, ◌>>◌, guard}
use Rattle.logic.specs.Model.{Model, enabled, outcomes}
use Rattle.logic.specs.Plan.{Plan}

-- Reads one thing for each element, one after the other.
unfoldable pub read_each : {A B : Type 0} → (A → List ℕ → Checked (B × List ℕ)) → List A → List ℕ → Checked (List B × List ℕ)
read_each f [] cs = ok ([], cs)
read_each f (x ∷ xs) cs = do
  y ← f x cs
  ys ← read_each f xs y.1
  ok (y.0 ∷ ys.0, ys.1)

-- The n-step plan from s with which the choices begin, and the choices left over; refusal 10 for a choice not enabled, or one missing.
unfoldable pub read_plan : Model → (n : ℕ) → ℕ → List ℕ → Checked (Plan n × List ℕ)
read_plan m zero s cs = ok (tt, cs)
read_plan m (suc n) s [] = refused 10
read_plan m (suc n) s (a ∷ cs) = do
  guard 10 (any (eqb a) (enabled m s))
  qs ← read_each (λ o. read_plan m n o.target) (outcomes m s a) cs
  ok ((a, qs.0), qs.1)

-- The plan that has exactly these choices; refusal 10 for choices left over.
unfoldable pub plan_of : Model → (n : ℕ) → ℕ → List ℕ → Checked (Plan n)
plan_of m n s cs = do
  x ← read_plan m n s cs
  guard 10 (is_empty x.1)
  ok x.0
