-- What the paths that choices allow are worth, weighed and summed by the first step, and the choices left over. That it is the plan's total,
-- where they spell one, is proved (`SumIsWeight`).
use Rattle.std.specs.Prelude.{ℕ, zero, suc, ◌+◌, ◌*◌, List, [], ◌∷◌, get_or, drop}
use Rattle.logic.specs.Model.{Model, Step, outcomes}

-- A sum, and what is left to read.
abbrev pub Run : Type 0
Run = ℕ × List ℕ

-- Over the outcomes of a choice: each one's weight times the sum below it, which reads on where the one before it ended.
unfoldable pub each : (Step → List ℕ → Run) → List Step → List ℕ → Run
each f [] cs = (0, cs)
each f (o ∷ os) cs = (o.weight * (f o cs).0 + (each f os (f o cs).1).0, (each f os (f o cs).1).1)

-- n steps from s; f is the value of the steps still to come, those taken stand in it.
unfoldable pub weigh : Model → (n s : ℕ) → (List Step → ℕ) → List ℕ → Run
weigh m zero s f cs = (f [], cs)
weigh m (suc n) s f cs = each (λ o. weigh m n o.target (λ r. f (o ∷ r))) (outcomes m s (get_or cs 0 0)) (drop 1 cs)
