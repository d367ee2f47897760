-- A path as a search keeps it, a trail: one number a step, 32 times the byte of the choice, plus 4 times its place in the state's row, plus
-- the number of the outcome.
use Rattle.std.specs.Prelude.{ℕ, ◌+◌, ◌*◌, ◌/◌, ◌%◌, ◌≡◌, List, [], ◌∷◌, ℤ}
use Rattle.logic.specs.Model.{Step}
use Rattle.logic.specs.Quantity.{integers, sum}
use Rattle.prepared_model.specs.promises.Rows.{choice_in, step_in, Offers}

-- The number of outcome o of the choice at place i of the state s, and the step that a number stands for there.
abbrev pub number_of : List ℕ → (s i o : ℕ) → ℕ
number_of m s i o = 32 * choice_in m s i + 4 * i + o

unfoldable pub step_of : List ℕ → ℕ → ℕ → Step
step_of m s b = step_in m s (b % 32 / 4) (b % 4)

unfoldable pub steps_of : List ℕ → ℕ → List ℕ → List Step
steps_of m s [] = []
steps_of m s (b ∷ t) = step_of m s b ∷ steps_of m (step_of m s b).target t

-- Where a trail from s ends.
unfoldable pub state_after : List ℕ → ℕ → List ℕ → ℕ
state_after m s [] = s
state_after m s (b ∷ t) = state_after m (step_of m s b).target t

-- The number names an outcome of a choice of s.
pub record Takes (m : List ℕ) (s b : ℕ) : Type 0 where
  pub offers : Offers m s (b % 32 / 4) (b % 4)
  pub named : b / 32 ≡ choice_in m s (b % 32 / 4)

-- Every number names an outcome in the state reached.
pub data Trail (m : List ℕ) : ℕ → List ℕ → Type 0 where
  stop : {s : ℕ} → Trail m s []
  move : {s b : ℕ} {t : List ℕ} → Takes m s b → Trail m (step_of m s b).target t → Trail m s (b ∷ t)

-- The rewards of some steps, summed.
abbrev pub gain_of : List Step → ℤ
gain_of r = sum integers (λ o. o.reward) r
