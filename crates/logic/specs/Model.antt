-- Models: states, actions, outcomes. Document 01, "The model"; Definition 1 of the PLBP paper; document 02, A.1, for states where the work is over.
use Rattle.std.specs.Prelude.{ℕ, ◌/◌, ◌%◌, ◌^◌, Bool, not, cond, ◌&&◌, ◌||◌, List, [], ◌∷◌, get_or, length, eqb, ℤ, pos}
use Rattle.std.specs.Int.Bits.{bit_and}
use Rattle.logic.specs.Lists.{is_empty, keep, count_from}

-- A conjunction of literals as two masks: the propositions that must be true, and those that must be false.
pub record Literals : Type 0 where
  pub positive : ℕ
  pub negative : ℕ

pub record Action : Type 0 where
  pub pre : Literals
  pub posts : List Literals

-- One step of a path: the choice made, and the outcome that it had.
pub record Step : Type 0 where
  pub choice : ℕ
  pub target : ℕ
  pub weight : ℕ
  pub reward : ℤ

-- `states` are the masks of true propositions; `rows` has for each state and each action its outcomes in postcondition order, none where it
-- is not enabled.
pub record Model : Type 0 where
  pub propositions : ℕ
  pub denominator : ℕ
  pub states : List ℕ
  pub actions : List Action
  pub rows : List (List (List Step))

-- Two zero masks: true of every state.
abbrev pub always : Literals
always = record { positive = 0; negative = 0 }

-- What stands past the end of the actions.
unfoldable pub no_action : Action
no_action = record { pre = always; posts = [] }

-- The literals are true of a state's mask.
unfoldable pub true_of : Literals → ℕ → Bool
true_of l v = eqb (bit_and v l.positive) l.positive && eqb (bit_and v l.negative) 0

-- Some proposition is demanded true by one and false by the other.
unfoldable pub contradict : Literals → Literals → Bool
contradict k l = not (eqb (bit_and k.positive l.negative) 0) || not (eqb (bit_and l.positive k.negative) 0)

-- The valuation V of Definition 1, as a mask.
unfoldable pub mask : Model → ℕ → ℕ
mask m s = get_or m.states s 0

-- Proposition i is true in the state s.
unfoldable pub prop_in : Model → ℕ → ℕ → Bool
prop_in m s i = eqb (mask m s / 2 ^ i % 2) 1

-- The actions that are enabled in a state, rising: those whose precondition is true there. Condition (ii) of Definition 1.
unfoldable pub enabled_actions : Model → ℕ → List ℕ
enabled_actions m s = keep (λ a. true_of (get_or m.actions a no_action).pre (mask m s)) (count_from 0 (length m.actions))

-- No action is enabled in the state: a deadlock of Definition 1, in document 02's words a state where the work is over.
unfoldable pub deadlocked : Model → ℕ → Bool
deadlocked m s = is_empty (enabled_actions m s)

-- The silent move, document 02's word for the "do nothing" action that the PLBP paper adds after Definition 1: its choice byte, which is the
-- number of no action, and its one outcome in s, back to s itself, with the weight D and the reward 0.
abbrev pub silent : ℕ
silent = 255

abbrev pub silent_step : Model → ℕ → Step
silent_step m s = record { choice = silent; target = s; weight = m.denominator; reward = pos 0 }

-- The choices in a state, rising: the enabled actions; where there is none, the silent move alone.
unfoldable pub enabled : Model → ℕ → List ℕ
enabled m s = cond (deadlocked m s) (silent ∷ []) (enabled_actions m s)

-- The outcomes of an action as the model gives them, in postcondition order.
unfoldable pub stored : Model → ℕ → ℕ → List Step
stored m s a = get_or (get_or m.rows s []) a []

-- What a choice can lead to, in postcondition order: the silent move's one outcome where it is a choice, else what the model gives.
unfoldable pub outcomes : Model → ℕ → ℕ → List Step
outcomes m s a = cond (deadlocked m s && eqb a silent) (silent_step m s ∷ []) (stored m s a)
