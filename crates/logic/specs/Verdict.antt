-- The verdict on a question. Document 01, "Which plan", and document 02, A.4, for the lamp.
use Rattle.std.specs.Prelude.{ℕ, Bool, true, false, cond, ◌&&◌, List, [], length, ℤ}
use Rattle.std.proofs.Math.Option.{Option, none, some}
use Rattle.logic.specs.Lists.{all, find}
use Rattle.logic.specs.Checked.{Checked, ok, refused, ◌>>=◌}
use Rattle.logic.specs.Model.{Model}
use Rattle.logic.specs.Quantity.{Quantity, integers, Relation, less, equal, greater}
use Rattle.logic.specs.Plan.{Plan, plans, choices}
use Rattle.logic.specs.Bound.{Bound, Lamp, chance, expected, total_of, met_by, lamp_by}
use Rattle.logic.specs.Formula.{Formula, on_plan, sat}

-- For "greater" no plan has a greater total, for "less" none has a smaller one.
unfoldable pub leads : (Q : Quantity) {A : Type 0} → (A → Q.Value) → Relation → List A → A → Bool
leads Q t less ps π = all (λ ρ. Q.at_most (t π) (t ρ)) ps
leads Q t equal ps π = true
leads Q t greater ps π = all (λ ρ. Q.at_most (t ρ) (t π)) ps

unfoldable pub is_equal : Relation → Bool
is_equal less = false
is_equal equal = true
is_equal greater = false

-- What a root asks of plans: their steps, a plan's total, whether it meets the bound and its lamp, whether it leads, and whether plans are
-- counted.
pub record Goal : Type 0 where
  pub steps : ℕ
  pub total : Plan steps → ℤ
  pub met : Plan steps → Bool
  pub lamp : Plan steps → Lamp
  pub lead : Plan steps → Bool
  pub counts : Bool

-- The goal of a bound, from a start state.
abbrev pub bound_goal : Model → ℕ → Bound → Goal
bound_goal m s b =
    record {
      steps = b.steps;
      total = total_of m s b;
      met = met_by m s b;
      lamp = lamp_by m s b;
      lead = leads integers (total_of m s b) b.relation (plans m b.steps s);
      counts = is_equal b.relation;
    }

-- The bound that a root sets on plans, by the paths from a start state, or refusal 22: root not "plan". (Document 02, A.3: operator 9 is
-- treated as 8 is.)
unfoldable pub bound_of : Model → ℕ → Formula → Checked Bound
bound_of m s φ = on_plan (refused 22) (λ n ψ r p q. ok (chance n (sat m ψ s) r p q)) (λ n l u r p q. ok (expected n l u r p q)) φ

-- The goal of a root, or refusal 22.
unfoldable pub goal : Model → ℕ → Formula → Checked Goal
goal m s φ = bound_of m s φ >>= λ b. ok (bound_goal m s b)

-- The shown plan with its place, from 1: the first in dictionary order that meets the bound and leads.
unfoldable pub shown : Model → ℕ → (g : Goal) → Option (ℕ × Plan g.steps)
shown m s g = find (λ π. g.met π && g.lead π) 1 (plans m g.steps s)

-- For "greater" the first plan in dictionary order of greatest total, for "less" that of least, with its place; it may meet the bound or not. (For
-- "equal" every plan leads, and nobody asks.)
unfoldable pub leader : Model → ℕ → (g : Goal) → Option (ℕ × Plan g.steps)
leader m s g = find g.lead 1 (plans m g.steps s)

-- What goes with a no: the count, and the lamp if it has one.
pub record Denial : Type 0 where
  pub count : ℕ
  pub lamp : Option Lamp

-- What goes with a yes to a root that sets a bound, its total for W: "a plan record (W, n and the count; its choices stand beside the verdict)",
-- and the lamp.
pub record ShownPlan : Type 0 where
  pub total : ℤ
  pub lamp : Lamp
  pub steps : ℕ
  pub count : ℕ
  pub choices : List ℕ

-- "no with its count, yes, or yes with a plan record"
pub data Verdict : Type 0 where
  no : Denial → Verdict
  yes : Verdict
  yes_plan : ShownPlan → Verdict

-- The lamp of a plan, if one was found.
abbrev pub found_lamp : (g : Goal) → Option (ℕ × Plan g.steps) → Option Lamp
found_lamp g none = none
found_lamp g (some x) = some (g.lamp x.1)

-- What goes with a no to a goal, and with a yes, by the shown plan with its place. Where plans are counted a no has no lamp: "A no to "equal" has
-- no lamp."
abbrev pub denial : Model → ℕ → Goal → Denial
denial m s g = record { count = cond g.counts (length (plans m g.steps s)) 0; lamp = cond g.counts none (found_lamp g (leader m s g)) }

abbrev pub plan_record : (g : Goal) → ℕ × Plan g.steps → ShownPlan
plan_record g x =
    record {
      total = g.total x.1;
      lamp = g.lamp x.1;
      steps = g.steps;
      count = cond g.counts x.0 0;
      choices = choices g.steps x.1;
    }

-- The verdict on a goal, by its shown plan.
abbrev pub announced : Model → ℕ → (g : Goal) → Option (ℕ × Plan g.steps) → Verdict
announced m s g none = no (denial m s g)
announced m s g (some x) = yes_plan (plan_record g x)

abbrev pub verdict_by : Model → ℕ → Bool → Checked Goal → Verdict
verdict_by m s t (ok g) = announced m s g (shown m s g)
verdict_by m s t (refused k) = cond t yes (no (record { count = 0; lamp = none }))

-- The verdict on a root in a start state. That a root that sets a bound is true exactly where it has a shown plan is proved (`Shown`).
unfoldable pub verdict : Model → ℕ → Formula → Verdict
verdict m s φ = verdict_by m s (sat m φ s []) (goal m s φ)
