-- The verdict on a question's root in its start state as the code has it, with the choices of a shown plan beside it. And what is told of a plan's
-- choices.
use Rattle.std.specs.Prelude.{ℕ, ◌-◌, ◌≡◌, cond, List, [], eqb}
use Rattle.std.proofs.Math.Option.{Option, none, some}
use Rattle.logic.specs.Checked.{ok}
use Rattle.logic.specs.Model.{Model}
use Rattle.logic.specs.Quantity.{naturals}
use Rattle.logic.specs.Bound.{Lamp, total}
use Rattle.logic.specs.Plan.{Plan}
use Rattle.logic.specs.Choices.{plan_of}
use Rattle.logic.specs.Verdict.{Goal, goal, Verdict, no, yes, yes_plan, verdict}
use Rattle.blocks.specs.Bytes.{Bytes}
use Rattle.prepared_model.specs.promises.Rows.{model_in}
use Rattle.questions.specs.Layout.{start_of, node_count, node_of}
use Rattle.prepared_question.specs.promises.Nodes.{formula}
use Rattle.blocks.specs.Splice.{splice}
use Rattle.lamp.specs.promises.Codes.{lamp_code, optional_code}
use Rattle.bounds.specs.promises.Bounded.{lowered, lamp_at}
use Rattle.judging.specs.promises.Decided.{raised_at}
use Rattle.judging.specs.declared.Verdict as code
use Rattle.judging.specs.declared.Verdict.TheVariants.{No, Yes, YesPlan}
use Rattle.judging.specs.declared.Weighed.{Weighed}

-- The root is the last node.
abbrev pub root : Bytes → ℕ
root q = node_count q - 1

abbrev pub root_verdict : Model → Bytes → Verdict
root_verdict M q = verdict M (start_of q) (formula q (root q))

-- The lamp of a no to node j, by the best raised total; none for "equal".
unfoldable pub no_lamp : (m q : Bytes) (j x : ℕ) → Option Lamp
no_lamp m q j x = cond (eqb (node_of q j).right 2) none (some (lamp_at m q j (lowered m q j x)))

unfoldable pub verdict_code : Verdict → code.Verdict
verdict_code (no x) = No (record { count = x.count; lamp = optional_code x.lamp })
verdict_code yes = Yes
verdict_code (yes_plan x) = YesPlan (record { total = x.total; lamp = lamp_code x.lamp; steps = x.steps; count = x.count })

unfoldable pub shown_choices : Verdict → List ℕ
shown_choices (no x) = []
shown_choices yes = []
shown_choices (yes_plan x) = x.choices

-- The verdict, and the choices written over those before, from the beginning.
abbrev pub Announces : Verdict → code.Verdict → (before after : List ℕ) → Type 0
Announces v r before after = (r ≡ verdict_code v) × (after ≡ splice before 0 (shown_choices v))

-- The choices are those of a plan from the start.
abbrev pub Spelled : Model → (q choices : Bytes) → Type 0
Spelled M q choices = (π : Plan (node_of q (root q)).n) × (plan_of M (node_of q (root q)).n (start_of q) choices ≡ ok π)

-- The number is the raised total of the plan with these choices, if they are those of a plan, for the root.
abbrev pub Sums : (m q choices : Bytes) → ℕ → Type 0
Sums m q choices r =
    (π : Plan (node_of q (root q)).n) → plan_of (model_in m) (node_of q (root q)).n (start_of q) choices ≡ ok π
    → r ≡ total naturals (model_in m) (node_of q (root q)).n (start_of q) π (raised_at m q (root q) (start_of q))

-- What is told of the plan with these choices: its total for the root's goal, whether it meets the bound, and its lamp.
abbrev pub Weighs : Model → (q choices : Bytes) → Weighed → Type 0
Weighs M q choices r =
    (g : Goal) → goal M (start_of q) (formula q (root q)) ≡ ok g → (π : Plan g.steps) → plan_of M g.steps (start_of q) choices ≡ ok π
    → (r.total ≡ g.total π) × (r.met ≡ g.met π) × (r.lamp ≡ lamp_code (g.lamp π))
