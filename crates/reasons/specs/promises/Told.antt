-- What is said of a question's root in its start state as the code has it: a yes, or the reason of a no; with the choices of the plans beside it.
use Rattle.std.specs.Prelude.{ℕ, ◌+◌, ◌^◌, ◌≤◌, ◌<◌, ◌≡◌, Bool, not, cond, ◌&&◌, List, [], eqb, length, Option as Optional, None, Some}
use Rattle.std.proofs.Math.Option.{Option, none, some}
use Rattle.logic.specs.Model.{Model}
use Rattle.logic.specs.Plan.{choices}
use Rattle.logic.specs.Formula.{Formula}
use Rattle.logic.specs.Limits.{plan_total}
use Rattle.logic.specs.Verdict.{Verdict, no, yes, yes_plan, verdict}
use Rattle.logic.specs.Reason.{Reached, Reason, greatest, least, nearest, no_reason, reason}
use Rattle.blocks.specs.Bytes.{Bytes}
use Rattle.blocks.specs.Splice.{splice}
use Rattle.models.specs.Layout.{denominator_of}
use Rattle.prepared_model.specs.promises.Rows.{model_in}
use Rattle.questions.specs.Layout.{node_of}
use Rattle.lamp.specs.promises.Codes.{lamp_code}
use Rattle.bounds.specs.promises.Bounded.{lowered, most_of, lamp_at}
use Rattle.bounds.specs.declared.Exact.{Exact}
use Rattle.exact_plan.specs.promises.Totals.{totals}
use Rattle.exact_plan.specs.declared.nearest.Near.{Near}
use Rattle.judging.specs.promises.Decided.{raised_at, plan_at}
use Rattle.reasons.specs.declared.Reached as code
use Rattle.reasons.specs.declared.Explanation.{Explanation}
use Rattle.reasons.specs.declared.Explanation.TheVariants.{Yes, Shown, NoReason, Greatest, Least, Nearest}

-- ---- as the code has it

unfoldable pub side_code : Option Reached → Optional code.Reached
side_code none = None
side_code (some x) = Some (record { total = x.total; whole = x.whole; size = length x.choices })

unfoldable pub side_choices : Option Reached → List ℕ
side_choices none = []
side_choices (some x) = x.choices

unfoldable pub reason_code : Reason → Explanation
reason_code (greatest o) = Greatest (side_code o)
reason_code (least o) = Least (side_code o)
reason_code (nearest o u) = Nearest (record { below = side_code o; above = side_code u })
reason_code no_reason = NoReason

-- The choices in the first buffer, and in the second.
unfoldable pub front : Reason → List ℕ
front (greatest o) = side_choices o
front (least o) = side_choices o
front (nearest o u) = side_choices o
front no_reason = []

unfoldable pub back : Reason → List ℕ
back (greatest o) = []
back (least o) = []
back (nearest o u) = side_choices u
back no_reason = []

-- By the verdict: a yes, over the denominator D to the steps, or the reason.
unfoldable pub explained_code : (D : ℕ) → Verdict → Reason → Explanation
explained_code D (no x) e = reason_code e
explained_code D yes e = Yes
explained_code D (yes_plan x) e =
    Shown (record { total = x.total; whole = D ^ x.steps; lamp = lamp_code x.lamp; count = x.count; size = length x.choices })

unfoldable pub front_by : Verdict → Reason → List ℕ
front_by (no x) e = front e
front_by yes e = []
front_by (yes_plan x) e = x.choices

unfoldable pub back_by : Verdict → Reason → List ℕ
back_by (no x) e = back e
back_by yes e = []
back_by (yes_plan x) e = []

-- What is said of a verdict and a reason, with the choices written over those before, from the beginning of each buffer on.
pub record Tells (D : ℕ) (v : Verdict) (e : Reason) (r : Explanation) (first first' second second' : List ℕ) : Type 0 where
  pub said : r ≡ explained_code D v e
  pub beside : first' ≡ splice first 0 (front_by v e)
  pub behind : second' ≡ splice second 0 (back_by v e)

-- Of a root in a start state.
abbrev pub TellsOf : Model → ℕ → Formula → Explanation → (first first' second second' : List ℕ) → Type 0
TellsOf M s φ = Tells M.denominator (verdict M s φ) (reason M s φ)

-- ---- what a search leaves to tell

-- The plan that leads for node j, of the raised total x and of so many choices, by whether it meets the bound.
unfoldable pub led_code : (m q : Bytes) (j : ℕ) → Bool → (x size : ℕ) → Explanation
led_code m q j met x size =
    let whole : ℕ = denominator_of m ^ (node_of q j).n in
    let side : Optional code.Reached = Some (record { total = lowered m q j x; whole = whole; size = size }) in
    cond met
    (Shown (record { total = lowered m q j x; whole = whole; lamp = lamp_code (lamp_at m q j (lowered m q j x)); count = 0; size = size }))
    (cond (eqb (node_of q j).right 1) (Least side) (Greatest side))

-- The raised totals of all plans for node j in s, in dictionary order.
abbrev pub raised_totals : (m q : Bytes) (j s : ℕ) → List ℕ
raised_totals m q j s = totals (model_in m) (node_of q j).n s (raised_at m q j s)

-- The plan at a place of it reaches the total; none where the place is past the last of `all`.
unfoldable pub near_reached : (m q : Bytes) (j s all : ℕ) → Near → Option Reached
near_reached m q j s all r =
    let n : ℕ = (node_of q j).n in
    cond (eqb r.place all) none
    (some (record { total = lowered m q j r.total; whole = denominator_of m ^ n; choices = choices n (plan_at (model_in m) n s r.place) }))

-- The place is one of the list, and the total is a raised one of node j, unless it is past the last.
pub record Placed (m q : Bytes) (j s all : ℕ) (r : Near) : Type 0 where
  pub inside : (r.place ≡ all → ⊥) → r.place < plan_total (model_in m) (node_of q j).n s
  pub small : (r.place ≡ all → ⊥) → r.total ≤ most_of m q j

-- The least total that is not below the bound is equal to it.
unfoldable pub at_bound : Exact → Near → ℕ → Bool
at_bound x r all = x.whole && (not (eqb r.place all) && eqb r.total x.total)

-- The plan at this place is shown for "equal".
unfoldable pub shown_code : (m q : Bytes) (j s : ℕ) → Near → Explanation
shown_code m q j s r =
    let n : ℕ = (node_of q j).n in
    Shown
    (record {
      total = lowered m q j r.total;
      whole = denominator_of m ^ n;
      lamp = lamp_code (lamp_at m q j (lowered m q j r.total));
      count = 1 + r.place;
      size = length (choices n (plan_at (model_in m) n s r.place));
    })
