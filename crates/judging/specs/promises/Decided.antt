-- What a search decides of a node that sets a bound on plans, in a state, and what it leaves to show the plan by. Totals are raised: what a path is
-- worth to the node is a natural number for a search.
use Rattle.std.specs.Prelude.{ℕ, ◌+◌, ◌*◌, ◌-◌, ◌/◌, ◌%◌, ◌^◌, ◌≤◌, ◌<◌, ◌≡◌, Bool, true, cond, List, eqb, ltb, ℤ, pos, get_or}
use Rattle.std.proofs.Math.Option.{none, some}
use Rattle.logic.specs.Model.{Model, Step}
use Rattle.logic.specs.Quantity.{naturals, Relation, equal}
use Rattle.logic.specs.Bound.{Bound, total, one_if, gain_between}
use Rattle.logic.specs.promises.Orders.{weights, order}
use Rattle.logic.specs.Plan.{Plan, plans, choices}
use Rattle.logic.specs.Formula.{Formula, sat, depth}
use Rattle.logic.specs.promises.Total.{value_of}
use Rattle.logic.specs.promises.Raised.{raised}
use Rattle.logic.specs.promises.Recursion.{greatest, best_plan}
use Rattle.logic.specs.promises.Extension.{first_plan}
use Rattle.logic.specs.Verdict.{bound_goal, shown}
use Rattle.logic.specs.Limits.{plan_total}
use Rattle.blocks.specs.Bytes.{Bytes}
use Rattle.models.specs.Layout.{state_count, denominator_of}
use Rattle.prepared_model.specs.promises.Rows.{model_in}
use Rattle.questions.specs.Layout.{node_count, node_of}
use Rattle.questions.specs.promises.Formed.{sets_bound}
use Rattle.prepared_question.specs.promises.Nodes.{formula}
use Rattle.bounds.specs.promises.Bounded.{span_before, span_last, lowered, meets_at}
use Rattle.plan_choices.specs.promises.Extended.{extend, by_place}
use Rattle.plan_choices.specs.promises.Extended as extended
use Rattle.judging.specs.promises.Truth.{Told}
use Rattle.judging.specs.declared.plans.Decision.{Decision}

-- The condition of the "plan" node j.
abbrev pub condition : Bytes → ℕ → Formula
condition q j = formula q (node_of q j).left

-- ---- what a path from s is worth to node j

unfoldable pub worth_at : (m q : Bytes) (j s : ℕ) → List Step → ℤ
worth_at m q j s =
    cond (eqb (node_of q j).operator 9) (gain_between ((node_of q j).left % 8) ((node_of q j).left / 8))
    (λ ρ. pos (one_if (sat (model_in m) (condition q j) s ρ)))

-- Raised.
unfoldable pub raised_at : (m q : Bytes) (j s : ℕ) → List Step → ℕ
raised_at m q j s = cond (eqb (node_of q j).operator 9) (raised (span_before q j) (span_last q j)) (value_of (model_in m) (condition q j) s)

-- The bound that the node sets, were this its relation.
abbrev pub bound_as : Relation → (m q : Bytes) (j s : ℕ) → Bound
bound_as r m q j s = record { steps = (node_of q j).n; worth = worth_at m q j s; relation = r; p = (node_of q j).p; q = (node_of q j).q }

-- Node j sets a bound on plans, to be decided in s; of a "plan", by a table that is right wherever its condition can depend on it.
pub record Posed (m q truth : Bytes) (j s : ℕ) : Type 0 where
  pub node : j < node_count q
  pub sets : sets_bound (node_of q j).operator ≡ true
  pub state : s < state_count m
  pub told : (node_of q j).operator ≡ 8 → Told m q truth (node_of q j).left s

-- ---- "less" and "greater"

-- The greatest raised total of node j in s, or the least, and the first plan that has it.
abbrev pub best_raised : (m q : Bytes) (j s : ℕ) → (least : Bool) → ℕ
best_raised m q j s least = greatest (weights (order least)) (model_in m) (node_of q j).n s (raised_at m q j s)

abbrev pub best_node : (m q : Bytes) (j s : ℕ) → (least : Bool) → Plan (node_of q j).n
best_node m q j s least = best_plan (weights (order least)) (model_in m) (node_of q j).n s (raised_at m q j s)

-- The best plan of d steps for a condition.
abbrev pub best : Model → Formula → (d s : ℕ) → (least : Bool) → Plan d
best M φ d s least = best_plan (weights (order least)) M d s (value_of M φ s)

-- A total of the condition of node j over as many steps as it looks ahead, and what it is over all steps.
pub record Lengthened (m q : Bytes) (j : ℕ) (value r : ℕ) : Type 0 where
  pub weighs : r ≡ (model_in m).denominator ^ ((node_of q j).n - depth (condition q j)) * value
  pub small : r ≤ denominator_of m ^ (node_of q j).n

-- The best total, whether it meets the bound, and the choices of the plan that has it: the first steps' are given, the others' by a table.
pub record Led (m q : Bytes) (j s : ℕ) (scratch places : List ℕ) (r : Decision) : Type 0 where
  pub weighs : r.raised ≡ best_raised m q j s (eqb (node_of q j).right 1)
  pub bounds : r.met ≡ meets_at m q j (lowered m q j r.raised)
  pub unplaced : r.place ≡ 0
  pub table : extended.Placed m places (node_of q j).n
  pub chosen : (extend (model_in m) (by_place m places) r.given (node_of q j).n s scratch).0
      ≡ choices (node_of q j).n (best_node m q j s (eqb (node_of q j).right 1))

-- ---- "equal"

-- The plan at a place of the dictionary order.
abbrev pub plan_at : Model → (n s : ℕ) → ℕ → Plan n
plan_at M n s r = get_or (plans M n s) r (first_plan M n s)

-- The first plan of the raised total x, which alone meets the bound, is at place r, and there is none where r is past the end.
pub record First (m q : Bytes) (j s x r : ℕ) : Type 0 where
  pub weighs : r < plan_total (model_in m) (node_of q j).n s
      → total naturals (model_in m) (node_of q j).n s (plan_at (model_in m) (node_of q j).n s r) (raised_at m q j s) ≡ x
  pub found : r < plan_total (model_in m) (node_of q j).n s
      → shown (model_in m) s (bound_goal (model_in m) s (bound_as equal m q j s)) ≡ some (1 + r, plan_at (model_in m) (node_of q j).n s r)
  pub missed : plan_total (model_in m) (node_of q j).n s ≤ r → shown (model_in m) s (bound_goal (model_in m) s (bound_as equal m q j s)) ≡ none

-- The search among all plans: the place of the first that meets the bound, or their number.
pub record Placed (m q : Bytes) (j s : ℕ) (r : Decision) : Type 0 where
  pub first : First m q j s r.raised r.place
  pub within : r.place ≤ plan_total (model_in m) (node_of q j).n s
  pub bounds : r.met ≡ ltb r.place (plan_total (model_in m) (node_of q j).n s)

-- By the node's relation.
pub record Decided (m q : Bytes) (j s : ℕ) (scratch places : List ℕ) (r : Decision) : Type 0 where
  pub led : ((node_of q j).right ≡ 2 → ⊥) → Led m q j s scratch places r
  pub placed : (node_of q j).right ≡ 2 → Placed m q j s r
