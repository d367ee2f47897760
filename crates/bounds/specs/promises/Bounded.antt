-- The bound of a node of operator 8 or 9 on the totals of plans. A search has totals as natural numbers, all raised alike: those of operator 9
-- by 1000 for each step that earns, times D to the n.
use Rattle.std.specs.Prelude.{ℕ, suc, ◌+◌, ◌*◌, ◌-◌, ◌/◌, ◌%◌, ◌^◌, ◌<◌, ◌≤◌, ◌≡◌, Bool, true, false, cond, eqb, ltb, ℤ, pos, negsuc}
use Rattle.std.proofs.Math.IntN.{sub_ℕ}
use Rattle.logic.specs.Quantity.{integers, Relation, less, equal}
use Rattle.logic.specs.Bound.{meets, Lamp, lamp}
use Rattle.logic.specs.Formula.{relation, nonnegative}
use Rattle.blocks.specs.Bytes.{Bytes}
use Rattle.models.specs.Layout.{state_count, action_count, prop_count, denominator_of}
use Rattle.prepared_model.specs.promises.Rows.{model_in, Prepared}
use Rattle.questions.specs.Layout.{node_count, node_of}
use Rattle.questions.specs.promises.Formed.{sets_bound}
use Rattle.prepared_question.specs.promises.Nodes.{Nodes}

-- Node j of a question prepared for the prepared model m sets a bound on plans.
pub record Bounded (m q : Bytes) (j : ℕ) : Type 0 where
  pub prepared : Prepared m
  pub nodes : Nodes (state_count m) (action_count m) (prop_count m) q
  pub node : j < node_count q
  pub sets : sets_bound (node_of q j).operator ≡ true

-- How far p is below 0.
unfoldable pub under : ℤ → ℕ
under (pos k) = 0
under (negsuc k) = suc k

-- The steps of operator 9 before those that earn, and the last that does.
abbrev pub span_before : Bytes → ℕ → ℕ
span_before q j = (node_of q j).left % 8 - 1

abbrev pub span_last : Bytes → ℕ → ℕ
span_last q j = (node_of q j).left / 8

-- How much the totals of node j are raised.
unfoldable pub lift_of : (m q : Bytes) (j : ℕ) → ℕ
lift_of m q j = cond (eqb (node_of q j).operator 9) (1000 * (span_last q j - span_before q j) * denominator_of m ^ (node_of q j).n) 0

-- The total that is x when raised.
abbrev pub lowered : (m q : Bytes) (j x : ℕ) → ℤ
lowered m q j x = sub_ℕ x (lift_of m q j)

-- The raised totals of node j are at most this: 1 a path for operator 8, 2000 a step for operator 9.
unfoldable pub most_of : (m q : Bytes) (j : ℕ) → ℕ
most_of m q j = cond (eqb (node_of q j).operator 9) 12000 1 * denominator_of m ^ (node_of q j).n

-- The bound of node j with nothing negative on either side: its q, what stands right of the relation, and what is added left of it.
pub record Sided (m q : Bytes) (j parts up down : ℕ) : Type 0 where
  pub its_parts : parts ≡ (node_of q j).q
  pub its_up : up ≡ denominator_of m ^ (node_of q j).n * nonnegative (node_of q j).p + (node_of q j).q * lift_of m q j
  pub its_down : down ≡ denominator_of m ^ (node_of q j).n * under (node_of q j).p
  pub up_small : up ≤ 100 ^ 6 * 12000001
  pub down_small : down ≤ 100 ^ 6 * 6000001

-- Whether a total meets the bound of node j, were this its relation.
abbrev pub meets_as : Relation → (m q : Bytes) (j : ℕ) → ℤ → Bool
meets_as r m q j w = meets integers (model_in m) (node_of q j).n r (node_of q j).p (node_of q j).q w

-- Whether a total meets the bound of node j.
abbrev pub meets_at : (m q : Bytes) (j : ℕ) → ℤ → Bool
meets_at m q j w = meets_as (relation (node_of q j).right) m q j w

-- How a total compares with the bound of node j.
abbrev pub lamp_at : (m q : Bytes) (j : ℕ) → ℤ → Lamp
lamp_at m q j w = lamp integers (model_in m) (node_of q j).n (node_of q j).p (node_of q j).q w

-- The raised totals below the bound are those less than this one, which alone meets "equal", if it is whole, and else none does.
pub record Exactly (m q : Bytes) (j : ℕ) (whole : Bool) (total : ℕ) : Type 0 where
  pub below : (x : ℕ) → meets_as less m q j (lowered m q j x) ≡ ltb x total
  pub one : whole ≡ true → (x : ℕ) → meets_as equal m q j (lowered m q j x) ≡ eqb x total
  pub none : whole ≡ false → (x : ℕ) → meets_as equal m q j (lowered m q j x) ≡ false
