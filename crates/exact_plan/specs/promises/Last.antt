-- What lists are made of where one step decides: the marks of the condition's nodes, and the totals by the lanes of a word.
use Rattle.std.specs.Prelude.{ℕ, ◌+◌, ◌*◌, ◌^◌, ◌<◌, length, replicate}
use mathlib.Core.List.{List, flat_map}
use Rattle.logic.specs.Lists.{tabulate}
use Rattle.blocks.specs.Bytes.{Bytes}
use Rattle.blocks.specs.Block.{sum_below}
use Rattle.models.specs.Layout.{denominator_of}
use Rattle.prepared_model.specs.promises.Rows.{outcomes_in, step_in, lane}
use Rattle.last_step.specs.promises.Late.{Late}
use Rattle.exact_plan.specs.promises.Search.{ways_below}

-- With a condition, its nodes are marked.
abbrev pub Marked : (q : Bytes) (cone marks : List ℕ) → Type 0
Marked q cone marks = 0 < length cone → Late q cone marks

-- The totals of all plans of k + 1 steps from s that begin with the choice at place i: x has in the lane of each outcome the worth of all paths that
-- begin with it.
abbrev pub lane_total : (m : Bytes) (s k x i : ℕ) → ℕ
lane_total m s k x i = sum_below (outcomes_in m s i) (λ o. (step_in m s i o).weight * lane x (4 * i + o)) * denominator_of m ^ k

abbrev pub lane_row : (m : Bytes) (s k x i : ℕ) → List ℕ
lane_row m s k x i = replicate (ways_below m s i k (outcomes_in m s i)) (lane_total m s k x i)

-- Those of the first n choices, in order.
abbrev pub lane_totals : (m : Bytes) (s k x n : ℕ) → List ℕ
lane_totals m s k x n = flat_map (lane_row m s k x) (tabulate n (λ i. i))
