-- What the search for a total is handed, and what it promises.
use Rattle.std.specs.Prelude.{ℕ, ◌+◌, ◌-◌, ◌≤◌, ◌<◌, ◌≡◌, length}
use mathlib.Core.List.{List, Memᴰ}
use Rattle.logic.specs.Lists.{count_from}
use Rattle.logic.specs.Limits.{multiply, plan_total}
use Rattle.blocks.specs.Bytes.{Bytes}
use Rattle.models.specs.Layout.{state_count}
use Rattle.prepared_model.specs.promises.Rows.{choices_in, outcomes_in, step_in, model_in, Prepared}
use Rattle.exact_plan.specs.declared.search.Ends.{Ends}
use Rattle.exact_plan.specs.declared.search.Placed.{Placed}
use Rattle.exact_plan.specs.promises.Listing.{Counts, Found}

-- A number was sought in a list: its first place, if it is there, and the list's length.
pub record Searched (l : List ℕ) (x : ℕ) (r : Placed) : Type 0 where
  pub place : Found l x r.place
  pub all : r.all ≡ length l

-- The numbers of a list lie between these.
pub record Between (l : List ℕ) (e : Ends) : Type 0 where
  pub low : (z : ℕ) → Memᴰ z l → e.low ≤ z
  pub high : (z : ℕ) → Memᴰ z l → z ≤ e.high

-- The number of ways to go on for k steps below the first c outcomes of the choice at place i.
abbrev pub ways_below : (m : Bytes) (s i k c : ℕ) → ℕ
ways_below m s i k c = multiply (λ o. plan_total (model_in m) k (step_in m s i o).target) (count_from 0 c)

-- What counting them is handed.
pub record Counted (m : Bytes) (table : List ℕ) (s i k c : ℕ) : Type 0 where
  pub prepared : Prepared m
  pub counts : Counts m table
  pub state : s < state_count m
  pub choice : i < choices_in m s
  pub steps : k ≤ 6
  pub outcomes : c ≤ outcomes_in m s i
  pub few : ways_below m s i k c ≤ 65536

-- How many numbers the search below a choice stores: the combined list of all outcomes but the last, and the list of the last.
abbrev pub stored_at : (m : Bytes) (s i k : ℕ) → ℕ
stored_at m s i k = ways_below m s i k (outcomes_in m s i - 1) + plan_total (model_in m) k (step_in m s i (outcomes_in m s i - 1)).target

-- All n-step plans from s are searched, of which the first d steps decide, in a buffer of `size`, which has room for what is stored and for what is
-- made beside it. Where no step decides nothing is stored.
pub record Housed (m : Bytes) (d n s size : ℕ) : Type 0 where
  pub deep : d ≤ n
  pub steps : n ≤ 6
  pub few : plan_total (model_in m) n s ≤ 65536
  pub enough : 0 < d → (i : ℕ) → i < choices_in m s → stored_at m s i (n - 1) + 282 ≤ size
