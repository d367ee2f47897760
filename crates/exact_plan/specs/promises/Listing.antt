-- What making the list of totals is handed, and what it promises.
use Rattle.std.specs.Prelude.{ℕ, ◌+◌, ◌*◌, ◌^◌, ◌≤◌, ◌<◌, ◌≡◌, ℤ, Option, None, Some, get_or, length, take}
use mathlib.Core.List.{List, ◌++◌, Memᴰ}
use Rattle.logic.specs.Formula.{depth}
use Rattle.logic.specs.Limits.{plan_total}
use Rattle.blocks.specs.Bytes.{Bytes}
use Rattle.models.specs.Layout.{state_count, denominator_of}
use Rattle.prepared_model.specs.promises.Rows.{step_in, model_in}
use Rattle.evaluation.specs.promises.Path.{state_after}
use Rattle.prepared_question.specs.promises.Nodes.{formula}
use Rattle.evaluation.specs.promises.Reached.{root_of, Ready}
use Rattle.evaluation.specs.promises.Known.{Knows, Back}
use Rattle.evaluation.specs.promises.Worth.{worth_known, Readable}
use Rattle.exact_plan.specs.promises.Totals.{part}
use Rattle.exact_plan.specs.promises.Room.{Room}

-- A table of the numbers of plans, 32 states for each number of steps, right where they are served.
pub record Counts (m : Bytes) (table : List ℕ) : Type 0 where
  pub right : (n s : ℕ) → n ≤ 6 → s < state_count m → plan_total (model_in m) n s ≤ 65536 → get_or table (32 * n + s) 0 ≡ plan_total (model_in m) n s

-- The tables for a search from the start, where the worth of a path looks d steps ahead: for the condition at the cone's root, or for the
-- raised gain of the steps after the first a.
pub record Given (m q : Bytes) (start a d : ℕ) (truth cone table : List ℕ) : Type 0 where
  pub ready : Ready m q start truth cone
  pub counts : Counts m table
  pub looks : 0 < length cone → d ≡ depth (formula q (root_of cone))
  pub from : a ≤ d

-- After h steps from the start, in the state s, with k steps to go.
pub record Here (m q : Bytes) (start d : ℕ) (cone trail : List ℕ) (gains : List ℤ) (v : List ℕ) (h s k : ℕ) : Type 0 where
  pub steps : h + k ≤ 6
  pub deep : d ≤ h + k
  pub inside : s < state_count m
  pub whole : length (take h trail) ≡ h
  pub state : state_after m start (take h trail) ≡ s
  pub knows : Knows m q start cone (take h trail) gains v

-- The list xs was written at `at`, r numbers; what stands before it stayed, and the path's first h steps with what is known of them.
pub record Written (xs : List ℕ) (m q : Bytes) (start : ℕ) (cone : List ℕ) (h at : ℕ) (trail trail' : List ℕ) (gains' : List ℤ)
    (v' buf buf' : List ℕ) (r : ℕ) : Type 0 where
  pub back : Back m q start cone h trail trail' gains' v'
  pub count : r ≡ length xs
  pub listed : take (at + length xs) buf' ≡ take at buf ++ xs

-- Of the outcomes of the choice at place i, one with the most plans of k steps below it.
pub record Longest (m : Bytes) (table : List ℕ) (s i c k j : ℕ) : Type 0 where
  pub inside : j < c
  pub most : (o : ℕ) → o < c → get_or table (32 * k + (step_in m s i o).target) 0 ≤ get_or table (32 * k + (step_in m s i j).target) 0

-- Where the worth of the paths is decided: it can be read, and the total of a plan with k steps to go fits.
pub record Decides (m cone : List ℕ) (gains : List ℤ) (v : List ℕ) (a d k : ℕ) : Type 0 where
  pub readable : Readable cone gains a d
  pub small : worth_known cone gains v a d ≤ 12000
  pub steps : k ≤ 6
  pub part_of : denominator_of m ≤ 100

-- What stands at `at` before the list of a further outcome, n numbers over k steps, is made behind the product and joined on.
pub record Grows (buf : List ℕ) (at len n k : ℕ) : Type 0 where
  pub some : 0 < len
  pub few : len * n ≤ 65536
  pub small : (x : ℕ) → Memᴰ x (part buf at len) → x ≤ 4 * (12000 * 100 ^ 6)
  pub room : Room k n (at + len * n) (length buf)

-- The buffer begins with the list xs, r numbers.
pub record Listed (xs buf : List ℕ) (r : ℕ) : Type 0 where
  pub count : r ≡ length xs
  pub fits : r ≤ length buf
  pub listed : take r buf ≡ xs

-- r is the first place of x in the list; where there is none, the list's length.
pub record First (l : List ℕ) (x r : ℕ) : Type 0 where
  pub few : r ≤ length l
  pub none_before : (j : ℕ) → j < r → (get_or l j 0 ≡ x → ⊥)
  pub there : r < length l → get_or l r 0 ≡ x

-- The first place of x in the list, if it is there.
abbrev pub Found : List ℕ → ℕ → Option ℕ → Type 0
Found l x None = First l x (length l)
Found l x (Some r) = (r < length l) × First l x r
