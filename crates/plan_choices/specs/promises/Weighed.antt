-- A place on a path, with what is known there, and what a sum over the paths through it promises.
use Rattle.std.specs.Prelude.{ℕ, ◌+◌, ◌≤◌, ◌≡◌, List, ℤ, length, take, drop}
use Rattle.blocks.specs.Bytes.{Bytes}
use Rattle.evaluation.specs.promises.Path.{state_after}
use Rattle.evaluation.specs.promises.Known.{Knows, Back}
use Rattle.plan_choices.specs.promises.PlanSum.{Run}

-- After h steps from the start, in the state s, with k steps to go; the worth of a path looks d steps ahead.
pub record Here (m q : Bytes) (start d : ℕ) (cone trail : List ℕ) (gains : List ℤ) (v : List ℕ) (h s k : ℕ) : Type 0 where
  pub steps : h + k ≤ 6
  pub deep : d ≤ h + k
  pub whole : length (take h trail) ≡ h
  pub state : state_after m start (take h trail) ≡ s
  pub knows : Knows m q start cone (take h trail) gains v

-- The sum x was made, and the choices are read up to `next`; the path's first h steps stayed, and so did what is known of them.
pub record Ran (x : Run) (m q : Bytes) (start : ℕ) (cone : List ℕ) (h : ℕ) (trail trail' : List ℕ) (gains' : List ℤ) (v' choices : List ℕ)
    (value next : ℕ) : Type 0 where
  pub sum : value ≡ x.0
  pub left : drop next choices ≡ x.1
  pub inside : next ≤ length choices
  pub back : Back m q start cone h trail trail' gains' v'
