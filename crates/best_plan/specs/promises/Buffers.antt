-- The buffers of a search, what it asks of them and how it leaves them. `choices` is a stack of plans' choices: those of the best plan so
-- far, and behind them the candidate's.
use Rattle.std.specs.Prelude.{ℕ, ◌+◌, ◌-◌, ◌≤◌, ◌≡◌, Bool, true, false, not, Option, None, Some, List, [], ◌∷◌, ◌++◌, ℤ, length, take, drop}
use Rattle.logic.specs.Formula.{depth}
use Rattle.logic.specs.Model.{Step}
use Rattle.logic.specs.promises.Orders.{weights, order}
use Rattle.logic.specs.promises.Recursion.{greatest}
use Rattle.blocks.specs.Bytes.{Bytes}
use Rattle.prepared_model.specs.promises.Rows.{step_in, model_in}
use Rattle.prepared_question.specs.promises.Nodes.{formula}
use Rattle.evaluation.specs.promises.Path.{state_after}
use Rattle.evaluation.specs.promises.Reached.{root_of, Ready}
use Rattle.evaluation.specs.promises.Known.{Knows}
use Rattle.last_step.specs.promises.Lanes.{Laned}
use Rattle.last_step.specs.promises.Late.{Late}
use Rattle.best_plan.specs.promises.Greatest.{worth, below, best_choices}
use Rattle.best_plan.specs.declared.Walked.{Walked}

-- x stands from `at` up to `end`, behind what stood there before.
pub record Wrote (x : List ℕ) (at : ℕ) (before after : List ℕ) (end : ℕ) : Type 0 where
  pub wrote : take end after ≡ take at before ++ x
  pub next : end ≡ at + length x

-- A candidate wins where there is no best yet or it is better, not where it is as good: first among equals.
unfoldable pub wins : (best : Option Walked) (value : ℕ) (least : Bool) → Bool
wins None value least = true
wins (Some b) value least = not (order least value b.value)

-- Where the choices of the best end, which stand from `at` on.
abbrev pub end_of : (at : ℕ) → Option Walked → ℕ
end_of at None = at
end_of at (Some b) = b.end

-- The candidate, which stands from the end of the best on, moved down to `at` if it wins.
pub record Keeps (b : Option Walked) (w : Walked) (at : ℕ) (least : Bool) (before after : List ℕ) (r : Walked) : Type 0 where
  pub taken : wins b w.value least ≡ true
      → (r ≡ record { value = w.value; end = at + (w.end - end_of at b) })
      × (take (at + (w.end - end_of at b)) after ≡ take at before ++ take (w.end - end_of at b) (drop (end_of at b) before))
  pub left : wins b w.value least ≡ false → (Some r ≡ b) × (after ≡ before)

-- A search of k steps goes on in the state s, where the first h numbers of the trail lead.
pub record Setting (m q : Bytes) (truth cone late : List ℕ) (start : ℕ) (trail : List ℕ) (gains : List ℤ) (v : List ℕ) (h s k : ℕ) : Type 0 where
  pub ready : Ready m q start truth cone
  pub marked : Late q cone late
  pub whole : length (take h trail) ≡ h
  pub knows : Knows m q start cone (take h trail) gains v
  pub state : state_after m start (take h trail) ≡ s
  pub deep : depth (formula q (root_of cone)) ≡ h + k
  pub few : h + k ≤ 6

-- The best plan of k steps from s, where f is the value of its steps, its choices written from `at` on.
pub record Picked (least : Bool) (m : Bytes) (f : List Step → ℕ) (s k at : ℕ) (before after : List ℕ) (b : Walked) : Type 0 where
  pub value : b.value ≡ greatest (weights (order least)) (model_in m) k s f
  pub wrote : Wrote (best_choices least (model_in m) k s f) at before after b.end

-- The best plans of k steps below the outcomes l of a choice.
pub record Walks (least : Bool) (m : Bytes) (f : List Step → ℕ) (l : List Step) (k at : ℕ) (before after : List ℕ) (w : Walked) : Type 0 where
  pub value : w.value ≡ worth least (model_in m) k f l
  pub wrote : Wrote (below least (model_in m) k f l) at before after w.end

-- What the walk of these outcomes comes to, beside the best so far: the best plans below them, or, given up, something of no use, since the
-- choice does not win.
pub data Candidate (best : Option Walked) (least : Bool) (m : Bytes) (f : List Step → ℕ) (l : List Step) (k at : ℕ) (before after : List ℕ) (w : Walked) : Type 0 where
  walked : Walks least m f l k at before after w → Candidate best least m f l k at before after w
  lost : wins best (worth least (model_in m) k f l) least ≡ false → wins best w.value least ≡ false
      → (x : List ℕ) → Wrote x at before after w.end → Candidate best least m f l k at before after w

-- The best plan of the last step from s, for any value of that step that x has in its lanes.
pub record Ends (least : Bool) (m : Bytes) (s x at : ℕ) (before after : List ℕ) (b : Walked) : Type 0 where
  pub picked : (f : List Step → ℕ) → Laned m s (λ i o. f (step_in m s i o ∷ [])) x → Picked least m f s 1 at before after b
