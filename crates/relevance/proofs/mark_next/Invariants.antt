use Prim.Native.Nat.{ℕ, ◌+◌, ◌*◌, ◌<◌}
use Rattle.models.specs.Layout.{state_count}
use Rattle.prepared_model.specs.promises.Rows.{outcomes_in, step_in}
use Rattle.prepared_question.specs.promises.Marks.{Grown}
use Rattle.relevance.specs.promises.Need.{Marked, Below}
use Rattle.relevance.proofs.mark_next.Given as goal

abbrev pub invariant-loop-i : goal.invariant-loop-i
invariant-loop-i l = Grown (Below (state_count l.m) (32 * l.child + 32)) l.initial.need l.need
    × ((x : ℕ) → x < l.i → (o : ℕ) → o < outcomes_in l.m l.s x → Marked l.need l.child (step_in l.m l.s x o).target)
