-- Each entry passed is the count of its cell, and the others are 0, which is the count of a cell of no state.
use Prim.Native.Nat.{◌/◌, ◌%◌}
use native.Mathlib.Omega.{arith}
use mathlib.Core.Path.{refl, sym, ◌∙◌}
use lib.ListN.{length-set}
use lib.Seq.{get_or-set_other}
use Rattle.models.specs.Layout.{entries}
use Rattle.models.proofs.EveryCell.{filled_more, filled_whole, zeros_read, entries_past_states}
use Rattle.models.proofs.used_entries.Goals as goal

pub loop-k-init : goal.loop-k-init
loop-k-init c = (refl, λ j h. absurd (omega arith), λ j h. zeros_read 264 j)

pub loop-k-preserved : goal.loop-k-preserved
loop-k-preserved c =
    let b = c.args.b.now in
    let L = c.loop-k in
    let v = c.entries.result in (
      length-set L.used L.k v ∙ L.invariant.0,
      filled_more (λ j. entries b (j / 8) (j % 8)) L.used L.k v (omega arith) L.invariant.1 c.entries.ensures.value,
      λ j h. get_or-set_other L.used L.k j v 0 (omega arith) ∙ L.invariant.2 j (omega arith),
    )

pub returns : goal.returns
returns c =
    let L = c.loop-k in
    let b = c.args.b.now in
    record {
      count = λ k h.
          filled_whole (λ j. entries b (j / 8) (j % 8)) L.used L.k k L.invariant.1
          (λ e. L.invariant.2 k e ∙ sym (entries_past_states b (k / 8) (k % 8) (c.cells_end-k-end.ensures.1 k h (omega arith))));
    }
