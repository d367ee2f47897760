-- The two parts are the definition; the cells of no action pass.
use Rattle.std.proofs.Common.{◌/◌, ◌%◌, arith, rules, ap₂, ◌&&◌}
use Rattle.models.specs.Grounds.{posts_contradict, cell_consistent, consistent}
use Rattle.models.proofs.EveryCell.{cell_inside, cells_inside, cells_all, consistent_past}
use Rattle.models.proofs.consistent.consistent.Goals as goal

pub all_pass-requires-2 : goal.all_pass-requires-2
all_pass-requires-2 c = λ k h.
    let inside = cell_inside c.requires.0 k (omega (arith, cells_inside c.requires.0)) in
    let counted = c.requires.1.count k inside.0 in
    search rules

pub returns : goal.returns
unfolding consistent
returns c =
    let b = c.args.b.now in
    let n = c.state_count in
    let actions = c.all_pass.ensures (posts_contradict b) (λ k r h p. search rules) in
    let cells = c.all_pass-2.ensures (λ k. cell_consistent b (k / 8) (k % 8)) (λ k r h p. search rules) in
    ap₂ ◌&&◌ (rw c.action_count.ensures.value at actions) (cells_all c.requires.0 (cell_consistent b) (consistent_past b) n.result n.ensures.value cells)
