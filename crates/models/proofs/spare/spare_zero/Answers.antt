-- The three parts are the definition; the cells of the row blocks are a grid.
use Rattle.std.proofs.Common.{◌≡◌, ◌+◌, ◌-◌, ◌*◌, ◌/◌, ◌%◌, length, arith, rules, ap, ap₂, ◌∙◌, ◌&&◌}
use Rattle.logic.specs.Lists.{every}
use Rattle.blocks.specs.Block.{block_count}
use Rattle.blocks.proofs.RangeTests.{blocks_within}
use Rattle.models.specs.Grounds.{row_spare, rows_spare, cell_spare, cells_spare}
use Rattle.models.proofs.EveryCell.{cell_inside, entries_small, sized, grid}
use Rattle.models.proofs.spare.spare_zero.Goals as goal

pub overflow_sub-rows : goal.overflow_sub-rows
overflow_sub-rows c = omega (arith, blocks_within c.args.b.now 2 12 c.requires.0.whole)

pub all_pass-requires : goal.all_pass-requires
all_pass-requires c = λ k h. let few = blocks_within c.args.b.now 2 12 c.requires.0.whole in search rules

pub all_pass-requires-2 : goal.all_pass-requires-2
unfolding block_count
all_pass-requires-2 c = λ k h.
    let b = c.args.b.now in
    let inside = cell_inside c.requires.0 k h in
    let counted = c.requires.2.count k inside.0 in
    let small = entries_small b (sized b c.requires.0.whole c.requires.0.sizes c.requires.1) (k / 8) (k % 8) in
    search rules

pub returns : goal.returns
unfolding rows_spare cells_spare block_count
returns c =
    let b = c.args.b.now in
    let n = length b / 512 - 1 in
    let e : 24 * n ≡ 8 * (3 * n) = omega arith in
    let rows = c.all_pass.ensures (λ k. row_spare b (k + 1)) (λ k r h p. search rules) in
    let cells = c.all_pass-2.ensures (λ k. cell_spare b (k / 8) (k % 8)) (λ k r h p. search rules) in
    ap₂ ◌&&◌ (ap₂ ◌&&◌ c.head_spare.ensures rows)
    (cells ∙ ap (λ m. every m (λ k. cell_spare b (k / 8) (k % 8))) e ∙ grid (cell_spare b) (3 * n) 8 (omega arith) (λ s a h l. absurd (omega arith)))
