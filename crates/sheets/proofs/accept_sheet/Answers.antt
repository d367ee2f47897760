-- The blocks are at most three by ground 1, and ground 6 is asked of counts that passed ground 5.
use Rattle.std.proofs.Common.{ℕ, List, ◌≡◌, ◌∙◌, ◌≤◌, ◌/◌, ◌&&◌, true, sym, length}
use Rattle.logic.specs.Lists.{every}
use Rattle.logic.proofs.Tests.{and_left, every_at}
use Rattle.blocks.specs.Block.{block_count, whole_blocks}
use Rattle.sheets.specs.Grounds.{count_right, weight_right}
use Rattle.sheets.proofs.BlockTests.{whole_says, count_says}
use Rattle.sheets.proofs.accept_sheet.Goals as goal

three : (b : List ℕ) → whole_blocks 1 3 b ≡ true → length b / 512 ≤ 3
unfolding block_count
three b e = (whole_says b e).few

pub headings_right-requires : goal.headings_right-requires
headings_right-requires c = three _ (sym c.whole_blocks.ensures ∙ c.if-not-whole_blocks.false)

pub heads_right-requires : goal.heads_right-requires
heads_right-requires c = three _ (sym c.whole_blocks.ensures ∙ c.if-not-whole_blocks.false)

pub fields_right-requires : goal.fields_right-requires
fields_right-requires c = three _ (sym c.whole_blocks.ensures ∙ c.if-not-whole_blocks.false)

pub spares_right-requires : goal.spares_right-requires
unfolding block_count
spares_right-requires c =
    let b = c.args.b.now in
    let e : every (block_count b) (λ k. count_right b k && weight_right b k) ≡ true = sym c.fields_right.ensures ∙ c.if-not-fields_right.false in (
      three _ (sym c.whole_blocks.ensures ∙ c.if-not-whole_blocks.false),
      λ k h. (count_says b k (and_left (count_right b k) (weight_right b k) (every_at (λ k. count_right b k && weight_right b k) (block_count b) e h))).few,
    )
