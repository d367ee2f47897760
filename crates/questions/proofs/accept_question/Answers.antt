-- What grounds 1, 4 and 5 say is what the later tests ask for.
use Rattle.std.proofs.Common.{ℕ, ◌≤◌, ◌≡◌, ◌∙◌, ◌&&◌, true, sym, length, ltb}
use Rattle.logic.proofs.Tests.{and_right}
use Rattle.blocks.specs.Bytes.{Bytes, within}
use Rattle.blocks.specs.Block.{whole_blocks}
use Rattle.blocks.proofs.RangeTests.{at_least, at_most}
use Rattle.questions.specs.Layout.{start_of, node_count}
use Rattle.questions.proofs.TableNodeByNode.{one_block}
use Rattle.questions.proofs.ChildrenMarked.{downward}
use Rattle.questions.proofs.AcceptedFacts.{in_range_all}
use Rattle.questions.proofs.accept_question.Goals as goal

-- Of a question that passes grounds 1 and 4.
record Sized (b : Bytes) : Type 0 where
  size : length b ≡ 512
  some : 1 ≤ node_count b
  few : node_count b ≤ 40

sized : (b : Bytes) (states : ℕ) → whole_blocks 1 1 b ≡ true → (ltb (start_of b) states && within 1 40 (node_count b)) ≡ true → Sized b
sized b states whole counts =
    let nodes : within 1 40 (node_count b) ≡ true = and_right (ltb (start_of b) states) (within 1 40 (node_count b)) counts in
    record { size = one_block b whole; some = at_least 1 40 (node_count b) nodes; few = at_most 1 40 (node_count b) nodes }

pub spare_zero-requires : goal.spare_zero-requires
spare_zero-requires c =
    let s = sized _ _ (sym c.whole_blocks.ensures ∙ c.if-not-whole_blocks.false) (sym c.counts_right.ensures ∙ c.if-not-counts_right.false) in
    (s.size, s.few)

pub formed-requires : goal.formed-requires
formed-requires c =
    let s = sized _ _ (sym c.whole_blocks.ensures ∙ c.if-not-whole_blocks.false) (sym c.counts_right.ensures ∙ c.if-not-counts_right.false) in (
      record { size = s.size; some = s.some; few = s.few; held = c.depth_table-depths.ensures },
      (c.args.actions, c.args.props, sym c.nodes_in_range.ensures ∙ c.if-not-nodes_in_range.false),
    )

-- By ground 5, children have smaller numbers.
pub all_reached-requires : goal.all_reached-requires
all_reached-requires c =
    let s = sized _ _ (sym c.whole_blocks.ensures ∙ c.if-not-whole_blocks.false) (sym c.counts_right.ensures ∙ c.if-not-counts_right.false) in
    downward _ _ c.args.b.now s.few (in_range_all _ _ _ (sym c.nodes_in_range.ensures ∙ c.if-not-nodes_in_range.false))
