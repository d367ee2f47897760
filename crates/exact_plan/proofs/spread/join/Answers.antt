-- `spread::join`: the list in its place varies slowest where the other comes on its right, and fastest where it comes on its left.
use Rattle.exact_plan.proofs.JoinedInPlace.{join_right, join_left, right_joined, left_joined}
use Rattle.exact_plan.proofs.spread.join.Goals as goal

pub spread-requires : goal.spread-requires
spread-requires c = join_right _ _ _ _ _ c.requires

pub spread-requires-else-right : goal.spread-requires-else-right
spread-requires-else-right c = join_left _ _ _ _ _ c.requires

pub returns-then-right : goal.returns-then-right
returns-then-right c = right_joined _ _ _ _ _ c.requires c.if-right.true c.spread.ensures

pub returns-else-right : goal.returns-else-right
returns-else-right c = left_joined _ _ _ _ _ c.requires c.if-right.false c.spread-else-right.ensures
