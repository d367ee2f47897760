-- `search::front`: no outcome makes the number 0 alone.
use native.Mathlib.Omega.{arith}
use Rattle.exact_plan.proofs.ChoicesSearched.{none_room, none_written}
use Rattle.exact_plan.proofs.search.front.Goals as goal

pub fill-requires : goal.fill-requires
fill-requires c = let S = c in none_room _ _ c.if-c-eq0.true S.requires.room

pub returns-then-c-eq0 : goal.returns-then-c-eq0
returns-then-c-eq0 c = let S = c in none_written _ _ _ c.if-c-eq0.true S.requires.room S.requires.here.0.knows c.fill.ensures

pub combine-requires : goal.combine-requires
combine-requires c = let S = c in record { given = S.requires.given; here = (S.requires.here.0, S.requires.here.1, omega (arith, c.if-c-eq0.false), S.requires.here.2, S.requires.here.3); room = S.requires.room }
