use mathlib.Core.Path.{◌≡◌}
use lib.ListN.{length}
use Rattle.relevance.specs.promises.Chosen.{Listed}
use Rattle.relevance.proofs.cone.Given as goal

abbrev pub invariant-loop-i : goal.invariant-loop-i
invariant-loop-i l = (length l.out ≡ 40) × Listed l.marks l.i l.n l.out
