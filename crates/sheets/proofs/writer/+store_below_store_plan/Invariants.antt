use Prim.Native.Nat.{◌+◌}
use Rattle.sheets.proofs.StoredBelow.{Walked}
use Rattle.sheets.proofs.writer.+store_below_store_plan.Given as goal

abbrev pub decreases-store_below : goal.decreases-store_below
decreases-store_below l = l.k + l.k + 1

abbrev pub decreases-store_plan : goal.decreases-store_plan
decreases-store_plan l = l.n + l.n

abbrev pub invariant-store_below-loop-i : goal.invariant-store_below-loop-i
invariant-store_below-loop-i l = Walked l.m l.choices l.s l.a l.k l.i l.p l.next l.initial.buf l.buf
