use Rattle.exact_plan.specs.promises.Listing.{Longest}
use Rattle.exact_plan.proofs.lists.longest.Given as goal

abbrev pub invariant-loop-o : goal.invariant-loop-o
invariant-loop-o l = Longest l.m l.table l.s l.i l.o l.k l.best
