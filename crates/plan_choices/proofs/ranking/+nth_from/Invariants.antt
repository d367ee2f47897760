use Rattle.plan_choices.proofs.WrittenBelow.{Underway}
use Rattle.plan_choices.proofs.ranking.+nth_from.Given as goal

abbrev pub decreases-nth_from : goal.decreases-nth_from
decreases-nth_from l = l.n

abbrev pub invariant-loop-o : goal.invariant-loop-o
invariant-loop-o l =
    Underway l.m l.k l.s l.b.at l.initial.rest l.initial.choices l.initial.next l.o l.size l.rest l.choices l.next
