use Rattle.best_gain.specs.promises.Tabled.{Picks}
use Rattle.best_gain.proofs.pick.Given as goal

abbrev pub invariant-loop-i : goal.invariant-loop-i
invariant-loop-i l = Picks l.least l.m l.best l.at l.unit l.s l.i l.value l.place
