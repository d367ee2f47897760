use mathlib.Core.Path.{◌≡◌}
use lib.ListN.{take}
use Rattle.evaluation.specs.promises.Learnt.{learnt}
use Rattle.evaluation.proofs.learn.Given as goal

abbrev pub invariant-loop-j : goal.invariant-loop-j
invariant-loop-j l = l.v ≡ learnt l.q l.truth l.trail l.gains l.h l.s (take l.j-index l.cone) l.initial.v
