use mathlib.Core.Path.{◌≡◌}
use lib.ListN.{length, take}
use Rattle.last_step.specs.promises.Masks.{Masked}
use Rattle.last_step.proofs.masks.mask.Given as goal

abbrev pub invariant-loop-i : goal.invariant-loop-i
invariant-loop-i l = (length l.masks ≡ 40) × Masked l.m l.q l.at.start l.cone l.late (take l.at.h l.trail) l.at.s l.i l.masks
