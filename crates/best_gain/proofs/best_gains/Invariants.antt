use mathlib.Core.Path.{◌≡◌}
use lib.ListN.{length}
use Rattle.best_gain.specs.promises.Tabled.{Filled}
use Rattle.best_gain.proofs.best_gains.Given as goal

abbrev pub invariant-loop-k : goal.invariant-loop-k
invariant-loop-k l =
    (length l.best ≡ 224) × (length l.places ≡ 224) × Filled l.least l.m l.window l.best l.places l.k
