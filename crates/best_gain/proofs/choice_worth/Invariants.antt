use Prim.Native.Nat.{ℕ, ◌+◌, ◌*◌}
use mathlib.Core.Path.{◌≡◌}
use mathlib.Core.List.{List}
use lib.ListN.{get_or}
use Rattle.logic.specs.promises.Raised.{raise}
use Rattle.blocks.specs.Block.{sum_below}
use Rattle.prepared_model.specs.promises.Rows.{step_in}
use Rattle.best_gain.proofs.choice_worth.Given as goal

abbrev pub so_far : (m best : List ℕ) (at unit s i o : ℕ) → ℕ
so_far m best at unit s i o = sum_below o (λ o. (step_in m s i o).weight * (unit * raise (step_in m s i o).reward + get_or best (at + (step_in m s i o).target) 0))

abbrev pub invariant-loop-o : goal.invariant-loop-o
invariant-loop-o l = l.sum ≡ so_far l.m l.best l.at l.unit l.s l.i l.o
