use Prim.Native.Nat.{◌≤◌}
use mathlib.Core.Path.{◌≡◌}
use Rattle.logic.specs.Formula.{depth}
use Rattle.questions.specs.promises.Tables.{formulas_before, table}
use Rattle.questions.proofs.depth_table.Given as goal

abbrev pub invariant-loop-i : goal.invariant-loop-i
invariant-loop-i l = (l.i-end ≤ 40) × (l.depths ≡ table depth (formulas_before l.b l.i))
