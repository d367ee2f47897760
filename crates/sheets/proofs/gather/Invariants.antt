use Prim.Native.Nat.{◌*◌, ◌≤◌}
use mathlib.Core.Path.{◌≡◌}
use mathlib.Core.List.{◌++◌}
use lib.ListN.{length, drop}
use Rattle.sheets.specs.Layout.{choices_of}
use Rattle.sheets.proofs.PiecesInOrder.{pieces}
use Rattle.sheets.proofs.gather.Given as goal

abbrev pub invariant-loop-k : goal.invariant-loop-k
invariant-loop-k l = record {
  few : l.at ≤ 490 * l.k;
  long : l.at ≡ length (pieces (choices_of l.b) l.k);
  front : l.out ≡ pieces (choices_of l.b) l.k ++ drop l.at l.initial.out;
}
