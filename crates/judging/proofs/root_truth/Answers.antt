use native.Mathlib.Nat.{le_refl}
use Rattle.judging.proofs.TruthByOperator.{root_supplied}
use Rattle.judging.proofs.root_truth.Goals as goal

pub needed-need-requires : goal.needed-need-requires
needed-need-requires c = c.requires.given

pub truth_table-requires : goal.truth_table-requires
truth_table-requires c = let P = c.requires in (P, c.needed-need.ensures)

pub returns : goal.returns
returns c = let S = c in root_supplied S.requires.given c.needed-need.ensures _ c.truth_table.ensures (le_refl _)
