-- By what stands at byte 8 of the first block.
use mathlib.Core.Path.{◌∙◌}
use mir.Syntax.{w64}
use mir.ValLaws.{to_z-of_z}
use Rattle.blocks.specs.Bytes.{i64}
use Rattle.sheets.specs.Layout.{weight_of, claimed_total, sheet_of}
use Rattle.sheets.proofs.total_at.Goals as goal

pub returns : goal.returns
unfolding sheet_of claimed_total weight_of i64
returns c = to_z-of_z w64 c.i64_at.result (record { sfits = c.i64_at.type_inv }) ∙ c.i64_at.ensures
