use mathlib.Core.Path.{◌∙◌}
use mir.Syntax.{w16}
use mir.ValLaws.{to_z-of_z}
use Rattle.blocks.proofs.TwosComplement.{cast_reads}
use Rattle.blocks.proofs.signed16.Goals as goal

pub returns : goal.returns
returns c = to_z-of_z w16 c.cast_signed.result (record { sfits = c.cast_signed.type_inv }) ∙ c.cast_signed.ensures ∙ cast_reads 15 c.args.x
