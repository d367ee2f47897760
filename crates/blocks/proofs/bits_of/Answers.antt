use Rattle.std.proofs.Common.{ap, ◌∙◌}
use mir.Syntax.{w64}
use mir.Val.{of_z}
use mir.ValLaws.{to_z-of_z}
use Rattle.blocks.proofs.TwosComplement.{cast_bits}
use Rattle.blocks.proofs.bits_of.Goals as goal

pub returns : goal.returns
returns c = c.cast_unsigned.ensures ∙ ap (of_z w64) (to_z-of_z w64 c.args.z c.ranges.z) ∙ cast_bits c.args.z
