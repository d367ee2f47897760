use mathlib.Core.Path.{ap, ◌∙◌}
use mir.Syntax.{w32}
use mir.ValLaws.{to_z-of_z}
use Rattle.blocks.specs.Bytes.{i32, signed}
use Rattle.blocks.proofs.TwosComplement.{cast_reads}
use Rattle.blocks.proofs.i32_at.Goals as goal

pub returns : goal.returns
unfolding i32
returns c =
    to_z-of_z w32 c.cast_signed.result (record { sfits = c.cast_signed.type_inv })
    ∙ c.cast_signed.ensures
    ∙ cast_reads 31 c.u32_at.result
    ∙ ap (signed 31) c.u32_at.ensures
