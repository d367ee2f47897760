use mathlib.Core.Path.{ap, ◌∙◌}
use mir.Syntax.{w64}
use mir.ValLaws.{to_z-of_z}
use Rattle.blocks.specs.Bytes.{i64, signed}
use Rattle.blocks.proofs.TwosComplement.{cast_reads}
use Rattle.blocks.proofs.i64_at.Goals as goal

pub returns : goal.returns
unfolding i64
returns c =
    to_z-of_z w64 c.cast_signed.result (record { sfits = c.cast_signed.type_inv })
    ∙ c.cast_signed.ensures
    ∙ cast_reads 63 c.u64_at.result
    ∙ ap (signed 63) c.u64_at.ensures
