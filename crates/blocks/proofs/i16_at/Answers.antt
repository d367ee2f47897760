use mathlib.Core.Path.{ap, ◌∙◌}
use mir.Syntax.{w16}
use mir.ValLaws.{to_z-of_z}
use Rattle.blocks.specs.Bytes.{i16, signed}
use Rattle.blocks.proofs.i16_at.Goals as goal

pub returns : goal.returns
unfolding i16
returns c = to_z-of_z w16 c.signed16.result (record { sfits = c.signed16.type_inv }) ∙ c.signed16.ensures ∙ ap (signed 15) c.u16_at.ensures.value
