use mir.Syntax.{w64}
use mir.ValLaws.{to_z-of_z}
use native.Mathlib.Omega.{arith}
use Rattle.evaluation.specs.promises.Learnt.{gained}
use mathlib.Core.Path.{refl, ◌∙◌}
use Rattle.evaluation.proofs.Integers.{read_wider}
use Rattle.evaluation.proofs.gained.Goals as goal

pub returns : goal.returns
unfolding gained
returns c = let g = c.gain_between in
    let b = c.bound in
    c.related.ensures
    ∙ rw (to_z-of_z w64 g.result (record { sfits = omega (arith, g.ensures.range) }), read_wider b.result c.from.result b.type_inv c.from.ensures) (rw (g.ensures.value, b.ensures, c.right.ensures) refl)
