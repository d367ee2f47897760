use mathlib.Core.Logic.{⊎_elim}
use mir.Syntax.{w64}
use mir.ValLaws.{to_z-of_z}
use Rattle.logic.specs.Quantity.{integers}
use Rattle.logic.proofs.Naturals.{greater_by}
use Rattle.evaluation.proofs.Integers.{less_is, same_bits}
use mathlib.Core.Path.{sym, ◌∙◌}
use Rattle.logic.specs.Quantity.{related}
use Rattle.logic.specs.Formula.{relation}
use Rattle.evaluation.proofs.related.Goals as goal

pub returns-in-1 : goal.returns-in-1
unfolding related relation
returns-in-1 c = let a = c.args.gain in
    let b = c.args.bound in
    let x = c.ranges.gain in
    let y = c.ranges.bound in
    rw (to_z-of_z w64 a x, to_z-of_z w64 b y, c.in-1.is) (less_is a b)

pub returns-in-0 : goal.returns-in-0
unfolding related relation
returns-in-0 c = let a = c.args.gain in
    let b = c.args.bound in
    let x = c.ranges.gain in
    let y = c.ranges.bound in
    ⊎_elim (λ e. rw e (same_bits a b x y)) (λ e. rw e (same_bits a b x y)) c.in-0.is

pub returns-in_default : goal.returns-in_default
returns-in_default c = let a = c.args.gain in
    let b = c.args.bound in
    let x = c.ranges.gain in
    let y = c.ranges.bound in
    rw (to_z-of_z w64 a x, to_z-of_z w64 b y) (less_is b a ∙ sym (greater_by integers c.args.kind a b c.in_default.in_default-own.rest.0.1 c.in_default.in_default-own.rest.1))
