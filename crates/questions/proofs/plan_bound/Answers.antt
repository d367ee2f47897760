-- q is tested and then p from both sides, as in the definition; a q in range is its own signed number.
use native.Mathlib.Omega.{arith}
use mathlib.Core.Path.{◌≡◌, refl, sym, ap₂, ◌∙◌}
use mathlib.Core.Bool.{true, ◌&&◌}
use lib.IntN.{pos}
use lib.Signed.{le_z}
use mir.Syntax.{w32}
use mir.Val.{to_z, of_z}
use mir.ValLaws.{to_z_pos}
use borrow.Author.Tests.{not-true, not-false}
use Rattle.blocks.specs.Bytes.{within}
use Rattle.questions.specs.Grounds.{plan_bound}
use borrow.Author.Rules.{rules}
use Rattle.blocks.proofs.RangeTests.{at_most}
use Rattle.questions.proofs.plan_bound.Goals as goal

pub returns-then-not-within : goal.returns-then-not-within
unfolding plan_bound
returns-then-not-within c = rw (sym c.within.ensures ∙ not-true _ c.if-not-within.true-raw) refl

pub overflow_cast-result : goal.overflow_cast-result
overflow_cast-result c =
    let q_right : within 1 1000000 c.args.q ≡ true = sym c.within.ensures ∙ not-false _ c.if-not-within.false-raw in
    let q = c.args.q in record { sfits = omega (arith, at_most 1 1000000 q q_right) }

pub returns : goal.returns
unfolding plan_bound
returns c =
    let q_right : within 1 1000000 c.args.q ≡ true = sym c.within.ensures ∙ not-false _ c.if-not-within.false-raw in
    let S = c.args in
    let z : to_z w32 (of_z w32 S.p) ≡ S.p = search rules in
    let e = q_right in
    rw e (ap₂ (λ p q. le_z (pos 0) p && le_z p q) z (to_z_pos w32 S.q (omega (arith, at_most 1 1000000 S.q e))))
