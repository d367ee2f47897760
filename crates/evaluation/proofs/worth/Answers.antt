-- `worth`: the raised gain is asked to be natural, so that it is itself as an unsigned number; the root is the last node of the cone.
use Prim.Native.Nat.{ℕ, ◌*◌, ◌-◌}
use native.Mathlib.Omega.{arith}
use borrow.Author.Rules.{rules}
use lib.ListN.{length}
use Rattle.evaluation.specs.promises.Learnt.{known}
use mathlib.Core.Path.{◌≡◌, sym, ap, ◌∙◌}
use lib.IntN.{pos, nat_abs, ◌+ℤ◌}
use mir.Syntax.{w64}
use mir.Val.{to_z, of_z}
use Rattle.evaluation.specs.promises.Worth.{raised_known}
use Rattle.evaluation.proofs.Integers.{sum_is, natural_fits}
use Rattle.evaluation.proofs.PathWorth.{known_of_gain, known_of_value}
use Rattle.evaluation.proofs.worth.Goals as goal

pub overflow_cast-result-in_default : goal.overflow_cast-result-in_default
overflow_cast-result-in_default c =
    let up : ℕ = 1000 * (c.args.d - c.args.a) in
    let raised_is : let S = c in
    to_z w64 (of_z w64 (to_z w64 (of_z w64 c.gain_between.result) +ℤ to_z w64 up)) ≡ raised_known S.args.gains.now S.args.a S.args.d = let S = c in
    let g = c.gain_between in
    sum_is g.result up g.ensures.range (omega (arith, S.requires.steps)) ∙ ap (λ z. z +ℤ pos up) g.ensures.value in
    let S = c in
    let none : length S.args.cone.now ≡ 0 = search rules in
    let e = S.requires.natural none in
    let f = raised_is ∙ e in
    rw f (tt, record { fits = natural_fits c.gain_between.result up c.gain_between.ensures.range (omega (arith, S.requires.steps)) (ap (λ z. z +ℤ pos up) c.gain_between.ensures.value ∙ e) })

pub returns-in_default : goal.returns-in_default
returns-in_default c =
    let up : ℕ = 1000 * (c.args.d - c.args.a) in
    let raised_is : let S = c in
    to_z w64 (of_z w64 (to_z w64 (of_z w64 c.gain_between.result) +ℤ to_z w64 up)) ≡ raised_known S.args.gains.now S.args.a S.args.d = let S = c in
    let g = c.gain_between in
    sum_is g.result up g.ensures.range (omega (arith, S.requires.steps)) ∙ ap (λ z. z +ℤ pos up) g.ensures.value in
    let S = c in
    let none : length S.args.cone.now ≡ 0 = search rules in
    ap nat_abs raised_is ∙ sym (known_of_gain S.args.cone.now S.args.gains.now S.args.v.now S.args.a S.args.d none)

pub returns : goal.returns
returns c =
    let S = c in
    let root = c.in-Some.ensures.item in
    c.from.ensures ∙ c.known.ensures ∙ ap (λ j. known S.args.v.now j 0) (root.3.1 0) ∙ sym (known_of_value S.args.cone.now S.args.gains.now S.args.v.now S.args.a S.args.d root.3.0)
