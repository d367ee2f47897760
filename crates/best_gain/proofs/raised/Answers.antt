-- `raised`: a reward from -1000 to 1000 is no less than 0 with 1000 more.
use native.Mathlib.Omega.{arith}
use mathlib.Core.Path.{◌≡◌, refl, sym, ap, ◌∙◌}
use lib.IntN.{pos, ◌+ℤ◌}
use mir.Syntax.{w16, w64}
use mir.Val.{to_z, of_z, SFits}
use mir.ValLaws.{to_z-of_z}
use Rattle.logic.specs.promises.Raised.{raise}
use Rattle.best_gain.proofs.raised.Goals as goal

clauses_value_range : {A B : Type 0} → A × B → record { value : A; range : B }
clauses_value_range p = record { value = p.0; range = p.1 }

pub overflow_cast-result : goal.overflow_cast-result
overflow_cast-result c =
    let same : to_z w16 (of_z w16 c.args.r) ≡ c.args.r = to_z-of_z w16 c.args.r c.ranges.r in
    rw same (record { sfits = omega (arith, c.ranges.r.sfits) })

pub overflow_add-result : goal.overflow_add-result
overflow_add-result c =
    let same : to_z w16 (of_z w16 c.args.r) ≡ c.args.r = to_z-of_z w16 c.args.r c.ranges.r in
    let wide : to_z w64 (of_z w64 (to_z w16 (of_z w16 c.args.r))) ≡ c.args.r = ap (λ x. to_z w64 (of_z w64 x)) same ∙ to_z-of_z w64 c.args.r (record { sfits = omega (arith, c.ranges.r.sfits) }) in
    let up : to_z w64 (of_z w64 (to_z w16 (of_z w16 c.args.r))) +ℤ pos 1000 ≡ pos (raise c.args.r) = ap (λ x. x +ℤ pos 1000) wide ∙ sym c.requires.up in
    let fits : SFits w64 (pos (raise c.args.r)) = record { sfits = omega (arith, c.requires.small) } in
    rw up fits

pub overflow_cast-result-3 : goal.overflow_cast-result-3
overflow_cast-result-3 c =
    let same : to_z w16 (of_z w16 c.args.r) ≡ c.args.r = to_z-of_z w16 c.args.r c.ranges.r in
    let wide : to_z w64 (of_z w64 (to_z w16 (of_z w16 c.args.r))) ≡ c.args.r = ap (λ x. to_z w64 (of_z w64 x)) same ∙ to_z-of_z w64 c.args.r (record { sfits = omega (arith, c.ranges.r.sfits) }) in
    let up : to_z w64 (of_z w64 (to_z w16 (of_z w16 c.args.r))) +ℤ pos 1000 ≡ pos (raise c.args.r) = ap (λ x. x +ℤ pos 1000) wide ∙ sym c.requires.up in
    let fits : SFits w64 (pos (raise c.args.r)) = record { sfits = omega (arith, c.requires.small) } in
    rw (up, to_z-of_z w64 (pos (raise c.args.r)) fits) (tt, record { fits = omega (arith, c.requires.small) })

pub returns : goal.returns
returns c =
    let same : to_z w16 (of_z w16 c.args.r) ≡ c.args.r = to_z-of_z w16 c.args.r c.ranges.r in
    let wide : to_z w64 (of_z w64 (to_z w16 (of_z w16 c.args.r))) ≡ c.args.r = ap (λ x. to_z w64 (of_z w64 x)) same ∙ to_z-of_z w64 c.args.r (record { sfits = omega (arith, c.ranges.r.sfits) }) in
    let up : to_z w64 (of_z w64 (to_z w16 (of_z w16 c.args.r))) +ℤ pos 1000 ≡ pos (raise c.args.r) = ap (λ x. x +ℤ pos 1000) wide ∙ sym c.requires.up in
    let fits : SFits w64 (pos (raise c.args.r)) = record { sfits = omega (arith, c.requires.small) } in
    clauses_value_range (rw (up, to_z-of_z w64 (pos (raise c.args.r)) fits) (refl, c.requires.small))
