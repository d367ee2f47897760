-- `pick`: the first of the best of the choices tried so far.
use native.Mathlib.Omega.{arith}
use mathlib.Core.Path.{◌≡◌, sym, subst, ◌∙◌}
use Rattle.prepared_model.specs.promises.Rows.{choices_in}
use Rattle.prepared_model.proofs.ReadByPlace.{some_choice}
use Rattle.best_gain.specs.promises.Tabled.{Picks}
use Rattle.best_gain.proofs.TableRows.{picks_first, picks_won, picks_lost}
use Rattle.best_gain.proofs.pick.Goals as goal
use Rattle.best_gain.proofs.pick.Goals.{then-exceeds, else-exceeds}

pub choice_worth-value-requires : goal.choice_worth-value-requires
choice_worth-value-requires c = let S = c in (S.requires.0, S.requires.1, some_choice S.requires.0 S.args.s S.requires.1, S.requires.2)

pub loop-i-init : goal.loop-i-init
loop-i-init c = let S = c in
    let A = S.args in
    picks_first A.least A.m.now A.best.now A.at A.unit A.s c.choice_worth-value.ensures

pub loop-i-preserved : goal.loop-i-preserved
loop-i-preserved c = let S = c in
    let A = S.args in
    let L = c.loop-i in
    let e = sym c.exceeds.ensures in
    let v = c.choice_worth-v.ensures in
    elim c.if-exceeds.branch [
      | then-exceeds w ↦ rw (w.value-is, w.place-is) (picks_won A.least A.m.now A.best.now A.at A.unit A.s L.invariant v (e ∙ w.if-exceeds.true))
      | else-exceeds w ↦ rw (w.value-is, w.place-is) (picks_lost A.least A.m.now A.best.now A.at A.unit A.s L.invariant v (e ∙ w.if-exceeds.false))
    ]

pub returns : goal.returns
returns c = let S = c in
    let A = S.args in
    let L = c.loop-i in
    let e : L.i ≡ choices_in A.m.now A.s = omega (arith, c.choices-n.ensures, some_choice S.requires.0 A.s S.requires.1, c.loop-i-test.false) in
    subst (λ i. Picks A.least A.m.now A.best.now A.at A.unit A.s i L.value L.place) e L.invariant
