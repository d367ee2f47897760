-- The tests in turn.
use mathlib.Core.Path.{◌≡◌, sym, ap, ap₂, ◌∙◌}
use mathlib.Core.Bool.{Bool, true, not, ◌&&◌, ◌||◌}
use lib.Dec.{eqb}
use borrow.Author.Tests.{eq-eqb, ne_eqb, not-true, not-false}
use Rattle.logic.specs.promises.Orders.{order}
use Rattle.exact_plan.specs.promises.Sides.{on_side, wins}
use Rattle.exact_plan.proofs.nearest.wins.Goals as goal

pub returns-then-not-on_side : goal.returns-then-not-on_side
unfolding wins
returns-then-not-on_side c = let A = c.args in
    ap (λ (t : Bool). t && (eqb A.best.place A.len || not (order A.above A.y A.best.total))) (sym (not-true _ c.if-not-on_side.true-raw) ∙ c.on_side.ensures)

pub returns-then-best-len : goal.returns-then-best-len
unfolding wins
returns-then-best-len c =
    let there : true ≡ on_side c.args.above c.args.x c.args.y = sym (not-false _ c.if-not-on_side.false-raw) ∙ c.on_side.ensures in
    let A = c.args in
    ap₂ (λ (t u : Bool). t && (u || not (order A.above A.y A.best.total))) there (sym (eq-eqb A.best.place A.len c.if-best-len.true))

pub returns : goal.returns
unfolding wins
returns c =
    let there : true ≡ on_side c.args.above c.args.x c.args.y = sym (not-false _ c.if-not-on_side.false-raw) ∙ c.on_side.ensures in
    let A = c.args in
    c.exceeds.ensures
    ∙ ap₂ (λ (t u : Bool). t && (u || not (order A.above A.y A.best.total))) there (sym (ne_eqb A.best.place A.len c.if-best-len.false))
