-- The tests in turn.
use mathlib.Core.Path.{sym, ap, ap₂}
use mathlib.Core.Bool.{Bool, not, ◌&&◌}
use lib.Dec.{eqb}
use borrow.Author.Tests.{eq-eqb, ne_eqb, not-true, not-false}
use Rattle.reasons.specs.promises.Told.{at_bound}
use Rattle.reasons.proofs.sides.at_bound.Goals as goal

pub returns-then-not-x : goal.returns-then-not-x
unfolding at_bound
returns-then-not-x c = let A = c.args in
    ap (λ (t : Bool). t && (not (eqb A.least.place A.all) && eqb A.least.total A.x.total)) (sym (not-true A.x.whole c.if-not-x.true))

pub returns-then-least-all : goal.returns-then-least-all
unfolding at_bound
returns-then-least-all c = let A = c.args in
    ap₂ (λ (t u : Bool). t && (not u && eqb A.least.total A.x.total)) (sym (not-false A.x.whole c.if-not-x.false)) (sym (eq-eqb A.least.place A.all c.if-least-all.true))

pub returns : goal.returns
unfolding at_bound
returns c = let A = c.args in
    ap₂ (λ (t u : Bool). t && (not u && eqb A.least.total A.x.total)) (sym (not-false A.x.whole c.if-not-x.false)) (sym (ne_eqb A.least.place A.all c.if-least-all.false))
