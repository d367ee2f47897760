-- `search::first_with`: what is out of the range of the numbers makes x with none of them.
use native.Mathlib.Omega.{arith}
use mathlib.Core.Path.{sym, subst}
use mathlib.Core.List.{map}
use Prim.Native.Nat.{◌+◌}
use Rattle.exact_plan.specs.promises.Listing.{Found}
use Rattle.exact_plan.proofs.SumsByRows.{row_nowhere, row_of_rest}
use Rattle.exact_plan.proofs.search.first_with.Goals as goal

pub returns-in_err-z : goal.returns-in_err-z
returns-in_err-z c =
    let A = c.args in
    subst (Found (map (λ z. A.y + z) A.list.now) A.x) (sym c.from_residual.ensures)
    (row_nowhere A.y A.x A.list.now (λ z u e. c.in_err-z.ensures (omega (arith, e))))

pub returns-then-z-e : goal.returns-then-z-e
returns-then-z-e c =
    let A = c.args in
    let r = c.in_ok-z.ensures in
    row_nowhere A.y A.x A.list.now (λ z u e. omega (arith, e, r.1, c.requires.low z u))

pub returns-then-e-z : goal.returns-then-e-z
returns-then-e-z c =
    let A = c.args in
    let r = c.in_ok-z.ensures in
    row_nowhere A.y A.x A.list.now (λ z u e. omega (arith, e, r.1, c.requires.high z u))

pub returns : goal.returns
returns c =
    let A = c.args in
    let r = c.in_ok-z.ensures in
    row_of_rest A.y A.x A.list.now c.find.result r.0 (subst (λ z. Found A.list.now z c.find.result) r.1 c.find.ensures)
