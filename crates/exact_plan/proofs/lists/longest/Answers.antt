-- `lists::longest`: the best of the outcomes before o, by the table.
use Prim.Native.Nat.{◌+◌, ◌*◌, ◌≤◌, ◌<◌}
use native.Mathlib.Nat.{le_refl}
use native.Mathlib.Omega.{arith}
use mathlib.Core.Path.{◌≡◌, ap, subst, ◌∙◌}
use lib.ListN.{get_or}
use Rattle.exact_plan.specs.promises.Listing.{Longest}
use Rattle.exact_plan.proofs.LongestOutcome.{size, longer, no_longer}
use Rattle.exact_plan.proofs.lists.longest.Goals as goal
use Rattle.exact_plan.proofs.lists.longest.Goals.{then-plans_counted-n, else-plans_counted-n}

pub loop-o-init : goal.loop-o-init
loop-o-init c = record { inside = omega arith; most = λ o h. let z : o ≡ 0 = omega arith in rw z (le_refl _) }

pub target-requires : goal.target-requires
target-requires c = let S = c in (S.requires.1, S.requires.2, omega (arith, S.requires.4, c.loop-o-test.true))

pub plans_counted-n-requires : goal.plans_counted-n-requires
plans_counted-n-requires c = let S = c in
    (S.requires.0, rw c.target.ensures (S.requires.5 c.loop-o.o c.loop-o-test.true))

pub target-requires-in-loop-o : goal.target-requires-in-loop-o
target-requires-in-loop-o c = let S = c in (S.requires.1, S.requires.2, omega (arith, S.requires.4, c.loop-o.invariant.inside))

pub plans_counted-requires : goal.plans_counted-requires
plans_counted-requires c = let S = c in
    let L = c.loop-o in
    (S.requires.0, rw c.target-in-loop-o.ensures (S.requires.5 L.best (omega (arith, L.invariant.inside))))

pub loop-o-preserved : goal.loop-o-preserved
loop-o-preserved c = let S = c in
    let L = c.loop-o in
    let n = c.plans_counted-n in
    let n2 = c.plans_counted in
    let e : n.result ≡ size L.invariant L.o = n.ensures ∙ ap (λ x. get_or S.args.table.now (32 * S.args.k + x) 0) c.target.ensures in
    let e2 : n2.result ≡ size L.invariant L.best = n2.ensures ∙ ap (λ x. get_or S.args.table.now (32 * S.args.k + x) 0) c.target-in-loop-o.ensures in
    elim c.if-plans_counted-n.branch [
      | then-plans_counted-n w ↦ let g : size L.invariant L.best < size L.invariant L.o = omega (arith, w.if-plans_counted-n.true) in rw w.best-is (longer L.invariant g)
      | else-plans_counted-n w ↦ let g : size L.invariant L.o ≤ size L.invariant L.best = omega (arith, w.if-plans_counted-n.false) in rw w.best-is (no_longer L.invariant g)
    ]

pub returns : goal.returns
returns c = let L = c.loop-o in
    let S = c in
    let e : L.o ≡ S.args.c = omega arith in
    subst (λ j. Longest S.args.m.now S.args.table.now S.args.s S.args.i j S.args.k L.best) e L.invariant
