-- `last_choice`: the best of the choices tried so far (`LastStepBest`).
use Prim.Native.Nat.{◌<◌}
use native.Mathlib.Omega.{arith}
use mathlib.Core.Path.{sym, ◌∙◌}
use Rattle.prepared_model.specs.promises.Rows.{choices_in}
use Rattle.prepared_model.proofs.ReadByPlace.{some_choice}
use Rattle.best_plan.proofs.LastStepBest.{ending_first, ending_won, ending_lost, ending_all}
use Rattle.best_plan.proofs.last_choice.Goals as goal
use Rattle.best_plan.proofs.last_choice.Goals.{then-exceeds, else-exceeds}

pub choices-n-requires : goal.choices-n-requires
choices-n-requires c = omega (arith, c.requires.0.states, c.requires.1)

pub total-value-requires : goal.total-value-requires
total-value-requires c = let S = c in
    (S.requires.0, S.requires.1, some_choice S.requires.0 S.args.s S.requires.1)

pub loop-i-init : goal.loop-i-init
loop-i-init c = let S = c in
    let some = some_choice S.requires.0 S.args.s S.requires.1 in
    ending_first S.args.least S.requires.0 S.requires.1 some c.total-value.ensures

pub total-v-requires : goal.total-v-requires
total-v-requires c = let S = c in
    (S.requires.0, S.requires.1, omega arith)

pub loop-i-preserved : goal.loop-i-preserved
loop-i-preserved c = let S = c in
    let L = c.loop-i in
    let l : L.i < choices_in S.args.m.now S.args.s = omega arith in
    let v = c.total-v.ensures in
    let e = sym c.exceeds.ensures in
    elim c.if-exceeds.branch [
      | then-exceeds w ↦ rw (w.value-is, w.place-is) (ending_won S.args.least S.requires.0 S.requires.1 L.invariant l v (e ∙ w.if-exceeds.true))
      | else-exceeds w ↦ rw (w.value-is, w.place-is) (ending_lost S.args.least S.requires.0 S.requires.1 L.invariant l v (e ∙ w.if-exceeds.false))
    ]

pub choice-requires : goal.choice-requires
choice-requires c = let S = c in
    let L = c.loop-i in
    (S.requires.0, S.requires.1, omega (arith, L.invariant.inside, some_choice S.requires.0 S.args.s S.requires.1))

pub returns : goal.returns
returns c = let S = c in
    let L = c.loop-i in
    rw c.choice.ensures (ending_all S.args.least S.requires.0 S.requires.1 L.invariant (omega (arith, some_choice S.requires.0 S.args.s S.requires.1)) (omega (arith, S.requires.2)))
