use native.Mathlib.Omega.{arith}
use mathlib.Core.Path.{◌≡◌, subst, ◌∙◌}
use Rattle.models.specs.Layout.{action_count}
use Rattle.prepared_model.specs.promises.Filled.{Listed}
use Rattle.prepared_model.proofs.RowFilled.{actions_few, listed_none, listed_next, chosen}
use Rattle.prepared_model.proofs.rows.choose.Goals as goal

pub loop-a-init : goal.loop-a-init
loop-a-init c = (omega arith, listed_none _ _ _)

pub list-i-requires : goal.list-i-requires
list-i-requires c =
    let few = actions_few _ c.requires.0 in
    (omega (arith, c.action_count-a-end.ensures.value), omega (arith, c.action_count-a-end.ensures.value), c.entries.ensures.range, c.loop-a.auto.row ∙ c.requires.2)

pub loop-a-preserved : goal.loop-a-preserved
loop-a-preserved c = let L = c.loop-a in
    let few = actions_few _ c.requires.0 in
    let r = c.list-i in
    let x = listed_next L.invariant.1 c.entries.ensures.value L.invariant.0 (omega (arith, c.action_count-a-end.ensures.value)) (L.auto.row ∙ c.requires.2) r.ensures.0 r.ensures.1 in
    (x.0, x.2)

pub returns : goal.returns
returns c = let L = c.loop-a in
    let few = actions_few _ c.requires.0 in
    let e : L.a ≡ action_count c.args.b.now = omega (arith, c.action_count-a-end.ensures.value) in
    chosen (subst (λ a. Listed c.args.b.now c.args.s a L.i L.row) e L.invariant.1) (omega arith) (L.auto.row ∙ c.requires.2)
