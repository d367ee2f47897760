-- By whether the bound is met, and by the relation.
use native.Mathlib.Nat.{le_trans}
use mathlib.Core.Path.{◌≡◌, refl, sym, ◌∙◌}
use mir.Syntax.{w64}
use mir.ValLaws.{to_z-of_z}
use mir.Val.{to_z, of_z}
use Rattle.bounds.proofs.ProductsFit.{most_small}
use Rattle.bounds.specs.promises.Bounded.{lowered}
use Rattle.reasons.specs.promises.Told.{led_code}
use Rattle.reasons.proofs.of_leader.Goals as goal

pub lowered-total-requires : goal.lowered-total-requires
lowered-total-requires c = record { bounded = c.requires.0; x_bound = le_trans c.requires.1 (most_small c.args.m.now c.args.q.now c.args.j c.requires.0) }

pub returns-then-r : goal.returns-then-r
unfolding led_code
returns-then-r c =
    let total_is : to_z w64 (of_z w64 c.lowered-total.result) ≡ lowered c.args.m.now c.args.q.now c.args.j c.args.r.raised = to_z-of_z w64 c.lowered-total.result (record { sfits = c.lowered-total.type_inv }) ∙ c.lowered-total.ensures in
    rw (total_is, c.whole-whole.ensures.value, c.lamp_of-lamp.ensures, c.if-r.true) refl

pub returns-then-asks_less : goal.returns-then-asks_less
unfolding led_code
returns-then-asks_less c =
    let total_is : to_z w64 (of_z w64 c.lowered-total.result) ≡ lowered c.args.m.now c.args.q.now c.args.j c.args.r.raised = to_z-of_z w64 c.lowered-total.result (record { sfits = c.lowered-total.type_inv }) ∙ c.lowered-total.ensures in
    rw (total_is, c.whole-whole.ensures.value, c.if-r.false, sym c.asks_less.ensures ∙ c.if-asks_less.true) refl

pub returns : goal.returns
unfolding led_code
returns c =
    let total_is : to_z w64 (of_z w64 c.lowered-total.result) ≡ lowered c.args.m.now c.args.q.now c.args.j c.args.r.raised = to_z-of_z w64 c.lowered-total.result (record { sfits = c.lowered-total.type_inv }) ∙ c.lowered-total.ensures in
    rw (total_is, c.whole-whole.ensures.value, c.if-r.false, sym c.asks_less.ensures ∙ c.if-asks_less.false) refl
