-- Each arm of the match makes the word of its operator (`Masking`), of the numbers that the readers give.
use Prim.Native.Nat.{ℕ, ◌+◌, ◌-◌, ◌^◌, ◌<◌}
use native.Mathlib.Omega.{arith}
use mathlib.Core.Path.{◌≡◌, refl, sym, ap, subst, ◌∙◌}
use lib.Dec.{eqb}
use lib.IntN.{ℤ, pos, ◌+ℤ◌, ◌-ℤ◌}
use lib.ListN.{get_or, take}
use lib.Signed.{mag}
use mir.Syntax.{w32}
use mir.Val.{to_z, of_z}
use Rattle.logic.specs.Formula.{Node, relation}
use Rattle.logic.specs.Quantity.{integers, related}
use Rattle.logic.specs.Bound.{one_if}
use Rattle.prepared_model.specs.promises.Rows.{choice_in, step_in, lane}
use Rattle.questions.specs.declared.operators.Operator.TheVariants.{Not, And, Do, Next, Gain}
use Rattle.questions.specs.Layout.{node_of}
use Rattle.questions.proofs.OperatorRead.{number_is, number_not, number_none}
use Rattle.prepared_question.specs.promises.Nodes.{reads_left}
use Rattle.evaluation.proofs.Integers.{fits32}
use Rattle.evaluation.proofs.LearnKnows.{depth_is}
use Rattle.last_step.specs.promises.Lanes.{Lanes, Laned}
use Rattle.last_step.specs.promises.Masks.{Part, Worded}
use Rattle.last_step.proofs.LaneMeaning.{state_here, left_small, right_small, state_word, deep_word, not_word, and_word, do_word, next_word, gain_word, no_word}
use Rattle.last_step.proofs.masks.mask_node.Goals as goal

deeper : {d x : ℕ} → d ≡ x → (d ≡ 0 → ⊥) → x ≡ 0 → ⊥
deeper e n z = n (e ∙ z)

-- A signed number handed on is the one that was read.
signed : {x y : ℤ} → mag x < 2 ^ 31 → x ≡ y → to_z w32 (of_z w32 x) ≡ y
signed {x} h e = fits32 x h ∙ e

pub told-requires : goal.told-requires
told-requires c = let S = c in
    (S.requires.before_last.ready.prepared, state_here S.requires.before_last)

pub returns-then-d-eq0 : goal.returns-then-d-eq0
returns-then-d-eq0 c = let S = c in
    state_word S.requires.before_last S.requires.masked.1 c.told.result (depth_is S.requires.before_last.ready S.args.i S.requires.masked.1 ∙ sym c.depth-d.ensures ∙ c.if-d-eq0.true) c.told.ensures

pub returns-then-d-h : goal.returns-then-d-h
returns-then-d-h c = let S = c in
    deep_word S.requires.before_last S.requires.masked.1 0 (omega (arith, depth_is S.requires.before_last.ready S.args.i S.requires.masked.1, c.depth-d.ensures, c.if-d-h.true))

pub mask_at-requires : goal.mask_at-requires
unfolding reads_left
mask_at-requires c = let S = c in
    let l = left_small S.requires.before_last S.requires.masked.0 S.requires.masked.1 S.requires.masked.3 (deeper c.depth-d.ensures c.if-d-eq0.false) 3 (sym c.operator.ensures ∙ number_is Not c.try_from.ensures c.in-Ok.is c.in-Not.is) refl in
    omega (arith, l, c.left.ensures)

pub part-requires : goal.part-requires
unfolding reads_left
part-requires c = let S = c in
    let l = left_small S.requires.before_last S.requires.masked.0 S.requires.masked.1 S.requires.masked.3 (deeper c.depth-d.ensures c.if-d-eq0.false) 4 (sym c.operator.ensures ∙ number_is And c.try_from.ensures c.in-Ok.is c.in-And.is) refl in
    omega (arith, l, c.left-in-And.ensures)

pub part-requires-in-And : goal.part-requires-in-And
part-requires-in-And c = let S = c in
    let l = right_small S.requires.before_last S.requires.masked.0 S.requires.masked.1 S.requires.masked.3 (deeper c.depth-d.ensures c.if-d-eq0.false) (sym c.operator.ensures ∙ number_is And c.try_from.ensures c.in-Ok.is c.in-And.is) in
    omega (arith, l, c.right.ensures)

pub done-requires : goal.done-requires
done-requires c = let S = c in
    (S.requires.before_last.ready.prepared, state_here S.requires.before_last)

pub mask_at-requires-in-Next : goal.mask_at-requires-in-Next
unfolding reads_left
mask_at-requires-in-Next c = let S = c in
    let l = left_small S.requires.before_last S.requires.masked.0 S.requires.masked.1 S.requires.masked.3 (deeper c.depth-d.ensures c.if-d-eq0.false) 6 (sym c.operator.ensures ∙ number_is Next c.try_from.ensures c.in-Ok.is c.in-Next.is) refl in
    omega (arith, l, c.left-in-Next.ensures)

pub gained-requires : goal.gained-requires
gained-requires c = let S = c in
    (S.requires.before_last.ready.prepared, state_here S.requires.before_last)

pub returns-in-Not : goal.returns-in-Not
returns-in-Not c = let S = c in
    let w = c.mask_at.ensures ∙ ap (λ z. get_or S.args.masks.now z 0) c.left.ensures in
    not_word S.requires.before_last S.requires.masked.0 S.requires.masked.1 S.requires.masked.3 (deeper c.depth-d.ensures c.if-d-eq0.false) c.flipped.result (sym c.operator.ensures ∙ number_is Not c.try_from.ensures c.in-Ok.is c.in-Not.is)
    (subst (λ x. Lanes (λ n. one_if (eqb (lane x n) 0)) c.flipped.result) w c.flipped.ensures)

pub returns-in-And : goal.returns-in-And
returns-in-And c = let S = c in
    let d = c.depth-d in
    let P : ℕ → ℕ → Type 0 = λ z y. Part S.args.q.now S.args.v.now S.args.masks.now d.result (S.args.at.h + 1 - d.result) z y in
    and_word S.requires.before_last S.requires.masked.0 S.requires.masked.1 S.requires.masked.3 (deeper c.depth-d.ensures c.if-d-eq0.false) c.met.result d.result (S.args.at.h + 1 - d.result) c.part.result c.part-in-And.result
    (sym c.operator.ensures ∙ number_is And c.try_from.ensures c.in-Ok.is c.in-And.is) d.ensures (omega (arith, c.if-d-h.false))
    (subst (λ z. P z c.part.result) c.left-in-And.ensures c.part.ensures)
    (subst (λ z. P z c.part-in-And.result) c.right.ensures c.part-in-And.ensures)
    c.met.ensures

pub returns-in-Do : goal.returns-in-Do
returns-in-Do c = let S = c in
    do_word S.requires.before_last S.requires.masked.0 S.requires.masked.1 S.requires.masked.3 (deeper c.depth-d.ensures c.if-d-eq0.false) c.done.result (sym c.operator.ensures ∙ number_is Do c.try_from.ensures c.in-Ok.is c.in-Do.is)
    (subst (λ x. Laned S.args.m.now S.args.at.s (λ a o. one_if (eqb (choice_in S.args.m.now S.args.at.s a) x)) c.done.result) c.left-in-Do.ensures c.done.ensures)

pub returns-in-Next : goal.returns-in-Next
returns-in-Next c = let S = c in
    subst (Worded S.args.m.now S.args.q.now S.args.at.start S.args.cone.now (take S.args.at.h S.args.trail.now) S.args.at.s (get_or S.args.cone.now S.args.i 0))
    (sym (c.mask_at-in-Next.ensures ∙ ap (λ z. get_or S.args.masks.now z 0) c.left-in-Next.ensures))
    (next_word S.requires.before_last S.requires.masked.0 S.requires.masked.1 S.requires.masked.3 (deeper c.depth-d.ensures c.if-d-eq0.false) (sym c.operator.ensures ∙ number_is Next c.try_from.ensures c.in-Ok.is c.in-Next.is))

pub returns-in-Gain : goal.returns-in-Gain
returns-in-Gain c =
    let node : Node = node_of c.args.q.now (get_or c.args.cone.now c.args.i 0) in
    let Gains : (kind : ℕ) (after before bound : ℤ) → ℕ → Type 0 = λ kind after before bound r. Laned c.args.m.now c.args.at.s (λ a o. one_if (related integers (relation kind) ((after -ℤ before) +ℤ (step_in c.args.m.now c.args.at.s a o).reward) bound)) r in
    let gain_lanes : (k kind : ℕ) (after before bound : ℤ) (r : ℕ) → kind ≡ node.right → after ≡ get_or c.args.gains.now c.args.at.h (pos 0)
    → before ≡ get_or c.args.gains.now k (pos 0) → bound ≡ node.p → Gains kind after before bound r
    → Gains node.right (get_or c.args.gains.now c.args.at.h (pos 0)) (get_or c.args.gains.now k (pos 0)) node.p r = λ k kind after before bound r e f g h R. let x = get_or c.args.gains.now c.args.at.h (pos 0) in
    let y = get_or c.args.gains.now k (pos 0) in
    subst (λ z. Gains node.right x y z r) h
    (subst (λ z. Gains node.right x z bound r) g (subst (λ z. Gains node.right z before bound r) f (subst (λ z. Gains z after before bound r) e R))) in
    let S = c in
    let d = c.depth-d in
    gain_word S.requires.before_last S.requires.masked.0 S.requires.masked.1 S.requires.masked.3 (deeper c.depth-d.ensures c.if-d-eq0.false) c.gained.result d.result (S.args.at.h + 1 - d.result)
    (sym c.operator.ensures ∙ number_is Gain c.try_from.ensures c.in-Ok.is c.in-Gain.is) d.ensures (omega (arith, c.if-d-h.false))
    (gain_lanes (S.args.at.h + 1 - d.result) _ _ _ _ c.gained.result c.right-in-Gain.ensures (signed c.gain_at.type_inv c.gain_at.ensures)
    (signed c.gain_at-in-Gain.type_inv c.gain_at-in-Gain.ensures) (signed c.bound.type_inv c.bound.ensures) c.gained.ensures)

pub returns-in_default : goal.returns-in_default
returns-in_default c = let S = c in
    let no = number_none c.try_from.ensures c.in_default.is in
    let e = c.operator.ensures in
    no_word S.requires.before_last S.requires.masked.0 S.requires.masked.1 S.requires.masked.3 (deeper c.depth-d.ensures c.if-d-eq0.false) 0
    (λ k. no Not (e ∙ k)) (λ k. no And (e ∙ k)) (λ k. no Do (e ∙ k)) (λ k. no Next (e ∙ k)) (λ k. no Gain (e ∙ k))

pub returns-in_default-operator : goal.returns-in_default-operator
returns-in_default-operator c = let S = c in
    let n = c.in_default-operator in
    let r = c.try_from.ensures in
    let is = c.in-Ok.is in
    let e = c.operator.ensures in
    no_word S.requires.before_last S.requires.masked.0 S.requires.masked.1 S.requires.masked.3 (deeper c.depth-d.ensures c.if-d-eq0.false) 0
    (λ k. number_not Not r is n.not-Not (e ∙ k)) (λ k. number_not And r is n.not-And (e ∙ k)) (λ k. number_not Do r is n.not-Do (e ∙ k)) (λ k. number_not Next r is n.not-Next (e ∙ k)) (λ k. number_not Gain r is n.not-Gain (e ∙ k))
