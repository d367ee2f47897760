-- A value put where it becomes known.
use Prim.Native.Nat.{ℕ, ◌+◌, ◌*◌, ◌-◌, ◌≤◌}
use mathlib.Core.Path.{◌≡◌, sym, ap, ◌∙◌}
use lib.ListN.{set}
use Rattle.prepared_question.specs.promises.Nodes.{depth_in}
use Rattle.evaluation.specs.promises.Learnt.{value_at, learn_node}
use Rattle.evaluation.proofs.LearntInOrder.{state_value, path_value, learn_now, learn_later}
use Rattle.evaluation.proofs.learn_node.Goals as goal

pub returns-then-d-h : goal.returns-then-d-h
returns-then-d-h c = let S = c in
    let d = c.depth-d in
    sym (learn_later S.args.q.now S.args.truth.now S.args.trail.now S.args.gains.now S.args.h S.args.s S.args.j d.result S.args.v.now d.ensures c.if-d-h.true)

pub returns-then-d-eq0 : goal.returns-then-d-eq0
returns-then-d-eq0 c =
    let now_known : (d x : ℕ) → d ≡ depth_in c.args.q.now c.args.j → d ≤ c.args.h
    → x ≡ value_at c.args.q.now c.args.truth.now c.args.trail.now c.args.gains.now c.args.h c.args.s d c.args.j c.args.v.now
    → set c.args.v.now (7 * c.args.j + (c.args.h - d)) x ≡ learn_node c.args.q.now c.args.truth.now c.args.trail.now c.args.gains.now c.args.h c.args.s c.args.j c.args.v.now = λ d x e l g. ap (set c.args.v.now (7 * c.args.j + (c.args.h - d))) g
    ∙ sym (learn_now c.args.q.now c.args.truth.now c.args.trail.now c.args.gains.now c.args.h c.args.s c.args.j d c.args.v.now e l) in
    let S = c in
    let d = c.depth-d in
    now_known d.result _ d.ensures c.if-d-h.false (sym (state_value S.args.q.now S.args.truth.now S.args.trail.now S.args.gains.now S.args.h S.args.s d.result S.args.j S.args.v.now c.if-d-eq0.true))

pub returns : goal.returns
returns c =
    let now_known : (d x : ℕ) → d ≡ depth_in c.args.q.now c.args.j → d ≤ c.args.h
    → x ≡ value_at c.args.q.now c.args.truth.now c.args.trail.now c.args.gains.now c.args.h c.args.s d c.args.j c.args.v.now
    → set c.args.v.now (7 * c.args.j + (c.args.h - d)) x ≡ learn_node c.args.q.now c.args.truth.now c.args.trail.now c.args.gains.now c.args.h c.args.s c.args.j c.args.v.now = λ d x e l g. ap (set c.args.v.now (7 * c.args.j + (c.args.h - d))) g
    ∙ sym (learn_now c.args.q.now c.args.truth.now c.args.trail.now c.args.gains.now c.args.h c.args.s c.args.j d c.args.v.now e l) in
    let S = c in
    let d = c.depth-d in
    now_known d.result _ d.ensures c.if-d-h.false (c.value_by.ensures ∙ sym (path_value S.args.q.now S.args.truth.now S.args.trail.now S.args.gains.now S.args.h S.args.s d.result S.args.j S.args.v.now c.if-d-eq0.false))
