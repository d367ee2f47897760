-- The root in the start state.
use Prim.Native.Nat.{ℕ, ◌-◌}
use native.Mathlib.Omega.{arith}
use mathlib.Core.Path.{ap, subst}
use Rattle.prepared_model.specs.promises.Rows.{model_in}
use Rattle.questions.specs.Layout.{start_of}
use Rattle.prepared_question.specs.promises.Nodes.{formula}
use Rattle.judging.proofs.VerdictShown.{asked_at, root_judged}
use Rattle.reasons.specs.promises.Told.{TellsOf}
use Rattle.reasons.proofs.explained.Goals as goal

pub root_truth-truth-requires : goal.root_truth-truth-requires
root_truth-truth-requires c = asked_at c.requires.served.0 c.requires.served.1

pub overflow_sub-j : goal.overflow_sub-j
overflow_sub-j c = omega (arith, c.requires.served.0.nodes.formed.some_node, c.count-j.ensures)

pub at_node-requires : goal.at_node-requires
at_node-requires c = let S = c in
    let a = asked_at S.requires.served.0 S.requires.served.1 in
    let r = root_judged a.given c.root_truth-truth.ensures (ap (λ (n : ℕ). n - 1) c.count-j.ensures) c.start.ensures in record { asked = (a, r.0, r.1); supplied = (r.2, r.3, S.requires.in_bounds.0, S.requires.in_bounds.1) }

pub returns : goal.returns
returns c = let S = c in
    let A = S.args in
    let x = c.at_node in
    let after = x.new.choices in
    let behind = x.new.further in
    subst (λ (j : ℕ). TellsOf (model_in A.m.now) (start_of A.q.now) (formula A.q.now j) x.result A.choices.now after A.further.now behind) (ap (λ (n : ℕ). n - 1) c.count-j.ensures)
    (subst (λ (s : ℕ). TellsOf (model_in A.m.now) s (formula A.q.now (c.count-j.result - 1)) x.result A.choices.now after A.further.now behind) c.start.ensures x.ensures)
