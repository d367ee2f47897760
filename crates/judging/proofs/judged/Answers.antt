use Prim.Native.Nat.{ℕ, ◌-◌}
use native.Mathlib.Omega.{arith}
use mathlib.Core.Path.{ap}
use Rattle.judging.proofs.VerdictShown.{asked_at, root_judged, root_announces}
use Rattle.judging.proofs.judged.Goals as goal

pub root_truth-truth-requires : goal.root_truth-truth-requires
root_truth-truth-requires c = asked_at c.requires.served.0 c.requires.served.1

pub overflow_sub-j : goal.overflow_sub-j
overflow_sub-j c = omega (arith, c.requires.served.0.nodes.formed.some_node, c.count-j.ensures)

pub at_node-requires : goal.at_node-requires
at_node-requires c = let S = c in
    let a = asked_at S.requires.served.0 S.requires.served.1 in
    let r = root_judged a.given c.root_truth-truth.ensures (ap (λ (n : ℕ). n - 1) c.count-j.ensures) c.start.ensures in record { asked = (a, r.0, r.1); supplied = (r.2, r.3, S.requires.in_bounds) }

pub returns : goal.returns
returns c = let R = c in
    let S = c in
    root_announces S.args.m.now S.args.q.now S.args.choices.now R.at_node.new.choices
    (ap (λ (n : ℕ). n - 1) c.count-j.ensures) c.start.ensures R.at_node.ensures
