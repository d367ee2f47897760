-- All that a needed pair turns on is needed and stands before it.
use native.Mathlib.Omega.{arith}
use Rattle.judging.proofs.TruthByOperator.{supplied}
use Rattle.judging.proofs.truth.truth_if.Goals as goal

pub bounds-need-k : goal.bounds-need-k
bounds-need-k c = let P = c.requires.asked in omega (arith, P.1, P.0.given.nodes.formed.few_nodes)

pub returns-then-need-k-ne1 : goal.returns-then-need-k-ne1
returns-then-need-k-ne1 c = record { value = (λ e. absurd (c.if-need-k-ne1.true e)); frame = c.requires.needs.3 }

pub overflow_cast-k : goal.overflow_cast-k
overflow_cast-k c = omega (arith, c.requires.asked.0.given.nodes.formed.few_nodes)

pub truth_at-requires : goal.truth_at-requires
truth_at-requires c = let S = c in
    let P = S.requires.asked in
    let N = S.requires.needs in
    let e = c.if-need-k-ne1.false in record { asked = (P.0, omega arith, (N.0.inside S.args.k e).1); supplied = (supplied P.0.given N.0 S.args.k N.1 S.args.k (omega arith) P.1 e, N.2, N.3, N.4) }

pub returns : goal.returns
returns c = record { value = (λ e. c.truth_at.ensures.value); frame = c.truth_at.ensures.frame }
