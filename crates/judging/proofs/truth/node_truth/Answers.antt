-- One table for all states, or each state by itself.
use mathlib.Core.Path.{sym, ◌∙◌}
use borrow.Author.Tests.{not-true}
use Rattle.judging.proofs.SearchHanded.{asked_equal, asked_other}
use Rattle.judging.proofs.TruthByOperator.{row_whole}
use Rattle.judging.proofs.truth.node_truth.Goals as goal
use Rattle.judging.proofs.truth.node_truth.Goals.{then-operator+else-not-asks_equal, else-operator}

pub by_table-requires : goal.by_table-requires
by_table-requires c = let S = c in
    let P = S.requires.asked in
    (P.0.given, P.1, (sym c.operator.ensures ∙ c.if-operator.true, asked_other S.args.q.now S.args.j c.asks_equal.ensures (not-true _ c.if-not-asks_equal.true-raw)), S.requires.rows.size)

pub returns-then-not-asks_equal : goal.returns-then-not-asks_equal
returns-then-not-asks_equal c = row_whole c.requires.rows c.by_table.ensures

pub by_state-requires : goal.by_state-requires
by_state-requires c = let S = c in
    let P = S.requires.asked in record {
      asked = (
        P.0,
        P.1,
        λ o. elim c.if-operator.branch [
          | then-operator+else-not-asks_equal w ↦ asked_equal S.args.q.now S.args.j w.asks_equal.ensures w.if-not-asks_equal.false
          | else-operator w ↦ absurd (w.if-operator.false (c.operator.ensures ∙ o))
        ],
      );
      rows = S.requires.rows;
    }
