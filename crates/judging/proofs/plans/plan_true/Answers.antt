-- A node is true where its search says so.
use Rattle.judging.proofs.SearchHanded.{asked_equal, asked_other, placed_truth}
use Rattle.judging.proofs.plans.plan_true.Goals as goal

pub first-r-requires : goal.first-r-requires
first-r-requires c = let S = c in record { asked = S.requires.asked; j_value = asked_equal S.args.q.now S.args.j c.asks_equal.ensures c.if-asks_equal.true }

pub returns-then-asks_equal : goal.returns-then-asks_equal
returns-then-asks_equal c = let S = c in
    let P = S.requires.asked in record { value = placed_truth P.0.given P.1 (asked_equal S.args.q.now S.args.j c.asks_equal.ensures c.if-asks_equal.true) c.first-r.ensures; frame = S.requires.j_value.2 }

pub plan_led-requires : goal.plan_led-requires
plan_led-requires c = let S = c in
    let P = S.requires.asked in
    let n = asked_other S.args.q.now S.args.j c.asks_equal.ensures c.if-asks_equal.false in record { given = (P.0.given, P.1, S.requires.j_value.0 n); fact = (n, S.requires.j_value.1, S.requires.j_value.2) }

pub returns : goal.returns
returns c = record { value = c.plan_led.ensures.value; frame = c.plan_led.ensures.frame }
