-- A no to a node that sets a bound: for "equal" no lamp, else that of the best total.
use native.Mathlib.Omega.{arith}
use mathlib.Core.Path.{sym, ap, ◌∙◌}
use Rattle.std.specs.Prelude.{Some}
use Rattle.lamp.specs.promises.Codes.{optional_code}
use Rattle.judging.specs.declared.Verdict.TheVariants.{No}
use Rattle.judging.proofs.SearchHanded.{asked_equal, asked_other}
use Rattle.judging.proofs.VerdictShown.{no_lamp_equal, no_lamp_other}
use Rattle.judging.proofs.deny.Goals as goal

pub overflow_cast-count : goal.overflow_cast-count
overflow_cast-count c = record { fits = omega (arith, c.requires.bounded.1) }

pub returns-then-asks_equal : goal.returns-then-asks_equal
unfolding optional_code
returns-then-asks_equal c = let S = c in
    let e = asked_equal S.args.q.now S.args.j c.asks_equal.ensures c.if-asks_equal.true in
    ap (λ o. No (record { count = S.args.r.place; lamp = optional_code o })) (sym (no_lamp_equal S.args.m.now S.args.q.now S.args.j S.args.r.raised e))

pub lamp_of-best-requires : goal.lamp_of-best-requires
lamp_of-best-requires c = let S = c in record { bounded = S.requires.bounded.0; x_bound = S.requires.raised_bound (asked_other S.args.q.now S.args.j c.asks_equal.ensures c.if-asks_equal.false) }

pub returns : goal.returns
unfolding optional_code
returns c = let S = c in
    let e = asked_other S.args.q.now S.args.j c.asks_equal.ensures c.if-asks_equal.false in
    ap (λ l. No (record { count = S.args.r.place; lamp = Some l })) c.lamp_of-best.ensures
    ∙ ap (λ o. No (record { count = S.args.r.place; lamp = optional_code o })) (sym (no_lamp_other S.args.m.now S.args.q.now S.args.j S.args.r.raised e))
