-- By the relation and the operator, one search or another.
use mathlib.Core.Path.{◌≡◌, sym, ap, subst, ◌∙◌}
use lib.ListN.{length, length-replicate}
use Prim.Native.Nat.{ℕ}
use mathlib.Core.List.{List}
use Rattle.judging.specs.promises.Decided.{Led}
use Rattle.judging.proofs.NodeBounds.{either}
use Rattle.judging.proofs.SearchHanded.{bounded_at, asked_equal, asked_other}
use borrow.Author.Rules.{rules}
use Rattle.judging.proofs.plans.decide.Goals as goal

clauses_asked_j_value : {A B : Type 0} → A × B → record { asked : A; j_value : B }
clauses_asked_j_value p = record { asked = p.0; j_value = p.1 }

pub first-requires : goal.first-requires
first-requires c = let S = c in
    let e = asked_equal S.args.q.now S.args.j c.asks_equal.ensures c.if-asks_equal.true in clauses_asked_j_value (search rules)

pub returns-then-asks_equal : goal.returns-then-asks_equal
returns-then-asks_equal c = let S = c in
    let e = asked_equal S.args.q.now S.args.j c.asks_equal.ensures c.if-asks_equal.true in
    record { led = λ n. absurd (n e); placed = λ f. c.first.ensures }

pub gain_led-requires : goal.gain_led-requires
gain_led-requires c =
    let places_size : length c.args.places.now ≡ 224 = ap length c.requires.in_bounds.1 ∙ length-replicate {A = ℕ} 224 0 in
    let S = c in
    let P = S.requires.asked in
    let n = asked_other S.args.q.now S.args.j c.asks_equal.ensures c.if-asks_equal.false in record { bounded = (bounded_at P.0.given P.1, sym c.operator.ensures ∙ c.if-operator.true, P.1.state); fact = (n, places_size) }

pub returns-then-operator : goal.returns-then-operator
returns-then-operator c = let S = c in
    let n = asked_other S.args.q.now S.args.j c.asks_equal.ensures c.if-asks_equal.false in
    record { led = λ f. c.gain_led.ensures S.args.scratch.now; placed = λ e. absurd (n e) }

pub led-requires : goal.led-requires
led-requires c = let S = c in
    let P = S.requires.asked in
    let n = asked_other S.args.q.now S.args.j c.asks_equal.ensures c.if-asks_equal.false in
    let o = either (bounded_at P.0.given P.1) (λ o. o) (λ o. absurd (c.if-operator.false (c.operator.ensures ∙ o))) in record { given = (P.0.given, P.1, o); fact = (n, S.requires.in_bounds.0) }

pub returns : goal.returns
returns c = let S = c in
    let n = asked_other S.args.q.now S.args.j c.asks_equal.ensures c.if-asks_equal.false in
    record {
      led = λ f. subst (λ (p : List ℕ). Led S.args.m.now S.args.q.now S.args.j S.args.s c.led.new.scratch p c.led.result) (sym S.requires.in_bounds.1) c.led.ensures;
      placed = λ e. absurd (n e);
    }
