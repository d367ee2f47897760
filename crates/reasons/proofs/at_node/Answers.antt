-- By the node's operator and its relation.
use mathlib.Core.Path.{◌≡◌, refl, sym, ap, ◌∙◌}
use mathlib.Core.Bool.{true}
use Rattle.questions.specs.Layout.{node_of}
use Rattle.questions.specs.promises.Formed.{sets_bound}
use Rattle.judging.specs.promises.Decided.{Posed}
use Rattle.judging.proofs.SearchHanded.{posed_at, asked_equal, asked_other}
use Rattle.reasons.proofs.PlainRoots.{tells_plain}
use borrow.Author.Tests.{eq-eqb, ne_eqb}
use Rattle.reasons.proofs.at_node.Goals as goal

pub by_list-requires : goal.by_list-requires
by_list-requires c =
    let posed : sets_bound (node_of c.args.q.now c.args.j).operator ≡ true → Posed c.args.m.now c.args.q.now c.args.truth.now c.args.j c.args.s = λ o. posed_at c.requires.asked.1 o c.requires.asked.2 c.requires.supplied.0 in
    let tested : c.sets_bound.result ≡ sets_bound (node_of c.args.q.now c.args.j).operator = c.sets_bound.ensures ∙ ap sets_bound c.operator.ensures in
    let S = c in
    let o = sym tested ∙ c.if-sets_bound.true in record { asked = (S.requires.asked.0, posed o, asked_equal S.args.q.now S.args.j c.asks_equal.ensures c.if-asks_equal.true); in_bounds = (S.requires.supplied.2, S.requires.supplied.3) }

pub by_leader-requires : goal.by_leader-requires
by_leader-requires c =
    let posed : sets_bound (node_of c.args.q.now c.args.j).operator ≡ true → Posed c.args.m.now c.args.q.now c.args.truth.now c.args.j c.args.s = λ o. posed_at c.requires.asked.1 o c.requires.asked.2 c.requires.supplied.0 in
    let tested : c.sets_bound.result ≡ sets_bound (node_of c.args.q.now c.args.j).operator = c.sets_bound.ensures ∙ ap sets_bound c.operator.ensures in
    let S = c in
    let o = sym tested ∙ c.if-sets_bound.true in record { asked = (S.requires.asked.0, posed o); fact = (asked_other S.args.q.now S.args.j c.asks_equal.ensures c.if-asks_equal.false, S.requires.supplied.2) }

pub returns-then-sets_bound : goal.returns-then-sets_bound
returns-then-sets_bound c = let S = c in c.by_leader.ensures S.args.further.now

pub plain_truth-x-requires : goal.plain_truth-x-requires
plain_truth-x-requires c =
    let tested : c.sets_bound.result ≡ sets_bound (node_of c.args.q.now c.args.j).operator = c.sets_bound.ensures ∙ ap sets_bound c.operator.ensures in
    let S = c in
    let P = S.requires.asked in record { given = (P.0.given, P.1, P.2); supplied = (S.requires.supplied.0, sym tested ∙ c.if-sets_bound.false) }

pub returns-then-x-eq1 : goal.returns-then-x-eq1
returns-then-x-eq1 c =
    let tested : c.sets_bound.result ≡ sets_bound (node_of c.args.q.now c.args.j).operator = c.sets_bound.ensures ∙ ap sets_bound c.operator.ensures in
    let S = c in
    let o = sym tested ∙ c.if-sets_bound.false in
    tells_plain S.requires.asked.0.given S.args.j S.args.s S.requires.asked.1 o S.args.choices.now S.args.further.now (c.plain_truth-x.ensures S.requires.supplied.1) (eq-eqb _ 1 c.if-x-eq1.true) refl

pub returns : goal.returns
returns c =
    let tested : c.sets_bound.result ≡ sets_bound (node_of c.args.q.now c.args.j).operator = c.sets_bound.ensures ∙ ap sets_bound c.operator.ensures in
    let S = c in
    let o = sym tested ∙ c.if-sets_bound.false in
    tells_plain S.requires.asked.0.given S.args.j S.args.s S.requires.asked.1 o S.args.choices.now S.args.further.now (c.plain_truth-x.ensures S.requires.supplied.1) (ne_eqb _ 1 c.if-x-eq1.false) refl
