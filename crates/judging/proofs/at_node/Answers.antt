use native.Mathlib.Omega.{arith}
use mathlib.Core.Path.{◌≡◌, refl, sym, ap, ◌∙◌}
use mathlib.Core.Bool.{true}
use mathlib.Core.List.{[]}
use Rattle.logic.specs.Formula.{sat}
use Rattle.prepared_model.specs.promises.Rows.{model_in}
use Rattle.questions.specs.Layout.{node_of}
use Rattle.questions.specs.promises.Formed.{sets_bound}
use Rattle.prepared_question.specs.promises.Nodes.{formula}
use Rattle.bounds.specs.promises.Bounded.{Bounded}
use Rattle.judging.specs.promises.Decided.{Posed}
use Rattle.judging.proofs.SearchDecides.{other_verdict}
use Rattle.judging.proofs.SearchHanded.{posed_at, bounded_at}
use Rattle.judging.proofs.VerdictShown.{announces_truth, announces_no, no_verdict, place_few, led_most}
use Rattle.judging.proofs.at_node.Goals as goal

pub decide-r-requires : goal.decide-r-requires
decide-r-requires c =
    let posed : sets_bound (node_of c.args.q.now c.args.j).operator ≡ true → Posed c.args.m.now c.args.q.now c.args.truth.now c.args.j c.args.s = λ o. posed_at c.requires.asked.1 o c.requires.asked.2 c.requires.supplied.0 in
    let tested : c.sets_bound.result ≡ sets_bound (node_of c.args.q.now c.args.j).operator = c.sets_bound.ensures ∙ ap sets_bound c.operator.ensures in
    let S = c in record { asked = (S.requires.asked.0, posed (sym tested ∙ c.if-sets_bound.true)); in_bounds = (omega arith, refl) }

pub show-requires : goal.show-requires
show-requires c =
    let posed : sets_bound (node_of c.args.q.now c.args.j).operator ≡ true → Posed c.args.m.now c.args.q.now c.args.truth.now c.args.j c.args.s = λ o. posed_at c.requires.asked.1 o c.requires.asked.2 c.requires.supplied.0 in
    let bounded : sets_bound (node_of c.args.q.now c.args.j).operator ≡ true → Bounded c.args.m.now c.args.q.now c.args.j = λ o. bounded_at c.requires.asked.0.given (posed o) in
    let tested : c.sets_bound.result ≡ sets_bound (node_of c.args.q.now c.args.j).operator = c.sets_bound.ensures ∙ ap sets_bound c.operator.ensures in
    let S = c in record { asked = (S.requires.asked.0, bounded (sym tested ∙ c.if-sets_bound.true), c.decide-r.ensures, c.if-r.true); s_bound = (S.requires.asked.2, S.requires.supplied.2) }

pub deny-requires : goal.deny-requires
deny-requires c =
    let posed : sets_bound (node_of c.args.q.now c.args.j).operator ≡ true → Posed c.args.m.now c.args.q.now c.args.truth.now c.args.j c.args.s = λ o. posed_at c.requires.asked.1 o c.requires.asked.2 c.requires.supplied.0 in
    let bounded : sets_bound (node_of c.args.q.now c.args.j).operator ≡ true → Bounded c.args.m.now c.args.q.now c.args.j = λ o. bounded_at c.requires.asked.0.given (posed o) in
    let tested : c.sets_bound.result ≡ sets_bound (node_of c.args.q.now c.args.j).operator = c.sets_bound.ensures ∙ ap sets_bound c.operator.ensures in
    let S = c in
    let b = bounded (sym tested ∙ c.if-sets_bound.true) in
    let d = c.decide-r.ensures in record { bounded = (b, place_few S.requires.asked.0 b S.args.s S.requires.asked.2 d); raised_bound = led_most S.requires.asked.0 b S.args.s S.requires.asked.2 d }

pub returns-then-sets_bound : goal.returns-then-sets_bound
returns-then-sets_bound c =
    let posed : sets_bound (node_of c.args.q.now c.args.j).operator ≡ true → Posed c.args.m.now c.args.q.now c.args.truth.now c.args.j c.args.s = λ o. posed_at c.requires.asked.1 o c.requires.asked.2 c.requires.supplied.0 in
    let bounded : sets_bound (node_of c.args.q.now c.args.j).operator ≡ true → Bounded c.args.m.now c.args.q.now c.args.j = λ o. bounded_at c.requires.asked.0.given (posed o) in
    let tested : c.sets_bound.result ≡ sets_bound (node_of c.args.q.now c.args.j).operator = c.sets_bound.ensures ∙ ap sets_bound c.operator.ensures in
    let S = c in
    let o = sym tested ∙ c.if-sets_bound.true in
    announces_no S.args.choices.now (no_verdict S.requires.asked.0 (bounded o) S.args.s S.requires.asked.2 c.decide-r.ensures c.if-r.false) c.deny.ensures

pub plain_truth-x-requires : goal.plain_truth-x-requires
plain_truth-x-requires c =
    let tested : c.sets_bound.result ≡ sets_bound (node_of c.args.q.now c.args.j).operator = c.sets_bound.ensures ∙ ap sets_bound c.operator.ensures in
    let S = c in
    let P = S.requires.asked in record { given = (P.0.given, P.1, P.2); supplied = (S.requires.supplied.0, sym tested ∙ c.if-sets_bound.false) }

pub returns : goal.returns
returns c =
    let tested : c.sets_bound.result ≡ sets_bound (node_of c.args.q.now c.args.j).operator = c.sets_bound.ensures ∙ ap sets_bound c.operator.ensures in
    let S = c in
    let P = S.requires.asked in
    announces_truth (sat (model_in S.args.m.now) (formula S.args.q.now S.args.j) S.args.s []) S.args.choices.now
    (other_verdict P.0.given S.args.j S.args.s P.1 (sym tested ∙ c.if-sets_bound.false)) (c.plain_truth-x.ensures S.requires.supplied.1) c.plain.ensures
