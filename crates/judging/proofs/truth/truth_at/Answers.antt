-- A node that sets a bound is decided by its search, any other by its children.
use mathlib.Core.Path.{◌≡◌, sym, ap, ◌∙◌}
use mathlib.Core.Logic.{⊎_elim}
use Rattle.logic.specs.Bound.{one_if}
use Rattle.questions.specs.Layout.{node_of}
use Rattle.questions.specs.promises.Formed.{sets_bound}
use Rattle.questions.proofs.SetsBound.{sets_which}
use Rattle.judging.proofs.SearchHanded.{posed_at}
use Rattle.judging.proofs.truth.truth_at.Goals as goal

pub plan_true-requires : goal.plan_true-requires
plan_true-requires c =
    let tested : c.sets_bound.result ≡ sets_bound (node_of c.args.q.now c.args.j).operator = c.sets_bound.ensures ∙ ap sets_bound c.operator.ensures in
    let S = c in
    let P = S.requires.asked in
    let N = S.requires.supplied in
    let o = sym tested ∙ c.if-sets_bound.true in record { asked = (P.0, posed_at P.1 o P.2 N.0); j_value = ((λ n. ⊎_elim (λ e. e) (λ e. absurd (n (N.3 e))) (sets_which (node_of S.args.q.now S.args.j).operator o)), N.1, N.2) }

pub returns-then-sets_bound : goal.returns-then-sets_bound
returns-then-sets_bound c = record { value = (λ d. c.bit.ensures ∙ ap one_if c.plan_true.ensures.value); frame = c.plan_true.ensures.frame }

pub plain_truth-requires : goal.plain_truth-requires
plain_truth-requires c =
    let tested : c.sets_bound.result ≡ sets_bound (node_of c.args.q.now c.args.j).operator = c.sets_bound.ensures ∙ ap sets_bound c.operator.ensures in
    let S = c in
    let P = S.requires.asked in record { given = (P.0.given, P.1, P.2); supplied = (S.requires.supplied.0, sym tested ∙ c.if-sets_bound.false) }
