-- A ground of the state stands; past it the question is accepted, and its root's operator decides.
use mathlib.Core.Path.{◌≡◌, sym, ap, ◌∙◌}
use Rattle.std.proofs.lemmas.Result.{err_from_is_err_and}
use Rattle.refusals.proofs.Named.{number_some}
use Rattle.blocks.specs.Bytes.{Bytes}
use Rattle.questions.specs.promises.Formed.{sets_bound}
use Rattle.plan_judge.specs.View.{view}
use Rattle.plan_judge.specs.promises.State.{held_both, held_goal}
use Rattle.plan_judge.proofs.StateGrounds.{bind_refused, both, root_node, no_plan, a_plan}
use Rattle.plan_judge.proofs.plan_asked.Goals as goal

of_block : {q b : Bytes} → q ≡ b → sets_bound (root_node b).operator ≡ sets_bound (root_node q).operator
of_block e = ap (λ q. sets_bound (root_node q).operator) (sym e)

pub returns-in_err-question_held : goal.returns-in_err-question_held
unfolding held_goal
returns-in_err-question_held c =
    let p = err_from_is_err_and c.from_residual.result c.from_residual.ensures.1 in
    rw (p.1, p.2) (bind_refused (held_both (view c.args.d)) _ _ c.in_err-question_held.ensures (number_some _))

pub returns-then-not-root_sets_bound : goal.returns-then-not-root_sets_bound
returns-then-not-root_sets_bound c = let d = c.args.d in
    no_plan d (both d (sym c.in_ok-question_held.ensures)) (of_block c.question_bytes.ensures ∙ sym c.root_sets_bound.ensures ∙ c.if-not-root_sets_bound.true)

pub returns : goal.returns
returns c = let d = c.args.d in
    a_plan d (both d (sym c.in_ok-question_held.ensures)) (of_block c.question_bytes.ensures ∙ sym c.root_sets_bound.ensures ∙ c.if-not-root_sets_bound.false)
