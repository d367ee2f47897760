-- The numbers in the model's head.
use mathlib.Core.Path.{sym, ap, ap₂, ◌∙◌}
use Rattle.logic.specs.promises.Refusal.{refusal}
use Rattle.blocks.specs.Bytes.{byte}
use Rattle.questions.specs.Grounds.{read_question}
use Rattle.explaining.proofs.PreparedInput.{question_by_head}
use Rattle.explaining.proofs.accept_question.Goals as goal

pub returns : goal.returns
returns c = let A = c.args in
    let q = A.q.now in
    let m = A.model.now in
    c.accept_question.ensures
    ∙ ap₂ (λ s a. refusal (read_question s a c.prop_count-props.result q)) c.state_count-states.ensures.value c.action_count-actions.ensures.value
    ∙ ap (λ n. refusal (read_question (byte m 2) (byte m 3) n q)) c.prop_count-props.ensures.value
    ∙ sym (ap refusal (question_by_head m q))
