-- A model and a question that are accepted, both prepared: the question is read for the prepared model's numbers, the limits are those of the two, and
-- within them judging is given what it asks for.
use native.Mathlib.Omega.{arith}
use Prim.Native.Nat.{ℕ}
use mathlib.Core.Path.{◌≡◌, sym, ap, ◌∙◌}
use mathlib.Core.List.{List}
use Rattle.logic.specs.promises.Refusal.{refusal}
use Rattle.logic.specs.Limits.{limits}
use Rattle.blocks.specs.Bytes.{Bytes, byte}
use Rattle.models.specs.Layout.{state_count, action_count, prop_count, model_of}
use Rattle.questions.specs.Layout.{question_of}
use Rattle.questions.specs.Grounds.{read_question}
use Rattle.prepared_model.specs.promises.Rows.{model_in, Prepares}
use Rattle.prepared_question.specs.promises.Shared.{Shared}
use Rattle.prepared_question.proofs.SameVerdict.{same_limits}
use Rattle.judging.specs.promises.Asked.{Served}

module _ (model q : Bytes) {a : List ℕ} (p : Prepares model a) where
  pub asked_prepared : refusal (read_question (byte model 2) (byte model 3) (byte model 4) q) ≡ 0 → refusal (read_question (state_count a) (action_count a) (prop_count a) q) ≡ 0
  asked_prepared e = rw (p.head 2 (omega arith), p.head 3 (omega arith), p.head 4 (omega arith)) e

  module _ {q' : List ℕ} (h : Shared (state_count a) (action_count a) (prop_count a) q q') where
    pub limits_prepared : refusal (limits (model_in a) (question_of q').nodes) ≡ refusal (limits (model_of model) (question_of q).nodes)
    unfolding question_of
    limits_prepared = sym (ap refusal (same_limits h (model_in a))) ∙ ap (λ M. refusal (limits M (question_of q).nodes)) p.same

    pub served : refusal (limits (model_of model) (question_of q).nodes) ≡ 0 → Served a q'
    unfolding question_of
    served e = record { prepared = p.prepared; nodes = h.nodes; within = limits_prepared ∙ e }
