-- An accepted model and question, prepared: the limits, the verdict and the reason of what is prepared are those of the input.
use Prim.Native.Nat.{ℕ}
use mathlib.Core.Path.{◌≡◌, sym, ap, ap₂, subst, ◌∙◌}
use mathlib.Core.List.{List}
use Rattle.logic.specs.Checked.{Checked, ok, refused, ◌>>=◌, ◌>>◌}
use Rattle.logic.specs.promises.Refusal.{refusal}
use Rattle.logic.specs.Model.{Model}
use Rattle.logic.specs.Limits.{limits}
use Rattle.logic.specs.Verdict.{verdict}
use Rattle.logic.specs.Reason.{reason}
use Rattle.logic.proofs.Tests.{length_tabulate}
use Rattle.blocks.specs.Bytes.{Bytes, byte}
use Rattle.models.specs.Layout.{state_count, action_count, prop_count, model_of}
use Rattle.models.specs.Grounds.{read_model}
use Rattle.models.proofs.GroundsPassed.{passed_all, read_passed}
use Rattle.models.proofs.ModelOfBytes.{states_held}
use Rattle.questions.specs.Layout.{Question, start_of, question_of}
use Rattle.questions.specs.Grounds.{read_question}
use Rattle.questions.proofs.AcceptedFacts.{accepted}
use Rattle.prepared_model.specs.promises.Rows.{model_in, Prepares}
use Rattle.prepared_question.specs.promises.Nodes.{formula}
use Rattle.prepared_question.specs.promises.Shared.{Shared}
use Rattle.prepared_question.proofs.SameVerdict.{same_verdict, same_reason}
use Rattle.limits.proofs.NodeByNode.{limits_passed}
use Rattle.judging.specs.promises.Announced.{root}
use Rattle.judging.proofs.BothPrepared.{asked_prepared}
use Rattle.reasons.specs.declared.Explanation.{Explanation}
use Rattle.reasons.specs.promises.Told.{Tells, TellsOf}
use Rattle.protocol.specs.Calls.{question_for}
use Rattle.verdict_line.specs.Line.{Says, refused_line}
use Rattle.verdict_line.specs.promises.Chain.{judging_text, asking_text, loading_text, line_of}

-- ---- refusals

-- A number that is not 0 is a refusal's.
refused_by : {A B : Type 0} (c : Checked A) {k : ℕ} → k ≡ refusal c → (k ≡ 0 → ⊥) → (f : A → Checked B) → (c >>= f) ≡ refused k
refused_by (ok a) e h f = absurd (h e)
refused_by (refused j) e h f = ap refused (sym e)

refused_then : {A B : Type 0} (c : Checked A) (d : Checked B) {k : ℕ} → k ≡ refusal c → (k ≡ 0 → ⊥) → (c >> d) ≡ refused k
refused_then (ok a) d e h = absurd (h e)
refused_then (refused j) d e h = ap refused (sym e)

module _ (says : Says) where
  pub load_refused : (model q : Bytes) {k : ℕ} → k ≡ refusal (read_model model) → (k ≡ 0 → ⊥) → refused_line k ≡ line_of (loading_text says model q)
  unfolding line_of
  load_refused model q e h = ap line_of (sym (refused_by (read_model model) e h (λ m. asking_text says m q)))

  module _ (model q : Bytes) (passed : refusal (read_model model) ≡ 0) where
    past_model : loading_text says model q ≡ asking_text says (model_of model) q
    past_model = ap (λ c. c >>= (λ m. asking_text says m q)) (read_passed model (passed_all model passed))

    pub put_refused : {k : ℕ} → k ≡ refusal (question_for (model_of model) q) → (k ≡ 0 → ⊥) → refused_line k ≡ line_of (loading_text says model q)
    unfolding line_of
    put_refused e h = ap line_of (sym (past_model ∙ refused_by (question_for (model_of model) q) e h (judging_text says (model_of model))))

    pub past_both : refusal (question_for (model_of model) q) ≡ 0 → line_of (judging_text says (model_of model) (question_of q)) ≡ line_of (loading_text says model q)
    past_both e = ap line_of (sym (past_model ∙ ap (λ c. c >>= judging_text says (model_of model)) (accepted _ _ _ q e).read))

  pub judge_refused : (m : Model) (q : Question) {k : ℕ} → k ≡ refusal (limits m q.nodes) → (k ≡ 0 → ⊥) → refused_line k ≡ line_of (judging_text says m q)
  unfolding line_of
  judge_refused m q e h = ap line_of (sym (refused_then (limits m q.nodes) (ok (says m q (verdict m q.start q.root))) e h))

  pub judge_passed : (m : Model) (q : Question) → refusal (limits m q.nodes) ≡ 0 → says m q (verdict m q.start q.root) ≡ line_of (judging_text says m q)
  unfolding line_of
  judge_passed m q e = ap line_of (sym (ap (λ c. c >> ok (says m q (verdict m q.start q.root))) (limits_passed m q.nodes e)))

-- ---- what is prepared

-- The question is read for the numbers in the model's head.
pub question_by_head : (model q : Bytes) → question_for (model_of model) q ≡ read_question (byte model 2) (byte model 3) (byte model 4) q
unfolding model_of
question_by_head model q = ap₂ (λ S A. read_question S A (byte model 4) q) (states_held model) (length_tabulate _ (byte model 3))

module _ (model q : Bytes) {a : List ℕ} (p : Prepares model a) where
  pub asked_by_head : refusal (question_for (model_of model) q) ≡ 0 → refusal (read_question (state_count a) (action_count a) (prop_count a) q) ≡ 0
  asked_by_head e = asked_prepared model q p (sym (ap refusal (question_by_head model q)) ∙ e)

  module _ {q' : List ℕ} (h : Shared (state_count a) (action_count a) (prop_count a) q q') where
    -- What is told of what is prepared is told of the input.
    pub tells_input : {r : Explanation} {zs cs ys ds : List ℕ} → TellsOf (model_in a) (start_of q') (formula q' (root q')) r zs cs ys ds
        → Tells (model_of model).denominator (verdict (model_of model) (question_of q).start (question_of q).root) (reason (model_of model) (question_of q).start (question_of q).root) r zs cs ys ds
    unfolding question_of
    tells_input {r} {zs} {cs} {ys} {ds} T =
        subst (λ M. Tells M.denominator (verdict M (start_of q) (question_of q).root) (reason M (start_of q) (question_of q).root) r zs cs ys ds) p.same
        (subst (λ v. Tells (model_in a).denominator v (reason (model_in a) (start_of q) (question_of q).root) r zs cs ys ds) (sym (same_verdict h (model_in a)))
        (subst (λ e. Tells (model_in a).denominator (verdict (model_in a) (start_of q') (formula q' (root q'))) e r zs cs ys ds) (sym (same_reason h (model_in a))) T))
