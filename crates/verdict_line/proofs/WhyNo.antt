-- What is claimed of the text of `whynot`: where judge does not answer no it is the text of `verdict`, and where it does it is the reason, which
-- explains the no in the request's words.
use Prim.Native.Nat.{ℕ, ◌-◌, ◌/◌, ◌%◌}
use native.Mathlib.Omega.{arith}
use native.Mathlib.Nat.{div-add-mod}
use mathlib.Core.Path.{◌≡◌, refl, sym, ap, ap₂, ◌∙◌}
use mathlib.Core.Bool.{Bool, true, false, ◌&&◌}
use mathlib.Core.List.{[], ◌∷◌}
use mathlib.Core.Option.{some}
use lib.Dec.{eqb, leb}
use lib.ListN.{length}
use lib.Seq.{length-take-le}
use borrow.Author.Tests.{le-leb, leb-true}
use Rattle.logic.specs.Checked.{Checked, ok, refused, ◌>>◌, guard}
use Rattle.logic.specs.promises.Refusal.{refusal}
use Rattle.logic.specs.Model.{Model}
use Rattle.logic.specs.Limits.{limits}
use Rattle.logic.specs.Verdict.{Denial, Verdict, no, yes, yes_plan, verdict}
use Rattle.logic.specs.Reason.{reason_by, reason}
use Rattle.logic.proofs.Tests.{and_both, eqb_eq}
use Rattle.logic.proofs.Reasons.{reason_explains}
use Rattle.blocks.specs.Bytes.{Bytes, within}
use Rattle.blocks.specs.Block.{block_count, whole_blocks}
use Rattle.models.specs.Grounds.{read_model}
use Rattle.models.proofs.GroundsPassed.{passed_all}
use Rattle.questions.specs.Layout.{Question}
use Rattle.protocol.specs.Calls.{load, put, judge, Held, judged, refuse, yields, question_for}
use Rattle.protocol.specs.promises.Chains.{do_put, do_judge, by_chain}
use Rattle.protocol.proofs.AfterEachCall.{next, sound}
use Rattle.protocol.proofs.FirstGround.{yields_is}
use Rattle.protocol.proofs.HeldAccepted.{model_accepted, start_inside}
use Rattle.protocol.proofs.Lists.{empty, with_model, with_question, after_none, after_more}
use Rattle.verdict_line.specs.Line.{verdict_says, model_part, question_part, printed}
use Rattle.verdict_line.specs.Reasons.{whynot_says, explained, held_of, judge_answer, Why}
use Rattle.verdict_line.specs.promises.Chain.{asking_text, loading_text, judged_text, line_of, answer_text}
use Rattle.verdict_line.proofs.LineIsChain.{printed_is, explained_is}

judged_same : {v w : Verdict} → judged v ≡ judged w → v ≡ w
judged_same e = cc

refuse_not : {k : ℕ} {v : Verdict} → refuse k ≡ judged v → ⊥
refuse_not e = let z : ◌≡◌ {A = ℕ} 0 1 = cc in omega arith

module _ (b : Bytes) where
  -- What is held of an input, call by call.
  held_is : held_of b ≡ next (next empty (load (model_part b))) (put (question_part b))
  held_is = after_more (load (model_part b) ∷ []) (put (question_part b)) (after_more [] (load (model_part b)) after_none)

  answer_by : {h : Held} → held_of b ≡ h → judge_answer b ≡ (by_chain h judge).answer
  answer_by {h} e = ap (λ h. (yields h judge).answer) e ∙ ap (λ r. r.answer) (yields_is h judge)

  -- Where the model or the question is refused, judge is.
  not_loaded : {k : ℕ} → read_model (model_part b) ≡ refused k → judge_answer b ≡ refuse 20
  unfolding next do_put by_chain do_judge
  not_loaded e = answer_by {h = empty} (held_is ∙ rw e refl)

  not_asked : {m : Model} {k : ℕ} → read_model (model_part b) ≡ ok m → question_for m (question_part b) ≡ refused k → judge_answer b ≡ refuse 21
  unfolding next do_put by_chain do_judge
  not_asked {m} e f = answer_by {h = with_model (model_part b) m} (held_is ∙ rw (e, f) refl)

  module _ (m : Model) (q : Question) (e : read_model (model_part b) ≡ ok m) (f : question_for m (question_part b) ≡ ok q) where
    both_held : held_of b ≡ with_question (model_part b) m q
    unfolding next do_put
    both_held = held_is ∙ rw (e, f) refl

    answers : judge_answer b ≡ (by_chain (with_question (model_part b) m q) judge).answer
    answers = answer_by both_held

    answers_verdict : limits m q.nodes ≡ ok tt → judge_answer b ≡ judged (verdict m q.start q.root)
    unfolding by_chain do_judge
    answers_verdict g = answers ∙ rw g refl

    answers_refusal : {k : ℕ} → limits m q.nodes ≡ refused k → judge_answer b ≡ refuse k
    unfolding by_chain do_judge
    answers_refusal g = answers ∙ rw g refl

  -- ---- yes and refusals

  module _ (not_no : (x : Denial) → judge_answer b ≡ judged (no x) → ⊥) where
    same_said : (m : Model) (q : Question) (v : Verdict) → judge_answer b ≡ judged v → whynot_says m q v ≡ verdict_says m q v
    unfolding whynot_says
    same_said m q (no x) e = absurd (not_no x e)
    same_said m q yes e = refl
    same_said m q (yes_plan x) e = refl

    same_judged : (m : Model) (q : Question) → read_model (model_part b) ≡ ok m → question_for m (question_part b) ≡ ok q → (c : Checked (Unit {0})) → limits m q.nodes ≡ c
        → line_of (c >> ok (whynot_says m q (verdict m q.start q.root))) ≡ line_of (c >> ok (verdict_says m q (verdict m q.start q.root)))
    unfolding line_of
    same_judged m q e f (ok tt) g = same_said m q (verdict m q.start q.root) (answers_verdict m q e f g)
    same_judged m q e f (refused k) g = refl

    same_asked : (m : Model) → read_model (model_part b) ≡ ok m → (c : Checked Question) → question_for m (question_part b) ≡ c
        → line_of (asking_text whynot_says m (question_part b)) ≡ line_of (asking_text verdict_says m (question_part b))
    unfolding line_of
    same_asked m e (ok q) f = rw f (same_judged m q e f (limits m q.nodes) refl)
    same_asked m e (refused k) f = rw f refl

    same_loaded : (c : Checked Model) → read_model (model_part b) ≡ c
        → line_of (loading_text whynot_says (model_part b) (question_part b)) ≡ line_of (loading_text verdict_says (model_part b) (question_part b))
    unfolding line_of
    same_loaded (ok m) e = rw e (same_asked m e (question_for m (question_part b)) refl)
    same_loaded (refused k) e = rw e refl

    pub same_text : explained b ≡ printed b
    unfolding answer_text judged_text
    same_text = explained_is b ∙ by (within 512 6656 (length b)) ∙ sym (printed_is b)
      where
        by : (t : Bool) → line_of (guard 1 t >> loading_text whynot_says (model_part b) (question_part b)) ≡ line_of (guard 1 t >> loading_text verdict_says (model_part b) (question_part b))
        by true = same_loaded (read_model (model_part b)) refl
        by false = refl

  -- ---- no

  -- A model of an accepted length leaves a whole input.
  whole_input : refusal (read_model (model_part b)) ≡ 0 → within 512 6656 (length b) ≡ true
  unfolding whole_blocks within block_count
  whole_input e =
      let n : ℕ = length (model_part b) in
      let p = and_both (eqb (n % 512) 0) _ (passed_all (model_part b) e).whole in
      let r = and_both (leb 2 (n / 512)) _ p.1 in
      let rest = eqb_eq (n % 512) 0 p.0 in
      let lo = leb-true 2 (n / 512) r.0 in
      let hi = leb-true (n / 512) 12 r.1 in
      let cut = length-take-le (length b - 512) b (omega arith) in
      ap₂ ◌&&◌ (le-leb 512 (length b) (omega (arith, cut, rest, lo, div-add-mod n 512))) (le-leb (length b) 6656 (omega (arith, cut, rest, hi, div-add-mod n 512)))

  module _ (x : Denial) (denied : judge_answer b ≡ judged (no x)) where
    -- Of the model and the question that were read.
    its_why : (m : Model) (q : Question) → read_model (model_part b) ≡ ok m → question_for m (question_part b) ≡ ok q → limits m q.nodes ≡ ok tt
        → (m : Model) × (q : Question) × ((held_of b).model ≡ some m) × ((held_of b).question ≡ some q) × Why m q (explained b)
    unfolding answer_text judged_text line_of whynot_says reason
    its_why m q e f g =
        let held = both_held m q e f in
        let s = sound (load (model_part b) ∷ put (question_part b) ∷ []) in
        let held_model = ap (λ h. h.model) held in
        let v : verdict m q.start q.root ≡ no x = judged_same (sym (answers_verdict m q e f g) ∙ denied) in
        let line : line_of (loading_text whynot_says (model_part b) (question_part b)) ≡ whynot_says m q (verdict m q.start q.root) = rw (e, f, g) refl in (
          m,
          q,
          held_model,
          ap (λ h. h.question) held,
          record {
            said = reason m q.start q.root;
            its_text =
                explained_is b ∙ ap (λ t. line_of (guard 1 t >> loading_text whynot_says (model_part b) (question_part b))) (whole_input (ap refusal e))
                ∙ line ∙ ap (whynot_says m q) v;
            on_bounds = λ c e. reason_explains m (model_accepted s m held_model) q.start (start_inside s m held_model q (ap (λ h. h.question) held)) q.root c e;
            on_others = λ k e. ap (reason_by m q.start) e;
          },
        )

    pub why : (m : Model) × (q : Question) × ((held_of b).model ≡ some m) × ((held_of b).question ≡ some q) × Why m q (explained b)
    why = loads (read_model (model_part b)) refl
      where
        judges : (m : Model) (q : Question) → read_model (model_part b) ≡ ok m → question_for m (question_part b) ≡ ok q → (c : Checked (Unit {0})) → limits m q.nodes ≡ c
            → (m : Model) × (q : Question) × ((held_of b).model ≡ some m) × ((held_of b).question ≡ some q) × Why m q (explained b)
        judges m q e f (ok tt) g = its_why m q e f g
        judges m q e f (refused k) g = absurd (refuse_not (sym (answers_refusal m q e f g) ∙ denied))

        puts : (m : Model) → read_model (model_part b) ≡ ok m → (c : Checked Question) → question_for m (question_part b) ≡ c
            → (m : Model) × (q : Question) × ((held_of b).model ≡ some m) × ((held_of b).question ≡ some q) × Why m q (explained b)
        puts m e (ok q) f = judges m q e f (limits m q.nodes) refl
        puts m e (refused k) f = absurd (refuse_not (sym (not_asked e f) ∙ denied))

        loads : (c : Checked Model) → read_model (model_part b) ≡ c
            → (m : Model) × (q : Question) × ((held_of b).model ≡ some m) × ((held_of b).question ≡ some q) × Why m q (explained b)
        loads (ok m) e = puts m e (question_for m (question_part b)) refl
        loads (refused k) e = absurd (refuse_not (sym (not_loaded e) ∙ denied))
