-- What judge returns, at each of its returns: the grounds of the state, then what judging the bytes comes to: the limits in their order and the verdict.
use Prim.Native.Nat.{ℕ, ◌+◌}
use native.Mathlib.Omega.{arith}
use mathlib.Core.Path.{◌≡◌, refl, sym, ap, ap₂, ◌∙◌}
use lib.ListN.{length, drop, replicate}
use Rattle.std.specs.Prelude.{Some, Ok, Err}
use Rattle.refusals.specs.declared.Refusal.{Refusal}
use Rattle.refusals.specs.Number.{number}
use Rattle.refusals.specs.promises.Named.{named}
use Rattle.refusals.proofs.Named.{named_number, number_some}
use Rattle.logic.specs.Checked.{Checked, ok, refused, ◌>>◌}
use Rattle.logic.specs.promises.Refusal.{refusal}
use Rattle.logic.specs.Model.{Model}
use Rattle.logic.specs.Verdict as logic
use Rattle.logic.specs.Limits.{limits}
use Rattle.blocks.specs.Bytes.{Bytes}
use mathlib.Core.List.{List, ◌++◌}
use Rattle.models.specs.Layout.{state_count, action_count, prop_count, model_of}
use Rattle.prepared_model.specs.promises.Rows.{model_in, Prepares}
use Rattle.questions.specs.Layout.{Question, question_of}
use Rattle.blocks.specs.Splice.{splice}
use Rattle.prepared_question.specs.promises.Shared.{Shared}
use Rattle.prepared_question.proofs.SameVerdict.{same_verdict}
use Rattle.judging.specs.promises.Announced.{root_verdict, verdict_code, shown_choices}
use Rattle.protocol.specs.promises.Chains.{do_judge}
use Rattle.plan_judge.specs.declared.Desk.{Desk}
use Rattle.judging.specs.declared.Verdict.{Verdict}
use Rattle.plan_judge.specs.declared.Ruling.{Ruling}
use Rattle.plan_judge.specs.declared.Judging.{Judging}
use Rattle.plan_judge.specs.View.{question_bytes, view}
use Rattle.plan_judge.specs.promises.Values.{choices_code, settling, judge_on, ruling, judging, judged_by}
use Rattle.plan_judge.specs.promises.State.{held_both}
use Rattle.plan_judge.proofs.LoadPutReturn.{said_bytes, padded_copy}
use Rattle.limits.proofs.NodeByNode.{limits_passed}
use Rattle.plan_judge.proofs.StateGrounds.{Both, both_held, both_refused, both_passed}

-- The choices of a verdict, written over zeros.
pub choices_told : (v : logic.Verdict) → splice (replicate 1365 0) 0 (shown_choices v) ≡ choices_code v
unfolding splice shown_choices choices_code
choices_told (logic.no x) = refl
choices_told logic.yes = refl
choices_told (logic.yes_plan x) =
    let cs : Bytes = x.choices in
    let e : 0 + length cs ≡ length cs = omega arith in
    padded_copy 1365 cs (cs ++ drop (0 + length cs) (replicate 1365 0)) (ap (λ i. cs ++ drop i (replicate 1365 0)) e)

-- ---- each return

module _ (d : Desk) where
  -- A verdict is answered and held, with its choices beside it.
  abbrev pub announced : Bytes → Verdict → Judging
  announced cs v =
      record {
        answer = Ok v;
        choices = cs;
        desk = record { blocks = d.blocks; model = d.model; question = d.question; verdict = Some v; choices = cs };
      }

  -- A refusal is answered, and the desk stays.
  abbrev pub away : Refusal → Judging
  away x = record { answer = Err x; choices = replicate 1365 0; desk = d }

  pub judge_refused : (x : Refusal) → number x ≡ refusal (do_judge (view d)) → away x ≡ judged_by d
  unfolding judged_by
  judge_refused x e = by (do_judge (view d)) e
    where
      by : (c : Checked logic.Verdict) → number x ≡ refusal c → away x ≡ judging d c
      by (ok v) i = absurd (number_some x i)
      by (refused j) i = ap away (sym (named_number x) ∙ ap named i)

  pub ground_state : (k : ℕ) → k ≡ refusal (held_both (view d)) → (k ≡ 0 → ⊥) → k ≡ refusal (do_judge (view d))
  unfolding do_judge
  ground_state k e h = both_refused (view d) judge_on k e h

  -- What judging the bytes comes to is answered, and a verdict held.
  module _ (b : Both d) (r : Ruling) (i : r ≡ ruling (judge_on (model_of (said_bytes d)) (question_of (question_bytes d)))) where
    judge_is : judged_by d ≡ judging d (judge_on (model_of (said_bytes d)) (question_of (question_bytes d)))
    unfolding judged_by do_judge
    judge_is = ap (judging d) (both_passed (view d) (model_of (said_bytes d)) (question_of (question_bytes d)) (both_held d b) judge_on)

    pub ruled_refused : (x : Refusal) → r.answer ≡ Err x → away x ≡ judged_by d
    ruled_refused x a = by (judge_on (model_of (said_bytes d)) (question_of (question_bytes d))) (ap (λ (x : Ruling). x.answer) (sym i) ∙ a) ∙ sym judge_is
      where
        by : (c : Checked logic.Verdict) → (ruling c).answer ≡ Err x → away x ≡ judging d c
        by (ok v) z = let y : ◌≡◌ {A = ℕ} 0 1 = cc in absurd (omega arith)
        by (refused j) z = let y : x ≡ named j = cc in ap away y

    pub ruled_judged : (v : Verdict) → r.answer ≡ Ok v → announced r.choices v ≡ judged_by d
    unfolding settling
    ruled_judged v a =
        by (judge_on (model_of (said_bytes d)) (question_of (question_bytes d))) (ap (λ (x : Ruling). x.answer) (sym i) ∙ a) (ap (λ (x : Ruling). x.choices) i)
        ∙ sym judge_is
      where
        by : (c : Checked logic.Verdict) → (ruling c).answer ≡ Ok v → r.choices ≡ (ruling c).choices → announced r.choices v ≡ judging d c
        by (ok l) z y = let x : v ≡ verdict_code l = cc in ap₂ announced y x
        by (refused k) z y = let x : ◌≡◌ {A = ℕ} 0 1 = cc in absurd (omega arith)

-- ---- judging bytes

module _ (m : Model) (q : Question) where
  pub ruling_refused : (x : Refusal) → number x ≡ refusal (limits m q.nodes) → record { answer = Err x; choices = replicate 1365 0 } ≡ ruling (judge_on m q)
  ruling_refused x e = by (limits m q.nodes) e
    where
      by : (c : Checked (Unit {0})) → number x ≡ refusal c → record { answer = Err x; choices = replicate 1365 0 } ≡ ruling (c >> ok (logic.verdict m q.start q.root))
      by (ok u) i = absurd (number_some x i)
      by (refused j) i = ap (λ x. record { answer = Err x; choices = replicate 1365 0 }) (sym (named_number x) ∙ ap named i)

  pub ruling_judged : refusal (limits m q.nodes) ≡ 0 → {v : Verdict} {cs : Bytes} → v ≡ verdict_code (logic.verdict m q.start q.root)
      → cs ≡ choices_code (logic.verdict m q.start q.root) → record { answer = Ok v; choices = cs } ≡ ruling (judge_on m q)
  ruling_judged e i j =
      ap₂ (λ v cs. record { answer = Ok v; choices = cs }) i j
      ∙ sym (ap (λ c. ruling (c >> ok (logic.verdict m q.start q.root))) (limits_passed m q.nodes e))

-- The root of what is prepared has the verdict of the bytes.
pub same_root : (model question : Bytes) {a q' : List ℕ} → Prepares model a → Shared (state_count a) (action_count a) (prop_count a) question q'
    → root_verdict (model_in a) q' ≡ logic.verdict (model_of model) (question_of question).start (question_of question).root
unfolding question_of
same_root model question {a} p h = sym (same_verdict h (model_in a)) ∙ ap (λ M. root_verdict M question) p.same
