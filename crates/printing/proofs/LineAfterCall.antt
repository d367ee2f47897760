-- What the answers of load, put and judge say of the line, and of the desk that they give back: it holds what the history of calls says.
use Prim.Native.Nat.{ℕ}
use native.Mathlib.Omega.{arith}
use mathlib.Core.Path.{◌≡◌, refl, sym, ap, ap₂, ◌∙◌}
use mathlib.Core.Bool.{cond}
use mathlib.Core.List.{List, [], ◌∷◌}
use mathlib.Core.Option.{none, some}
use Rattle.logic.specs.Lists.{any}
use Rattle.std.specs.Prelude.{Result, Ok, Err}
use Rattle.refusals.specs.declared.Refusal.{Refusal}
use Rattle.refusals.specs.Number.{number}
use Rattle.refusals.specs.promises.Named.{named}
use Rattle.logic.specs.Checked.{Checked, ok, refused, ◌>>=◌, ◌>>◌, got}
use Rattle.logic.specs.promises.Refusal.{refusal, held}
use Rattle.logic.specs.Model.{Model}
use Rattle.logic.specs.Limits.{limits}
use Rattle.logic.specs.Verdict as logic
use Rattle.blocks.specs.Bytes.{Bytes}
use Rattle.models.specs.Layout.{model_of}
use Rattle.models.specs.Grounds.{read_model}
use Rattle.models.proofs.GroundsPassed.{passed_all, read_passed}
use Rattle.questions.specs.Layout.{Question, question_of}
use Rattle.questions.proofs.AcceptedFacts.{accepted}
use Rattle.protocol.specs.Calls.{Call, load, put, judge, done, judged, says, question_for}
use Rattle.protocol.specs.promises.Chains.{do_put, do_judge, answered, by_chain}
use Rattle.protocol.specs.History.{with_blocks, loaded, asked, is_judge, or_else, last_left, passed, verdict_since, held_since, held_from, after}
use Rattle.verdict_line.specs.Line.{verdict_line}
use Rattle.plan_judge.specs.declared.Desk.{Desk}
use Rattle.plan_judge.specs.declared.Taking.{Taking}
use Rattle.judging.specs.declared.Verdict.{Verdict}
use Rattle.plan_judge.specs.declared.Judging.{Judging}
use Rattle.plan_judge.specs.View.{view}
use Rattle.plan_judge.specs.promises.Values.{nothing, taking, holding, loaded_by, asking, put_by, choices_code, judging, judged_by}
use Rattle.judging.specs.promises.Announced.{verdict_code}
use Rattle.plan_judge.specs.promises.Session.{step, desk_after}
use Rattle.plan_judge.proofs.NumbersListed.{named_back}
use Rattle.plan_judge.proofs.DesksHoldHistory.{desk_holds}
use Rattle.printing.specs.promises.Printed.{judging_line, asking_line, loading_line, Loaded, Asked}

-- What an answer of load or put says of what was read.
module _ {A : Type 0} (d e : Desk) (c : Checked A) where
  taken_refused : (x : Refusal) → ((k : ℕ) → c ≡ refused k → number (named k) ≡ k) → (taking d c e).answer ≡ Err x → c ≡ refused (number x)
  taken_refused x = by c
    where
      by : (c : Checked A) → ((k : ℕ) → c ≡ refused k → number (named k) ≡ k) → (taking d c e).answer ≡ Err x → c ≡ refused (number x)
      by (ok a) f i = absurd (let z : ◌≡◌ {A = ℕ} 0 1 = cc in omega arith)
      by (refused j) f i = let z : named j ≡ x = cc in ap refused (sym (f j refl) ∙ ap number z)

  taken_done : (taking d c e).answer ≡ Ok tt → refusal c ≡ 0
  taken_done = by c
    where
      by : (c : Checked A) → (taking d c e).answer ≡ Ok tt → refusal c ≡ 0
      by (ok a) i = refl
      by (refused j) i = absurd (let z : ◌≡◌ {A = ℕ} 0 1 = cc in omega arith)

-- ---- load

module _ (d : Desk) (m : Bytes) (r : Taking) (e : d ≡ nothing) (i : r ≡ loaded_by d m) where
  pub load_refused : (x : Refusal) → r.answer ≡ Err x → (q : Bytes) → loading_line m q ≡ refused (number x)
  unfolding loaded_by by_chain
  load_refused x a q =
      ap (λ c. c >>= (λ x. asking_line x q))
      (taken_refused d (holding m) (read_model m) x (λ k z. named_back (view d) (load m) k (ap (λ c. (answered [] c (λ m. says done)).answer) z)) (sym (ap (λ x. x.answer) i) ∙ a))

  pub load_done : r.answer ≡ Ok tt → Loaded r.desk m
  unfolding loaded_by desk_after step
  load_done a =
      record {
        desk = ap (λ x. x.desk) (i ∙ ap (λ x. loaded_by x m) e);
        model = taken_done d (holding m) (read_model m) (sym (ap (λ x. x.answer) i) ∙ a);
      }

module _ (m : Bytes) (e : refusal (read_model m) ≡ 0) where
  pub model_read : read_model m ≡ ok (model_of m)
  model_read = read_passed m (passed_all m e)

  -- Past the model.
  pub loading_is : (q : Bytes) → loading_line m q ≡ asking_line (model_of m) q
  loading_is q = ap (λ c. c >>= (λ x. asking_line x q)) model_read

  -- The history by what was read of the model.
  load_after : (cs : List Call) → last_left loaded cs ≡ none → after (load m ∷ cs) ≡ held_since (record { blocks = m; model = model_of m }) (last_left (asked (model_of m)) cs)
  unfolding after last_left loaded or_else got held_from
  load_after cs n = ap₂ (λ o c. held_from (or_else o (got (with_blocks m c)) cs)) n model_read

  loaded_view : (view (desk_after nothing (load m ∷ []))).model ≡ some (model_of m)
  unfolding last_left held_since
  loaded_view = ap (λ h. h.model) (desk_holds (load m ∷ []) ∙ load_after [] refl)

-- ---- put

module _ (d : Desk) (m q : Bytes) (l : Loaded d m) (r : Taking) (i : r ≡ put_by d q) where
  put_is : do_put (view d) q ≡ question_for (model_of m) q
  unfolding do_put
  put_is = ap (λ o. held 20 o >>= (λ x. question_for x q)) (ap (λ x. (view x).model) l.desk ∙ loaded_view m l.model)

  pub put_refused : (x : Refusal) → r.answer ≡ Err x → asking_line (model_of m) q ≡ refused (number x)
  unfolding put_by by_chain
  put_refused x a =
      ap (λ c. c >>= judging_line (model_of m))
      (sym put_is
      ∙ taken_refused d (asking d q) (do_put (view d) q) x (λ k z. named_back (view d) (put q) k (ap (λ c. (answered [] c (λ q. says done)).answer) z)) (sym (ap (λ x. x.answer) i) ∙ a))

  pub put_done : r.answer ≡ Ok tt → Asked r.desk m q
  unfolding put_by desk_after step
  put_done a =
      record {
        desk = ap (λ x. x.desk) (i ∙ ap (λ x. put_by x q) l.desk);
        model = l.model;
        question = sym (ap refusal put_is) ∙ taken_done d (asking d q) (do_put (view d) q) (sym (ap (λ x. x.answer) i) ∙ a);
      }

-- ---- judge

module _ (m q : Bytes) (e : refusal (read_model m) ≡ 0) (i : refusal (question_for (model_of m) q) ≡ 0) where
  abbrev M : Model
  M = model_of m

  abbrev Q : Question
  Q = question_of q

  pub question_read : question_for M q ≡ ok Q
  question_read = (accepted _ _ _ q i).read

  -- Past the question.
  pub asking_is : asking_line M q ≡ judging_line M Q
  asking_is = ap (λ c. c >>= judging_line M) question_read

  put_after : (cs : List Call) → last_left loaded (put q ∷ cs) ≡ none → last_left (asked M) cs ≡ none
      → after (load m ∷ put q ∷ cs) ≡ record { model = some M; blocks = m; question = some Q; verdict = verdict_since M Q cs }
  unfolding last_left asked or_else got held_since
  put_after cs n a = load_after m e (put q ∷ cs) n ∙ ap₂ (λ o c. held_since (record { blocks = m; model = M }) (or_else o (got c) cs)) a question_read

  pub asked_view : view (desk_after nothing (load m ∷ put q ∷ [])) ≡ record { model = some M; blocks = m; question = some Q; verdict = none }
  unfolding last_left loaded or_else verdict_since any
  asked_view = desk_holds (load m ∷ put q ∷ []) ∙ put_after [] refl refl

  pub judged_view : limits M Q.nodes ≡ ok tt
      → (view (desk_after nothing (load m ∷ put q ∷ judge ∷ []))).verdict ≡ some (logic.verdict M Q.start Q.root)
  unfolding last_left loaded or_else asked verdict_since any is_judge passed
  judged_view l =
      ap (λ h. h.verdict) (desk_holds (load m ∷ put q ∷ judge ∷ []) ∙ put_after (judge ∷ []) refl refl)
      ∙ ap (λ c. cond (passed c) (some (logic.verdict M Q.start Q.root)) none) l

-- The verdict on a question.
abbrev pub asked_verdict : (m q : Bytes) → logic.Verdict
asked_verdict m q = logic.verdict (model_of m) (question_of q).start (question_of q).root

module _ (d : Desk) (m q : Bytes) (l : Asked d m q) (r : Judging) (i : r ≡ judged_by d) where
  abbrev within : Checked (Unit {0})
  within = limits (model_of m) (question_of q).nodes

  judge_is : do_judge (view d) ≡ (within >> ok (asked_verdict m q))
  unfolding do_judge
  judge_is = ap do_judge (ap view l.desk ∙ asked_view m q l.model l.question)

  judging_is : r ≡ judging d (within >> ok (asked_verdict m q))
  unfolding judged_by
  judging_is = i ∙ ap (judging d) judge_is

  pub judge_refused : (x : Refusal) → r.answer ≡ Err x → judging_line (model_of m) (question_of q) ≡ refused (number x)
  unfolding by_chain
  judge_refused x a = by within judge_is (sym (ap (λ x. x.answer) judging_is) ∙ a)
    where
      by : (c : Checked (Unit {0})) → do_judge (view d) ≡ (c >> ok (asked_verdict m q)) → (judging d (c >> ok (asked_verdict m q))).answer ≡ Err x
          → (c >> ok (verdict_line (model_of m) (question_of q).root (asked_verdict m q))) ≡ refused (number x)
      by (ok u) e z = absurd (let y : ◌≡◌ {A = ℕ} 0 1 = cc in omega arith)
      by (refused j) e z =
          let y : named j ≡ x = cc in
          ap refused (sym (named_back (view d) judge j (ap (λ c. (answered [] c (λ v. says (judged v))).answer) e)) ∙ ap number y)

  -- What judge returns that is not refused.
  pub record Told (v : Verdict) : Type 0 where
    pub code : v ≡ verdict_code (asked_verdict m q)
    pub beside : r.choices ≡ choices_code (asked_verdict m q)
    pub shown : (view r.desk).verdict ≡ some (asked_verdict m q)
    pub line : judging_line (model_of m) (question_of q) ≡ ok (verdict_line (model_of m) (question_of q).root (asked_verdict m q))

  told_desk : within ≡ ok tt → (view r.desk).verdict ≡ some (asked_verdict m q)
  unfolding desk_after step
  told_desk z = ap (λ x. (view x.desk).verdict) (i ∙ ap judged_by l.desk) ∙ judged_view m q l.model l.question z

  pub judge_told : (v : Verdict) → r.answer ≡ Ok v → Told v
  judge_told v a = by within refl
    where
      by : (c : Checked (Unit {0})) → within ≡ c → Told v
      by (refused j) z =
          let y : ◌≡◌ {A = Result Verdict Refusal} (Err (named j)) (Ok v) = sym (ap (λ x. x.answer) (judging_is ∙ ap (λ c. judging d (c >> ok (asked_verdict m q))) z)) ∙ a in
          absurd (let w : ◌≡◌ {A = ℕ} 0 1 = cc in omega arith)
      by (ok x) z =
          let e : r ≡ judging d (ok (asked_verdict m q)) = judging_is ∙ ap (λ c. judging d (c >> ok (asked_verdict m q))) z in
          let y : ◌≡◌ {A = Result Verdict Refusal} (Ok (verdict_code (asked_verdict m q))) (Ok v) = sym (ap (λ x. x.answer) e) ∙ a in
          let w : verdict_code (asked_verdict m q) ≡ v = cc in
          record {
            code = sym w;
            beside = ap (λ x. x.choices) e;
            shown = told_desk z;
            line = ap (λ c. c >> ok (verdict_line (model_of m) (question_of q).root (asked_verdict m q))) z;
          }
