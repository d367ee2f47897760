-- Desks that calls gave back hold what the history says, and the calls reply to them as document 01 describes.
use Prim.Native.Nat.{ℕ, ◌*◌, ◌-◌, ◌/◌, ◌%◌, ◌≤◌}
use native.Mathlib.Omega.{arith}
use Rattle.std.specs.Prelude.{Some}
use mathlib.Core.Path.{◌≡◌, refl, sym, ap, ap₂, subst, ◌∙◌}
use mathlib.Core.Bool.{Bool, true, false}
use mathlib.Core.List.{List, [], ◌∷◌, ◌++◌, append-nil, append_assoc, Memᴰ}
use mathlib.Core.Option.{Option, none, some}
use lib.ListN.{length, replicate}
use lib.Seq.{take_at}
use Rattle.refusals.specs.Number.{number}
use Rattle.refusals.specs.promises.Named.{named}
use Rattle.logic.specs.Checked.{Checked, ok, refused, ◌>>=◌, got}
use Rattle.logic.specs.promises.Refusal.{held}
use Rattle.logic.specs.Model.{Model}
use Rattle.logic.specs.Plan.{Plan, plans, choices}
use Rattle.logic.specs.Formula.{sat}
use Rattle.logic.specs.Verdict as logic
use Rattle.logic.specs.Verdict.{Goal, goal, shown, denial, plan_record, announced, verdict_by, verdict}
use Rattle.logic.specs.Choices.{read_plan}
use Rattle.logic.specs.Limits.{limits}
use Rattle.logic.proofs.Checked.{ok_same, bind_ok, guard_ok}
use Rattle.logic.proofs.Tests.{and_left, and_right, eqb_eq}
use Rattle.logic.proofs.Reading.{read_complete}
use Rattle.logic.proofs.Shown.{shown_meets}
use Rattle.lamp.specs.Said.{said_optional}
use Rattle.lamp.specs.promises.Codes.{optional_code}
use Rattle.lamp.proofs.Coded.{lamp_said, optional_said}
use borrow.Author.Tests.{leb-true}
use lib.Dec.{eqb, leb}
use Rattle.blocks.specs.Bytes.{Bytes, within}
use Rattle.blocks.specs.Block.{whole_blocks, block_count}
use Rattle.models.specs.Grounds.{read_model}
use Rattle.questions.specs.Layout.{Question}
use Rattle.questions.specs.Grounds.{read_question}
use Rattle.protocol.specs.Calls.{Call, load, put, judge, query, write, check, write_model, Held, Report, refuse, done, judged, accepted, says, wrote, yields}
use Rattle.protocol.specs.promises.Chains.{do_put, do_judge, do_write, do_write_model, do_check, answered, by_chain}
use Rattle.protocol.specs.History.{last_left, held_from, after}
use Rattle.protocol.proofs.AfterEachCall.{settled, next, after_next}
use Rattle.protocol.proofs.FirstGround.{yields_is}
use Rattle.protocol.proofs.Demand3.{held_some, then_ok}
use Rattle.plan_judge.proofs.NumbersListed.{named_back}
use Rattle.plan_judge.specs.declared.Desk.{Desk}
use Rattle.plan_judge.specs.View.{model_bytes, blocks_in, question_in, choices_in, verdict_in, verdict_on, verdict_held, view}
use Rattle.plan_judge.specs.promises.Values.{padded, nothing, taking, holding, loaded_by, asking, put_by, choices_code, settling, judging, judged_by, writing, written_by, filling, filled_by, model_written_by, model_filled_by, checking, checked_by}
use Rattle.judging.specs.promises.Announced.{verdict_code}
use Rattle.plan_judge.specs.Said.{said_taken, said_verdict, said_judgement, said_written, said_checking}
use Rattle.plan_judge.specs.promises.Session.{asked, step, desk_after, session}

-- ---- the replies

reply_load : (d : Desk) (b : Bytes) → (step d (load b)).reply ≡ by_chain (view d) (load b)
unfolding step loaded_by by_chain said_taken
reply_load d b = by (read_model b) refl
  where
    by : (c : Checked Model) → read_model b ≡ c → says (said_taken (taking d c (holding b)).answer) ≡ answered [] c (λ m. says done)
    by (ok m) i = refl
    by (refused k) i = ap (λ n. says (refuse n)) (named_back (view d) (load b) k (ap (λ c. (answered [] c (λ m. says done)).answer) i))

reply_put : (d : Desk) (b : Bytes) → (step d (put b)).reply ≡ by_chain (view d) (put b)
unfolding step put_by by_chain said_taken
reply_put d b = by (do_put (view d) b) refl
  where
    by : (c : Checked Question) → do_put (view d) b ≡ c → says (said_taken (taking d c (asking d b)).answer) ≡ answered [] c (λ q. says done)
    by (ok q) i = refl
    by (refused k) i = ap (λ n. says (refuse n)) (named_back (view d) (put b) k (ap (λ c. (answered [] c (λ q. says done)).answer) i))

reply_filled : (a : Bytes) (c : Checked Bytes) → ((k : ℕ) → c ≡ refused k → number (named k) ≡ k)
    → record { answer = said_written (writing c); buffer = filling a c } ≡ answered a c (wrote a)
unfolding said_written
reply_filled a (ok b) f = refl
reply_filled a (refused k) f = ap (λ n. record { answer = refuse n; buffer = a }) (f k refl)

reply_write : (d : Desk) (a : Bytes) → (step d (query (write a))).reply ≡ by_chain (view d) (query (write a))
unfolding step asked written_by filled_by by_chain
reply_write d a = reply_filled a (do_write (view d) (length a)) (λ k e. named_back (view d) (query (write a)) k (ap (λ c. (answered a c (wrote a)).answer) e))

reply_write_model : (d : Desk) (a : Bytes) → (step d (query (write_model a))).reply ≡ by_chain (view d) (query (write_model a))
unfolding step asked model_written_by model_filled_by by_chain
reply_write_model d a = reply_filled a (do_write_model (view d) (length a)) (λ k e. named_back (view d) (query (write_model a)) k (ap (λ c. (answered a c (wrote a)).answer) e))

reply_check : (d : Desk) (b : Bytes) → (step d (query (check b))).reply ≡ by_chain (view d) (query (check b))
unfolding step asked checked_by by_chain said_checking
reply_check d b = by (do_check (view d) b) refl
  where
    by : (c : Checked Report) → do_check (view d) b ≡ c → says (said_checking (checking c)) ≡ answered [] c (λ r. says (accepted r))
    by (ok r) i = ap (λ l. says (accepted (record { met = r.met; lamp = l }))) (lamp_said r.lamp)
    by (refused k) i = ap (λ n. says (refuse n)) (named_back (view d) (query (check b)) k (ap (λ c. (answered [] c (λ r. says (accepted r))).answer) i))

-- ---- the verdict with its choices beside it

module _ (m : Model) (q : Question) where
  abbrev s : ℕ
  s = q.start

  -- A plan's choices are read back from the padded ones.
  choices_read : (g : Goal) → goal m s q.root ≡ ok g → (π : Plan g.steps) → Memᴰ π (plans m g.steps s) → choices_in m q (padded 1365 (choices g.steps π)) ≡ ok (choices g.steps π)
  unfolding choices_in padded
  choices_read g e π i =
      let zeros : List ℕ = replicate (1365 - length (choices g.steps π)) 0 in
      ap (λ c. c >>= (λ h. read_plan m h.steps s (choices g.steps π ++ zeros) >>= (λ x. ok (choices h.steps x.0)))) e
      ∙ ap (λ c. c >>= (λ x. ok (choices g.steps x.0))) (read_complete m g.steps s π zeros i)

  announced_read : (g : Goal) → goal m s q.root ≡ ok g → (o : Option (ℕ × Plan g.steps)) → shown m s g ≡ o
      → verdict_in (choices_in m q (choices_code (announced m s g o))) (verdict_code (announced m s g o)) ≡ some (announced m s g o)
  unfolding verdict_in verdict_code choices_code
  announced_read g e none h = ap (λ l. some (logic.no (record { count = (denial m s g).count; lamp = l }))) (optional_said (denial m s g).lamp)
  announced_read g e (some x) h =
      let p = plan_record g x in
      ap (λ c. verdict_in c (verdict_code (announced m s g (some x)))) (choices_read g e x.1 (shown_meets m s g x h).0)
      ∙ ap (λ l. some (logic.yes_plan (record { total = p.total; lamp = l; steps = p.steps; count = p.count; choices = p.choices }))) (lamp_said p.lamp)

  pub verdict_read : verdict_on (some m) (some q) (choices_code (verdict m s q.root)) (verdict_code (verdict m s q.root)) ≡ some (verdict m s q.root)
  unfolding verdict verdict_on verdict_in verdict_code optional_code said_optional
  verdict_read = by (goal m s q.root) refl (sat m q.root s [])
    where
      by : (c : Checked Goal) → goal m s q.root ≡ c → (t : Bool)
          → verdict_in (choices_in m q (choices_code (verdict_by m s t c))) (verdict_code (verdict_by m s t c)) ≡ some (verdict_by m s t c)
      by (ok g) e t = announced_read g e (shown m s g) refl
      by (refused k) e true = refl
      by (refused k) e false = refl

-- What a judge that is not refused found held.
pub record JudgedWith (h : Held) (v : logic.Verdict) : Type 0 where
  pub model : Model
  pub question : Question
  pub held_model : h.model ≡ some model
  pub held_question : h.question ≡ some question
  pub said : v ≡ verdict model question.start question.root

judged_with : (h : Held) (v : logic.Verdict) → do_judge h ≡ ok v → JudgedWith h v
unfolding do_judge
judged_with h v e =
    let a = bind_ok (held 20 h.model) _ e in
    let b = bind_ok (held 21 h.question) _ a.2 in
    record {
      model = a.0;
      question = b.0;
      held_model = held_some 20 h.model a.1;
      held_question = held_some 21 h.question b.1;
      said = sym (ok_same (then_ok (limits a.0 b.0.nodes) _ b.2));
    }

-- The verdict that judge returns and holds is read back as the one said.
verdict_back : (h : Held) (v : logic.Verdict) → do_judge h ≡ ok v → verdict_on h.model h.question (choices_code v) (verdict_code v) ≡ some v
verdict_back h v e =
    let w = judged_with h v e in
    ap₂ (λ o p. verdict_on o p (choices_code v) (verdict_code v)) w.held_model w.held_question
    ∙ subst (λ u. verdict_on (some w.model) (some w.question) (choices_code u) (verdict_code u) ≡ some u) (sym w.said) (verdict_read w.model w.question)

reply_judge : (d : Desk) → (step d judge).reply ≡ by_chain (view d) judge
unfolding step judged_by by_chain said_judgement said_verdict
reply_judge d = by (do_judge (view d)) refl
  where
    by : (c : Checked logic.Verdict) → do_judge (view d) ≡ c
        → says (said_judgement (view d) (judging d c).answer (judging d c).choices) ≡ answered [] c (λ v. says (judged v))
    by (ok v) e = ap (λ o. says (said_verdict o)) (verdict_back (view d) v e)
    by (refused k) e = ap (λ n. says (refuse n)) (named_back (view d) judge k (ap (λ c. (answered [] c (λ v. says (judged v))).answer) e))

by_step : (d : Desk) (c : Call) → (step d c).reply ≡ by_chain (view d) c
by_step d (load b) = reply_load d b
by_step d (put b) = reply_put d b
by_step d judge = reply_judge d
by_step d (query (write a)) = reply_write d a
by_step d (query (check b)) = reply_check d b
by_step d (query (write_model a)) = reply_write_model d a

-- Of every desk the reply is the one described by what it holds.
pub replies : (d : Desk) (c : Call) → (step d c).reply ≡ yields (view d) c
replies d c = by_step d c ∙ sym (yields_is (view d) c)

-- ---- the desks

-- Bytes that were read as whole blocks fill their place.
pub whole_length : (least most : ℕ) (b : Bytes) → whole_blocks least most b ≡ true → (length b ≡ 512 * (length b / 512)) × (least ≤ length b / 512) × (length b / 512 ≤ most)
unfolding whole_blocks within block_count
whole_length least most b e =
    let r : length b % 512 ≡ 0 = eqb_eq _ _ (and_left (eqb (length b % 512) 0) _ e) in
    let w = and_right (eqb (length b % 512) 0) _ e in
    let l : least ≤ length b / 512 = leb-true _ _ (and_left (leb least (length b / 512)) (leb (length b / 512) most) w) in
    let m : length b / 512 ≤ most = leb-true _ _ (and_right (leb least (length b / 512)) (leb (length b / 512) most) w) in
    (omega arith, l, m)

pub model_length : (b : Bytes) {m : Model} → read_model b ≡ ok m → (length b ≡ 512 * (length b / 512)) × (2 ≤ length b / 512) × (length b / 512 ≤ 12)
unfolding read_model
model_length b e = whole_length 2 12 b (guard_ok 1 (whole_blocks 2 12 b) _ e).0

pub question_length : (S A N : ℕ) (b : Bytes) {q : Question} → read_question S A N b ≡ ok q → length b ≡ 512
unfolding read_question
question_length S A N b e = let w = whole_length 1 1 b (guard_ok 1 (whole_blocks 1 1 b) _ e).0 in omega (arith, w.0, w.1, w.2)

holding_bytes : (b : Bytes) {m : Model} → read_model b ≡ ok m → model_bytes (holding b) ≡ b
unfolding model_bytes holding padded
holding_bytes b e = take_at b (replicate (6144 - length b) 0) (512 * (length b / 512)) (model_length b e).0

pad_full : (b : Bytes) → length b ≡ 512 → padded 512 b ≡ b
unfolding padded
pad_full b e = let z : 512 - length b ≡ 0 = omega arith in ap (λ n. b ++ replicate n 0) z ∙ append-nil b

-- A desk's contents by its model.
abbrev viewed : Desk → Option Model → Held
viewed d o = record { model = o; blocks = blocks_in o (model_bytes d); question = question_in d.question o; verdict = verdict_held o (question_in d.question o) d.choices d.verdict }

view_nothing : view nothing ≡ record { model = none; blocks = []; question = none; verdict = none }
unfolding view model_bytes blocks_in nothing got read_model whole_blocks within block_count question_in verdict_held
view_nothing = refl

pub view_holding : (b : Bytes) (m : Model) → read_model b ≡ ok m → view (holding b) ≡ record { model = some m; blocks = b; question = none; verdict = none }
unfolding view question_in blocks_in holding got verdict_held
view_holding b m e =
    ap (viewed (holding b)) (ap got (ap read_model (holding_bytes b e) ∙ e))
    ∙ ap (λ c. record { model = some m; blocks = c; question = none; verdict = none }) (holding_bytes b e)

module _ (d : Desk) (b : Bytes) where
  pub view_asking : (q : Question) → do_put (view d) b ≡ ok q → view (asking d b) ≡ record { model = (view d).model; blocks = (view d).blocks; question = some q; verdict = none }
  unfolding do_put view asking question_in got model_bytes padded verdict_held
  view_asking q e =
      let u = bind_ok (held 20 (view d).model) _ e in
      let m : (view d).model ≡ some u.0 = held_some 20 (view d).model u.1 in
      let p : padded 512 b ≡ b = pad_full b (question_length (length u.0.states) (length u.0.actions) u.0.propositions b u.2) in
      ap₂ (λ o c. record { model = (view d).model; blocks = (view d).blocks; question = question_in (Some c) o; verdict = none }) m p
      ∙ ap (λ r. record { model = (view d).model; blocks = (view d).blocks; question = got r; verdict = none }) u.2

pub view_settling : (d : Desk) (v : logic.Verdict) → do_judge (view d) ≡ ok v → view (settling d v) ≡ record { model = (view d).model; blocks = (view d).blocks; question = (view d).question; verdict = some v }
unfolding view settling question_in model_bytes verdict_held
view_settling d v e = ap (λ o. record { model = (view d).model; blocks = (view d).blocks; question = (view d).question; verdict = o }) (verdict_back (view d) v e)

-- Each call leaves the contents that it says.
kept_load : (d : Desk) (b : Bytes) → view (step d (load b)).desk ≡ next (view d) (load b)
unfolding step loaded_by next
kept_load d b = by (read_model b) refl
  where
    by : (c : Checked Model) → read_model b ≡ c → view (taking d c (holding b)).desk ≡ settled (view d) c (λ m. record { model = some m; blocks = b; question = none; verdict = none })
    by (ok m) e = view_holding b m e
    by (refused k) e = refl

kept_put : (d : Desk) (b : Bytes) → view (step d (put b)).desk ≡ next (view d) (put b)
unfolding step put_by next
kept_put d b = by (do_put (view d) b) refl
  where
    by : (c : Checked Question) → do_put (view d) b ≡ c
        → view (taking d c (asking d b)).desk ≡ settled (view d) c (λ q. record { model = (view d).model; blocks = (view d).blocks; question = some q; verdict = none })
    by (ok q) e = view_asking d b q e
    by (refused k) e = refl

kept_judge : (d : Desk) → view (step d judge).desk ≡ next (view d) judge
unfolding step judged_by next
kept_judge d = by (do_judge (view d)) refl
  where
    by : (c : Checked logic.Verdict) → do_judge (view d) ≡ c
        → view (judging d c).desk ≡ settled (view d) c (λ v. record { model = (view d).model; blocks = (view d).blocks; question = (view d).question; verdict = some v })
    by (ok v) e = view_settling d v e
    by (refused k) e = refl

kept_step : (d : Desk) (c : Call) → view (step d c).desk ≡ next (view d) c
unfolding step next
kept_step d (load b) = kept_load d b
kept_step d (put b) = kept_put d b
kept_step d judge = kept_judge d
kept_step d (query c) = refl

-- From a desk that holds what a list says, a further list leads to one that holds what both say.
kept_from : (before : List Call) (d : Desk) → view d ≡ after before → (cs : List Call) → view (desk_after d cs) ≡ after (before ++ cs)
unfolding desk_after
kept_from before d e [] = e ∙ ap after (sym (append-nil before))
kept_from before d e (c ∷ cs) =
    kept_from (before ++ (c ∷ [])) (step d c).desk (kept_step d c ∙ ap (λ h. next h c) e ∙ sym (after_next before c)) cs
    ∙ ap after (append_assoc before (c ∷ []) cs)

-- The desk after a list of calls holds what the list's history says.
pub desk_holds : (cs : List Call) → view (desk_after nothing cs) ≡ after cs
unfolding after last_left held_from
desk_holds cs = kept_from [] nothing view_nothing cs

-- Every call of every list is answered as document 01 describes by the history.
pub session_yields : (cs : List Call) (c : Call) → session cs c ≡ yields (after cs) c
unfolding session
session_yields cs c = replies (desk_after nothing cs) c ∙ ap (λ h. yields h c) (desk_holds cs)
