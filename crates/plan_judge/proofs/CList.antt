-- The chain that the C call's contract cites is what the list load, put, judge, write on an empty desk tells: after each call of the list
-- that is done, the desk holds what the next one asks for, and a refusal is told on.
use mathlib.Core.Path.{◌≡◌, refl, ap, ap₂, ◌∙◌}
use mathlib.Core.Bool.{true}
use mathlib.Core.List.{List, [], ◌∷◌}
use lib.ListN.{length}
use Rattle.logic.specs.Checked.{Checked, ok, refused, ◌>>=◌}
use Rattle.logic.specs.Model.{Model}
use Rattle.logic.specs.Verdict.{verdict}
use Rattle.logic.specs.Verdict as logic
use Rattle.logic.specs.Limits.{limits}
use Rattle.blocks.specs.Bytes.{Bytes}
use Rattle.models.specs.Grounds.{read_model}
use Rattle.questions.specs.Layout.{Question}
use Rattle.protocol.specs.Calls.{Call, load, put, judge, query, write, judged, Reply, says, wrote, question_for}
use Rattle.protocol.specs.Replies.{replies_after}
use Rattle.protocol.specs.CCall as list
use Rattle.protocol.specs.CCall.{told, c_call}
use Rattle.protocol.specs.promises.Chains.{do_put, do_judge, do_write, answered, by_chain}
use Rattle.protocol.proofs.AfterEachCall.{next}
use Rattle.protocol.proofs.Lists.{empty, with_model, with_question, after_none, after_more, reply_is}
use Rattle.plan_judge.specs.promises.CChain.{Told, told_of, told_on, c_chain, c_number, c_buffer}
use Rattle.plan_judge.proofs.CSteps.{told_write, held_shown, shown_written}

module _ (found : Bytes) where
  -- What is told of a chain.
  abbrev chained : Checked Told → list.Told
  chained c = record { number = c_number c; buffer = c_buffer found c }

  -- The write, from the desk with a shown plan.
  writes : (c : Checked Bytes) → told found (answered found c (wrote found) ∷ []) ≡ chained (c >>= (λ b. ok (record { answer = true; sheet = b })))
  unfolding told
  writes (ok b) = refl
  writes (refused k) = refl

  -- A verdict, and the write where it shows a plan.
  judges : (m : Model) (b : Bytes) (q : Question) (v : logic.Verdict) → v ≡ verdict m q.start q.root
      → told found (says (judged v) ∷ answered found (do_write (held_shown m b q v) (length found)) (wrote found) ∷ [])
      ≡ chained (told_of q.start (length found) v)
  unfolding told told_of told_write
  judges m b q (logic.no x) e = refl
  judges m b q logic.yes e = refl
  judges m b q (logic.yes_plan x) e =
      writes (do_write (held_shown m b q (logic.yes_plan x)) (length found)) ∙ ap chained (shown_written m b q (length found) x e)

  -- Judging, from the desk with a model and a question.
  asks : (m : Model) (b : Bytes) (q : Question) (c : Checked (Unit {0})) → limits m q.nodes ≡ c
      → told found (by_chain (with_question b m q) judge ∷ by_chain (next (with_question b m q) judge) (query (write found)) ∷ [])
      ≡ chained (told_on (length found) m q)
  unfolding told by_chain next do_judge told_on
  asks m b q (ok u) e = rw e (judges m b q (verdict m q.start q.root) refl)
  asks m b q (refused k) e = rw e refl

  -- Putting, from the desk with a model.
  puts : (m : Model) (b question : Bytes) (c : Checked Question) → question_for m question ≡ c
      → told found (by_chain (with_model b m) (put question) ∷ by_chain (next (with_model b m) (put question)) judge
      ∷ by_chain (next (next (with_model b m) (put question)) judge) (query (write found)) ∷ [])
      ≡ chained (c >>= told_on (length found) m)
  unfolding told by_chain next do_put
  puts m b question (ok q) e = rw e (asks m b q (limits m q.nodes) refl)
  puts m b question (refused k) e = rw e refl

  loads : (model question : Bytes) (c : Checked Model) → read_model model ≡ c
      → told found (by_chain empty (load model) ∷ by_chain (next empty (load model)) (put question)
      ∷ by_chain (next (next empty (load model)) (put question)) judge
      ∷ by_chain (next (next (next empty (load model)) (put question)) judge) (query (write found)) ∷ [])
      ≡ chained (c >>= (λ m. question_for m question >>= told_on (length found) m))
  unfolding told by_chain next
  loads model question (ok m) e = rw e (puts m model question (question_for m question) refl)
  loads model question (refused k) e = rw e refl

-- The list's replies, by what is held after each call.
module _ (model question found : Bytes) where
  four : {a b c d a' b' c' d' : Reply} → a ≡ a' → b ≡ b' → c ≡ c' → d ≡ d' → told found (a ∷ b ∷ c ∷ d ∷ []) ≡ told found (a' ∷ b' ∷ c' ∷ d' ∷ [])
  four {b = b} {c = c} {d = d} {a' = a'} {b' = b'} e f g h =
      ap₂ (λ x y. told found (x ∷ y ∷ c ∷ d ∷ [])) e f ∙ ap₂ (λ x y. told found (a' ∷ b' ∷ x ∷ y ∷ [])) g h

  pub c_list : c_call model question found ≡ record { number = c_number (c_chain model question (length found)); buffer = c_buffer found (c_chain model question (length found)) }
  unfolding c_call replies_after c_chain
  c_list =
      let one : List Call = load model ∷ [] in
      let two : List Call = load model ∷ put question ∷ [] in
      let three : List Call = load model ∷ put question ∷ judge ∷ [] in
      let h = after_more [] (load model) after_none in
      let k = after_more one (put question) h in
      let l = after_more two judge k in
      four (reply_is [] (load model) after_none) (reply_is one (put question) h) (reply_is two judge k) (reply_is three (query (write found)) l)
      ∙ loads found model question (read_model model) refl
