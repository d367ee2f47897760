-- The text that is printed is the chain that contracts cite: after each call that is done the desk holds what the next one asks for, and a
-- refusal is printed at once.
use mathlib.Core.Path.{◌≡◌, refl, ap₂, ◌∙◌}
use mathlib.Core.Bool.{Bool, true, false, cond}
use mathlib.Core.List.{List, [], ◌∷◌}
use lib.ListN.{length}
use Rattle.logic.specs.Checked.{Checked, ok, refused, ◌>>=◌, ◌>>◌, guard}
use Rattle.logic.specs.Model.{Model}
use Rattle.logic.specs.Limits.{limits}
use Rattle.blocks.specs.Bytes.{Bytes, within}
use Rattle.models.specs.Grounds.{read_model}
use Rattle.questions.specs.Layout.{Question}
use Rattle.protocol.specs.Calls.{Call, load, put, judge, Held, Reply, question_for}
use Rattle.protocol.specs.Replies.{replies_after}
use Rattle.protocol.specs.promises.Chains.{do_put, do_judge, by_chain}
use Rattle.protocol.proofs.AfterEachCall.{next}
use Rattle.protocol.proofs.Lists.{empty, with_model, with_question, after_none, after_more, reply_is}
use Rattle.verdict_line.specs.Line.{Says, verdict_says, model_part, question_part, refused_line, replies_text, text_for, text_of, printed}
use Rattle.verdict_line.specs.Reasons.{whynot_says, explained}
use Rattle.verdict_line.specs.promises.Chain.{judging_text, asking_text, loading_text, judged_text, line_of, answer_text}

module _ (says : Says) where
  asks : (m : Model) (b : Bytes) (q : Question) (c : Checked (Unit {0})) → limits m q.nodes ≡ c
      → replies_text says (with_question b m q) (by_chain (with_question b m q) judge ∷ []) ≡ line_of (judging_text says m q)
  unfolding replies_text by_chain do_judge line_of
  asks m b q (ok u) e = rw e refl
  asks m b q (refused k) e = rw e refl

  puts : (m : Model) (b question : Bytes) (c : Checked Question) → question_for m question ≡ c
      → replies_text says (next (with_model b m) (put question)) (by_chain (with_model b m) (put question) ∷ by_chain (next (with_model b m) (put question)) judge ∷ [])
      ≡ line_of (c >>= judging_text says m)
  unfolding replies_text by_chain next do_put line_of
  puts m b question (ok q) e = rw e (asks m b q (limits m q.nodes) refl)
  puts m b question (refused k) e = rw e refl

  loads : (model question : Bytes) (c : Checked Model) → read_model model ≡ c
      → replies_text says (next (next empty (load model)) (put question))
      (by_chain empty (load model) ∷ by_chain (next empty (load model)) (put question) ∷ by_chain (next (next empty (load model)) (put question)) judge ∷ [])
      ≡ line_of (c >>= (λ m. asking_text says m question))
  unfolding replies_text by_chain next line_of
  loads model question (ok m) e = rw e (puts m model question (question_for m question) refl)
  loads model question (refused k) e = rw e refl

  module _ (model question : Bytes) where
    three : {h h' : Held} {a b c a' b' c' : Reply} → h ≡ h' → a ≡ a' → b ≡ b' → c ≡ c'
        → replies_text says h (a ∷ b ∷ c ∷ []) ≡ replies_text says h' (a' ∷ b' ∷ c' ∷ [])
    three {h' = h'} {b = b} {c = c} {a' = a'} e f g i =
        ap₂ (λ k x. replies_text says k (x ∷ b ∷ c ∷ [])) e f ∙ ap₂ (λ x y. replies_text says h' (a' ∷ x ∷ y ∷ [])) g i

    for_is : text_for says model question ≡ line_of (loading_text says model question)
    unfolding text_for replies_after
    for_is =
        let one : List Call = load model ∷ [] in
        let two : List Call = load model ∷ put question ∷ [] in
        let h = after_more [] (load model) after_none in
        let k = after_more one (put question) h in
        three k (reply_is [] (load model) after_none) (reply_is one (put question) h) (reply_is two judge k)
        ∙ loads model question (read_model model) refl

  text_is : (b : Bytes) → text_of says b ≡ answer_text says b
  unfolding text_of answer_text judged_text line_of
  text_is b = by (within 512 6656 (length b))
    where
      by : (t : Bool)
          → cond t (text_for says (model_part b) (question_part b)) (refused_line 1)
          ≡ line_of (guard 1 t >> loading_text says (model_part b) (question_part b))
      by true = for_is (model_part b) (question_part b)
      by false = refl

pub printed_is : (b : Bytes) → printed b ≡ answer_text verdict_says b
unfolding printed
printed_is b = text_is verdict_says b

pub explained_is : (b : Bytes) → explained b ≡ answer_text whynot_says b
unfolding explained
explained_is b = text_is whynot_says b
