-- The one line that the program `verdict` prints for its input. Document 01, "The program named verdict", and document 02, A.4, for the lamp. What it
-- reads and how it comes to a verdict, `whynot` shares (`Reasons`).
use Rattle.std.specs.Prelude.{ℕ, ◌-◌, ◌^◌, Bool, true, false, cond, ℤ, length, take, drop}
use mathlib.Core.List.{List, [], ◌∷◌, ◌++◌, flat_map}
use Rattle.std.proofs.Math.Option.{Option, none, some}
use Rattle.logic.specs.Model.{Model}
use Rattle.logic.specs.Bound.{Lamp, below, at, above}
use Rattle.logic.specs.Formula.{Formula, on_bound}
use Rattle.logic.specs.Verdict.{Verdict, no, yes, yes_plan}
use Rattle.blocks.specs.Bytes.{Bytes, within}
use Rattle.questions.specs.Layout.{Question}
use Rattle.protocol.specs.Calls.{load, put, judge, Held, Answer, done, judged, written, accepted, refuse, Reply}
use Rattle.protocol.specs.History.{after}
use Rattle.protocol.specs.Replies.{replies_to}
use Rattle.verdict_line.specs.Text.{text, signed_decimal, numbered}

-- ---- the line of each answer

unfoldable pub refused_line : ℕ → List ℕ
refused_line k = numbered "refused " k ++ text "\n"

-- Roots other than "plan" and operator 9.
unfoldable pub plain_line : Bool → List ℕ
plain_line true = text "yes\n"
plain_line false = text "no\n"

-- "The program prints `below`, `at` or `above`", after a space
unfoldable pub lamp_word : Lamp → List ℕ
lamp_word below = text " below"
lamp_word at = text " at"
lamp_word above = text " above"

unfoldable pub optional_word : Option Lamp → List ℕ
optional_word none = []
optional_word (some l) = lamp_word l

-- "on such a no after the count"
unfoldable pub no_plans_line : ℕ → Option Lamp → List ℕ
no_plans_line count o = numbered "no plans " count ++ optional_word o ++ text "\n"

-- W, for operator 9 the total, over D to the n, unreduced, then the lamp, the count, and the choices. A total below 0 has a minus.
unfoldable pub yes_plan_line : (total : ℤ) (whole : ℕ) → Lamp → (count : ℕ) → List ℕ → List ℕ
yes_plan_line w t l count cs =
    text "yes " ++ signed_decimal w ++ numbered "/" t ++ lamp_word l ++ numbered " plans " count ++ text " choices" ++ flat_map (numbered " ") cs ++ text "\n"

-- A "plan" root, or one of operator 9.
unfoldable pub bounds_plans : Formula → Bool
bounds_plans φ = on_bound false (λ n r. true) φ

-- The line of a verdict on this root.
unfoldable pub verdict_line : Model → Formula → Verdict → List ℕ
verdict_line m φ (no x) = cond (bounds_plans φ) (no_plans_line x.count x.lamp) (plain_line false)
verdict_line m φ yes = plain_line true
verdict_line m φ (yes_plan x) = yes_plan_line x.total (m.denominator ^ x.steps) x.lamp x.count x.choices

-- ---- the text of each input

abbrev pub model_part : Bytes → Bytes
model_part b = take (length b - 512) b

abbrev pub question_part : Bytes → Bytes
question_part b = drop (length b - 512) b

-- What a program says of a verdict on what is held.
abbrev pub Says : Type 0
Says = Model → Question → Verdict → List ℕ

-- The text of the replies, up to the first refusal or the verdict: `rest` is that of the later ones. (Their end is not reached, and there is
-- no verdict where nothing is held: judge is answered or refused.)
module _ (says : Says) where
  abbrev pub held_text : Option Model → Option Question → Verdict → List ℕ
  held_text (some m) (some q) v = says m q v
  held_text (some m) none v = []
  held_text none o v = []

  abbrev pub reply_text : Held → Answer → (rest : List ℕ) → List ℕ
  reply_text h done rest = rest
  reply_text h (judged v) rest = held_text h.model h.question v
  reply_text h (written bytes) rest = rest
  reply_text h (accepted report) rest = rest
  reply_text h (refuse k) rest = refused_line k

  unfoldable pub replies_text : Held → List Reply → List ℕ
  replies_text h [] = []
  replies_text h (r ∷ rs) = reply_text h r.answer (replies_text h rs)

  -- "loads, puts and judges in turn up to the first refusal"
  unfoldable pub text_for : (model question : Bytes) → List ℕ
  text_for model question = replies_text (after (load model ∷ put question ∷ [])) (replies_to (load model ∷ put question ∷ judge ∷ []))

  -- Of every input: the last 512 bytes are the question, those before it the model. "Input under 512 bytes or over 13 blocks is refused
  -- with 1."
  unfoldable pub text_of : Bytes → List ℕ
  text_of b = cond (within 512 6656 (length b)) (text_for (model_part b) (question_part b)) (refused_line 1)

-- What `verdict` prints.
abbrev pub verdict_says : Says
verdict_says m q v = verdict_line m q.root v

unfoldable pub printed : Bytes → List ℕ
printed b = text_of verdict_says b
