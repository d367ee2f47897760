-- What the program `whynot` prints for its input. Document 02, A.5.
use Rattle.std.specs.Prelude.{ℕ, ◌≡◌}
use mathlib.Core.List.{List, [], ◌∷◌, ◌++◌, flat_map}
use Rattle.std.proofs.Math.Option.{Option, none, some}
use Rattle.logic.specs.Checked.{ok, refused}
use Rattle.logic.specs.Model.{Model}
use Rattle.logic.specs.Bound.{Bound}
use Rattle.logic.specs.Verdict.{bound_of, no, yes, yes_plan}
use Rattle.logic.specs.Reason.{Reached, Reason, greatest, least, nearest, no_reason, reason, Explains}
use Rattle.blocks.specs.Bytes.{Bytes}
use Rattle.questions.specs.Layout.{Question}
use Rattle.protocol.specs.Calls.{load, put, judge, Held, Answer, yields}
use Rattle.protocol.specs.History.{after}
use Rattle.verdict_line.specs.Text.{text, signed_decimal, numbered}
use Rattle.verdict_line.specs.Line.{Says, verdict_says, text_of, model_part, question_part}

-- A total over D to the n, unreduced, with the first plan that has it: `greatest 8/10 choices 0`; "a side without one reads `above none`".
unfoldable pub reached_line : (word : List ℕ) → Option Reached → List ℕ
reached_line word none = word ++ text " none\n"
reached_line word (some x) =
    word ++ (text " " ++ signed_decimal x.total) ++ numbered "/" x.whole ++ text " choices" ++ flat_map (numbered " ") x.choices ++ text "\n"

-- "For "equal" it prints the nearest totals that some plan reaches on either side"; "A no to another root prints `no reason`."
unfoldable pub reason_text : Reason → List ℕ
reason_text (greatest o) = reached_line (text "greatest") o
reason_text (least o) = reached_line (text "least") o
reason_text (nearest lower upper) = reached_line (text "below") lower ++ reached_line (text "above") upper
reason_text no_reason = text "no reason\n"

-- "explains a no"; "Yes and refusals print as in verdict."
unfoldable pub whynot_says : Says
whynot_says m q (no x) = reason_text (reason m q.start q.root)
whynot_says m q yes = verdict_says m q yes
whynot_says m q (yes_plan x) = verdict_says m q (yes_plan x)

unfoldable pub explained : Bytes → List ℕ
explained b = text_of whynot_says b

-- ---- what is claimed of the text

-- What is held when an input's model is loaded and its question put, and the answer to judge then. (Input of another length is parted all the same;
-- load refuses such a model, and judge gives no verdict.)
abbrev pub held_of : Bytes → Held
held_of b = after (load (model_part b) ∷ put (question_part b) ∷ [])

abbrev pub judge_answer : Bytes → Answer
judge_answer b = (yields (held_of b) judge).answer

-- The text of a no to the question q on the model m.
pub record Why (m : Model) (q : Question) (printed_text : List ℕ) : Type 0 where
  pub said : Reason
  pub its_text : printed_text ≡ reason_text said
  -- "a no to a root of operator 8 or 9"
  pub on_bounds : (b : Bound) → bound_of m q.start q.root ≡ ok b → Explains m q.start b said
  -- "to another root"
  pub on_others : (k : ℕ) → bound_of m q.start q.root ≡ refused k → said ≡ no_reason
