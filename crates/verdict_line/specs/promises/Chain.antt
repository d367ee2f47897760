-- The text as a chain of refusals: what the contracts of `printing::answer` and `explaining::answer` cite. That it is the text printed is proved
-- (`LineIsChain`).
use Rattle.std.specs.Prelude.{ℕ, List, length}
use Rattle.logic.specs.Checked.{Checked, ok, refused, ◌>>=◌, ◌>>◌, guard}
use Rattle.logic.specs.Model.{Model}
use Rattle.logic.specs.Verdict.{verdict}
use Rattle.logic.specs.Limits.{limits}
use Rattle.blocks.specs.Bytes.{Bytes, within}
use Rattle.models.specs.Grounds.{read_model}
use Rattle.questions.specs.Layout.{Question}
use Rattle.protocol.specs.Calls.{question_for}
use Rattle.verdict_line.specs.Line.{Says, model_part, question_part, refused_line}

-- ---- what is left to do

module _ (says : Says) where
  -- With a model and a question.
  abbrev pub judging_text : Model → Question → Checked (List ℕ)
  judging_text m q = limits m q.nodes >> ok (says m q (verdict m q.start q.root))

  -- With a model.
  abbrev pub asking_text : Model → (question : Bytes) → Checked (List ℕ)
  asking_text m c = question_for m c >>= judging_text m

  abbrev pub loading_text : (model question : Bytes) → Checked (List ℕ)
  loading_text b c = read_model b >>= (λ m. asking_text m c)

  -- The text of the verdict, or the first refusal.
  unfoldable pub judged_text : Bytes → Checked (List ℕ)
  judged_text b = guard 1 (within 512 6656 (length b)) >> loading_text (model_part b) (question_part b)

unfoldable pub line_of : Checked (List ℕ) → List ℕ
line_of (ok line) = line
line_of (refused k) = refused_line k

unfoldable pub answer_text : Says → Bytes → List ℕ
answer_text says b = line_of (judged_text says b)
