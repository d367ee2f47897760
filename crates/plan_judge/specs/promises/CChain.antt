-- The C call as a chain of refusals: what its contract cites. That it is the list load, put, judge, write is proved (`CList`).
use Rattle.std.specs.Prelude.{ℕ, ◌+◌, ◌-◌, ◌≡◌, Bool, true, false, cond, List, [], ◌++◌, leb, ℤ, length, drop, Result, Ok, Err}
use Rattle.refusals.specs.declared.Refusal.{Refusal}
use Rattle.refusals.specs.Number.{number}
use Rattle.logic.specs.Checked.{Checked, ok, refused, ◌>>=◌, ◌>>◌, guard}
use Rattle.logic.specs.Model.{Model}
use Rattle.logic.specs.Limits.{limits}
use Rattle.logic.specs.Verdict.{Verdict, no, yes, yes_plan, verdict}
use Rattle.blocks.specs.Bytes.{Bytes}
use Rattle.models.specs.Grounds.{read_model}
use Rattle.models.specs.Layout.{model_of}
use Rattle.questions.specs.Layout.{Question, start_of, node_count, node_of, question_of}
use Rattle.sheets.specs.Layout.{sheet_bytes}
use Rattle.protocol.specs.Calls.{question_for}
use Rattle.plan_judge.specs.View.{choices_in}

-- What is told of a question that is not refused: yes or no, and the bytes of the sheet that is written; none where no plan is shown.
pub record Told : Type 0 where
  pub answer : Bool
  pub sheet : Bytes

-- Choices begin with those of a plan for the root of a question.
pub record Begins (m q : Bytes) (cs : List ℕ) : Type 0 where
  pub plan : List ℕ
  pub found : choices_in (model_of m) (question_of q) cs ≡ ok plan

-- The sheet of a plan with these choices for the root of a question, told with a buffer of this size: it fits, or ground 12.
unfoldable pub told_sheet : (q : Bytes) (size : ℕ) → ℤ → List ℕ → Checked Told
told_sheet q size total cs = do
  guard 12 (leb (length (sheet_bytes (node_of q (node_count q - 1)).n (start_of q) total cs)) size)
  ok (record { answer = true; sheet = sheet_bytes (node_of q (node_count q - 1)).n (start_of q) total cs })

-- A verdict, told with a buffer of this size: a shown plan's sheet fits it, or ground 12.
unfoldable pub told_of : (start size : ℕ) → Verdict → Checked Told
told_of start size (no x) = ok (record { answer = false; sheet = [] })
told_of start size yes = ok (record { answer = true; sheet = [] })
told_of start size (yes_plan x) = do
  guard 12 (leb (length (sheet_bytes x.steps start x.total x.choices)) size)
  ok (record { answer = true; sheet = sheet_bytes x.steps start x.total x.choices })

-- A question on a model: grounds 24 and 25, then its verdict.
unfoldable pub told_on : (size : ℕ) → Model → Question → Checked Told
told_on size m q = do
  limits m q.nodes
  told_of q.start size (verdict m q.start q.root)

-- The whole: grounds 1 to 7 of the model, 1 to 6, 9 and 13 of the question, 24 and 25, and 12 last.
unfoldable pub c_chain : (model question : Bytes) (size : ℕ) → Checked Told
c_chain model question size = do
  m ← read_model model
  q ← question_for m question
  told_on size m q

-- 0 for no, 1 for yes, or 100 plus the refusal.
abbrev pub c_number : Checked Told → ℕ
c_number (ok t) = cond t.answer 1 0
c_number (refused k) = 100 + k

-- The same of what the code found: yes or no, or a refusal.
abbrev pub c_code : Result Bool Refusal → ℕ
c_code (Ok t) = cond t 1 0
c_code (Err r) = 100 + number r

-- The buffer afterwards: the sheet in its first bytes, and every other byte as found.
abbrev pub c_buffer : Bytes → Checked Told → Bytes
c_buffer found (ok t) = t.sheet ++ drop (length t.sheet) found
c_buffer found (refused k) = found

-- The call gives the number r and leaves the buffer, which it found so, as told.
pub record Tells (c : Checked Told) (found left : Bytes) (r : ℕ) : Type 0 where
  pub number : r ≡ c_number c
  pub buffer : left ≡ c_buffer found c
