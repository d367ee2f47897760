-- The six calls, and what each yields by what the desk holds. Document 01, "The desk", "Refused because of the input" and "Refused because
-- of the state"; document 02, A.7, for the sixth, write_model. The desk is document 01's word for the judge's state.
use Rattle.std.specs.Prelude.{ℕ, Bool, ◌&&◌, [], ◌∷◌, ◌++◌, leb, ℤ, length, drop}
use Rattle.std.proofs.Math.Option.{Option, none, some}
use Rattle.std.specs.Int.Signed.{le_z}
use Rattle.logic.specs.Checked.{Checked, ok, refused, got}
use Rattle.logic.specs.Grounds.{◌unless◌}
use Rattle.logic.specs.Model.{Model}
use Rattle.logic.specs.Plan.{Plan}
use Rattle.logic.specs.Bound.{Lamp}
use Rattle.logic.specs.Verdict.{Goal, goal, Verdict, no, yes, yes_plan, verdict}
use Rattle.logic.specs.Limits.{limit_grounds}
use Rattle.logic.specs.Choices.{plan_of}
use Rattle.blocks.specs.Bytes.{Bytes}
use Rattle.models.specs.Grounds.{model_grounds}
use Rattle.questions.specs.Layout.{Question}
use Rattle.questions.specs.Grounds.{question_grounds, read_question}
use Rattle.sheets.specs.Layout.{Sheet, sheet_of, sheet_bytes}
use Rattle.sheets.specs.Grounds.{sheet_grounds}
use Rattle.protocol.specs.Tested.{Tested, value, ◌>>=◌, ◌>>◌, found, tests, run}

-- A query leaves the desk as it is: write (of the sheet) and write_model with the contents of the lent buffer, check with a sheet.
pub data Query : Type 0 where
  write check write_model : Bytes → Query

-- Each call with its input.
pub data Call : Type 0 where
  load put : Bytes → Call
  judge : Call
  query : Query → Call

-- The lent buffer as it is found; nothing for calls that are lent none.
unfoldable pub lent : Call → Bytes
lent (load b) = []
lent (put b) = []
lent judge = []
lent (query (write a)) = a
lent (query (check b)) = []
lent (query (write_model a)) = a

-- What the desk holds. The blocks are the bytes that the model was read from; without a model there are none.
pub record Held : Type 0 where
  pub model : Option Model
  pub blocks : Bytes
  pub question : Option Question
  pub verdict : Option Verdict

-- What check reports of a sheet that it accepts: whether the sheet's total meets the bound, and its lamp (document 02, A.4).
pub record Report : Type 0 where
  pub met : Bool
  pub lamp : Lamp

pub data Answer : Type 0 where
  done : Answer
  judged : Verdict → Answer
  written : (bytes : ℕ) → Answer
  accepted : Report → Answer
  refuse : (number : ℕ) → Answer

-- A call's answer, and the lent buffer after it.
pub record Reply : Type 0 where
  pub answer : Answer
  pub buffer : Bytes

abbrev pub says : Answer → Reply
says a = record { answer = a; buffer = [] }

-- The reply to a call that wrote b into the lent buffer, found so: b fills the first bytes, and no byte beyond changes.
abbrev pub wrote : (found b : Bytes) → Reply
wrote a b = record { answer = written (length b); buffer = b ++ drop (length b) a }

-- Writing b into the lent buffer: ground 12, "buffer shorter than the sheet" and, by document 02, A.7, "too short for the model".
abbrev pub written_to : (found b : Bytes) → Tested Reply
written_to a b = do
  tests (12 unless leb (length b) (length a) ∷ [])
  value (wrote a b)

-- A question is read for the model's numbers of states, actions and propositions.
abbrev pub question_for : Model → Bytes → Checked Question
question_for m b = read_question (length m.states) (length m.actions) m.propositions b

-- The sheet of the shown plan: none if not judged, or judged no.
unfoldable pub shown_sheet : Option Verdict → Option Sheet
shown_sheet none = none
shown_sheet (some (no x)) = none
shown_sheet (some yes) = none
shown_sheet (some (yes_plan x)) = some (record { weight = x.total; choices = x.choices })

-- The bytes that are written of it, its total in two's complement.
abbrev pub written_bytes : Question → Goal → Sheet → Bytes
written_bytes q g x = sheet_bytes g.steps q.start x.weight x.choices

unfoldable pub same : ℤ → ℤ → Bool
same a b = le_z a b && le_z b a

-- ---- each call: its grounds, in their order, and what it yields if none applies

-- The plan on a sheet that is accepted for a goal.
unfoldable pub accepted_plan : Model → Question → (g : Goal) → Bytes → Tested (Plan g.steps)
accepted_plan m q g b = do
  tests (sheet_grounds g.steps q.start b)
  π ← found 10 (got (plan_of m g.steps q.start (sheet_of b).choices))
  tests (11 unless same (sheet_of b).weight (g.total π) ∷ [])
  value π

-- What is reported of it.
abbrev pub reported : (g : Goal) → Plan g.steps → Report
reported g π = record { met = g.met π; lamp = g.lamp π }

unfoldable pub described : Held → Call → Tested Reply
described h (load b) = do
  tests (model_grounds b)
  value (says done)
described h (put b) = do
  m ← found 20 h.model
  tests (question_grounds (length m.states) (length m.actions) m.propositions b)
  value (says done)
described h judge = do
  m ← found 20 h.model
  q ← found 21 h.question
  tests (limit_grounds m q.nodes)
  value (says (judged (verdict m q.start q.root)))
described h (query (write a)) = do
  m ← found 20 h.model
  q ← found 21 h.question
  g ← found 22 (got (goal m q.start q.root))
  x ← found 23 (shown_sheet h.verdict)
  written_to a (written_bytes q g x)
described h (query (check b)) = do
  m ← found 20 h.model
  q ← found 21 h.question
  g ← found 22 (got (goal m q.start q.root))
  tests (limit_grounds m q.nodes)
  π ← accepted_plan m q g b
  value (says (accepted (reported g π)))
-- Document 02, A.7: "Given a desk with a model, write its blocks to the lent buffer. .. (20 first; 12 also for a buffer too short for the model.)"
described h (query (write_model a)) = do
  m ← found 20 h.model
  written_to a h.blocks

-- ---- what each call yields

-- The reply to a call that is not refused, and to one that is: the lent buffer is as it was found.
abbrev pub replied : Bytes → Checked Reply → Reply
replied a (ok r) = r
replied a (refused k) = record { answer = refuse k; buffer = a }

unfoldable pub yields : Held → Call → Reply
yields h c = replied (lent c) (run (described h c))
