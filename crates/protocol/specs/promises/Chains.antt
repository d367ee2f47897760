-- The calls as chains of refusals: what the code's contracts cite. That they are the calls as described is proved (`FirstGround`).
use Rattle.std.specs.Prelude.{ℕ, [], leb, length}
use Rattle.logic.specs.Checked.{Checked, ok, refused, ◌>>=◌, ◌>>◌, guard}
use Rattle.logic.specs.promises.Refusal.{held}
use Rattle.logic.specs.Model.{Model}
use Rattle.logic.specs.Verdict.{goal, Verdict, no, yes, yes_plan, verdict}
use Rattle.logic.specs.Limits.{limits}
use Rattle.logic.specs.Choices.{plan_of}
use Rattle.blocks.specs.Bytes.{Bytes}
use Rattle.models.specs.Grounds.{read_model}
use Rattle.questions.specs.Layout.{Question}
use Rattle.sheets.specs.Layout.{Sheet}
use Rattle.sheets.specs.Grounds.{read_sheet}
use Rattle.protocol.specs.Calls.{Call, load, put, judge, query, write, check, write_model, Held, Report, done, judged, accepted, refuse, Reply, says, wrote, question_for, written_bytes, same, reported}

unfoldable pub do_put : Held → Bytes → Checked Question
do_put h b = do
  m ← held 20 h.model
  question_for m b

unfoldable pub do_judge : Held → Checked Verdict
do_judge h = do
  m ← held 20 h.model
  q ← held 21 h.question
  limits m q.nodes
  ok (verdict m q.start q.root)

-- The shown plan's sheet, or ground 23: judged no.
unfoldable pub sheet_shown : Verdict → Checked Sheet
sheet_shown (no x) = refused 23
sheet_shown yes = refused 23
sheet_shown (yes_plan x) = ok (record { weight = x.total; choices = x.choices })

-- The bytes to write into a buffer of this size.
unfoldable pub do_write : Held → ℕ → Checked Bytes
do_write h size = do
  m ← held 20 h.model
  q ← held 21 h.question
  g ← goal m q.start q.root
  v ← held 23 h.verdict
  x ← sheet_shown v
  guard 12 (leb (length (written_bytes q g x)) size)
  ok (written_bytes q g x)

-- The bytes of the held model, for a buffer of this size.
unfoldable pub do_write_model : Held → ℕ → Checked Bytes
do_write_model h size = do
  m ← held 20 h.model
  guard 12 (leb (length h.blocks) size)
  ok h.blocks

-- What check does with a sheet where a model and a question are held.
unfoldable pub check_on : Model → Question → Bytes → Checked Report
check_on m q b = do
  g ← goal m q.start q.root
  limits m q.nodes
  x ← read_sheet g.steps q.start b
  π ← plan_of m g.steps q.start x.choices
  guard 11 (same x.weight (g.total π))
  ok (reported g π)

unfoldable pub do_check : Held → Bytes → Checked Report
do_check h b = do
  m ← held 20 h.model
  q ← held 21 h.question
  check_on m q b

-- The reply to a call that was refused, and to one that was not.
abbrev pub answered : {A : Type 0} → Bytes → Checked A → (A → Reply) → Reply
answered a (ok x) f = f x
answered a (refused k) f = record { answer = refuse k; buffer = a }

unfoldable pub by_chain : Held → Call → Reply
by_chain h (load b) = answered [] (read_model b) (λ m. says done)
by_chain h (put b) = answered [] (do_put h b) (λ q. says done)
by_chain h judge = answered [] (do_judge h) (λ v. says (judged v))
by_chain h (query (write a)) = answered a (do_write h (length a)) (wrote a)
by_chain h (query (check b)) = answered [] (do_check h b) (λ r. says (accepted r))
by_chain h (query (write_model a)) = answered a (do_write_model h (length a)) (wrote a)
