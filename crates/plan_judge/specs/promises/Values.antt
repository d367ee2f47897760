-- What each call returns, for every desk value and every input, by the grounds and definitions of the calls.
use Rattle.std.specs.Prelude.{ℕ, ◌-◌, ◌/◌, ◌++◌, length, drop, replicate, Some, None, Result, Ok, Err}
use Rattle.logic.specs.Checked.{Checked, ok, refused, ◌>>◌}
use Rattle.logic.specs.Model.{Model}
use Rattle.logic.specs.Limits.{limits}
use Rattle.logic.specs.Verdict as logic
use Rattle.blocks.specs.Bytes.{Bytes}
use Rattle.models.specs.Grounds.{read_model}
use Rattle.questions.specs.Layout.{Question}
use Rattle.protocol.specs.Calls.{Report}
use Rattle.protocol.specs.promises.Chains.{do_put, do_judge, do_write, do_write_model, do_check}
use Rattle.lamp.specs.promises.Codes.{lamp_code}
use Rattle.plan_judge.specs.declared.Desk.{Desk}
use Rattle.refusals.specs.declared.Refusal.{Refusal}
use Rattle.refusals.specs.promises.Named.{named}
use Rattle.plan_judge.specs.declared.Taking.{Taking}
use Rattle.plan_judge.specs.declared.Judging.{Judging}
use Rattle.plan_judge.specs.declared.Ruling.{Ruling}
use Rattle.plan_judge.specs.declared.Report as code
use Rattle.judging.specs.promises.Announced.{verdict_code}
use Rattle.plan_judge.specs.View.{view}

-- The bytes with zeros after them, n in all.
unfoldable pub padded : ℕ → Bytes → Bytes
padded n b = b ++ replicate (n - length b) 0

-- The empty desk.
unfoldable pub nothing : Desk
nothing =
    record { blocks = 0; model = replicate 6144 0; question = None; verdict = None; choices = replicate 1365 0 }

-- The desk changes only where the call is not refused.
abbrev pub taking : {A : Type 0} → Desk → Checked A → Desk → Taking
taking d (ok a) e = record { answer = Ok tt; desk = e }
taking d (refused k) e = record { answer = Err (named k); desk = d }

-- A desk with this model and nothing else.
unfoldable pub holding : Bytes → Desk
holding b =
    record { blocks = length b / 512; model = padded 6144 b; question = None; verdict = None; choices = replicate 1365 0 }

unfoldable pub loaded_by : Desk → Bytes → Taking
loaded_by d b = taking d (read_model b) (holding b)

-- The desk with this question, not judged.
unfoldable pub asking : Desk → Bytes → Desk
asking d b =
    record { blocks = d.blocks; model = d.model; question = Some (padded 512 b); verdict = None; choices = replicate 1365 0 }

unfoldable pub put_by : Desk → Bytes → Taking
put_by d b = taking d (do_put (view d) b) (asking d b)

-- ---- judge

-- The choices of a verdict as they are returned and held, with zeros after them.
unfoldable pub choices_code : logic.Verdict → Bytes
choices_code (logic.no x) = replicate 1365 0
choices_code logic.yes = replicate 1365 0
choices_code (logic.yes_plan x) = padded 1365 x.choices

-- Sets the verdict only.
unfoldable pub settling : Desk → logic.Verdict → Desk
settling d v =
    record { blocks = d.blocks; model = d.model; question = d.question; verdict = Some (verdict_code v); choices = choices_code v }

-- Grounds 24 and 25, then the verdict.
abbrev pub judge_on : Model → Question → Checked logic.Verdict
judge_on m q = limits m q.nodes >> ok (logic.verdict m q.start q.root)

-- What judging comes to.
abbrev pub ruling : Checked logic.Verdict → Ruling
ruling (ok v) = record { answer = Ok (verdict_code v); choices = choices_code v }
ruling (refused k) = record { answer = Err (named k); choices = replicate 1365 0 }

abbrev pub judging : Desk → Checked logic.Verdict → Judging
judging d (ok v) = record { answer = Ok (verdict_code v); choices = choices_code v; desk = settling d v }
judging d (refused k) = record { answer = Err (named k); choices = replicate 1365 0; desk = d }

unfoldable pub judged_by : Desk → Judging
judged_by d = judging d (do_judge (view d))

-- ---- write, write_model and check, which leave the desk

abbrev pub writing : Checked Bytes → Result ℕ Refusal
writing (ok b) = Ok (length b)
writing (refused k) = Err (named k)

unfoldable pub written_by : Desk → ℕ → Result ℕ Refusal
written_by d size = writing (do_write (view d) size)

-- The lent buffer afterwards.
abbrev pub filling : Bytes → Checked Bytes → Bytes
filling a (ok b) = b ++ drop (length b) a
filling a (refused k) = a

unfoldable pub filled_by : Desk → Bytes → Bytes
filled_by d a = filling a (do_write (view d) (length a))

unfoldable pub model_written_by : Desk → ℕ → Result ℕ Refusal
model_written_by d size = writing (do_write_model (view d) size)

unfoldable pub model_filled_by : Desk → Bytes → Bytes
model_filled_by d a = filling a (do_write_model (view d) (length a))

abbrev pub checking : Checked Report → Result code.Report Refusal
checking (ok r) = Ok (record { met = r.met; lamp = lamp_code r.lamp })
checking (refused k) = Err (named k)

unfoldable pub checked_by : Desk → Bytes → Result code.Report Refusal
checked_by d b = checking (do_check (view d) b)
