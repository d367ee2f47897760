-- What the code answers, in document 01's words: of each case of an answer that is an enum, the paper's number and values. Lamps stand in `lamp`.
use Rattle.std.specs.Prelude.{ℕ, List, Result, Ok, Err}
use Rattle.std.proofs.Math.Option.{Option, none, some}
use Rattle.logic.specs.Verdict as logic
use Rattle.protocol.specs.Calls.{Held, Answer, done, judged, written, accepted, refuse}
use Rattle.lamp.specs.Said.{said_lamp}
use Rattle.refusals.specs.declared.Refusal.{Refusal}
use Rattle.refusals.specs.Number.{number}
use Rattle.judging.specs.declared.Verdict.{Verdict}
use Rattle.plan_judge.specs.declared.Report.{Report}
use Rattle.plan_judge.specs.View.{verdict_on}

unfoldable pub said_taken : Result (Unit {0}) Refusal → Answer
said_taken (Ok a) = done
said_taken (Err r) = refuse (number r)

-- A verdict is said with the choices beside it. Where no model or question is held, or they are not those of a plan, it would be a refusal
-- with the number 0, which document 01 lists for no call: demand 1 says that this does not happen.
unfoldable pub said_verdict : Option logic.Verdict → Answer
said_verdict none = refuse 0
said_verdict (some v) = judged v

unfoldable pub said_judgement : Held → Result Verdict Refusal → List ℕ → Answer
said_judgement h (Ok v) cs = said_verdict (verdict_on h.model h.question cs v)
said_judgement h (Err r) cs = refuse (number r)

unfoldable pub said_written : Result ℕ Refusal → Answer
said_written (Ok n) = written n
said_written (Err r) = refuse (number r)

unfoldable pub said_checking : Result Report Refusal → Answer
said_checking (Ok r) = accepted (record { met = r.met; lamp = said_lamp r.lamp })
said_checking (Err r) = refuse (number r)
