-- The call for the arm's controller, which is in C. Document 01: "One call takes the model, question and sheet buffer as byte slices and
-- gives 0 for no, 1 for yes, or 100 plus the refusal: it loads, puts, judges and, on yes with a "plan" root, writes, on an empty desk,
-- stopping at the first refusal. The buffer changes only in that last step." (An operator 9 root is like a "plan" root: document 02, A.3.)
use Rattle.std.specs.Prelude.{ℕ, ◌+◌, List, [], ◌∷◌}
use Rattle.logic.specs.Verdict.{Verdict, no, yes, yes_plan}
use Rattle.blocks.specs.Bytes.{Bytes}
use Rattle.protocol.specs.Calls.{load, put, judge, query, write, Answer, done, judged, written, accepted, refuse, Reply}
use Rattle.protocol.specs.Replies.{replies_to}

pub record Told : Type 0 where
  pub number : ℕ
  pub buffer : Bytes

-- What is told of one answer: `found` is the buffer before the calls, `left` the buffer after this one, `rest` what the later replies tell.
abbrev pub told_verdict : (found : Bytes) → Verdict → (rest : Told) → Told
told_verdict found (no x) rest = record { number = 0; buffer = found }
told_verdict found yes rest = record { number = 1; buffer = found }
told_verdict found (yes_plan x) rest = rest

abbrev pub told_answer : (found left : Bytes) → Answer → (rest : Told) → Told
told_answer found left done rest = rest
told_answer found left (judged v) rest = told_verdict found v rest
told_answer found left (written bytes) rest = record { number = 1; buffer = left }
told_answer found left (accepted report) rest = rest
told_answer found left (refuse k) rest = record { number = 100 + k; buffer = found }

-- What is told of the replies, one after the other. (The end of the list is not reached: the write is answered or refused.)
unfoldable pub told : (found : Bytes) → List Reply → Told
told found [] = record { number = 0; buffer = found }
told found (r ∷ rs) = told_answer found r.buffer r.answer (told found rs)

unfoldable pub c_call : (model question found : Bytes) → Told
c_call model question found = told found (replies_to (load model ∷ put question ∷ judge ∷ query (write found) ∷ []))
