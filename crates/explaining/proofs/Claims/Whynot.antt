-- `answer` asks nothing, its own contract allows some result, and whatever it allows is the text that is printed for its input, at the front of the lent
-- buffer. Where judge does not answer no that is the line of `verdict`; where it does, it is the reason, which explains the no in the request's words
-- (document 02, A.5). A contract that asks something or says less allows more, and this claim fails. (Proved in `Offered`.)
use Prim.Native.Nat.{ℕ}
use mathlib.Core.Path.{◌≡◌}
use mathlib.Core.Option.{some}
use contract.Lifetimes.{Lfts}
use Rattle.std.proofs.Common.{Bor, MutBor}
use Rattle.logic.specs.Model.{Model}
use Rattle.logic.specs.Verdict.{Denial, no}
use Rattle.blocks.specs.Bytes.{Bytes}
use Rattle.questions.specs.Layout.{Question}
use Rattle.protocol.specs.Calls.{judged}
use Rattle.verdict_line.specs.Text.{Put}
use Rattle.verdict_line.specs.Line.{printed}
use Rattle.verdict_line.specs.Reasons.{explained, held_of, judge_answer, Why}
use Rattle.explaining.proofs.answer.Reads as answer-reads

pub record WhynotPrinted : Type 0 where
  pub asks_nothing : (κ : Lfts 2) (input : Bor Bytes) (found : MutBor Bytes) → answer-reads.Pre κ (input, (found, tt))
  pub answers : (κ : Lfts 2) (input : Bor Bytes) (found : MutBor Bytes) → (left : MutBor Bytes) × (r : ℕ) × answer-reads.Post κ (input, (found, tt)) r (input, (left, tt))
  pub prints : (κ : Lfts 2) (input : Bor Bytes) (found left : MutBor Bytes) (r : ℕ)
      → (answer-reads.Pre κ (input, (found, tt)) → answer-reads.Post κ (input, (found, tt)) r (input, (left, tt)))
      → Put (explained input.now) found.now left.now 0 r
  -- "Yes and refusals print as in verdict."
  pub as_verdict : (b : Bytes) → ((x : Denial) → judge_answer b ≡ judged (no x) → ⊥) → explained b ≡ printed b
  -- "explains a no"
  pub on_no : (b : Bytes) (x : Denial) → judge_answer b ≡ judged (no x)
      → (m : Model) × (q : Question) × ((held_of b).model ≡ some m) × ((held_of b).question ≡ some q) × Why m q (explained b)
