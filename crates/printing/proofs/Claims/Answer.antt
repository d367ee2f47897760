-- `answer` asks nothing, its own contract allows some result, and whatever it allows is the line that is printed for its input, at the front
-- of the lent buffer. A contract that asks something or says less allows more, and this claim fails. (Proved in `Offered`.)
use Prim.Native.Nat.{ℕ}
use contract.Lifetimes.{Lfts}
use Rattle.std.proofs.Common.{Bor, MutBor}
use Rattle.blocks.specs.Bytes.{Bytes}
use Rattle.verdict_line.specs.Text.{Put}
use Rattle.verdict_line.specs.Line.{printed}
use Rattle.printing.proofs.answer.Reads as answer-reads

pub record AnswerPrinted : Type 0 where
  pub asks_nothing : (κ : Lfts 2) (input : Bor Bytes) (found : MutBor Bytes) → answer-reads.Pre κ (input, (found, tt))
  pub answers : (κ : Lfts 2) (input : Bor Bytes) (found : MutBor Bytes) → (left : MutBor Bytes) × (r : ℕ) × answer-reads.Post κ (input, (found, tt)) r (input, (left, tt))
  pub prints : (κ : Lfts 2) (input : Bor Bytes) (found left : MutBor Bytes) (r : ℕ)
      → (answer-reads.Pre κ (input, (found, tt)) → answer-reads.Post κ (input, (found, tt)) r (input, (left, tt)))
      → Put (printed input.now) found.now left.now 0 r
