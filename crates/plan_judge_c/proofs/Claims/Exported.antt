-- The function that C calls, by its own contract (plan_judge's `Claims.Ran` explains `Pre` and `Post`): it asks nothing of its caller, its contract
-- allows some result, and whatever it allows is the number, and leaves the buffer, that the list load, put, judge, write on an empty desk tells. A
-- contract that asks something or says less allows more, and this claim fails. (Proved in `Offered`.)
use Prim.Native.Nat.{ℕ}
use mathlib.Core.Path.{◌≡◌}
use contract.Lifetimes.{Lfts}
use Rattle.protocol.specs.CCall.{c_call}
use Rattle.plan_judge.proofs.Claims.Ran.{Slice, Buffer}
use Rattle.plan_judge_c.proofs.plan_judge.Reads as c-reads

pub record ExportTold : Type 0 where
  pub asks_nothing : (κ : Lfts 3) (model question : Slice) (sheet : Buffer) → c-reads.Pre κ (model, (question, (sheet, tt)))
  pub answers : (κ : Lfts 3) (model question : Slice) (found : Buffer)
      → (left : Buffer) × (r : ℕ) × c-reads.Post κ (model, (question, (found, tt))) r (model, (question, (left, tt)))
  pub tells : (κ : Lfts 3) (model question : Slice) (found left : Buffer) (r : ℕ)
      → (c-reads.Pre κ (model, (question, (found, tt))) → c-reads.Post κ (model, (question, (found, tt))) r (model, (question, (left, tt))))
      → record { number = r; buffer = left.now } ≡ c_call model.now question.now found.now
