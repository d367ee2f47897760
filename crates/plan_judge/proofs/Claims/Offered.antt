-- What is offered beside the six calls: of the C call and of `shown_choices`, their own contracts allow some result, and whatever they
-- allow is the value described (`Ran` explains `Pre` and `Post`). A contract that asks something or says less allows more, and these claims
-- fail. (Proved in `Offered`.)
use Prim.Native.Nat.{ℕ}
use mathlib.Core.Path.{◌≡◌}
use mathlib.Core.Option.{Option, none, some}
use lib.ListN.{length}
use contract.Lifetimes.{Lfts}
use Rattle.logic.specs.Verdict.{Verdict, no, yes, yes_plan}
use Rattle.protocol.specs.CCall.{c_call}
use Rattle.plan_judge.specs.declared.Desk.{Desk}
use Rattle.plan_judge.specs.View.{view}
use Rattle.plan_judge.proofs.Claims.Ran.{Slice, Buffer}
use Rattle.plan_judge.proofs.c_call.plan_judge.Reads as c-reads
use Rattle.plan_judge.proofs.shown_choices.Reads as shown-reads

-- The C call gives the number, and leaves the buffer, that the list load, put, judge, write on an empty desk tells.
pub record CCallTold : Type 0 where
  pub answers : (κ : Lfts 3) (model question : Slice) (found : Buffer)
      → (left : Buffer) × (r : ℕ) × c-reads.Post κ (model, (question, (found, tt))) r (model, (question, (left, tt)))
  pub tells : (κ : Lfts 3) (model question : Slice) (found left : Buffer) (r : ℕ)
      → (c-reads.Pre κ (model, (question, (found, tt))) → c-reads.Post κ (model, (question, (found, tt))) r (model, (question, (left, tt))))
      → record { number = r; buffer = left.now } ≡ c_call model.now question.now found.now

-- How many choices the plan has that a desk holds as shown; 0 where it holds none.
unfoldable pub choices_shown : Option Verdict → ℕ
choices_shown none = 0
choices_shown (some (no x)) = 0
choices_shown (some yes) = 0
choices_shown (some (yes_plan x)) = length x.choices

pub record ShownChoicesTold : Type 0 where
  pub answers : (d : Desk) → (r : ℕ) × shown-reads.Post tt (d, tt) r (d, tt)
  pub tells : (d : Desk) (r : ℕ) → (shown-reads.Pre tt (d, tt) → shown-reads.Post tt (d, tt) r (d, tt)) → r ≡ choices_shown (view d).verdict
