-- Demand 1 of the code, for any desk value, also one that a caller put together by hand, every call and every input. Document 00:
--   "So that no file can halt an arm, every call on every input finishes with its result or a numbered refusal, asks nothing of its caller
--   beforehand, and on refusal leaves the desk (the judge's state) and each lent buffer exactly as found."
-- That a function returns where what it requires is there is what the checker proves of it. The clauses stand beside the parts. (Proved in
-- `CodeDemand1`.)
use Prim.Native.Nat.{ℕ}
use mathlib.Core.Path.{◌≡◌}
use mathlib.Core.Bool.{true}
use lib.Dec.{eqb}
use contract.Lifetimes.{Lfts}
use Rattle.logic.specs.Lists.{any}
use Rattle.protocol.specs.Calls.{Call, lent, refuse, Reply, yields}
use Rattle.protocol.specs.Demand1.{listed}
use Rattle.plan_judge.specs.declared.Desk.{Desk}
use Rattle.plan_judge.specs.View.{view}
use Rattle.plan_judge.proofs.Claims.Ran.{Slice, Buffer, Answered}
use Rattle.plan_judge.proofs.empty.Reads as empty-reads
use Rattle.plan_judge.proofs.load.Reads as load-reads
use Rattle.plan_judge.proofs.put.Reads as put_reads
use Rattle.plan_judge.proofs.judge.Reads as judge-reads
use Rattle.plan_judge.proofs.write.Reads as write-reads
use Rattle.plan_judge.proofs.check.Reads as check-reads
use Rattle.plan_judge.proofs.write_model.Reads as write-model-reads
use Rattle.plan_judge.proofs.shown_choices.Reads as shown-reads
use Rattle.plan_judge.proofs.c_call.plan_judge.Reads as c-reads

-- "asks nothing of its caller beforehand": what each function that is offered requires is there, whatever it is given
pub record AsksNothing : Type 0 where
  pub of_empty : empty-reads.Pre tt tt
  pub of_load : (κ : Lfts 1) (d : Desk) (b : Slice) → load-reads.Pre κ (d, (b, tt))
  pub of_put : (κ : Lfts 1) (d : Desk) (b : Slice) → put_reads.Pre κ (d, (b, tt))
  pub of_judge : (d : Desk) → judge-reads.Pre tt (d, tt)
  pub of_write : (κ : Lfts 1) (d : Desk) (a : Buffer) → write-reads.Pre κ (d, (a, tt))
  pub of_check : (κ : Lfts 1) (d : Desk) (b : Slice) → check-reads.Pre κ (d, (b, tt))
  pub of_write_model : (κ : Lfts 1) (d : Desk) (a : Buffer) → write-model-reads.Pre κ (d, (a, tt))
  pub of_shown_choices : (d : Desk) → shown-reads.Pre tt (d, tt)
  pub of_c_call : (κ : Lfts 3) (model question : Slice) (sheet : Buffer) → c-reads.Pre κ (model, (question, (sheet, tt)))

-- What a call leads to.
pub record Next (d : Desk) (c : Call) : Type 0 where
  pub reply : Reply
  pub desk : Desk
  pub answered : Answered d c reply desk

-- The call c on the desk d, refused with k, left the desk e.
pub record Refused (d : Desk) (c : Call) (r : Reply) (e : Desk) (k : ℕ) : Type 0 where
  -- "leaves the desk .. exactly as found"
  pub same_desk : e ≡ d
  -- "and each lent buffer"
  pub same_buffer : r.buffer ≡ lent c
  -- a number that the documents list for this call
  pub number : any (eqb k) (listed c) ≡ true

pub record Demand1 : Type 0 where
  pub asks_nothing : AsksNothing
  -- "every call on every input finishes with its result or a numbered refusal": every call is answered, and its reply is the one described
  -- by what the desk holds, whoever put it together
  pub answered : (d : Desk) (c : Call) → Next d c
  pub its_result : {d : Desk} {c : Call} {r : Reply} {e : Desk} → Answered d c r e → r ≡ yields (view d) c
  -- "on refusal .."
  pub refused : {d : Desk} {c : Call} {r : Reply} {e : Desk} → Answered d c r e → (k : ℕ) → r.answer ≡ refuse k → Refused d c r e k
