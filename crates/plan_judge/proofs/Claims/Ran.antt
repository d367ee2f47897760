-- Lists of calls of the code, and what is claimed of them (proved in `EveryList` and `Delivered`). Document 01: "In every
-- list of calls .. from the empty desk, each call gets any bytes and the desk that the last one returned, altered by nobody". What a call
-- returns is here whatever the function's own contract allows: `F.Pre` and `F.Post` are the plain readings of what the source says after
-- `requires` and `ensures`, of the arguments, the result and the arguments at the return. So a contract that asks something or says less
-- allows more lists, and the claims fail.
use mathlib.Core.Path.{◌≡◌}
use mathlib.Core.List.{List, [], ◌∷◌, ◌++◌}
use contract.Lifetimes.{Lfts}
use Rattle.std.proofs.Common.{Bor, MutBor}
use Rattle.blocks.specs.Bytes.{Bytes}
use Rattle.protocol.specs.Calls.{Query, write, check, write_model, Call, load, put, judge, query, Reply, says}
use Rattle.protocol.specs.History.{after}
use Rattle.protocol.specs.Replies.{Session}
use Rattle.plan_judge.specs.declared.Desk.{Desk}
use Rattle.plan_judge.specs.declared.Taking.{Taking}
use Rattle.plan_judge.specs.declared.Judging.{Judging}
use Rattle.std.specs.Prelude.{ℕ, Result}
use Rattle.refusals.specs.declared.Refusal.{Refusal}
use Rattle.plan_judge.specs.declared.Report.{Report}
use Rattle.plan_judge.specs.View.{view}
use Rattle.plan_judge.specs.Said.{said_taken, said_judgement, said_written, said_checking}
use Rattle.protocol.specs.Replies.{replies_to}
use Rattle.plan_judge.proofs.empty.Reads as empty-reads
use Rattle.plan_judge.proofs.load.Reads as load-reads
use Rattle.plan_judge.proofs.put.Reads as put_reads
use Rattle.plan_judge.proofs.judge.Reads as judge-reads
use Rattle.plan_judge.proofs.write.Reads as write-reads
use Rattle.plan_judge.proofs.check.Reads as check-reads
use Rattle.plan_judge.proofs.write_model.Reads as write-model-reads

-- A slice of bytes that is lent to a call, wherever it lies and for however long: to read, or to write.
abbrev pub Slice : Type 0
Slice = Bor Bytes

abbrev pub Buffer : Type 0
Buffer = MutBor Bytes

-- A query c on the desk d is answered r, as the contract of its function says. It gives no desk back.
pub data Asked (d : Desk) : Query → Reply → Type 0 where
  writes : (κ : Lfts 1) (found left : Buffer) (r : Result ℕ Refusal)
      → (write-reads.Pre κ (d, (found, tt)) → write-reads.Post κ (d, (found, tt)) r (d, (left, tt)))
      → Asked d (write found.now) (record { answer = said_written r; buffer = left.now })
  checks : (κ : Lfts 1) (b : Slice) (r : Result Report Refusal)
      → (check-reads.Pre κ (d, (b, tt)) → check-reads.Post κ (d, (b, tt)) r (d, (b, tt)))
      → Asked d (check b.now) (says (said_checking r))
  writes_model : (κ : Lfts 1) (found left : Buffer) (r : Result ℕ Refusal)
      → (write-model-reads.Pre κ (d, (found, tt)) → write-model-reads.Post κ (d, (found, tt)) r (d, (left, tt)))
      → Asked d (write_model found.now) (record { answer = said_written r; buffer = left.now })

-- The call c on the desk d is answered r and gives back the desk e, as the contract of its function says: the answer in document 01's
-- words, the lent buffer's bytes at the return, and the desk; after a query the caller goes on with d. Refused calls are among these: the
-- contracts cover them.
pub data Answered (d : Desk) : Call → Reply → Desk → Type 0 where
  loads : (κ : Lfts 1) (b : Slice) (r : Taking)
      → (load-reads.Pre κ (d, (b, tt)) → load-reads.Post κ (d, (b, tt)) r (d, (b, tt)))
      → Answered d (load b.now) (says (said_taken r.answer)) r.desk
  puts : (κ : Lfts 1) (b : Slice) (r : Taking)
      → (put_reads.Pre κ (d, (b, tt)) → put_reads.Post κ (d, (b, tt)) r (d, (b, tt)))
      → Answered d (put b.now) (says (said_taken r.answer)) r.desk
  judges : (r : Judging)
      → (judge-reads.Pre tt (d, tt) → judge-reads.Post tt (d, tt) r (d, tt))
      → Answered d judge (says (said_judgement (view d) r.answer r.choices)) r.desk
  asks : {c : Query} {r : Reply} → Asked d c r → Answered d (query c) r d

-- The calls cs, made one after the other from the desk that `empty` returns, each on the desk that the last one gave back, are answered
-- rs and end with the desk d.
pub data Ran : List Call → List Reply → Desk → Type 0 where
  began : {d : Desk} → (empty-reads.Pre tt tt → empty-reads.Post tt tt d tt) → Ran [] [] d
  further : {cs : List Call} {rs : List Reply} {d e : Desk} {c : Call} {r : Reply}
      → Ran cs rs d → Answered d c r e → Ran (cs ++ (c ∷ [])) (rs ++ (r ∷ [])) e

-- The claim. Of each list of calls of the code: the answers, the buffer bytes and the desk contents are those described.
pub record Described (cs : List Call) (rs : List Reply) (d : Desk) : Type 0 where
  pub answers : rs ≡ replies_to cs
  pub contents : view d ≡ after cs

-- The session tells the replies of the code: wherever the calls cs were made and a further call c is answered r, it tells r.
abbrev pub OfTheCode : Session → Type 0
OfTheCode session =
    (cs : List Call) (rs : List Reply) (d : Desk) (c : Call) (r : Reply) (e : Desk) → Ran cs rs d → Answered d c r e → session cs c ≡ r
