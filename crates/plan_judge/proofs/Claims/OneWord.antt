-- Request A.2 of document 02, of the code's calls: "a passing block with exactly one word changed is proved to fail". Input c whose sums
-- were right until one word was changed is refused with 2, whichever word and whatever it became, where its length is right and, for put
-- and check, the desk gives no ground before. (Proved in `OneWordChangedRefused`; that the desk stays as it was is of demand 1.)
use mathlib.Core.Path.{◌≡◌}
use mathlib.Core.Bool.{true}
use mathlib.Core.Option.{some}
use Rattle.logic.specs.Model.{Model}
use Rattle.blocks.specs.Bytes.{Bytes}
use Rattle.blocks.specs.Block.{whole_blocks}
use Rattle.blocks.specs.OneWord.{Corrupted}
use Rattle.protocol.specs.Calls.{load, put, query, check, refuse, Reply}
use Rattle.protocol.specs.Demand3.{PlanQuestion}
use Rattle.plan_judge.specs.declared.Desk.{Desk}
use Rattle.plan_judge.specs.View.{view}
use Rattle.plan_judge.proofs.Claims.Ran.{Answered}

pub record OneWordRefused : Type 0 where
  pub of_load : {b c : Bytes} {d e : Desk} {r : Reply} → Corrupted b c → whole_blocks 2 12 c ≡ true
      → Answered d (load c) r e → r.answer ≡ refuse 2
  -- the desk holds a model: not 20
  pub of_put : {b c : Bytes} {d e : Desk} {r : Reply} {m : Model} → Corrupted b c → whole_blocks 1 1 c ≡ true → (view d).model ≡ some m
      → Answered d (put c) r e → r.answer ≡ refuse 2
  -- the desk holds a model and a plan question within the limits: not 20, 21, 22, 24 or 25
  pub of_check : {b c : Bytes} {d e : Desk} {r : Reply} → Corrupted b c → whole_blocks 1 3 c ≡ true → PlanQuestion (view d)
      → Answered d (query (check c)) r e → r.answer ≡ refuse 2
