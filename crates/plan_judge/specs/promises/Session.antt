-- Lists of calls on desk values: each call gets the desk that the last one returned, altered by nobody. What a function returns is by its
-- contract the value of `Values`.
use Rattle.std.specs.Prelude.{List, [], ◌∷◌, length}
use Rattle.protocol.specs.Calls.{Query, write, check, write_model, Call, load, put, judge, query, Reply, says}
use Rattle.protocol.specs.Replies.{Session}
use Rattle.plan_judge.specs.declared.Desk.{Desk}
use Rattle.plan_judge.specs.View.{view}
use Rattle.plan_judge.specs.Said.{said_taken, said_judgement, said_written, said_checking}
use Rattle.plan_judge.specs.promises.Values.{nothing, loaded_by, put_by, judged_by, written_by, filled_by, model_written_by, model_filled_by, checked_by}

pub record Outcome : Type 0 where
  pub reply : Reply
  pub desk : Desk

-- The reply to a query, which leaves the desk.
unfoldable pub asked : Desk → Query → Reply
asked d (write a) = record { answer = said_written (written_by d (length a)); buffer = filled_by d a }
asked d (check b) = says (said_checking (checked_by d b))
asked d (write_model a) = record { answer = said_written (model_written_by d (length a)); buffer = model_filled_by d a }

unfoldable pub step : Desk → Call → Outcome
step d (load b) = let r = loaded_by d b in record { reply = says (said_taken r.answer); desk = r.desk }
step d (put b) = let r = put_by d b in record { reply = says (said_taken r.answer); desk = r.desk }
step d judge = let r = judged_by d in record { reply = says (said_judgement (view d) r.answer r.choices); desk = r.desk }
step d (query c) = record { reply = asked d c; desk = d }

unfoldable pub desk_after : Desk → List Call → Desk
desk_after d [] = d
desk_after d (c ∷ cs) = desk_after (step d c).desk cs

-- The reply to a call made after a list of calls on a desk that began empty.
unfoldable pub session : Session
session calls c = (step (desk_after nothing calls) c).reply
