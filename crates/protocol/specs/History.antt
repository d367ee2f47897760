-- What the desk holds after a list of calls from the empty desk, told by the list. Document 01: "Held are the model of the last load done,
-- the question of the last put done since, and its verdict once judged."
use Rattle.std.specs.Prelude.{Bool, true, false, cond, ◌&&◌, List, [], ◌∷◌}
use Rattle.std.proofs.Math.Option.{Option, none, some}
use Rattle.logic.specs.Lists.{any}
use Rattle.logic.specs.Checked.{Checked, ok, refused, ◌>>=◌, got}
use Rattle.logic.specs.Model.{Model}
use Rattle.logic.specs.Verdict.{Verdict, verdict}
use Rattle.logic.specs.Limits.{limits}
use Rattle.blocks.specs.Bytes.{Bytes}
use Rattle.models.specs.Grounds.{read_model}
use Rattle.questions.specs.Layout.{Question}
use Rattle.protocol.specs.Calls.{Call, load, put, judge, query, Held, question_for}

-- A model, and the bytes that it was read from.
pub record Loaded : Type 0 where
  pub blocks : Bytes
  pub model : Model

abbrev pub with_blocks : Bytes → Checked Model → Checked Loaded
with_blocks b c = do
  m ← c
  ok (record { blocks = b; model = m })

-- What a call that is done leaves on the desk: a load its model, with its bytes; a put its question.
unfoldable pub loaded : Call → Option Loaded
loaded (load b) = got (with_blocks b (read_model b))
loaded (put b) = none
loaded (query c) = none
loaded judge = none

unfoldable pub asked : Model → Call → Option Question
asked m (put b) = got (question_for m b)
asked m (load b) = none
asked m (query c) = none
asked m judge = none

unfoldable pub is_judge : Call → Bool
is_judge judge = true
is_judge (load b) = false
is_judge (put b) = false
is_judge (query c) = false

-- The last call of a list that leaves something, with the calls since: a later one counts before this one.
unfoldable pub or_else : {A : Type 0} → Option (A × List Call) → Option A → List Call → Option (A × List Call)
or_else (some x) o since = some x
or_else none none since = none
or_else none (some a) since = some (a, since)

unfoldable pub last_left : {A : Type 0} → (Call → Option A) → List Call → Option (A × List Call)
last_left f [] = none
last_left f (c ∷ cs) = or_else (last_left f cs) (f c) cs

unfoldable pub passed : {A : Type 0} → Checked A → Bool
passed (ok a) = true
passed (refused k) = false

-- With the model m and the question q held, the verdict once judged: judging is refused just where the limits say so.
unfoldable pub verdict_since : Model → Question → List Call → Option Verdict
verdict_since m q since = cond (any is_judge since && passed (limits m q.nodes)) (some (verdict m q.start q.root)) none

unfoldable pub held_since : Loaded → Option (Question × List Call) → Held
held_since l none = record { model = some l.model; blocks = l.blocks; question = none; verdict = none }
held_since l (some x) = record { model = some l.model; blocks = l.blocks; question = some x.0; verdict = verdict_since l.model x.0 x.1 }

unfoldable pub held_from : Option (Loaded × List Call) → Held
held_from none = record { model = none; blocks = []; question = none; verdict = none }
held_from (some x) = held_since x.0 (last_left (asked x.0.model) x.1)

-- The desk's contents after a list of calls.
unfoldable pub after : List Call → Held
after calls = held_from (last_left loaded calls)
