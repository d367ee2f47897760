-- What a desk value holds, whoever put it together: the model, with its blocks, if its bytes are those of a model that load accepts, the
-- question if its bytes are accepted for that model, the verdict if it was judged and, for a yes with a plan, the choices begin with those of
-- one. Demand 1 is about any desk value; on desks that calls gave back this is what was loaded, put and judged (proved: `DesksHoldHistory`).
use Rattle.std.specs.Prelude.{Option as Optional, Some, None, ℕ, ◌*◌, List, [], take}
use Rattle.std.proofs.Math.Option.{Option, none, some}
use Rattle.logic.specs.Checked.{Checked, ok, refused, ◌>>=◌, got}
use Rattle.logic.specs.Model.{Model}
use Rattle.logic.specs.Plan.{choices}
use Rattle.logic.specs.Verdict.{goal}
use Rattle.logic.specs.Verdict as logic
use Rattle.logic.specs.Choices.{read_plan}
use Rattle.blocks.specs.Bytes.{Bytes}
use Rattle.models.specs.Grounds.{read_model}
use Rattle.questions.specs.Layout.{Question}
use Rattle.protocol.specs.Calls.{Held, question_for}
use Rattle.lamp.specs.Said.{said_lamp, said_optional}
use Rattle.plan_judge.specs.declared.Desk.{Desk}
use Rattle.judging.specs.declared.Verdict.{Verdict}
use Rattle.judging.specs.declared.Verdict.TheVariants.{No, Yes, YesPlan}

-- The bytes that a desk has for a model.
unfoldable pub model_bytes : Desk → Bytes
model_bytes d = take (512 * d.blocks) d.model

-- The blocks of the model that is held.
unfoldable pub blocks_in : Option Model → Bytes → Bytes
blocks_in none b = []
blocks_in (some m) b = b

-- The block that a desk has for a question; no bytes where none was put.
unfoldable pub question_block : Optional Bytes → Bytes
question_block None = []
question_block (Some b) = b

abbrev pub question_bytes : Desk → Bytes
question_bytes d = question_block d.question

-- The question in a block, if one was put, for the model that is held.
unfoldable pub question_in : Optional Bytes → Option Model → Option Question
question_in o none = none
question_in None (some m) = none
question_in (Some b) (some m) = got (question_for m b)

-- The choices of the plan with which a list of choices begins.
unfoldable pub choices_in : Model → Question → List ℕ → Checked (List ℕ)
choices_in m q cs = goal m q.start q.root >>= (λ g. read_plan m g.steps q.start cs >>= (λ x. ok (choices g.steps x.0)))

-- A verdict by its cases: document 01's no with its count, yes, yes with a plan record and the choices beside it. Each lamp is document 02's.
unfoldable pub verdict_in : Checked (List ℕ) → Verdict → Option logic.Verdict
verdict_in cs (No x) = some (logic.no (record { count = x.count; lamp = said_optional x.lamp }))
verdict_in cs Yes = some logic.yes
verdict_in (ok l) (YesPlan x) = some (logic.yes_plan (record { total = x.total; lamp = said_lamp x.lamp; steps = x.steps; count = x.count; choices = l }))
verdict_in (refused k) (YesPlan x) = none

-- For the model and the question that are held.
unfoldable pub verdict_on : Option Model → Option Question → List ℕ → Verdict → Option logic.Verdict
verdict_on none o cs v = none
verdict_on (some m) none cs v = none
verdict_on (some m) (some q) cs v = verdict_in (choices_in m q cs) v

-- The verdict that is held, if there is one.
unfoldable pub verdict_held : Option Model → Option Question → List ℕ → Optional Verdict → Option logic.Verdict
verdict_held o p cs None = none
verdict_held o p cs (Some v) = verdict_on o p cs v

unfoldable pub view : Desk → Held
view d =
    let m : Option Model = got (read_model (model_bytes d)) in
    let q : Option Question = question_in d.question m in
    record { model = m; blocks = blocks_in m (model_bytes d); question = q; verdict = verdict_held m q d.choices d.verdict }
