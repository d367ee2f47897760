-- What judge, write and check find: on the desk a model, a question, a goal, a shown plan; on a sheet a plan.
use Rattle.std.specs.Prelude.{Option as Optional, Some, None, ℕ, ◌*◌, ◌-◌, ◌≡◌, true, cond, List, eqb, ℤ, pos, length, take}
use Rattle.std.proofs.Math.Option.{Option, none, some}
use Rattle.logic.specs.Checked.{Checked, ok, refused, ◌>>=◌}
use Rattle.logic.specs.promises.Refusal.{refusal, held}
use Rattle.logic.specs.Model.{Model}
use Rattle.logic.specs.Plan.{Plan, choices}
use Rattle.logic.specs.Verdict.{Goal, goal}
use Rattle.logic.specs.Verdict as logic
use Rattle.logic.specs.Choices.{plan_of}
use Rattle.blocks.specs.Bytes.{Bytes}
use Rattle.models.specs.Layout.{state_count, action_count, prop_count}
use Rattle.models.specs.Grounds.{read_model}
use Rattle.questions.specs.Layout.{Question, node_count, node_of}
use Rattle.questions.specs.Grounds.{read_question}
use Rattle.questions.specs.promises.Formed.{sets_bound}
use Rattle.sheets.specs.Grounds.{read_sheet}
use Rattle.protocol.specs.Calls.{Held}
use Rattle.judging.specs.declared.Verdict.{Verdict}
use Rattle.judging.specs.declared.Verdict.TheVariants.{No, Yes, YesPlan}

-- How many bytes of a desk's model are held.
unfoldable pub held_size : Bytes → ℕ → ℕ
held_size model blocks = cond (eqb (refusal (read_model (take (512 * blocks) model))) 0) (length (take (512 * blocks) model)) 0

-- Grounds 20 and 21.
unfoldable pub held_both : Held → Checked (Model × Question)
held_both h = do
  m ← held 20 h.model
  q ← held 21 h.question
  ok (m, q)

-- Then 22.
unfoldable pub held_goal : Held → Checked Goal
held_goal h = do
  x ← held_both h
  goal x.0 x.1.start x.1.root

-- The bytes of a model that load accepts, and of a question that put accepts for it, with a root that sets a bound on plans.
pub record PlanRoot (m q : Bytes) : Type 0 where
  pub passed : refusal (read_model m) ≡ 0
  pub asked : refusal (read_question (state_count m) (action_count m) (prop_count m) q) ≡ 0
  pub sets : sets_bound (node_of q (node_count q - 1)).operator ≡ true

-- ---- numbers of choices; 0 where there is no plan

unfoldable pub plan_size : (n : ℕ) → Checked (Plan n × List ℕ) → ℕ
plan_size n (ok x) = length (choices n x.0)
plan_size n (refused k) = 0

unfoldable pub size_in : Checked (List ℕ) → ℕ
size_in (ok cs) = length cs
size_in (refused k) = 0

unfoldable pub shown_size : Option logic.Verdict → ℕ
shown_size none = 0
shown_size (some (logic.no x)) = 0
shown_size (some logic.yes) = 0
shown_size (some (logic.yes_plan x)) = length x.choices

unfoldable pub shown_total : Optional Verdict → ℤ
shown_total None = pos 0
shown_total (Some (No x)) = pos 0
shown_total (Some Yes) = pos 0
shown_total (Some (YesPlan x)) = x.total

-- ---- the plan on a sheet: grounds 1 to 6, then 10

unfoldable pub plan_on : Model → (n start : ℕ) → Bytes → Checked (Plan n)
plan_on m n start b = do
  x ← read_sheet n start b
  plan_of m n start x.choices
