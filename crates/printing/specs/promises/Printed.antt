-- The line to print by what is left to do after each call, and of a verdict as judge returns it.
use Rattle.std.specs.Prelude.{ℕ, ◌^◌, ◌-◌, ◌≤◌, ◌≡◌, Bool, true, false, cond, List, [], ◌∷◌, length}
use Rattle.logic.specs.Checked.{Checked}
use Rattle.logic.specs.promises.Refusal.{refusal}
use Rattle.logic.specs.Model.{Model}
use Rattle.blocks.specs.Bytes.{Bytes}
use Rattle.models.specs.Layout.{denominator_of, model_of}
use Rattle.models.specs.Grounds.{read_model}
use Rattle.questions.specs.Layout.{Question, node_of, node_count}
use Rattle.questions.specs.promises.Formed.{sets_bound}
use Rattle.protocol.specs.Calls.{load, put, question_for}
use Rattle.verdict_line.specs.Line.{plain_line, no_plans_line, yes_plan_line, verdict_says}
use Rattle.verdict_line.specs.promises.Chain.{judging_text, asking_text, loading_text}
use Rattle.lamp.specs.Said.{said_lamp, said_optional}
use Rattle.plan_judge.specs.declared.Desk.{Desk}
use Rattle.judging.specs.declared.Verdict.{Verdict}
use Rattle.judging.specs.declared.Verdict.TheVariants.{No, Yes, YesPlan}
use Rattle.plan_judge.specs.promises.Values.{nothing}
use Rattle.plan_judge.specs.promises.Session.{desk_after}

-- ---- what is left to do

abbrev pub judging_line : Model → Question → Checked (List ℕ)
judging_line m q = judging_text verdict_says m q

abbrev pub asking_line : Model → Bytes → Checked (List ℕ)
asking_line m b = asking_text verdict_says m b

abbrev pub loading_line : (model question : Bytes) → Checked (List ℕ)
loading_line b c = loading_text verdict_says b c

-- ---- the desk after load, and after put

pub record Loaded (d : Desk) (m : Bytes) : Type 0 where
  pub desk : d ≡ desk_after nothing (load m ∷ [])
  pub model : refusal (read_model m) ≡ 0

pub record Asked (d : Desk) (m q : Bytes) : Type 0 where
  pub desk : d ≡ desk_after nothing (load m ∷ put q ∷ [])
  pub model : refusal (read_model m) ≡ 0
  pub question : refusal (question_for (model_of m) q) ≡ 0

-- ---- a verdict as judge returns it, with its choices beside it

-- Whether the last node sets a bound on plans.
abbrev pub plan_root : Bytes → Bool
plan_root q = sets_bound (node_of q (node_count q - 1)).operator

-- Its line, with the denominator D.
unfoldable pub shown_line : (D : ℕ) → Bool → Verdict → List ℕ → List ℕ
shown_line D bounded (No x) cs = cond bounded (no_plans_line x.count (said_optional x.lamp)) (plain_line false)
shown_line D bounded Yes cs = plain_line true
shown_line D bounded (YesPlan x) cs = yes_plan_line x.total (D ^ x.steps) (said_lamp x.lamp) x.count cs

-- The steps of the plan record; 0 where there is none.
unfoldable pub shown_steps : Verdict → ℕ
shown_steps (No x) = 0
shown_steps Yes = 0
shown_steps (YesPlan x) = x.steps

pub record Shown (m q : Bytes) (v : Verdict) (cs : List ℕ) : Type 0 where
  pub small : denominator_of m ≤ 100
  pub some_node : 1 ≤ node_count q
  pub few_steps : shown_steps v ≤ 6
  pub few_choices : length cs ≤ 1365
