-- The line of a verdict as judge returns it is the line of the verdict: the root sets a bound on plans by its operator, a plan record has at most 6
-- steps, and its choices are the first of those beside it.
use Prim.Native.Nat.{ℕ, ◌-◌, ◌^◌, ◌≤◌}
use native.Mathlib.Omega.{arith}
use mathlib.Core.Path.{◌≡◌, refl, sym, ap, ap₂, ◌∙◌}
use mathlib.Core.Bool.{Bool, true, false, cond}
use mathlib.Core.List.{List, []}
use mathlib.Core.Option.{Option, none, some}
use lib.ListN.{length, take, replicate, length-append, length-replicate}
use lib.Seq.{take-append_seam}
use Rattle.logic.specs.Checked.{Checked, ok, refused, ◌>>=◌}
use Rattle.logic.specs.Model.{Model}
use Rattle.logic.specs.Plan.{Plan}
use Rattle.logic.specs.Formula.{Formula, sat}
use Rattle.logic.specs.Verdict.{Goal, bound_of, bound_goal, goal, shown, announced, verdict_by, verdict}
use Rattle.logic.specs.Verdict as logic
use Rattle.logic.proofs.Checked.{not_ok, ok_same}
use Rattle.blocks.specs.Bytes.{Bytes}
use Rattle.questions.specs.Layout.{node_count, question_of}
use Rattle.questions.specs.promises.Formed.{Formed}
use Rattle.questions.proofs.SetsBound.{bound_compares}
use Rattle.verdict_line.specs.Line.{plain_line, no_plans_line, yes_plan_line, bounds_plans, verdict_line}
use Rattle.lamp.specs.Said.{said_lamp}
use Rattle.lamp.specs.promises.Codes.{lamp_code}
use Rattle.lamp.proofs.Coded.{lamp_said, optional_said}
use Rattle.plan_judge.specs.promises.Values.{padded, choices_code}
use Rattle.judging.specs.promises.Announced.{verdict_code}
use Rattle.plan_judge.specs.promises.State.{shown_size}
use Rattle.plan_judge.proofs.StateGrounds.{other_goal, root_goal}
use Rattle.printing.specs.promises.Printed.{plan_root, shown_line, shown_steps}
use Rattle.logic.proofs.OnPlan.{on_plans}

-- ---- the root

goal_other : (m : Model) (s : ℕ) (φ : Formula) {k : ℕ} → goal m s φ ≡ refused k → bounds_plans φ ≡ false
unfolding goal bound_of bounds_plans
goal_other m s φ {k} =
    on_plans (λ _ c t. (c >>= λ b. ok (bound_goal m s b)) ≡ refused k → t ≡ false) (λ _ e. refl) (λ n ψ r p q e. absurd (not_ok (sym e)))
    (λ n l u r p q e. absurd (not_ok (sym e))) φ

goal_plan : (m : Model) (s : ℕ) (φ : Formula) {g : Goal} → goal m s φ ≡ ok g → bounds_plans φ ≡ true
unfolding goal bound_of bounds_plans
goal_plan m s φ {g} =
    on_plans (λ _ c t. (c >>= λ b. ok (bound_goal m s b)) ≡ ok g → t ≡ true) (λ _ e. absurd (not_ok e)) (λ n ψ r p q e. refl) (λ n l u r p q e. refl) φ

module _ {S A N : ℕ} {q : Bytes} (a : Formed S A N q) (m : Model) (s : ℕ) where
  -- The root's formula sets a bound where its operator says so.
  pub root_is : bounds_plans (question_of q).root ≡ plan_root q
  root_is = by (plan_root q) refl
    where
      by : (t : Bool) → plan_root q ≡ t → bounds_plans (question_of q).root ≡ plan_root q
      by true e = goal_plan m s (question_of q).root (root_goal a m s e) ∙ sym e
      by false e = goal_other m s (question_of q).root (other_goal a m s e) ∙ sym e

  goal_steps : (g : Goal) → goal m s (question_of q).root ≡ ok g → g.steps ≤ 6
  goal_steps g e = by (plan_root q) refl
    where
      by : (t : Bool) → plan_root q ≡ t → g.steps ≤ 6
      by false i = absurd (not_ok (sym (other_goal a m s i) ∙ e))
      by true i =
          let few = (bound_compares (a.in_range (node_count q - 1) (omega (arith, a.some_node))) i).few_steps in
          omega (arith, ap (λ h. h.steps) (ok_same (sym (root_goal a m s i) ∙ e)))

  -- A shown plan has at most 6 steps.
  pub few_steps : shown_steps (verdict_code (verdict m s (question_of q).root)) ≤ 6
  unfolding verdict verdict_code shown_steps
  few_steps = by (goal m s (question_of q).root) refl (sat m (question_of q).root s [])
    where
      of_goal : (g : Goal) → g.steps ≤ 6 → (o : Option (ℕ × Plan g.steps)) → shown_steps (verdict_code (announced m s g o)) ≤ 6
      of_goal g h none = omega arith
      of_goal g h (some x) = h

      by : (c : Checked Goal) → goal m s (question_of q).root ≡ c → (t : Bool) → shown_steps (verdict_code (verdict_by m s t c)) ≤ 6
      by (ok g) e t = of_goal g (goal_steps g e) (shown m s g)
      by (refused k) e true = omega arith
      by (refused k) e false = omega arith

-- ---- the choices and the line

-- They are in the array, since it is no longer than its type says.
pub few_choices : (v : logic.Verdict) → length (choices_code v) ≡ 1365 → shown_size (some v) ≤ 1365
unfolding choices_code padded shown_size
few_choices (logic.no x) e = omega arith
few_choices logic.yes e = omega arith
few_choices (logic.yes_plan x) e = let cs : List ℕ = x.choices in omega (arith, length-append cs (replicate (1365 - length cs) 0), length-replicate {A = ℕ} (1365 - length cs) 0)

pub line_is : (m : Model) (φ : Formula) (v : logic.Verdict) (D : ℕ) (t : Bool) → m.denominator ≡ D → bounds_plans φ ≡ t
    → shown_line D t (verdict_code v) (take (shown_size (some v)) (choices_code v)) ≡ verdict_line m φ v
unfolding shown_line verdict_line verdict_code choices_code padded shown_size
line_is m φ (logic.no x) D t d i = ap₂ (λ u o. cond u (no_plans_line x.count o) (plain_line false)) (sym i) (optional_said x.lamp)
line_is m φ logic.yes D t d i = refl
line_is m φ (logic.yes_plan x) D t d i =
    ap₂ (λ D cs. yes_plan_line x.total (D ^ x.steps) (said_lamp (lamp_code x.lamp)) x.count cs) (sym d) (take-append_seam x.choices (replicate (1365 - length x.choices) 0))
    ∙ ap (λ l. yes_plan_line x.total (m.denominator ^ x.steps) l x.count x.choices) (lamp_said x.lamp)
