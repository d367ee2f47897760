-- What check returns, at each of its returns: the grounds of the state, of the limits and of the sheet in their order, then whether the
-- total of the plan on the sheet is the sheet's, and if so whether it meets the bound, and its lamp.
use Prim.Native.Nat.{ℕ, ◌-◌}
use native.Mathlib.Omega.{arith}
use mathlib.Core.Path.{◌≡◌, sym, ap, ap₂, subst, ◌∙◌}
use mathlib.Core.Bool.{Bool, true}
use lib.IntN.{ℤ}
use lib.ListN.{take, drop}
use lib.Seq.{take-append_seam}
use Rattle.std.specs.Prelude.{Ok, Err}
use Rattle.refusals.specs.declared.Refusal.{Refusal}
use Rattle.refusals.specs.declared.Refusal.TheVariants.{WrongTotal}
use Rattle.refusals.specs.Number.{number}
use Rattle.refusals.specs.promises.Named.{named}
use Rattle.refusals.proofs.Named.{named_number, number_some}
use Rattle.logic.specs.Checked.{Checked, ok, refused, ◌>>=◌, ◌>>◌, guard}
use Rattle.logic.specs.promises.Refusal.{refusal}
use Rattle.logic.specs.Model.{Model}
use Rattle.logic.specs.Plan.{Plan}
use Rattle.logic.specs.Verdict.{Goal, goal}
use Rattle.logic.proofs.Checked.{ok_same}
use Rattle.logic.proofs.Tests.{not_true}
use Rattle.logic.specs.Limits.{limits}
use Rattle.logic.specs.Choices.{plan_of}
use Rattle.blocks.specs.Bytes.{Bytes}
use Rattle.models.specs.Layout.{state_count, action_count, prop_count, model_of}
use Rattle.prepared_model.specs.promises.Rows.{model_in, Prepares}
use mathlib.Core.List.{List}
use Rattle.questions.specs.Layout.{Question, start_of, node_count, node_of, question_of}
use Rattle.questions.specs.Grounds.{read_question}
use Rattle.questions.specs.promises.Formed.{sets_bound}
use Rattle.questions.proofs.AcceptedFacts.{accepted}
use Rattle.sheets.specs.Layout.{Sheet, sheet_of}
use Rattle.sheets.specs.Grounds.{read_sheet}
use Rattle.sheets.specs.promises.Reader.{Blocks, Gathered}
use Rattle.sheets.proofs.BlockTests.{sheet_passed}
use Rattle.protocol.specs.Calls.{Report, same, reported}
use Rattle.protocol.specs.promises.Chains.{check_on, do_check}
use Rattle.protocol.proofs.Demand3.{same_self, same_equal}
use Rattle.prepared_question.specs.promises.Shared.{Shared}
use Rattle.prepared_question.proofs.SameVerdict.{same_goal}
use Rattle.plan_choices.proofs.SumIsWeight.{plan_there}
use Rattle.lamp.specs.promises.Codes.{lamp_code}
use Rattle.judging.specs.promises.Asked.{Served}
use Rattle.judging.specs.promises.Announced.{Spelled, Weighs}
use Rattle.judging.specs.declared.Weighed.{Weighed}
use Rattle.plan_judge.specs.declared.Desk.{Desk}
use Rattle.plan_judge.specs.View.{question_bytes, view}
use Rattle.plan_judge.specs.promises.Values.{checking, checked_by}
use Rattle.plan_judge.specs.promises.State.{held_goal, PlanRoot, plan_on}
use Rattle.plan_judge.proofs.LoadPutReturn.{said_bytes}
use Rattle.limits.proofs.NodeByNode.{limits_passed}
use Rattle.judging.proofs.BothPrepared.{asked_prepared, limits_prepared, served}
use Rattle.plan_judge.proofs.StateGrounds.{bind_refused, bind_passed, then_refused, both_asked, both_held, both_passed, goal_refused, root_node, root_goal, asked_goal, goal_is}

-- ---- the plan on a sheet

pub gathered_are : (cs out out' : Bytes) (r : ℕ) → Gathered cs out out' r → take r out' ≡ cs
gathered_are cs out out' r g = ap₂ take g.count g.front ∙ take-append_seam cs (drop r out)

module _ (M : Model) (n s : ℕ) (b : Bytes) where
  pub sheet_refused : (k : ℕ) → k ≡ refusal (read_sheet n s b) → (k ≡ 0 → ⊥) → k ≡ refusal (plan_on M n s b)
  unfolding plan_on
  sheet_refused k e h = bind_refused (read_sheet n s b) _ k e h

  module _ (e : refusal (read_sheet n s b) ≡ 0) where
    plan_is : plan_on M n s b ≡ plan_of M n s (sheet_of b).choices
    unfolding plan_on
    plan_is = ap (λ c. c >>= (λ x. plan_of M n s x.choices)) (sheet_passed n s b e).1

    -- The choices that were gathered are the sheet's.
    pub gathered : (out out' : Bytes) (r : ℕ) → Gathered (sheet_of b).choices out out' r → refusal (plan_of M n s (take r out')) ≡ refusal (plan_on M n s b)
    gathered out out' r g = ap (λ l. refusal (plan_of M n s l)) (gathered_are (sheet_of b).choices out out' r g) ∙ sym (ap refusal plan_is)

  -- A sheet that is not refused has a plan.
  pub record OnSheet : Type 0 where
    pub plan : Plan n
    pub blocks : Blocks 6 b
    pub sheet : read_sheet n s b ≡ ok (sheet_of b)
    pub read : plan_of M n s (sheet_of b).choices ≡ ok plan

  pub on_sheet : refusal (plan_on M n s b) ≡ 0 → OnSheet
  unfolding plan_on
  on_sheet e =
      let r = bind_passed (read_sheet n s b) _ e in
      let w = sheet_passed n s b r in
      let x = plan_there M n s (sheet_of b).choices (sym (ap refusal (plan_is r)) ∙ e) in
      record { plan = x.0; blocks = w.0; sheet = w.1; read = x.1 }

-- ---- each return

refused_by : (c : Checked Report) (x : Refusal) → number x ≡ refusal c → Err x ≡ checking c
refused_by (ok t) x i = absurd (number_some x i)
refused_by (refused j) x i = ap Err (sym (named_number x) ∙ ap named i)

-- What check does with a goal.
abbrev check_for : Bytes → Model → Question → Goal → Checked Report
check_for b m q g =
    limits m q.nodes
    >> (read_sheet g.steps q.start b >>= (λ x. plan_of m g.steps q.start x.choices >>= (λ π. guard 11 (same x.weight (g.total π)) >> ok (reported g π))))

-- The grounds of the state, and what is left past them.
module _ (d : Desk) (b : Bytes) where
  pub check_state : (x : Refusal) → number x ≡ refusal (held_goal (view d)) → Err x ≡ checked_by d b
  unfolding do_check check_on checked_by
  check_state x e = refused_by (do_check (view d) b) x (goal_refused (view d) (check_for b) (number x) e (number_some x))

  pub check_past : refusal (held_goal (view d)) ≡ 0 → checking (check_on (model_of (said_bytes d)) (question_of (question_bytes d)) b) ≡ checked_by d b
  unfolding do_check check_on checked_by
  check_past e = sym (ap checking (both_passed (view d) (model_of (said_bytes d)) (question_of (question_bytes d)) (both_held d (both_asked d e)) (λ m q. check_on m q b)))

-- The bytes of a model and of a question that asks for a plan.
module _ (m q : Bytes) (r : PlanRoot m q) (b : Bytes) where
  abbrev M : Model
  M = model_of m

  abbrev n : ℕ
  n = (root_node q).n

  abbrev s : ℕ
  s = start_of q

  abbrev g : Goal
  g = asked_goal m q

  -- What check does with the plan on a sheet that claims a total.
  abbrev decides : ℤ → Plan n → Checked Report
  decides w π = guard 11 (same w (g.total π)) >> ok (reported g π)

  check_is : check_on M (question_of q) b ≡ check_for b M (question_of q) (asked_goal m q)
  unfolding check_on
  check_is = ap (λ c. c >>= check_for b M (question_of q)) (goal_is m q r)

  pub check_limited : (x : Refusal) → number x ≡ refusal (limits M (question_of q).nodes) → Err x ≡ checking (check_on M (question_of q) b)
  check_limited x i = refused_by (check_on M (question_of q) b) x (then_refused (limits M (question_of q).nodes) _ (number x) i (number_some x) ∙ sym (ap refusal check_is))

  pub sheet_asked : {a : List ℕ} → Prepares m a → refusal (read_question (state_count a) (action_count a) (prop_count a) q) ≡ 0
  sheet_asked p = asked_prepared m q p r.asked

  -- The question prepared is shared for the model prepared.
  pub shared_there : {a q' : List ℕ} → Prepares m a → ((S A N : ℕ) → refusal (read_question S A N q) ≡ 0 → Shared S A N q q')
      → Shared (state_count a) (action_count a) (prop_count a) q q'
  shared_there p f = f _ _ _ (sheet_asked p)

  -- The model and the question prepared: the goal is the same.
  module _ {a q' : List ℕ} (p : Prepares m a) (h : Shared (state_count a) (action_count a) (prop_count a) q q') where
    pub root_there : sets_bound (root_node q').operator ≡ true
    root_there =
        let some = (accepted _ _ _ q r.asked).formed.some_node in
        ap sets_bound (ap (λ k. (node_of q' (k - 1)).operator) h.count ∙ h.operators (node_count q - 1) (omega arith)) ∙ r.sets

    pub sheet_served : refusal (limits M (question_of q).nodes) ≡ 0 → Served a q'
    sheet_served l = served m q p h l

    pub limits_there : refusal (limits (model_in a) (question_of q').nodes) ≡ refusal (limits M (question_of q).nodes)
    limits_there = limits_prepared m q p h

    goal_there : goal M (start_of q') (question_of q').root ≡ ok g
    unfolding question_of
    goal_there = sym (same_goal h M) ∙ goal_is m q r

    steps_there : (root_node q').n ≡ n
    steps_there = ap (λ (g : Goal). g.steps) (ok_same (sym (root_goal h.nodes.formed M (start_of q') root_there) ∙ goal_there))

    -- Choices of a plan are choices of one there, with the same total, the same answer to the bound and the same lamp.
    module _ (cs : Bytes) (π : Plan n) (e : plan_of M n s cs ≡ ok π) where
      read_there : plan_of M n (start_of q') cs ≡ ok π
      read_there = subst (λ s. plan_of M n s cs ≡ ok π) (sym h.start) e

      pub spelled_there : Spelled (model_in a) q' cs
      spelled_there =
          subst (λ M. Spelled M q' cs) (sym p.same)
          (subst (λ k. (π : Plan k) × (plan_of M k (start_of q') cs ≡ ok π)) (sym steps_there) (π, read_there))

      pub weighs_there : {w : Weighed} → Weighs (model_in a) q' cs w → (w.total ≡ g.total π) × (w.met ≡ g.met π) × (w.lamp ≡ lamp_code (g.lamp π))
      unfolding question_of
      weighs_there {w} x = subst (λ M. Weighs M q' cs w) p.same x g goal_there π read_there

  module _ (l : refusal (limits M (question_of q).nodes) ≡ 0) where
    -- What is left past the limits.
    past_limits : check_on M (question_of q) b ≡ (read_sheet n s b >>= (λ x. plan_of M n s x.choices >>= decides x.weight))
    unfolding question_of
    past_limits = check_is ∙ ap (λ c. c >> (read_sheet n s b >>= (λ x. plan_of M n s x.choices >>= decides x.weight))) (limits_passed M _ l)

    pub check_sheet : (x : Refusal) → number x ≡ refusal (plan_on M n s b) → Err x ≡ checking (check_on M (question_of q) b)
    unfolding plan_on
    check_sheet x i = refused_by (check_on M (question_of q) b) x (by (read_sheet n s b) i ∙ sym (ap refusal past_limits))
      where
        by : (c : Checked Sheet) → number x ≡ refusal (c >>= (λ x. plan_of M n s x.choices))
            → number x ≡ refusal (c >>= (λ x. plan_of M n s x.choices >>= decides x.weight))
        by (ok y) z = bind_refused (plan_of M n s y.choices) _ (number x) z (number_some x)
        by (refused j) z = z

    -- The total of the plan on the sheet decides.
    module _ (e : refusal (plan_on M n s b) ≡ 0) (w : Weighed) {a q' : List ℕ} (p : Prepares m a) (h : Shared (state_count a) (action_count a) (prop_count a) q q')
        (x : Weighs (model_in a) q' (sheet_of b).choices w) where
      o : OnSheet M n s b
      o = on_sheet M n s b e

      weighs : (w.total ≡ g.total o.plan) × (w.met ≡ g.met o.plan) × (w.lamp ≡ lamp_code (g.lamp o.plan))
      weighs = weighs_there p h (sheet_of b).choices o.plan o.read x

      -- What check does past the sheet, by the plan's total and whether that meets the bound.
      abbrev compares : ℤ → Bool → Checked Report
      compares z t = guard 11 (same (sheet_of b).weight z) >> ok (record { met = t; lamp = g.lamp o.plan })

      past_sheet : check_on M (question_of q) b ≡ compares w.total w.met
      past_sheet =
          past_limits
          ∙ ap (λ c. c >>= (λ x. plan_of M n s x.choices >>= decides x.weight)) o.sheet
          ∙ ap (λ c. c >>= decides (sheet_of b).weight) o.read
          ∙ ap₂ compares (sym weighs.0) (sym weighs.1)

      -- By whether the totals are the same.
      abbrev passing : Bool → Checked Report
      passing t = guard 11 t >> ok (record { met = w.met; lamp = g.lamp o.plan })

      pub check_differs : ((sheet_of b).weight ≡ w.total → ⊥) → Err WrongTotal ≡ checking (check_on M (question_of q) b)
      check_differs i =
          refused_by (check_on M (question_of q) b) WrongTotal
          (sym (ap refusal (past_sheet ∙ ap passing (not_true (same (sheet_of b).weight w.total) (λ t. i (same_equal (sheet_of b).weight w.total t))))))

      pub check_met : (sheet_of b).weight ≡ w.total → Ok (record { met = w.met; lamp = w.lamp }) ≡ checking (check_on M (question_of q) b)
      check_met i =
          ap (λ l. Ok (record { met = w.met; lamp = l })) weighs.2
          ∙ sym (ap checking (past_sheet ∙ ap passing (ap (same (sheet_of b).weight) (sym i) ∙ same_self (sheet_of b).weight)))
