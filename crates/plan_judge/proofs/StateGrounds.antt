-- What a desk holds where the grounds 20, 21 and 22 do not apply, and which of them applies where one does.
use Prim.Native.Nat.{ℕ, zero, suc, ◌-◌, ◌/◌, ◌%◌, ◌<◌}
use native.Mathlib.Omega.{arith}
use mathlib.Core.Path.{◌≡◌, refl, sym, ap, ap₂, subst, ◌∙◌}
use Rattle.std.specs.Prelude.{Option as Optional, Some, None}
use mathlib.Core.Logic.{⊎_elim}
use mathlib.Core.Bool.{Bool, true, false, cond}
use mathlib.Core.List.{List}
use mathlib.Core.Option.{Option, none, some}
use lib.Dec.{eqb}
use lib.IntN.{ℤ, pos}
use lib.ListN.{get_or}
use borrow.Author.Tests.{eq-eqb, ne_eqb}
use Rattle.logic.specs.Checked.{Checked, ok, refused, ◌>>=◌, ◌>>◌, got}
use Rattle.logic.specs.promises.Refusal.{refusal, held}
use Rattle.logic.specs.Model.{Model, Step}
use Rattle.logic.specs.Bound.{Bound, one_if, gain_between}
use Rattle.logic.specs.Formula.{Formula, Node, never, sat, relation}
use Rattle.logic.specs.Verdict.{Goal, bound_of, bound_goal, goal}
use Rattle.blocks.specs.Bytes.{Bytes}
use Rattle.models.specs.Layout.{state_count, action_count, prop_count, model_of}
use Rattle.models.specs.Grounds.{read_model}
use Rattle.questions.specs.Layout.{Question, start_of, node_count, node_of, formulas_of, question_of}
use Rattle.questions.specs.Grounds.{read_question}
use Rattle.questions.specs.promises.Formed.{Formed, sets_bound}
use Rattle.questions.proofs.AcceptedFacts.{accepted, at_plan, at_earns}
use Rattle.questions.proofs.SetsBound.{sets_which, sets_neither}
use Rattle.protocol.specs.Calls.{Held}
use Rattle.plan_judge.specs.declared.Desk.{Desk}
use Rattle.plan_judge.specs.View.{question_block, question_bytes, question_in, view}
use Rattle.plan_judge.specs.promises.State.{held_size}
use Rattle.plan_judge.specs.promises.State.{held_both, held_goal, PlanRoot}
use Rattle.plan_judge.proofs.LoadPutReturn.{said_bytes, model_none, model_passed, model_some, put_question, question_is, said_question}
use Rattle.questions.proofs.FormulaByOperator.{no_plan_at}

pub bind_refused : {A B : Type 0} (c : Checked A) (f : A → Checked B) (k : ℕ) → k ≡ refusal c → (k ≡ 0 → ⊥) → k ≡ refusal (c >>= f)
bind_refused (ok a) f k e h = absurd (h e)
bind_refused (refused j) f k e h = e

pub bind_passed : {A B : Type 0} (c : Checked A) (f : A → Checked B) → refusal (c >>= f) ≡ 0 → refusal c ≡ 0
bind_passed (ok a) f e = refl
bind_passed (refused k) f e = e

pub then_refused : {A B : Type 0} (c : Checked A) (x : Checked B) (k : ℕ) → k ≡ refusal c → (k ≡ 0 → ⊥) → k ≡ refusal (c >> x)
then_refused (ok a) x k e h = absurd (h e)
then_refused (refused j) x k e h = e

-- ---- the root

-- The root's node, and its condition.
abbrev pub root_node : Bytes → Node
root_node q = node_of q (node_count q - 1)

abbrev pub condition : Bytes → Formula
condition q = get_or (formulas_of q) (root_node q).left never

-- What a path is worth to it, by whether its operator is 8.
abbrev worth_by : Model → ℕ → Bytes → Bool → List Step → ℤ
worth_by m s q t = cond t (λ ρ. pos (one_if (sat m (condition q) s ρ))) (gain_between ((root_node q).left % 8) ((root_node q).left / 8))

-- The bound that it sets.
abbrev pub root_bound : Model → ℕ → Bytes → Bound
root_bound m s q =
    record {
      steps = (root_node q).n;
      worth = worth_by m s q (eqb (root_node q).operator 8);
      relation = relation (root_node q).right;
      p = (root_node q).p;
      q = (root_node q).q;
    }

module _ {S A N : ℕ} {b : Bytes} (a : Formed S A N b) where
  -- The number of the root.
  abbrev top : ℕ
  top = node_count b - 1

  top_inside : top < node_count b
  top_inside = omega (arith, a.some_node)

  module _ (m : Model) (s : ℕ) where
    pub other_goal : sets_bound (node_of b top).operator ≡ false → goal m s (question_of b).root ≡ refused 22
    unfolding goal bound_of question_of
    other_goal e =
        let w = sets_neither (node_of b top).operator e in
        ap (λ c. c >>= λ x. ok (bound_goal m s x)) (no_plan_at b top top_inside w.0 w.1 (refused 22) _ _)

    -- The goal of a root that sets a bound, which has the node's steps.
    abbrev made : (List Step → ℤ) → ℤ → Goal
    made w p = bound_goal m s (record { steps = (root_node b).n; worth = w; relation = relation (root_node b).right; p = p; q = (root_node b).q })

    of_plan : (root_node b).operator ≡ 8 → goal m s (question_of b).root ≡ ok (bound_goal m s (root_bound m s b))
    unfolding goal bound_of question_of
    of_plan o =
        ap (goal m s) (at_plan S A N b a top top_inside o)
        ∙ ap₂ (λ t p. ok (made (worth_by m s b t) p)) (sym (eq-eqb (root_node b).operator 8 o)) (sym ((a.in_range top top_inside).of_plan o).whole)

    of_gain : (root_node b).operator ≡ 9 → goal m s (question_of b).root ≡ ok (bound_goal m s (root_bound m s b))
    unfolding goal bound_of question_of
    of_gain o =
        ap (goal m s) (at_earns S A N b a top top_inside o)
        ∙ ap (λ t. ok (made (worth_by m s b t) (root_node b).p)) (sym (ne_eqb (root_node b).operator 8 (λ z. omega arith)))

    pub root_goal : sets_bound (root_node b).operator ≡ true → goal m s (question_of b).root ≡ ok (bound_goal m s (root_bound m s b))
    root_goal e = ⊎_elim of_plan of_gain (sets_which (root_node b).operator e)

-- ---- the model and the question

pub record Both (d : Desk) : Type 0 where
  pub passed : refusal (read_model (said_bytes d)) ≡ 0
  pub held_model : (view d).model ≡ some (model_of (said_bytes d))
  pub asked : refusal (read_question (state_count (said_bytes d)) (action_count (said_bytes d)) (prop_count (said_bytes d)) (question_bytes d)) ≡ 0
  pub held_question : (view d).question ≡ some (question_of (question_bytes d))

-- What is held by the model and the question.
abbrev pub both_of : Option Model → Option Question → Checked (Model × Question)
both_of o p = held 20 o >>= (λ m. held 21 p >>= (λ q. ok (m, q)))

module _ (d : Desk) where
  pub no_model : held_size d.model d.blocks ≡ 0 → 20 ≡ refusal (held_both (view d))
  unfolding held_both
  no_model e = sym (ap (λ o. refusal (both_of o (view d).question)) (model_none d e))

  module _ (h : held_size d.model d.blocks ≡ 0 → ⊥) where
    -- The question by how the bytes of the block are read.
    question_by : (b : Bytes) → d.question ≡ Some b → (view d).question ≡ got (put_question d h b)
    unfolding view question_in
    question_by b i = ap₂ question_in i (model_some d h) ∙ ap got (question_is d h b)

    no_question : (view d).question ≡ none → 21 ≡ refusal (held_both (view d))
    unfolding held_both
    no_question e = sym (ap₂ (λ o p. refusal (both_of o p)) (model_some d h) e)

    pub not_put : d.question ≡ None → 21 ≡ refusal (held_both (view d))
    unfolding view question_in
    not_put i = no_question (ap₂ question_in i (model_some d h))

    module _ (b : Bytes) (i : d.question ≡ Some b) where
      pub not_accepted : (refusal (put_question d h b) ≡ 0 → ⊥) → 21 ≡ refusal (held_both (view d))
      unfolding got
      not_accepted r = no_question (question_by b i ∙ by (put_question d h b) r)
        where
          by : (c : Checked Question) → (refusal c ≡ 0 → ⊥) → got c ≡ none
          by (ok q) r = absurd (r refl)
          by (refused k) r = refl

      pub both_here : refusal (put_question d h b) ≡ 0 → Both d
      unfolding got question_block
      both_here e =
          let r = sym (ap refusal (said_question d h b)) ∙ e in
          let j : b ≡ question_bytes d = sym (ap question_block i) in
          let S : Bytes = said_bytes d in
          record {
            passed = model_passed d h;
            held_model = model_some d h;
            asked = subst (λ z. refusal (read_question (state_count S) (action_count S) (prop_count S) z) ≡ 0) j r;
            held_question = question_by b i ∙ ap got (said_question d h b ∙ (accepted _ _ _ b r).read) ∙ ap (λ z. some (question_of z)) j;
          }

  -- Both are held where neither 20 nor 21 applies.
  pub both : refusal (held_both (view d)) ≡ 0 → Both d
  both e = by d.question refl
    where
      h : held_size d.model d.blocks ≡ 0 → ⊥
      h z = omega (arith, no_model z)

      by_ground : (b : Bytes) → d.question ≡ Some b → (k : ℕ) → refusal (put_question d h b) ≡ k → Both d
      by_ground b i zero r = both_here h b i r
      by_ground b i (suc k) r = absurd (omega (arith, not_accepted h b i (λ z. omega arith)))

      by : (o : Optional Bytes) → d.question ≡ o → Both d
      by None i = absurd (omega (arith, not_put h i))
      by (Some b) i = by_ground b i (refusal (put_question d h b)) refl

  module _ (b : Both d) where
    abbrev M : Model
    M = model_of (said_bytes d)

    question_facts : Formed (state_count (said_bytes d)) (action_count (said_bytes d)) (prop_count (said_bytes d)) (question_bytes d)
    question_facts = (accepted _ _ _ (question_bytes d) b.asked).formed

    pub both_held : held_both (view d) ≡ ok (M, question_of (question_bytes d))
    unfolding held_both
    both_held = ap₂ both_of b.held_model b.held_question

    goal_held : held_goal (view d) ≡ goal M (start_of (question_bytes d)) (question_of (question_bytes d)).root
    unfolding held_goal question_of
    goal_held = ap (λ c. c >>= (λ x. goal x.0 x.1.start x.1.root)) both_held

    pub no_plan : sets_bound (root_node (question_bytes d)).operator ≡ false → 22 ≡ refusal (held_goal (view d))
    no_plan h = sym (ap refusal (goal_held ∙ other_goal question_facts M (start_of (question_bytes d)) h))

    pub a_plan : sets_bound (root_node (question_bytes d)).operator ≡ true → 0 ≡ refusal (held_goal (view d))
    a_plan o = sym (ap refusal (goal_held ∙ root_goal question_facts M (start_of (question_bytes d)) o))

  -- Both are held, and the root sets a bound on plans, where none of 20, 21 and 22 applies.
  module _ (e : refusal (held_goal (view d)) ≡ 0) where
    pub both_asked : Both d
    unfolding held_goal
    both_asked = both (bind_passed (held_both (view d)) _ e)

    pub plan_asked : PlanRoot (said_bytes d) (question_bytes d)
    plan_asked = record { passed = both_asked.passed; asked = both_asked.asked; sets = by (sets_bound (root_node (question_bytes d)).operator) refl }
      where
        by : (t : Bool) → sets_bound (root_node (question_bytes d)).operator ≡ t → t ≡ true
        by true o = refl
        by false o = absurd (omega (arith, no_plan both_asked o))

-- ---- what a call does with the model and the question, and with the goal

abbrev pub both_then : {B : Type 0} → Held → (Model → Question → Checked B) → Checked B
both_then h f = held 20 h.model >>= (λ m. held 21 h.question >>= f m)

abbrev pub goal_then : {B : Type 0} → Held → (Model → Question → Goal → Checked B) → Checked B
goal_then h f = both_then h (λ m q. goal m q.start q.root >>= f m q)

module _ {B : Type 0} (h : Held) where
  then_by : (f : Model → Question → Checked B) → both_then h f ≡ (held_both h >>= (λ x. f x.0 x.1))
  unfolding held_both
  then_by f = by h.model h.question
    where
      by : (o : Option Model) (p : Option Question) → (held 20 o >>= (λ m. held 21 p >>= f m)) ≡ (both_of o p >>= (λ x. f x.0 x.1))
      by none p = refl
      by (some m) none = refl
      by (some m) (some q) = refl

  pub both_refused : (f : Model → Question → Checked B) (k : ℕ) → k ≡ refusal (held_both h) → (k ≡ 0 → ⊥) → k ≡ refusal (both_then h f)
  both_refused f k e i = bind_refused (held_both h) (λ x. f x.0 x.1) k e i ∙ sym (ap refusal (then_by f))

  pub goal_refused : (f : Model → Question → Goal → Checked B) (k : ℕ) → k ≡ refusal (held_goal h) → (k ≡ 0 → ⊥) → k ≡ refusal (goal_then h f)
  unfolding held_goal
  goal_refused f k e i = by (held_both h) e ∙ sym (ap refusal (then_by (λ m q. goal m q.start q.root >>= f m q)))
    where
      by : (c : Checked (Model × Question)) → k ≡ refusal (c >>= (λ x. goal x.0 x.1.start x.1.root))
          → k ≡ refusal (c >>= (λ x. goal x.0 x.1.start x.1.root >>= f x.0 x.1))
      by (ok x) z = bind_refused (goal x.0 x.1.start x.1.root) (f x.0 x.1) k z i
      by (refused j) z = z

  pub both_passed : (m : Model) (q : Question) → held_both h ≡ ok (m, q) → (f : Model → Question → Checked B) → both_then h f ≡ f m q
  both_passed m q e f = then_by f ∙ ap (λ c. c >>= (λ x. f x.0 x.1)) e

-- The goal of the root.
abbrev pub asked_goal : (m q : Bytes) → Goal
asked_goal m q = bound_goal (model_of m) (start_of q) (root_bound (model_of m) (start_of q) q)

pub goal_is : (m q : Bytes) → PlanRoot m q → goal (model_of m) (question_of q).start (question_of q).root ≡ ok (asked_goal m q)
unfolding question_of
goal_is m q r = root_goal (accepted _ _ _ q r.asked).formed (model_of m) (start_of q) r.sets

pub goal_passed : {B : Type 0} (d : Desk) → refusal (held_goal (view d)) ≡ 0 → (f : Model → Question → Goal → Checked B)
    → goal_then (view d) f ≡ f (model_of (said_bytes d)) (question_of (question_bytes d)) (asked_goal (said_bytes d) (question_bytes d))
goal_passed d e f =
    let m : Model = model_of (said_bytes d) in
    both_passed (view d) m (question_of (question_bytes d)) (both_held d (both_asked d e)) (λ m q. goal m q.start q.root >>= f m q)
    ∙ ap (λ c. c >>= f m (question_of (question_bytes d))) (goal_is (said_bytes d) (question_bytes d) (plan_asked d e))
