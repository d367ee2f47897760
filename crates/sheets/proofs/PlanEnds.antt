-- Where a plan's choices end: the reader stands behind those that the definition has read, or the definition refuses.
use Prim.Native.Nat.{ℕ, zero, suc, ◌+◌, ◌-◌, ◌≤◌, ◌<◌}
use native.Mathlib.Omega.{arith}
use native.Mathlib.Numerals.{add-one}
use mathlib.Core.Path.{◌≡◌, refl, sym, ap, ap₂, subst, ◌∙◌}
use mathlib.Core.Bool.{Bool, true, false, false≢true}
use mathlib.Core.List.{List, [], ◌∷◌, ◌++◌}
use lib.Dec.{eqb, ltb}
use lib.ListN.{length, drop, get_or, length-append, length-drop, drop_of_length-le}
use lib.Seq.{drop-cons, drop-drop, drop_at}
use borrow.Author.Tests.{lt-ltb}
use Rattle.logic.specs.Lists.{any, is_empty}
use Rattle.logic.specs.Checked.{Checked, ok, refused, ◌>>=◌, ◌>>◌, guard}
use Rattle.logic.specs.promises.Refusal.{refusal}
use Rattle.logic.specs.Model.{Model, Step, silent_step, enabled, outcomes}
use Rattle.logic.specs.Quantity.{naturals, sum}
use Rattle.logic.specs.Accepted.{Accepted}
use Rattle.logic.specs.Plan.{Plan, choices}
use Rattle.logic.specs.Choices.{read_each, read_plan, plan_of}
use Rattle.logic.proofs.Tests.{get_or_member}
use Rattle.logic.proofs.Reading.{any_member, member_any, read_sound}
use Rattle.blocks.specs.Bytes.{Bytes}
use Rattle.models.specs.Layout.{state_count, model_of}
use Rattle.models.specs.Grounds.{read_model}
use Rattle.models.proofs.GroundsPassed.{passed_all}
use Rattle.models.proofs.ModelOfBytes.{states_held, accepted}
use Rattle.std.specs.Prelude.{Result, Ok, Err}
use Rattle.refusals.specs.declared.Refusal.{Refusal}
use Rattle.refusals.specs.declared.Refusal.TheVariants.{NotThePlan}
use Rattle.refusals.specs.Number.{number, refusal_number}
use Rattle.sheets.specs.promises.Ends.{end_of}

-- ---- the model

-- What stands past the end of a choice's outcomes; nobody asks for it.
abbrev pub past : Bytes → ℕ → Step
past b s = silent_step (model_of b) s

module _ (b : Bytes) (e : refusal (read_model b) ≡ 0) (s : ℕ) (h : s < state_count b) where
  a_state : s < length (model_of b).states
  a_state = subst (λ n. s < n) (sym (states_held b)) h

  -- A choice is enabled where it has outcomes.
  enabled_test : (a : ℕ) → any (eqb a) (enabled (model_of b) s) ≡ ltb 0 (length (outcomes (model_of b) s a))
  unfolding sum
  enabled_test a = by (any (eqb a) (enabled (model_of b) s)) refl
    where
      A : Accepted (model_of b)
      A = accepted b (passed_all b e)

      some : (l : List Step) → sum naturals (λ o. o.weight) l ≡ (model_of b).denominator → 0 < length l
      some [] q = absurd (omega (arith, A.divides))
      some (o ∷ l) q = omega arith

      by : (t : Bool) → any (eqb a) (enabled (model_of b) s) ≡ t → t ≡ ltb 0 (length (outcomes (model_of b) s a))
      by true q =
          let i = any_member a (enabled (model_of b) s) q in
          sym (lt-ltb 0 (length (outcomes (model_of b) s a)) (some (outcomes (model_of b) s a) (A.sums (record { state = a_state; choice = i }))))
      by false q = sym (ap (λ l. ltb 0 (length l)) (A.defined s a a_state (λ i. false≢true (sym q ∙ member_any i))))

  pub target_inside : (a i : ℕ) → i < length (outcomes (model_of b) s a) → (get_or (outcomes (model_of b) s a) i (past b s)).target < state_count b
  target_inside a i l =
      let c = any_member a (enabled (model_of b) s) (enabled_test a ∙ lt-ltb 0 (length (outcomes (model_of b) s a)) (omega arith)) in
      subst (λ n. (get_or (outcomes (model_of b) s a) i (past b s)).target < n) (states_held b)
      ((accepted b (passed_all b e)).inside (record { state = a_state; choice = c }) _ (get_or_member (outcomes (model_of b) s a) i (past b s) l))

-- ---- ends

module _ {A : Type 0} (l : ℕ) where
  end_bind : {B : Type 0} (c : Checked (A × List ℕ)) (g : A × List ℕ → B) → end_of l (c >>= (λ x. ok (g x, x.1))) ≡ end_of l c
  unfolding end_of
  end_bind (ok x) g = refl
  end_bind (refused k) g = refl

  end_refused : {B : Type 0} (c : Checked (A × List ℕ)) (g : A × List ℕ → Checked (B × List ℕ)) (r : Refusal) → end_of l c ≡ Err r → end_of l (c >>= g) ≡ Err r
  unfolding end_of
  end_refused (ok x) g r e = let z : ◌≡◌ {A = ℕ} 0 1 = cc in absurd (omega arith)
  end_refused (refused k) g r e = e

-- What is left after p of cs, if the reader read from `next` on and stands at p.
left_at : {A : Type 0} (c : Checked (A × List ℕ)) (cs : List ℕ) (next p : ℕ) → next ≤ length cs → ((y : A × List ℕ) → c ≡ ok y → (l : List ℕ) × (drop next cs ≡ l ++ y.1))
    → end_of (length cs) c ≡ Ok p → (y : A × List ℕ) × (c ≡ ok y) × (y.1 ≡ drop p cs) × (p ≤ length cs)
unfolding end_of
left_at (ok y) cs next p h f e =
    let w = f y refl in
    let l : List ℕ = w.0 in
    let d : y.1 ≡ drop (next + length l) cs = sym (drop_at l y.1 (length l) refl) ∙ ap (drop (length l)) (sym w.1) ∙ drop-drop (length l) next cs in
    let q : length cs - length y.1 ≡ p = cc in
    let n₁ = length-drop next cs in
    let n₂ : length (drop next cs) ≡ length l + length y.1 = ap length w.1 ∙ length-append l y.1 in
    let z : next + length l ≡ p = omega arith in
    (y, refl, d ∙ ap (λ i. drop i cs) z, omega arith)
left_at (refused k) cs next p h f e = let z : ◌≡◌ {A = ℕ} 0 1 = cc in absurd (omega arith)

-- At the end all is left that was there.
pub end_here : {A : Type 0} (x : A) (cs : List ℕ) (at : ℕ) → at ≤ length cs → end_of (length cs) (ok (x, drop at cs)) ≡ Ok at
unfolding end_of
end_here x cs at h = let z : length cs - length (drop at cs) ≡ at = omega (arith, length-drop at cs) in ap Ok z

module _ (M : Model) (cs : List ℕ) where
  plan_left : (n s : ℕ) (ds : List ℕ) (y : Plan n × List ℕ) → read_plan M n s ds ≡ ok y → (l : List ℕ) × (ds ≡ l ++ y.1)
  plan_left n s ds y e = (choices n y.0, (read_sound M n s ds y e).1)

  -- ---- a choice

  pub end_zero : (n s at : ℕ) → n ≡ 0 → at ≤ length cs → Ok at ≡ end_of (length cs) (read_plan M n s (drop at cs))
  unfolding read_plan
  end_zero zero s at z h = sym (end_here tt cs at h)
  end_zero (suc n) s at z h = absurd (omega arith)

  pub end_missing : (n s at : ℕ) → (n ≡ 0 → ⊥) → at ≡ length cs → Err NotThePlan ≡ end_of (length cs) (read_plan M n s (drop at cs))
  unfolding read_plan end_of
  end_missing zero s at z h = absurd (z refl)
  end_missing (suc n) s at z h = sym (ap (λ l. end_of (length cs) (read_plan M (suc n) s l)) (drop_of_length-le cs {i = at} (omega arith)))

  module _ (s at : ℕ) (h : at < length cs) where
    pub end_disabled : (n : ℕ) → (n ≡ 0 → ⊥) → any (eqb (get_or cs at 0)) (enabled M s) ≡ false → Err NotThePlan ≡ end_of (length cs) (read_plan M n s (drop at cs))
    unfolding read_plan end_of
    end_disabled zero z e = absurd (z refl)
    end_disabled (suc n) z e = sym (rw (drop-cons cs at 0 h, e) refl)

    pub end_choice : (n : ℕ) → (n ≡ 0 → ⊥) → any (eqb (get_or cs at 0)) (enabled M s) ≡ true
        → end_of (length cs) (read_each (λ o. read_plan M (n - 1) o.target) (outcomes M s (get_or cs at 0)) (drop (at + 1) cs)) ≡ end_of (length cs) (read_plan M n s (drop at cs))
    unfolding read_plan
    end_choice zero z e = absurd (z refl)
    end_choice (suc n) z e =
        let a = get_or cs at 0 in
        let d : suc n - 1 ≡ n = omega arith in
        let rest = read_each (λ o. read_plan M n o.target) (outcomes M s a) (drop (suc at) cs) in
        ap₂ (λ j i. end_of (length cs) (read_each (λ o. read_plan M j o.target) (outcomes M s a) (drop i cs))) d (add-one at)
        ∙ sym
        (ap (λ l. end_of (length cs) (read_plan M (suc n) s l)) (drop-cons cs at 0 h)
        ∙ ap (λ t. end_of {A = Plan (suc n)} (length cs) (guard 10 t >> (rest >>= (λ qs. ok ((a, qs.0), qs.1))))) e
        ∙ end_bind (length cs) rest (λ qs. (a, qs.0)))

  -- ---- the outcomes

  pub walk_refused : (k : ℕ) (o : Step) (os : List Step) (at : ℕ) (r : Refusal) → end_of (length cs) (read_plan M k o.target (drop at cs)) ≡ Err r
      → end_of (length cs) (read_each (λ o. read_plan M k o.target) (o ∷ os) (drop at cs)) ≡ Err r
  unfolding read_each
  walk_refused k o os at r e = end_refused (length cs) (read_plan M k o.target (drop at cs)) _ r e

  pub walk_on : (k : ℕ) (o : Step) (os : List Step) (at p : ℕ) → at ≤ length cs → end_of (length cs) (read_plan M k o.target (drop at cs)) ≡ Ok p
      → (p ≤ length cs) × (end_of (length cs) (read_each (λ o. read_plan M k o.target) (o ∷ os) (drop at cs)) ≡ end_of (length cs) (read_each (λ o. read_plan M k o.target) os (drop p cs)))
  unfolding read_each
  walk_on k o os at p h e =
      let w = left_at (read_plan M k o.target (drop at cs)) cs at p h (plan_left k o.target (drop at cs)) e in (
        w.3,
        ap (λ c. end_of (length cs) (c >>= (λ y. read_each (λ o. read_plan M k o.target) os y.1 >>= (λ ys. ok (y.0 ∷ ys.0, ys.1))))) w.1
            ∙ end_bind (length cs) (read_each (λ o. read_plan M k o.target) os w.0.1) (λ ys. w.0.0 ∷ ys.0)
            ∙ ap (λ l. end_of (length cs) (read_each (λ o. read_plan M k o.target) os l)) w.2,
      )

-- ---- by the model's bytes

module _ (b : Bytes) (e : refusal (read_model b) ≡ 0) where
  module _ (cs : List ℕ) (s at : ℕ) (h : s < state_count b) (l : at < length cs) (n : ℕ) (z : n ≡ 0 → ⊥) where
    abbrev count : ℕ
    count = length (outcomes (model_of b) s (get_or cs at 0))

    pub choice_refused : count ≡ 0 → Err NotThePlan ≡ end_of (length cs) (read_plan (model_of b) n s (drop at cs))
    choice_refused q = end_disabled (model_of b) cs s at l n z (enabled_test b e s h (get_or cs at 0) ∙ ap (ltb 0) q)

    pub choice_taken : (count ≡ 0 → ⊥)
        → end_of (length cs) (read_each (λ o. read_plan (model_of b) (n - 1) o.target) (outcomes (model_of b) s (get_or cs at 0)) (drop (at + 1) cs))
        ≡ end_of (length cs) (read_plan (model_of b) n s (drop at cs))
    choice_taken q = end_choice (model_of b) cs s at l n z (enabled_test b e s h (get_or cs at 0) ∙ lt-ltb 0 count (positive count q))
      where
        positive : (x : ℕ) → (x ≡ 0 → ⊥) → 0 < x
        positive zero q = absurd (q refl)
        positive (suc x) q = omega arith

module _ (b : Bytes) (cs : List ℕ) (s a k : ℕ) where
  -- What is read below the outcomes from i on, from a place on.
  abbrev from : ℕ → ℕ → Result ℕ Refusal
  from i at = end_of (length cs) (read_each (λ o. read_plan (model_of b) k o.target) (drop i (outcomes (model_of b) s a)) (drop at cs))

  outcome_at : (i : ℕ) → i < length (outcomes (model_of b) s a)
      → drop i (outcomes (model_of b) s a) ≡ get_or (outcomes (model_of b) s a) i (past b s) ∷ drop (i + 1) (outcomes (model_of b) s a)
  outcome_at i l =
      let os = outcomes (model_of b) s a in
      drop-cons os i (past b s) l ∙ ap (λ j. get_or os i (past b s) ∷ drop j os) (sym (add-one i))

  module _ (i at t : ℕ) (l : i < length (outcomes (model_of b) s a)) (q : t ≡ (get_or (outcomes (model_of b) s a) i (past b s)).target) where
    pub outcome_refused : (r : Refusal) → Err r ≡ end_of (length cs) (read_plan (model_of b) k t (drop at cs)) → from i at ≡ Err r
    outcome_refused r f =
        let o = get_or (outcomes (model_of b) s a) i (past b s) in
        ap (λ os. end_of (length cs) (read_each (λ o. read_plan (model_of b) k o.target) os (drop at cs))) (outcome_at i l)
        ∙ walk_refused (model_of b) cs k o (drop (i + 1) (outcomes (model_of b) s a)) at r (ap (λ u. end_of (length cs) (read_plan (model_of b) k u (drop at cs))) (sym q) ∙ sym f)

    pub outcome_read : (p : ℕ) → at ≤ length cs → Ok p ≡ end_of (length cs) (read_plan (model_of b) k t (drop at cs)) → (p ≤ length cs) × (from i at ≡ from (i + 1) p)
    outcome_read p m r =
        let o = get_or (outcomes (model_of b) s a) i (past b s) in
        let w = walk_on (model_of b) cs k o (drop (i + 1) (outcomes (model_of b) s a)) at p m (ap (λ u. end_of (length cs) (read_plan (model_of b) k u (drop at cs))) (sym q) ∙ sym r) in
        (w.0, ap (λ os. end_of (length cs) (read_each (λ o. read_plan (model_of b) k o.target) os (drop at cs))) (outcome_at i l) ∙ w.1)

  pub outcomes_read : (i at : ℕ) → length (outcomes (model_of b) s a) ≤ i → at ≤ length cs → Ok at ≡ from i at
  unfolding read_each
  outcomes_read i at l m =
      let os = outcomes (model_of b) s a in
      sym (ap (λ os. end_of (length cs) (read_each (λ o. read_plan (model_of b) k o.target) os (drop at cs))) (drop_of_length-le os {i = i} l) ∙ end_here [] cs at m)

-- ---- the refusal

-- What refuses by ground 10 alone.
By10 : {A : Type 0} → Checked A → Type 0
By10 (ok x) = Unit {0}
By10 (refused k) = k ≡ 10

module _ {A : Type 0} where
  guard_by_10 : (t : Bool) (c : Checked A) → By10 c → By10 (guard 10 t >> c)
  unfolding By10
  guard_by_10 true c h = h
  guard_by_10 false c h = refl

  then_by_10 : {B : Type 0} (c : Checked A) (g : A → Checked B) → By10 c → ((x : A) → By10 (g x)) → By10 (c >>= g)
  unfolding By10
  then_by_10 (ok x) g h f = f x
  then_by_10 (refused k) g h f = h

each_by_10 : {A B : Type 0} (f : A → List ℕ → Checked (B × List ℕ)) → ((x : A) (cs : List ℕ) → By10 (f x cs)) → (xs : List A) (cs : List ℕ) → By10 (read_each f xs cs)
unfolding By10 read_each
each_by_10 f h [] cs = tt
each_by_10 f h (x ∷ xs) cs = then_by_10 (f x cs) _ (h x cs) (λ y. then_by_10 (read_each f xs y.1) _ (each_by_10 f h xs y.1) (λ ys. tt))

plan_by_10 : (M : Model) (n s : ℕ) (cs : List ℕ) → By10 (read_plan M n s cs)
unfolding By10 read_plan
plan_by_10 M zero s cs = tt
plan_by_10 M (suc n) s [] = refl
plan_by_10 M (suc n) s (a ∷ cs) =
    guard_by_10 (any (eqb a) (enabled M s)) _
    (then_by_10 (read_each (λ o. read_plan M n o.target) (outcomes M s a) cs) _ (each_by_10 _ (λ o cs. plan_by_10 M n o.target cs) (outcomes M s a) cs) (λ qs. tt))

-- All choices are the plan's, or some are left over, or there is no plan.
module _ (M : Model) (cs : List ℕ) (n s : ℕ) where
  pub plan_refused : (r : Refusal) → Err r ≡ end_of (length cs) (read_plan M n s cs) → number r ≡ refusal (plan_of M n s cs)
  unfolding plan_of end_of By10
  plan_refused r e = by (read_plan M n s cs) e (plan_by_10 M n s cs)
    where
      by : (c : Checked (Plan n × List ℕ)) → Err r ≡ end_of (length cs) c → By10 c → number r ≡ refusal (c >>= (λ x. guard 10 (is_empty x.1) >> ok x.0))
      by (ok x) q h = let z : ◌≡◌ {A = ℕ} 0 1 = cc in absurd (omega arith)
      by (refused k) q h = ap refusal_number q ∙ sym h

  module _ (p : ℕ) (e : Ok p ≡ end_of (length cs) (read_plan M n s cs)) where
    left : (y : Plan n × List ℕ) × (read_plan M n s cs ≡ ok y) × (y.1 ≡ drop p cs) × (p ≤ length cs)
    left = left_at (read_plan M n s cs) cs 0 p (omega arith) (plan_left M cs n s cs) (sym e)

    refusal_is : refusal (plan_of M n s cs) ≡ refusal (guard 10 (is_empty (drop p cs)) >> ok left.0.0)
    unfolding plan_of
    refusal_is =
        ap (λ c. refusal (c >>= (λ x. guard 10 (is_empty x.1) >> ok x.0))) left.1 ∙ ap (λ l. refusal (guard 10 (is_empty l) >> ok left.0.0)) left.2

    pub plan_whole : p ≡ length cs → 0 ≡ refusal (plan_of M n s cs)
    unfolding is_empty
    plan_whole q = sym (refusal_is ∙ ap (λ l. refusal (guard 10 (is_empty l) >> ok left.0.0)) (drop_of_length-le cs {i = p} (omega arith)))

    pub plan_over : (p ≡ length cs → ⊥) → 10 ≡ refusal (plan_of M n s cs)
    unfolding is_empty
    plan_over q = sym (refusal_is ∙ ap (λ l. refusal (guard 10 (is_empty l) >> ok left.0.0)) (drop-cons cs p 0 (omega (arith, left.3))))
