-- "Some plan" is the published "some policy". A policy gives a plan: its choices on the histories that it meets. A plan gives a policy:
-- along a history of states it is followed into the plan below the outcome with the next state, which is one outcome at most since
-- targets of a choice differ; after a history that the plan cannot meet, the first choice is taken. Each way the paths stay
-- the same, in the same order, and so do the weights.
use Prim.Native.Nat.{ℕ, zero, suc, ◌<◌}
use mathlib.Core.Path.{◌≡◌, refl, sym, ap, subst, ◌∙◌}
use mathlib.Core.Logic.{◌↔◌}
use mathlib.Core.Bool.{Bool, true, false, cond}
use mathlib.Core.List.{List, [], ◌∷◌, ◌++◌, map, flat_map, append-nil, append_assoc, Memᴰ}
use lib.Dec.{eqb}
use lib.IntN.{ℤ}
use lib.ListN.{length}
use Rattle.logic.specs.Lists.{keep}
use Rattle.logic.specs.Model.{Model, Step, enabled, outcomes}
use Rattle.logic.specs.Quantity.{naturals, integers, sum, Relation}
use Rattle.logic.specs.Plan.{Plan, plans, paths, weight, Match, ends, pair}
use Rattle.logic.specs.Order.{Rising, first, IsPlan}
use Rattle.logic.specs.Bound.{total, meets, gain_between}
use Rattle.logic.specs.Formula.{Formula, plan, earns, sat, W}
use Rattle.logic.specs.Policy.{last, Policy, policy_paths, policy_weight, policy_gain}
use Rattle.logic.specs.Accepted.{Accepted, Executable}
use Rattle.logic.proofs.Tests.{eqb_eq, eq_eqb, ne_eqb, any_some, any_there}
use Rattle.logic.proofs.Members.{match_weaken, match_map, join_match}
use Rattle.logic.proofs.Dictionary.{plans_are}
use Rattle.logic.proofs.WholeTotals.{met_condition}
use Rattle.logic.proofs.PolicyPaths.{onward, History, longer, no_steps, policy_enabled}

-- ---- from a policy to a plan

module _ (m : Model) (act : List ℕ → ℕ) where
  -- The policy's choices after the history h, which ends in s.
  unfoldable pub plan_from : (n : ℕ) → List ℕ → ℕ → Plan n
  plan_from zero h s = tt
  plan_from (suc n) h s = (act h, map (λ o. plan_from n (h ++ (o.target ∷ [])) o.target) (outcomes m s (act h)))

  plan_from_paths : (n : ℕ) (h : List ℕ) (s : ℕ) → paths m n s (plan_from n h s) ≡ policy_paths m act n h s
  unfolding plan_from paths policy_paths
  plan_from_paths zero h s = refl
  plan_from_paths (suc n) h s =
      join_match _ (λ o. map (λ r. o ∷ r) (onward m act n h o))
      (match_map _ (outcomes m s (act h)) (λ o i. ap (map (λ r. o ∷ r)) (plan_from_paths n (h ++ (o.target ∷ [])) o.target)))

module _ {m : Model} (accepted : Accepted m) where
  module _ {N s : ℕ} (π : Policy m N s) where
    plan_from_is : (n : ℕ) (h : List ℕ) (t : ℕ) → History m N s n h t → IsPlan m n t (plan_from m π.act n (s ∷ h) t)
    unfolding plan_from
    plan_from_is zero h t y = tt
    plan_from_is (suc n) h t y =
        let x = policy_enabled π y in (
          x.choice,
          match_map _ (outcomes m t (π.act (s ∷ h)))
              (λ o i. plan_from_is n (h ++ (o.target ∷ [])) o.target (longer y o.target (accepted.inside x o i))),
        )

    pub policy_plan : s < length m.states → (ρ : Plan N) × Memᴰ ρ (plans m N s) × (paths m N s ρ ≡ policy_paths m π.act N (s ∷ []) s)
    policy_plan k =
        let ρ : Plan N = plan_from m π.act N (s ∷ []) s in
        (ρ, (plans_are m N s ρ).1 (plan_from_is N [] s (no_steps m N s k)), plan_from_paths m π.act N (s ∷ []) s)

-- ---- from a plan to a policy

-- What g says of the plan that stands below the outcome with the target u; d if there is no such outcome.
unfoldable pub at_target : {B : Type 0} → (B → ℕ) → ℕ → ℕ → List Step → List B → ℕ
at_target g d u [] qs = d
at_target g d u (o ∷ l) [] = d
at_target g d u (o ∷ l) (q ∷ qs) = cond (eqb o.target u) (g q) (at_target g d u l qs)

-- The plan q below the outcome o is found by the target of o.
abbrev Found : {B : Type 0} → List Step → List B → Step → B → Type 0
Found {B} l qs o q = (g : B → ℕ) (d : ℕ) → at_target g d o.target l qs ≡ g q

module _ {B : Type 0} {R : Step → B → Type 0} where
  -- What is true of d and of the plan below any outcome with this target is true of what is found.
  at_target_holds : (P : ℕ → Type 0) (g : B → ℕ) (d u : ℕ) {l : List Step} {qs : List B}
      → P d → Match R l qs → ((o : Step) (q : B) → R o q → o.target ≡ u → P (g q)) → P (at_target g d u l qs)
  unfolding at_target
  at_target_holds P g d u p ends h = p
  at_target_holds P g d u p (pair {x = o} {y = q} {xs = l} {ys = qs} r t) h = pick (eqb o.target u) refl (at_target_holds P g d u p t h)
    where
      pick : (b : Bool) → eqb o.target u ≡ b → P (at_target g d u l qs) → P (cond b (g q) (at_target g d u l qs))
      pick true e k = h o q r (eqb_eq o.target u e)
      pick false e k = k

  -- Where targets differ, each plan is found.
  each_found : {l : List Step} {qs : List B} → Rising (λ x y. x.target ≡ y.target → ⊥) l → Match R l qs → Match (λ o q. R o q × Found l qs o q) l qs
  unfolding at_target
  each_found d ends = ends
  each_found (first k a) (pair {x = o} {y = q} {xs = l} {ys = qs} r t) =
      pair (r, λ g d. ap (λ b. cond b (g q) (at_target g d o.target l qs)) (eq_eqb {a = o.target} refl))
      (match_weaken
      (λ x y i w. (w.0, λ g d. ap (λ b. cond b (g q) (at_target g d x.target l qs)) (ne_eqb o.target x.target (k x i)) ∙ w.1 g d))
      (each_found a t))

unfoldable pub first_enabled : Model → ℕ → ℕ
first_enabled m s = elim (enabled m s) [ [] ↦ 0 | a ∷ l ↦ a ]

module _ (m : Model) where
  -- The plan's choice after the states h that come after s; the first choice if h is too long, or not met.
  unfoldable pub follow : (n : ℕ) → Plan n → ℕ → List ℕ → ℕ
  follow zero p s h = first_enabled m (last s h)
  follow (suc n) p s [] = p.0
  follow (suc n) p s (u ∷ h) = at_target (λ q. follow n q u h) (first_enabled m (last u h)) u (outcomes m s p.0) p.1

module _ {m : Model} (accepted : Accepted m) where
  States : List ℕ → Type 0
  States h = (u : ℕ) → Memᴰ u h → u < length m.states

  some_enabled : (s : ℕ) → s < length m.states → Memᴰ (first_enabled m s) (enabled m s)
  unfolding first_enabled
  some_enabled s k = let w = accepted.some_choice s k in subst (λ z. Memᴰ (elim z [ [] ↦ 0 | a ∷ l ↦ a ]) z) (sym w.2) (Memᴰ.head refl)

  last_state : (s : ℕ) (h : List ℕ) → s < length m.states → States h → last s h < length m.states
  unfolding last States
  last_state s [] k y = k
  last_state s (u ∷ h) k y = last_state u h (y u (Memᴰ.head refl)) (λ v i. y v (Memᴰ.tail i))

  follow_enabled : (n : ℕ) (p : Plan n) (s : ℕ) (h : List ℕ)
      → IsPlan m n s p → s < length m.states → States h → Memᴰ (follow m n p s h) (enabled m (last s h))
  unfolding follow last States
  follow_enabled zero p s h w k y = some_enabled (last s h) (last_state s h k y)
  follow_enabled (suc n) p s [] w k y = w.0
  follow_enabled (suc n) p s (u ∷ h) w k y =
      let i : u < length m.states = y u (Memᴰ.head refl) in
      let z : States h = λ v j. y v (Memᴰ.tail j) in
      at_target_holds (λ a. Memᴰ a (enabled m (last u h))) (λ q. follow m n q u h) (first_enabled m (last u h)) u
      (some_enabled (last u h) (last_state u h i z)) w.1
      (λ o q r e. follow_enabled n q u h (subst (λ x. IsPlan m n x q) e r) i z)

  -- A policy that acts as the plan after the history h has its paths.
  followed_paths : (act : List ℕ → ℕ) (n : ℕ) (p : Plan n) (h : List ℕ) (s : ℕ) → IsPlan m n s p → s < length m.states
      → ((t : List ℕ) → act (h ++ t) ≡ follow m n p s t) → paths m n s p ≡ policy_paths m act n h s
  unfolding paths policy_paths follow
  followed_paths act zero p h s w k e = refl
  followed_paths act (suc n) p h s w k e =
      let x : Executable m s p.0 = record { state = k; choice = w.0 } in
      join_match _ (λ o. map (λ r. o ∷ r) (onward m act n h o))
      (match_weaken
      (λ o q i f.
      ap (map (λ r. o ∷ r))
      (followed_paths act n q (h ++ (o.target ∷ [])) o.target f.0 (accepted.inside x o i)
      (λ t. ap act (append_assoc h (o.target ∷ []) t) ∙ e (o.target ∷ t) ∙ f.1 (λ q. follow m n q o.target t) _)))
      (each_found (accepted.apart x) w.1))
      ∙ ap (λ a. flat_map (λ o. map (λ r. o ∷ r) (onward m act n h o)) (outcomes m s a)) (sym (ap act (sym (append-nil h)) ∙ e []))

  act_of : (n : ℕ) → Plan n → List ℕ → ℕ
  act_of n p [] = 0
  act_of n p (t ∷ h) = follow m n p t h

  module _ (n s : ℕ) (k : s < length m.states) where
    pub plan_policy : (ρ : Plan n) → Memᴰ ρ (plans m n s) → (π : Policy m n s) × (paths m n s ρ ≡ policy_paths m π.act n (s ∷ []) s)
    unfolding act_of States
    plan_policy ρ i =
        let w = (plans_are m n s ρ).0 i in
        (record { act = act_of n ρ; executable = λ h l y. follow_enabled n ρ s h w k y }, followed_paths (act_of n ρ) n ρ (s ∷ []) s w k (λ t. refl))

    -- A "plan" formula is true exactly when the measure of some policy meets the bound: Definition 4 with its published policies.
    pub sat_policy : (φ : Formula) (r : Relation) (p q : ℕ) (ρ : List Step)
        → (sat m (plan n φ r p q) s ρ ≡ true) ↔ ((π : Policy m n s) × (meets naturals m n r p q (policy_weight m φ n s π) ≡ true))
    unfolding sat W policy_weight
    sat_policy φ r p q ρ = (
      λ h.
          let w = any_some _ (plans m n s) h in
          let x = plan_policy w.0 w.1 in (
            x.0,
            ap (λ l. meets naturals m n r p q (sum naturals weight (keep (sat m φ s) l))) (sym x.1) ∙ sym (met_condition m s n φ r p q w.0) ∙ w.2,
          ),
      λ x.
          let w = policy_plan accepted x.0 k in
          any_there _ w.1
          (met_condition m s n φ r p q w.0 ∙ ap (λ l. meets naturals m n r p q (sum naturals weight (keep (sat m φ s) l))) w.2 ∙ x.1),
    )

    -- Operator 9 is true exactly when the expected gain of some policy meets the bound: Definition 13.
    pub gain_policy : (l u : ℕ) (r : Relation) (p : ℤ) (q : ℕ) (ρ : List Step)
        → (sat m (earns n l u r p q) s ρ ≡ true) ↔ ((π : Policy m n s) × (meets integers m n r p q (policy_gain m l u n s π) ≡ true))
    unfolding sat total policy_gain
    gain_policy l u r p q ρ =
        let met : List (List Step) → Bool = λ ps. meets integers m n r p q (sum integers (λ σ. integers.times (weight σ) (gain_between l u σ)) ps) in (
          λ h.
              let w = any_some _ (plans m n s) h in
              let x = plan_policy w.0 w.1 in
              (x.0, ap met (sym x.1) ∙ w.2),
          λ x.
              let w = policy_plan accepted x.0 k in
              any_there _ w.1 (ap met w.2 ∙ x.1),
        )
