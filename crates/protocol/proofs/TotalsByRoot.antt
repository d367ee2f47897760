-- What a plan question asks of plans, by its root: of operator 8 the total is W, of operator 9 the summed path weights times gains. When they meet
-- the bound, in which relation to it their lamp says that they are, which plans lead and which roots have them counted.
use Prim.Native.Nat.{ℕ}
use mathlib.Core.Path.{◌≡◌, refl, sym, ap, ap₂, subst, ◌∙◌}
use mathlib.Core.Logic.{◌↔◌, ◌⊎◌, inl, inr}
use mathlib.Core.Bool.{Bool, true, false, false≢true}
use lib.IntN.{ℤ, pos}
use lib.Signed.{le_z}
use Rattle.logic.specs.Lists.{all}
use Rattle.logic.specs.Checked.{ok, ◌>>=◌}
use Rattle.logic.specs.Model.{Model}
use Rattle.logic.specs.Quantity.{naturals, integers, Relation, less, equal, greater}
use Rattle.logic.specs.Plan.{Plan, plans, paths}
use Rattle.logic.specs.Order.{IsPlan}
use Rattle.logic.specs.Bound.{Bound, weighed, total, meets, lamp_relation, lamp, one_if, chance, expected, total_of, gain_between}
use Rattle.logic.specs.Formula.{Formula, never, plan, earns, on_plan, on_bound, sat, W}
use Rattle.logic.specs.Verdict.{leads, is_equal, Goal, bound_of, bound_goal, goal}
use Rattle.logic.proofs.Checked.{not_ok, ok_same}
use Rattle.logic.proofs.OnPlan.{by_plan}
use Rattle.logic.proofs.Integers.{integers_ordered}
use Rattle.logic.proofs.Lamps.{meets_as_lamp, met_exactly}
use Rattle.logic.proofs.Tests.{all_true, all_at}
use Rattle.logic.proofs.Dictionary.{plans_are}
use Rattle.protocol.specs.Demand2.{ByRelation}
use Rattle.logic.proofs.WholeTotals.{condition_total, met_condition}

-- The two kinds of roots, for a number of steps.
abbrev Condition : Formula → (n : ℕ) → Formula → Type 0
Condition φ n ψ = (r : Relation) × (p : ℕ) × (q : ℕ) × (φ ≡ plan n ψ r p q)

abbrev Gain : Formula → (n l u : ℕ) → Type 0
Gain φ n l u = (r : Relation) × (p : ℤ) × (q : ℕ) × (φ ≡ earns n l u r p q)

-- Parts of a root.
child : {n k : ℕ} {φ ψ : Formula} {r v : Relation} {p q i j : ℕ} → plan n φ r p q ≡ plan k ψ v i j → φ ≡ ψ
child e = ap (on_plan never (λ n ψ r p q. ψ) (λ n l u r p q. never)) e

first_step : {n k l l' u u' : ℕ} {r v : Relation} {p i : ℤ} {q j : ℕ} → earns n l u r p q ≡ earns k l' u' v i j → l ≡ l'
first_step e = ap (on_plan 0 (λ n ψ r p q. 0) (λ n l u r p q. l)) e

last_step : {n k l l' u u' : ℕ} {r v : Relation} {p i : ℤ} {q j : ℕ} → earns n l u r p q ≡ earns k l' u' v i j → u ≡ u'
last_step e = ap (on_plan 0 (λ n ψ r p q. 0) (λ n l u r p q. u)) e

earns≢plan : {n l u k : ℕ} {φ : Formula} {r v : Relation} {p : ℤ} {q i j : ℕ} → earns n l u r p q ≡ plan k φ v i j → ⊥
earns≢plan e = false≢true (ap (on_plan false (λ n ψ r p q. true) (λ n l u r p q. false)) e)

-- What is said of a root that sets a bound, with its goal.
pub record Root (m : Model) (s : ℕ) (φ : Formula) (g : Goal) : Type 0 where
  pub kinds : ((ψ : Formula) × Condition φ g.steps ψ) ⊎ ((l : ℕ) × (u : ℕ) × Gain φ g.steps l u)
  pub bounded : on_bound false (λ n r. true) φ ≡ true
  pub steps : on_bound 0 (λ n r. n) φ ≡ g.steps
  pub weights : (ψ : Formula) → Condition φ g.steps ψ → (π : Plan g.steps) → g.total π ≡ pos (W m ψ g.steps s π)
  pub gains : (l u : ℕ) → Gain φ g.steps l u → (π : Plan g.steps)
      → g.total π ≡ weighed integers (gain_between l u) (paths m g.steps s π)
  pub weight_met : (ψ : Formula) (w : Condition φ g.steps ψ) (π : Plan g.steps)
      → g.met π ≡ meets naturals m g.steps w.0 w.1 w.2 (W m ψ g.steps s π)
  pub gain_met : (l u : ℕ) (w : Gain φ g.steps l u) (π : Plan g.steps) → g.met π ≡ meets integers m g.steps w.0 w.1 w.2 (g.total π)
  pub weight_lamp : (ψ : Formula) (w : Condition φ g.steps ψ) (π : Plan g.steps)
      → meets naturals m g.steps (lamp_relation (g.lamp π)) w.1 w.2 (W m ψ g.steps s π) ≡ true
  pub gain_lamp : (l u : ℕ) (w : Gain φ g.steps l u) (π : Plan g.steps) → meets integers m g.steps (lamp_relation (g.lamp π)) w.1 w.2 (g.total π) ≡ true
  pub met_exact : (π : Plan g.steps) → (g.met π ≡ true) ↔ (lamp_relation (g.lamp π) ≡ on_bound equal (λ n r. r) φ)

pub root_of : (m : Model) (s : ℕ) (φ : Formula) (g : Goal) → goal m s φ ≡ ok g → Root m s φ g
unfolding goal bound_of total
root_of m s φ g =
    by_plan (λ φ c. (c >>= λ b. ok (bound_goal m s b)) ≡ ok g → Root m s φ g) (λ _ e. absurd (not_ok e))
    (λ n ψ r p q e.
    subst (Root m s (plan n ψ r p q)) (ok_same e)
    (record {
      kinds = inl (ψ, (r, p, q, refl));
      bounded = refl;
      steps = refl;
      weights = λ χ w π. condition_total m ψ n s π ∙ ap (λ φ. pos (W m φ n s π)) (child w.3);
      gains = λ l u w. absurd (earns≢plan (sym w.3));
      weight_met = λ χ w π.
          met_condition m s n ψ r p q π
          ∙ ap (on_plan false (λ k χ r p q. meets naturals m n r p q (W m χ n s π)) (λ k l u r p q. false)) w.3;
      gain_met = λ l u w. absurd (earns≢plan (sym w.3));
      weight_lamp = λ χ w π.
          let t = total integers m n s π (λ ρ. pos (one_if (sat m ψ s ρ))) in
          let k = lamp_relation (lamp integers m n (pos p) q t) in
          sym (ap (on_plan false (λ _ χ _ p q. meets naturals m n k p q (W m χ n s π)) (λ _ l u r p q. false)) w.3)
          ∙ sym (met_condition m s n ψ k p q π) ∙ meets_as_lamp integers m n (pos p) q t;
      gain_lamp = λ l u w. absurd (earns≢plan (sym w.3));
      met_exact = λ π. met_exactly integers m n (pos p) q (total integers m n s π (λ ρ. pos (one_if (sat m ψ s ρ)))) integers_ordered r;
    }))
    (λ n l u r p' q e.
    subst (Root m s (earns n l u r p' q)) (ok_same e)
    (record {
      kinds = inr (l, u, (r, p', q, refl));
      bounded = refl;
      steps = refl;
      weights = λ χ w. absurd (earns≢plan w.3);
      gains = λ k v w π.
          ap₂ (λ a b. weighed integers (gain_between a b) (paths m n s π)) (first_step w.3) (last_step w.3);
      weight_met = λ χ w. absurd (earns≢plan w.3);
      gain_met = λ k v w π.
          ap (on_plan false (λ k χ r p q. false) (λ k a b r p q. meets integers m n r p q (total integers m n s π (gain_between l u)))) w.3;
      weight_lamp = λ χ w. absurd (earns≢plan w.3);
      gain_lamp = λ k v w π.
          let t = total integers m n s π (gain_between l u) in
          sym (ap (on_plan false (λ _ χ r p q. false) (λ _ a b _ p q'. meets integers m n (lamp_relation (lamp integers m n p' q t)) p q' t)) w.3)
          ∙ meets_as_lamp integers m n p' q t;
      met_exact = λ π. met_exactly integers m n p' q (total integers m n s π (gain_between l u)) integers_ordered r;
    })) φ

-- ---- which plans lead, and which roots have their plans counted

module _ (m : Model) (s : ℕ) (b : Bound) where
  abbrev t : Plan b.steps → ℤ
  t = total_of m s b

  -- A test that all plans of the list pass.
  all_plans_pass : (f : Plan b.steps → Bool) → (all f (plans m b.steps s) ≡ true) ↔ ((ρ : Plan b.steps) → IsPlan m b.steps s ρ → f ρ ≡ true)
  all_plans_pass f = (
    λ e ρ i. all_at f (plans m b.steps s) e ((plans_are m b.steps s ρ).1 i),
    λ h. all_true f (plans m b.steps s) (λ ρ i. h ρ ((plans_are m b.steps s ρ).0 i)),
  )

  pub bound_by_relation : ByRelation m s (bound_goal m s b) b.relation
  unfolding leads is_equal
  bound_by_relation =
      record {
        greatest = λ e π. rw e (all_plans_pass (λ ρ. le_z (t ρ) (t π)));
        least = λ e π. rw e (all_plans_pass (λ ρ. le_z (t π) (t ρ)));
        counted = by b.relation;
      }
    where
      by : (r : Relation) → (is_equal r ≡ true) ↔ (r ≡ equal)
      by less = (λ e. absurd (false≢true e), λ e. ap is_equal e)
      by equal = (λ e. refl, λ e. refl)
      by greater = (λ e. absurd (false≢true e), λ e. ap is_equal e)

pub goal_by_relation : (m : Model) (s : ℕ) (φ : Formula) (g : Goal) → goal m s φ ≡ ok g → ByRelation m s g (on_bound equal (λ n r. r) φ)
unfolding goal bound_of
goal_by_relation m s φ g =
    by_plan (λ φ c. (c >>= λ b. ok (bound_goal m s b)) ≡ ok g → ByRelation m s g (on_bound equal (λ n r. r) φ)) (λ _ e. absurd (not_ok e))
    (λ n ψ r p q e. subst (λ g. ByRelation m s g r) (ok_same e) (bound_by_relation m s (chance n (sat m ψ s) r p q)))
    (λ n l u r p q e. subst (λ g. ByRelation m s g r) (ok_same e) (bound_by_relation m s (expected n l u r p q))) φ
