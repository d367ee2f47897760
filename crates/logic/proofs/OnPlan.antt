-- The one case split on whether a formula sets a bound on plans: what holds of the other value for every formula, of the plan's value for every
-- "plan", and of operator 9's for every such formula, holds of what `on_plan` gives; of two such values at once.
use Prim.Native.Nat.{ℕ}
use lib.IntN.{ℤ}
use Rattle.logic.specs.Formula.{Formula, never, prop, neg, both, does, next, gain, plan, earns, on_plan}
use Rattle.logic.specs.Quantity.{Relation}

-- What is given by a "plan", and by operator 9.
abbrev pub ByPlan : Type 0 → Type 0
ByPlan A = ℕ → Formula → Relation → ℕ → ℕ → A

abbrev pub ByGain : Type 0 → Type 0
ByGain A = ℕ → ℕ → ℕ → Relation → ℤ → ℕ → A

module _ {A B : Type 0} (P : Formula → A → B → Type 0) {other : A} {others : B} {f : ByPlan A} {f' : ByGain A} {g : ByPlan B} {g' : ByGain B}
    (else : (φ : Formula) → P φ other others)
    (then : (n : ℕ) (ψ : Formula) (r : Relation) (p q : ℕ) → P (plan n ψ r p q) (f n ψ r p q) (g n ψ r p q))
    (earned : (n l u : ℕ) (r : Relation) (p : ℤ) (q : ℕ) → P (earns n l u r p q) (f' n l u r p q) (g' n l u r p q)) where
  pub on_plans : (φ : Formula) → P φ (on_plan other f f' φ) (on_plan others g g' φ)
  on_plans never = else never
  on_plans (prop i) = else (prop i)
  on_plans (neg φ) = else (neg φ)
  on_plans (both φ ψ) = else (both φ ψ)
  on_plans (does a) = else (does a)
  on_plans (next φ) = else (next φ)
  on_plans (gain n b p) = else (gain n b p)
  on_plans (plan n φ r p q) = then n φ r p q
  on_plans (earns n l u r p q) = earned n l u r p q

-- Of one value.
pub by_plan : {A : Type 0} (P : Formula → A → Type 0) {other : A} {f : ByPlan A} {f' : ByGain A}
    → ((φ : Formula) → P φ other) → ((n : ℕ) (ψ : Formula) (r : Relation) (p q : ℕ) → P (plan n ψ r p q) (f n ψ r p q))
    → ((n l u : ℕ) (r : Relation) (p : ℤ) (q : ℕ) → P (earns n l u r p q) (f' n l u r p q)) → (φ : Formula) → P φ (on_plan other f f' φ)
by_plan {A} P {other} {f} {f'} else then earned = on_plans (λ φ a (_ : A). P φ a) {others = other} {g = f} {g' = f'} else then earned
