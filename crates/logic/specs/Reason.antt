-- Why a no: what could have been had. Document 02, A.5.
use Rattle.std.specs.Prelude.{ℕ, ◌^◌, ◌≡◌, ◌↔◌, Bool, true, List, ℤ}
use Rattle.std.proofs.Math.Option.{Option, none, some}
use Rattle.std.specs.Int.Signed.{le_z}
use Rattle.logic.specs.Lists.{find, keep}
use Rattle.logic.specs.Checked.{Checked, ok, refused}
use Rattle.logic.specs.Model.{Model}
use Rattle.logic.specs.Quantity.{integers, Relation, less, equal, greater}
use Rattle.logic.specs.Plan.{Plan, plans, choices}
use Rattle.logic.specs.Order.{Before, IsPlan}
use Rattle.logic.specs.Bound.{Bound, Lamp, below, above, meets, total_of, lamp_by}
use Rattle.logic.specs.Formula.{Formula}
use Rattle.logic.specs.Verdict.{leads, bound_of}

-- A total that some plan reaches, over what all paths of a plan weigh together, and the choices of that plan.
pub record Reached : Type 0 where
  pub total : ℤ
  pub whole : ℕ
  pub choices : List ℕ

-- "For "greater" it prints the greatest total, for "less" the least"; "For "equal" .. the nearest totals that some plan reaches on either side",
-- where a side may be without one. Another root has no reason.
pub data Reason : Type 0 where
  greatest : Option Reached → Reason
  least : Option Reached → Reason
  nearest : (lower upper : Option Reached) → Reason
  no_reason : Reason

module _ (m : Model) (s : ℕ) (b : Bound) where
  -- What a plan reaches, if one was found.
  abbrev pub reached : Option (ℕ × Plan b.steps) → Option Reached
  reached none = none
  reached (some x) = some (record { total = total_of m s b x.1; whole = m.denominator ^ b.steps; choices = choices b.steps x.1 })

  -- Of some plans the first that leads among them: for "greater" that of greatest total, for "less" that of least.
  unfoldable pub foremost : Relation → List (Plan b.steps) → Option Reached
  foremost r ps = reached (find (leads integers (total_of m s b) r ps) 1 ps)

  -- The plans from the start whose totals stand in this relation to the bound: for "less" those below it, for "greater" those above it.
  unfoldable pub standing : Relation → List (Plan b.steps)
  standing r = keep (λ π. meets integers m b.steps r b.p b.q (total_of m s b π)) (plans m b.steps s)

  -- By the bound's relation. The nearest total below the bound is the greatest of those below it, the nearest above it the least of those above.
  unfoldable pub reason_for : Relation → Reason
  reason_for less = least (foremost less (plans m b.steps s))
  reason_for equal = nearest (foremost greater (standing less)) (foremost less (standing greater))
  reason_for greater = greatest (foremost greater (plans m b.steps s))

abbrev pub reason_by : Model → ℕ → Checked Bound → Reason
reason_by m s (ok b) = reason_for m s b b.relation
reason_by m s (refused k) = no_reason

-- The reason of a no to a root in a start state.
unfoldable pub reason : Model → ℕ → Formula → Reason
reason m s φ = reason_by m s (bound_of m s φ)

-- ---- what is claimed of it, in the request's words (proved: `Reasons.reason_explains`)

module _ (m : Model) (s : ℕ) (b : Bound) where
  -- Of the plans from the start that lie on a side, a total to which none of them is nearer (`no_nearer v w`: v is no nearer than w), and the first
  -- plan that has it.
  pub record Foremost (lies : Plan b.steps → Type 0) (no_nearer : ℤ → ℤ → Bool) (x : Reached) : Type 0 where
    -- "Each total is reached by the plan beside it"
    pub its_plan : Plan b.steps
    pub is_plan : IsPlan m b.steps s its_plan
    pub lies_there : lies its_plan
    pub its_total : x.total ≡ total_of m s b its_plan
    pub its_whole : x.whole ≡ m.denominator ^ b.steps
    pub its_choices : x.choices ≡ choices b.steps its_plan
    -- "with the first plan that has it": no plan before it has that total
    pub first_one : (ρ : Plan b.steps) → IsPlan m b.steps s ρ → Before (choices b.steps ρ) (choices b.steps its_plan) → total_of m s b ρ ≡ x.total → ⊥
    -- "and no plan lies strictly nearer on that side"
    pub none_nearer : (ρ : Plan b.steps) → IsPlan m b.steps s ρ → lies ρ → no_nearer (total_of m s b ρ) x.total ≡ true

  -- The side of the bound on which totals have this lamp. "A side without one reads `above none`": exactly where no plan lies there.
  pub record Side (l : Lamp) (no_nearer : ℤ → ℤ → Bool) (o : Option Reached) : Type 0 where
    pub some_there : (x : Reached) → o ≡ some x → Foremost (λ π. lamp_by m s b π ≡ l) no_nearer x
    pub none_there : (o ≡ none) ↔ ((π : Plan b.steps) → IsPlan m b.steps s π → lamp_by m s b π ≡ l → ⊥)

  pub record Explains (r : Reason) : Type 0 where
    -- "For "greater" it prints the greatest total": no plan has a greater one
    pub by_greater : b.relation ≡ greater → (x : Reached) × (r ≡ greatest (some x)) × Foremost (λ π. Unit {0}) le_z x
    -- "for "less" the least": no plan has a smaller one
    pub by_less : b.relation ≡ less → (x : Reached) × (r ≡ least (some x)) × Foremost (λ π. Unit {0}) (λ v w. le_z w v) x
    -- "For "equal" it prints the nearest totals that some plan reaches on either side": below, none is greater; above, none is smaller
    pub by_equal : b.relation ≡ equal
        → (lower upper : Option Reached) × (r ≡ nearest lower upper) × Side below le_z lower × Side above (λ v w. le_z w v) upper
