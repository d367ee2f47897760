-- Bounds on plans: what operators 8 and 9 ask of a plan. Document 01, "Formulas", for operator 8; document 02, A.3, for operator 9, which is
-- Definition 13 of the r-PLBP thesis. A path is worth something; a plan's total is what its paths are worth, weighed and summed; and the
-- total must stand in a relation to p / q of what all paths weigh together. Document 02, A.4: how it compares with that is its lamp.
use Rattle.std.specs.Prelude.{ℕ, ◌-◌, ◌^◌, Bool, true, false, cond, List, take, drop, ℤ, pos}
use Rattle.logic.specs.Model.{Model, Step}
use Rattle.logic.specs.Quantity.{Quantity, integers, sum, Relation, less, equal, greater, related}
use Rattle.logic.specs.Plan.{Plan, paths, weight}

-- Over some paths: weight times value, summed.
abbrev pub weighed : (Q : Quantity) → (List Step → Q.Value) → List (List Step) → Q.Value
weighed Q f ps = sum Q (λ r. Q.times (weight r) (f r)) ps

-- Over the paths that a plan allows from a state.
unfoldable pub total : (Q : Quantity) → Model → (n : ℕ) → ℕ → Plan n → (List Step → Q.Value) → Q.Value
total Q m n s π f = weighed Q f (paths m n s π)

-- A total w of an n-step plan, times q, stands in the relation to p times D to the n.
unfoldable pub meets : (Q : Quantity) → Model → ℕ → Relation → Q.Value → ℕ → Q.Value → Bool
meets Q m n r p q w = related Q r (Q.times q w) (Q.times (m.denominator ^ n) p)

-- Lamp is document 02's word for how a total compares with its bound.
pub data Lamp : Type 0 where
  below at above : Lamp

-- The relation that each lamp stands for.
unfoldable pub lamp_relation : Lamp → Relation
lamp_relation below = less
lamp_relation at = equal
lamp_relation above = greater

-- How a compares with b.
unfoldable pub compared : (Q : Quantity) (a b : Q.Value) → Lamp
compared Q a b = cond (related Q less a b) below (cond (related Q equal a b) at above)

-- How a total w of an n-step plan, times q, compares with p times D to the n. That the bound is met exactly when its relation is the lamp's is
-- proved (`Lamps`).
unfoldable pub lamp : (Q : Quantity) → Model → ℕ → Q.Value → ℕ → Q.Value → Lamp
lamp Q m n p q w = compared Q (Q.times q w) (Q.times (m.denominator ^ n) p)

pub record Bound : Type 0 where
  pub steps : ℕ
  pub worth : List Step → ℤ
  pub relation : Relation
  pub p : ℤ
  pub q : ℕ

unfoldable pub one_if : Bool → ℕ
one_if true = 1
one_if false = 0

-- Operator 8: a path is worth 1 where the condition is true, else 0. So the total is document 01's W, the summed weights of the paths on
-- which the condition is true (proved: `condition_total`).
abbrev pub chance : ℕ → (List Step → Bool) → Relation → (p q : ℕ) → Bound
chance n holds r p q = record { steps = n; worth = λ ρ. pos (one_if (holds ρ)); relation = r; p = pos p; q = q }

-- The rewards of steps l to u of a path, counted from 1, summed: Definition 12.
unfoldable pub gain_between : (l u : ℕ) → List Step → ℤ
gain_between l u ρ = sum integers (λ o. o.reward) (drop (l - 1) (take u ρ))

-- Operator 9: a path is worth its gain of steps l to u. So the total is the expected gain of Definition 13, times D to the n.
abbrev pub expected : (n l u : ℕ) → Relation → ℤ → ℕ → Bound
expected n l u r p q = record { steps = n; worth = gain_between l u; relation = r; p = p; q = q }

-- A plan's total from a state, whether it meets the bound, and its lamp.
abbrev pub total_of : Model → ℕ → (b : Bound) → Plan b.steps → ℤ
total_of m s b π = total integers m b.steps s π b.worth

abbrev pub met_by : Model → ℕ → (b : Bound) → Plan b.steps → Bool
met_by m s b π = meets integers m b.steps b.relation b.p b.q (total_of m s b π)

abbrev pub lamp_by : Model → ℕ → (b : Bound) → Plan b.steps → Lamp
lamp_by m s b π = lamp integers m b.steps b.p b.q (total_of m s b π)
