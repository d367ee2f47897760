-- Dictionary order of choices, and lists that rise in an order.
use Rattle.std.specs.Prelude.{ℕ, zero, suc, ◌<◌, ◌≡◌}
use mathlib.Core.List.{List, [], ◌∷◌, Memᴰ}
use Rattle.logic.specs.Model.{Model, enabled, outcomes}
use Rattle.logic.specs.Plan.{Plan, Match}

-- One list of choices comes before another: at the first place where they differ, it has the smaller choice. No list of choices of a plan
-- begins that of another, so there is such a place.
pub data Before : List ℕ → List ℕ → Type 0 where
  differ : {a b : ℕ} {l r : List ℕ} → a < b → Before (a ∷ l) (b ∷ r)
  agree : {a b : ℕ} {l r : List ℕ} → a ≡ b → Before l r → Before (a ∷ l) (b ∷ r)

-- Each element comes before all later ones.
pub data Rising {A : Type 0} (R : A → A → Type 0) : List A → Type 0 where
  nothing : Rising R []
  first : {x : A} {l : List A} → ((y : A) → Memᴰ y l → R x y) → Rising R l → Rising R (x ∷ l)

-- An n-step plan from s, said without the list: its choice is enabled, and below each outcome stands a plan from its target.
abbrev pub IsPlan : Model → (n : ℕ) → ℕ → Plan n → Type 0
IsPlan m zero s p = Unit {0}
IsPlan m (suc n) s p = Memᴰ p.0 (enabled m s) × Match (λ o q. IsPlan m n o.target q) (outcomes m s p.0) p.1
