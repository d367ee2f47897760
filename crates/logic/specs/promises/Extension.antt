-- Plans that go on with the first choice of each state: what a search that looks no further than its condition leaves to do.
use Rattle.std.specs.Prelude.{ℕ, zero, suc, [], ◌∷◌, map, get_or}
use Rattle.logic.specs.Lists.{join}
use Rattle.logic.specs.Model.{Model, enabled, outcomes}
use Rattle.logic.specs.Plan.{Plan}

-- The first choice in a state.
unfoldable pub first_choice : Model → ℕ → ℕ
first_choice m s = get_or (enabled m s) 0 0

-- The plan whose choice in a state is given by the steps left and the state.
unfoldable pub chosen_plan : Model → (ℕ → ℕ → ℕ) → (n : ℕ) → ℕ → Plan n
chosen_plan m τ zero s = tt
chosen_plan m τ (suc n) s = (τ (suc n) s, map (λ o. chosen_plan m τ n o.target) (outcomes m s (τ (suc n) s)))

unfoldable pub first_plan : Model → (n : ℕ) → ℕ → Plan n
first_plan m zero s = tt
first_plan m (suc n) s = (first_choice m s, map (λ o. first_plan m n o.target) (outcomes m s (first_choice m s)))

-- The n-step plan that begins as a d-step plan and goes on with the first choice at every later history.
unfoldable pub extended : Model → (d n : ℕ) → ℕ → Plan d → Plan n
extended m zero n s p = first_plan m n s
extended m (suc d) zero s p = tt
extended m (suc d) (suc n) s p = (p.0, join (λ o q. extended m d n o.target q ∷ []) (outcomes m s p.0) p.1)
