-- Paths said without a list: what the theorem that counts paths speaks of (`Counting`).
use Rattle.std.specs.Prelude.{ℕ, zero, suc}
use mathlib.Core.List.{List, [], ◌∷◌, map, flat_map, Memᴰ}
use Rattle.logic.specs.Model.{Model, Step, enabled, outcomes}

-- The steps r are a path from s: each is an outcome of an enabled choice in the state reached. Definition 10 of the r-PLBP thesis,
-- without its first state.
pub data PathFrom (m : Model) : ℕ → List Step → Type 0 where
  stop : {s : ℕ} → PathFrom m s []
  move : {s a : ℕ} {o : Step} {r : List Step}
      → Memᴰ a (enabled m s) → Memᴰ o (outcomes m s a) → PathFrom m o.target r → PathFrom m s (o ∷ r)

-- The n-step paths under all enabled choices. That they are just these, each once, is proved (`Counting`).
unfoldable pub all_paths : Model → ℕ → ℕ → List (List Step)
all_paths m zero s = [] ∷ []
all_paths m (suc n) s = flat_map (λ a. flat_map (λ o. map (λ r. o ∷ r) (all_paths m n o.target)) (outcomes m s a)) (enabled m s)
