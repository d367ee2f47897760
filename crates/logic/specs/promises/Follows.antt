-- The paths that a policy allows, said without a list: what the theorem that `policy_paths` lists them speaks of (`PolicyPaths`).
use Rattle.std.specs.Prelude.{ℕ}
use mathlib.Core.List.{List, [], ◌∷◌, ◌++◌, Memᴰ}
use Rattle.logic.specs.Model.{Model, Step, outcomes}

-- The steps r go on from the history h, which ends in s, by the policy: each choice is the policy's for the states so far.
pub data Follows (m : Model) (act : List ℕ → ℕ) : List ℕ → ℕ → List Step → Type 0 where
  stop : {h : List ℕ} {s : ℕ} → Follows m act h s []
  move : {h : List ℕ} {s : ℕ} {o : Step} {r : List Step}
      → Memᴰ o (outcomes m s (act h)) → Follows m act (h ++ (o.target ∷ [])) o.target r → Follows m act h s (o ∷ r)
