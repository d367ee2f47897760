-- Marks on the places of a table, 1 for a marked place: what passes over nodes add to.
use Rattle.std.specs.Prelude.{ℕ, ◌≡◌, ◌⊎◌, List, get_or, length}

-- Marks were added, all of them where that is allowed.
pub record Grown (allowed : ℕ → Type 0) (marks marks' : List ℕ) : Type 0 where
  pub size : length marks' ≡ length marks
  pub stays : (k : ℕ) → get_or marks k 0 ≡ 1 → get_or marks' k 0 ≡ 1
  pub new : (k : ℕ) → get_or marks' k 0 ≡ 1 → (get_or marks k 0 ≡ 1) ⊎ allowed k
