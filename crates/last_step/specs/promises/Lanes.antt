-- The outcomes of a state side by side: a word with a bit, a lane, for each, bit 4·i + o for the outcome o of the choice at place i.
use Rattle.std.specs.Prelude.{ℕ, ◌+◌, ◌*◌, ◌<◌, ◌≡◌, List}
use Rattle.prepared_model.specs.promises.Rows.{Offers, lane}

-- In each of the 32 lanes the word has the lane's value.
pub record Lanes (value : ℕ → ℕ) (x : ℕ) : Type 0 where
  pub right : (i : ℕ) → i < 32 → lane x i ≡ value i

-- In the lane of each outcome of s, the word has the outcome's value.
pub record Laned (m : List ℕ) (s : ℕ) (value : ℕ → ℕ → ℕ) (x : ℕ) : Type 0 where
  pub right : (i o : ℕ) → Offers m s i o → lane x (4 * i + o) ≡ value i o
