-- The prepared question, 552 bytes: a question block, and at 512 + j the depth of node j. The layout of questions reads its first 512
-- bytes as they are.
use Rattle.std.specs.Prelude.{ℕ, ◌+◌, ◌<◌, ◌≡◌, Bool, true, false, [], ◌∷◌, get_or}
use Rattle.logic.specs.Formula.{Formula, never, depth}
use Rattle.blocks.specs.Bytes.{Bytes}
use Rattle.questions.specs.Layout.{node_count, formulas_of}
use Rattle.questions.specs.promises.Formed.{Formed}

-- The formula of node j.
abbrev pub formula : Bytes → ℕ → Formula
formula q j = get_or (formulas_of q) j never

abbrev pub depth_in : Bytes → ℕ → ℕ
depth_in q j = get_or q (512 + j) 0

-- What judging knows of a prepared question, for a model of S states, A actions and N propositions.
pub record Nodes (S A N : ℕ) (q : Bytes) : Type 0 where
  pub formed : Formed S A N q
  pub deep : (j : ℕ) → j < node_count q → depth_in q j ≡ depth (formula q j)

-- "not", "and" and "next" read their child on the path; a "plan" does not.
unfoldable pub reads_left : ℕ → Bool
reads_left op = get_or (false ∷ false ∷ false ∷ true ∷ true ∷ false ∷ true ∷ []) op false
