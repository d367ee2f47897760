-- How the row of a state is filled, 256 numbers, from the blocks: its choices listed, their outcomes spelled out, or the silent move put where
-- there is none, and the weights summed.
use Rattle.std.specs.Prelude.{ℕ, ◌+◌, ◌*◌, ◌/◌, ◌%◌, ◌<◌, ◌≡◌, List, ltb, get_or, set, length}
use Rattle.logic.specs.Lists.{keep, count_from}
use Rattle.blocks.specs.Bytes.{Bytes, byte, u16}
use Rattle.models.specs.Layout.{action_count, denominator_of, cell_at, entries}
use Rattle.prepared_model.specs.promises.Rows.{lane}

-- The first n actions, those that have outcomes in s.
abbrev pub listed : Bytes → (s n : ℕ) → List ℕ
listed b s n = keep (λ a. ltb 0 (entries b s a)) (count_from 0 n)

-- Of the first n actions those that are enabled in s stand in the row, i of them, each with the number of its outcomes.
pub record Listed (b : Bytes) (s n i : ℕ) (row : List ℕ) : Type 0 where
  pub many : i ≡ length (listed b s n)
  pub bytes : (j : ℕ) → j < i → get_or row j 0 ≡ get_or (listed b s n) j 0
  pub counts : (j : ℕ) → j < i → get_or row (8 + j) 0 ≡ entries b s (get_or (listed b s n) j 0)

-- All choices of s stand in the row, and their number.
abbrev pub Chosen : Bytes → ℕ → List ℕ → Type 0
Chosen b s row = Listed b s (action_count b) (get_or row 16 0) row

-- Where outcome j % 4 of the choice at place j / 4 stands in the blocks.
abbrev pub source : Bytes → (s j : ℕ) → ℕ
source b s j = cell_at s (get_or (listed b s (action_count b)) (j / 4) 0) + 4 * (j % 4)

-- An outcome, which stands at `at` in the blocks, put in lane k.
abbrev pub put_at : Bytes → List ℕ → (at k : ℕ) → List ℕ
put_at b row at k = set (set (set row (32 + k) (byte b at)) (64 + k) (byte b (at + 1))) (96 + k) (u16 b (at + 2))

-- The targets, weights and rewards of the first k outcomes, 4 to a choice.
pub record Spelled (b : Bytes) (s k : ℕ) (row : List ℕ) : Type 0 where
  pub targets : (j : ℕ) → j < k → get_or row (32 + j) 0 ≡ byte b (source b s j)
  pub weights : (j : ℕ) → j < k → get_or row (64 + j) 0 ≡ byte b (source b s j + 1)
  pub light : (j : ℕ) → j < k → get_or row (64 + j) 0 < 256
  pub rewards : (j : ℕ) → j < k → get_or row (96 + j) 0 ≡ u16 b (source b s j + 2)

-- The four weights of the choice at place i whose bits in the pattern y are 1, summed.
abbrev pub pattern_sum : List ℕ → (i y : ℕ) → ℕ
pattern_sum row i y =
    get_or row (64 + 4 * i) 0 * lane y 0 + get_or row (64 + 4 * i + 1) 0 * lane y 1 + get_or row (64 + 4 * i + 2) 0 * lane y 2 + get_or row (64 + 4 * i + 3) 0 * lane y 3

-- The first y sums of the choice at place i; what stands before them in the row stayed.
pub record Partly (i y : ℕ) (before row : List ℕ) : Type 0 where
  pub kept : (j : ℕ) → j < 128 + 16 * i → get_or row j 0 ≡ get_or before j 0
  pub at : (x : ℕ) → x < y → get_or row (128 + 16 * i + x) 0 ≡ pattern_sum before i x

-- All sums of the first n choices.
pub record Summed (n : ℕ) (before row : List ℕ) : Type 0 where
  pub kept : (j : ℕ) → j < 128 → get_or row j 0 ≡ get_or before j 0
  pub at : (i x : ℕ) → i < n → x < 16 → get_or row (128 + 16 * i + x) 0 ≡ pattern_sum before i x

-- The silent move put as the one choice, in lane 0: back to s, with the weight d and the reward 0. The weights of its other lanes are 0.
abbrev pub silent_at : List ℕ → (s d : ℕ) → List ℕ
silent_at row s d = set (set (set (set (set (set (set (set (set row 0 255) 8 1) 16 1) 32 s) 64 d) 65 0) 66 0) 67 0) 96 0

-- The row of a state in which an action is enabled.
pub record Acting (b : Bytes) (s : ℕ) (row : List ℕ) : Type 0 where
  pub some : 0 < get_or row 16 0
  pub chosen : Chosen b s row
  pub spelled : Spelled b s (4 * get_or row 16 0) row
  pub summed : (i y : ℕ) → i < get_or row 16 0 → y < 16 → get_or row (128 + 16 * i + y) 0 ≡ pattern_sum row i y

-- The row of a state in which the work is over.
pub record Silent (b : Bytes) (s : ℕ) (row : List ℕ) : Type 0 where
  pub none : length (listed b s (action_count b)) ≡ 0
  pub count : get_or row 16 0 ≡ 1
  pub choice : get_or row 0 0 ≡ 255
  pub outcomes : get_or row 8 0 ≡ 1
  pub target : get_or row 32 0 ≡ s
  pub weight : get_or row 64 0 ≡ denominator_of b
  pub reward : get_or row 96 0 ≡ 0
  pub summed : (y : ℕ) → y < 16 → get_or row (128 + y) 0 ≡ denominator_of b * lane y 0

-- The whole row of s.
pub data Row (b : Bytes) (s : ℕ) (row : List ℕ) : Type 0 where
  acting : Acting b s row → Row b s row
  silent : Silent b s row → Row b s row
