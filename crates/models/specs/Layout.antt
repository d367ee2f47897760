-- Where a model's fields stand in its blocks, and the model that they hold. Document 01, "Blocks of 512 bytes", Head and Rows.
use Rattle.std.specs.Prelude.{ℕ, ◌+◌, ◌*◌, ◌/◌, ◌%◌, cond, ◌&&◌, ltb}
use Rattle.logic.specs.Lists.{tabulate}
use Rattle.logic.specs.Model.{Literals, Step, Model, true_of}
use Rattle.blocks.specs.Bytes.{Bytes, byte, u32, i16}

-- Head: bytes 2 to 5 are S, A, N, D.
abbrev pub state_count : Bytes → ℕ
state_count b = byte b 2

abbrev pub action_count : Bytes → ℕ
action_count b = byte b 3

abbrev pub prop_count : Bytes → ℕ
prop_count b = byte b 4

abbrev pub denominator_of : Bytes → ℕ
denominator_of b = byte b 5

-- A true mask and a false mask.
unfoldable pub literals : Bytes → ℕ → Literals
literals b at = record { positive = u32 b at; negative = u32 b (at + 4) }

-- At 8, 32 state masks.
unfoldable pub state_mask : Bytes → ℕ → ℕ
state_mask b s = u32 b (8 + 4 * s)

-- At 136, 8 actions of 44 bytes: the precondition, one byte count of postconditions, 3 spare, 4 postconditions.
abbrev pub action_at : ℕ → ℕ
action_at a = 136 + 44 * a

unfoldable pub pre_of : Bytes → ℕ → Literals
pre_of b a = literals b (action_at a)

unfoldable pub post_count : Bytes → ℕ → ℕ
post_count b a = byte b (action_at a + 8)

unfoldable pub post_of : Bytes → ℕ → ℕ → Literals
post_of b a i = literals b (action_at a + 12 + 8 * i)

-- Rows: three states a block from block 1 on, 128 bytes a state from byte 4: for each of 8 actions, 4 outcomes of 4 bytes.
unfoldable pub cell_at : ℕ → ℕ → ℕ
cell_at s a = 512 * (1 + s / 3) + 4 + 128 * (s % 3) + 16 * a

-- An outcome: target, weight, reward.
unfoldable pub outcome_of : Bytes → ℕ → ℕ → ℕ → Step
outcome_of b s a i =
    record { choice = a; target = byte b (cell_at s a + 4 * i); weight = byte b (cell_at s a + 4 * i + 1); reward = i16 b (cell_at s a + 4 * i + 2) }

-- How many outcomes of a cell are used: one for each postcondition where the action is enabled, none elsewhere (beyond S and A too).
unfoldable pub entries : Bytes → ℕ → ℕ → ℕ
entries b s a = cond (ltb s (state_count b) && ltb a (action_count b) && true_of (pre_of b a) (state_mask b s)) (post_count b a) 0

-- The model in the blocks.
unfoldable pub model_of : Bytes → Model
model_of b =
    record {
      propositions = prop_count b;
      denominator = denominator_of b;
      states = tabulate (state_count b) (state_mask b);
      actions = tabulate (action_count b) (λ a. record { pre = pre_of b a; posts = tabulate (post_count b a) (post_of b a) });
      rows = tabulate (state_count b) (λ s. tabulate (action_count b) (λ a. tabulate (entries b s a) (outcome_of b s a)));
    }
