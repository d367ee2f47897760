-- The grounds on which a model is refused, 1 to 7, each a test on the whole input. Document 01, "Refused because of the input". (Ground 8, a
-- state with no enabled action, no longer occurs: document 02, A.1. The cells of such a state are spare.)
use Rattle.std.specs.Prelude.{ℕ, ◌+◌, ◌*◌, ◌-◌, ◌/◌, ◌^◌, Bool, ◌&&◌, ◌||◌, List, [], ◌∷◌, eqb, ltb, pos, negsuc}
use Rattle.std.specs.Int.Bits.{bit_and}
use Rattle.std.specs.Int.Signed.{le_z}
use Rattle.logic.specs.Lists.{every}
use Rattle.logic.specs.Checked.{Checked}
use Rattle.logic.specs.Grounds.{Ground, ◌unless◌, decided}
use Rattle.logic.specs.Model.{Literals, Step, Model, true_of, contradict}
use Rattle.blocks.specs.Bytes.{Bytes, zeros, within}
use Rattle.blocks.specs.Block.{sum_below, block_count, whole_blocks, sums_right, headed}
use Rattle.models.specs.Layout.{state_count, action_count, prop_count, denominator_of, state_mask, action_at, pre_of, post_count, post_of, cell_at, outcome_of, entries, model_of}

-- 3: the head is of kind 1, number 0; the rows are of kind 2, numbers 1, 2, ..
unfoldable pub kinds_right : Bytes → Bool
kinds_right b = headed b 0 1 0 && every (block_count b - 1) (λ k. headed b (k + 1) 2 (k + 1))

-- 4: S, A, N, D, and just enough row blocks, three states each.
unfoldable pub sizes_right : Bytes → Bool
sizes_right b =
    within 1 32 (state_count b) && within 1 8 (action_count b) && within 1 32 (prop_count b) && within 1 100 (denominator_of b)
    && eqb (block_count b) (1 + (state_count b + 2) / 3)

-- 5: no mask bit from N up, no literal both true and false; 1 to 4 postconditions; targets below S, weights 1 to 100, rewards -1000 to 1000.
unfoldable pub mask_in_range : Bytes → ℕ → Bool
mask_in_range b v = ltb v (2 ^ prop_count b)

unfoldable pub literals_in_range : Bytes → Literals → Bool
literals_in_range b l = mask_in_range b l.positive && mask_in_range b l.negative && eqb (bit_and l.positive l.negative) 0

unfoldable pub action_in_range : Bytes → ℕ → Bool
action_in_range b a = literals_in_range b (pre_of b a) && within 1 4 (post_count b a) && every (post_count b a) (λ i. literals_in_range b (post_of b a i))

unfoldable pub outcome_in_range : Bytes → Step → Bool
outcome_in_range b o = ltb o.target (state_count b) && within 1 100 o.weight && le_z (negsuc 999) o.reward && le_z o.reward (pos 1000)

unfoldable pub cell_in_range : Bytes → ℕ → ℕ → Bool
cell_in_range b s a = every (entries b s a) (λ i. outcome_in_range b (outcome_of b s a i))

unfoldable pub fields_right : Bytes → Bool
fields_right b =
    every (state_count b) (λ s. mask_in_range b (state_mask b s))
    && every (action_count b) (action_in_range b)
    && every (state_count b) (λ s. every (action_count b) (cell_in_range b s))

-- 6: what is spare is zero. In the head: bytes 6 and 7, the masks from S up, in each action the 3 bytes after the count and the
-- postconditions beyond it, the actions from A up with the rest of the block.
unfoldable pub action_spare : Bytes → ℕ → Bool
action_spare b a = zeros b (action_at a + 9) 3 && zeros b (action_at a + 12 + 8 * post_count b a) (32 - 8 * post_count b a)

unfoldable pub head_spare : Bytes → Bool
head_spare b =
    zeros b 6 2
    && zeros b (8 + 4 * state_count b) (128 - 4 * state_count b)
    && every (action_count b) (action_spare b)
    && zeros b (action_at (action_count b)) (510 - action_at (action_count b))

-- In row block k: bytes 2 and 3, and those after the three states.
unfoldable pub row_spare : Bytes → ℕ → Bool
row_spare b k = zeros b (512 * k + 2) 2 && zeros b (512 * k + 388) 122

unfoldable pub rows_spare : Bytes → Bool
rows_spare b = every (block_count b - 1) (λ k. row_spare b (k + 1))

-- In each cell, the outcomes that are not used; in cells of actions not enabled, from S or from A up, all of them.
unfoldable pub cell_spare : Bytes → ℕ → ℕ → Bool
cell_spare b s a = zeros b (cell_at s a + 4 * entries b s a) (16 - 4 * entries b s a)

unfoldable pub cells_spare : Bytes → Bool
cells_spare b = every (3 * (block_count b - 1)) (λ s. every 8 (cell_spare b s))

-- 7: an action's postconditions contradict in pairs; each target makes its postcondition true; the weights sum to D.
unfoldable pub posts_contradict : Bytes → ℕ → Bool
posts_contradict b a = every (post_count b a) (λ i. every i (λ j. contradict (post_of b a j) (post_of b a i)))

unfoldable pub cell_consistent : Bytes → ℕ → ℕ → Bool
cell_consistent b s a =
    every (entries b s a) (λ i. true_of (post_of b a i) (state_mask b (outcome_of b s a i).target))
    && (eqb (entries b s a) 0 || eqb (sum_below (entries b s a) (λ i. (outcome_of b s a i).weight)) (denominator_of b))

unfoldable pub consistent : Bytes → Bool
consistent b = every (action_count b) (posts_contradict b) && every (state_count b) (λ s. every (action_count b) (cell_consistent b s))

-- The grounds of a model, in document 01's order.
abbrev pub model_grounds : Bytes → List Ground
model_grounds b =
    1 unless whole_blocks 2 12 b
    ∷ 2 unless sums_right b
    ∷ 3 unless kinds_right b
    ∷ 4 unless sizes_right b
    ∷ 5 unless fields_right b
    ∷ 6 unless (head_spare b && rows_spare b && cells_spare b)
    ∷ 7 unless consistent b
    ∷ []

-- What a model's bytes are read as.
unfoldable pub read_model : Bytes → Checked Model
read_model b = decided (model_grounds b) (model_of b)
