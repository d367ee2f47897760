-- A prepared model: one array of numbers, made once from the blocks of an accepted model. It begins with the head block as it stands, so that
-- the definitions that read a head read it too. From 512 on it has 256 numbers for each state, in which the state's choices stand in order,
-- with nothing between them: their bytes, from + 8 their numbers of outcomes, at + 16 the number of choices; from + 32, + 64 and + 96 the
-- targets, weights and rewards of the outcomes, 4 to a choice; from + 128 the summed weights of the outcomes, by pattern, 16 to a choice.
use Rattle.std.specs.Prelude.{ℕ, ◌+◌, ◌*◌, ◌/◌, ◌%◌, ◌^◌, ◌<◌, ◌≤◌, ◌≡◌, Bool, cond, List, [], get_or, length}
use Rattle.std.specs.Int.Signed.{mag}
use Rattle.logic.specs.Lists.{keep, count_from, tabulate}
use Rattle.logic.specs.Model.{Model, Step, true_of, enabled, outcomes}
use Rattle.logic.specs.Accepted.{Accepted}
use Rattle.logic.specs.promises.Raised.{Modest}
use Rattle.blocks.specs.Bytes.{signed}
use Rattle.blocks.specs.Block.{sum_below}
use Rattle.models.specs.Layout.{state_count, action_count, prop_count, denominator_of, pre_of, state_mask, model_of}

-- ---- a state's row

-- How many choices a state has; the byte of the choice at place i; how many outcomes it has; its outcome o.
abbrev pub choices_in : List ℕ → ℕ → ℕ
choices_in m s = get_or m (512 + 256 * s + 16) 0

abbrev pub choice_in : List ℕ → (s i : ℕ) → ℕ
choice_in m s i = get_or m (512 + 256 * s + i) 0

abbrev pub outcomes_in : List ℕ → (s i : ℕ) → ℕ
outcomes_in m s i = get_or m (512 + 256 * s + 8 + i) 0

abbrev pub step_in : List ℕ → (s i o : ℕ) → Step
step_in m s i o =
    record {
      choice = choice_in m s i;
      target = get_or m (512 + 256 * s + 32 + 4 * i + o) 0;
      weight = get_or m (512 + 256 * s + 64 + 4 * i + o) 0;
      reward = signed 15 (get_or m (512 + 256 * s + 96 + 4 * i + o) 0);
    }

abbrev pub row_in : List ℕ → (s i : ℕ) → List Step
row_in m s i = tabulate (outcomes_in m s i) (step_in m s i)

-- The state s has a choice at place i, which has an outcome o.
abbrev pub Offers : List ℕ → (s i o : ℕ) → Type 0
Offers m s i o = (i < choices_in m s) × (o < outcomes_in m s i)

-- Bit i of a number: a pattern has a bit for each outcome of a choice.
unfoldable pub lane : ℕ → ℕ → ℕ
lane x i = x / 2 ^ i % 2

-- The weights of those outcomes of a choice whose bits in the pattern y are 1, summed: as the array has it, and what it is.
abbrev pub sum_in : List ℕ → (s i y : ℕ) → ℕ
sum_in m s i y = get_or m (512 + 256 * s + 128 + 16 * i + y) 0

abbrev pub weighed : List ℕ → (s i y : ℕ) → ℕ
weighed m s i y = sum_below (outcomes_in m s i) (λ o. (step_in m s i o).weight * lane y o)

-- ---- the model

-- Whether the action a is enabled in s, by the head, and the place of its choice: how many actions before it are.
unfoldable pub enabled_in : List ℕ → (s a : ℕ) → Bool
enabled_in m s a = true_of (pre_of m a) (state_mask m s)

unfoldable pub place_of : List ℕ → (s a : ℕ) → ℕ
place_of m s a = length (keep (enabled_in m s) (count_from 0 a))

-- The model that is prepared in an array: that of the head, with the rows from the array.
unfoldable pub model_in : List ℕ → Model
model_in m =
    record {
      propositions = (model_of m).propositions;
      denominator = (model_of m).denominator;
      states = (model_of m).states;
      actions = (model_of m).actions;
      rows = tabulate (state_count m) (λ s. tabulate (action_count m) (λ a. cond (enabled_in m s a) (row_in m s (place_of m s a)) []));
    }

-- THE LAW of a prepared model. Its model is an accepted one; the row of a state lists the choices enabled there in order, and each entry the
-- outcomes of the choice. With it, the ranges that readers rely on, and the sums.
pub record Prepared (m : List ℕ) : Type 0 where
  pub accepted : Accepted (model_in m)
  pub head : (k : ℕ) → k < 512 → get_or m k 0 < 256
  pub states : state_count m ≤ 32
  pub actions : action_count m ≤ 8
  pub props : prop_count m ≤ 32
  pub parts : denominator_of m ≤ 100
  pub choices : (s : ℕ) → s < state_count m → enabled (model_in m) s ≡ tabulate (choices_in m s) (choice_in m s)
  pub few_choices : (s : ℕ) → s < state_count m → choices_in m s ≤ 8
  pub bytes : (s i : ℕ) → s < state_count m → i < choices_in m s → choice_in m s i < 256
  pub rows : (s i : ℕ) → s < state_count m → i < choices_in m s → outcomes (model_in m) s (choice_in m s i) ≡ row_in m s i
  pub few_outcomes : (s i : ℕ) → s < state_count m → i < choices_in m s → outcomes_in m s i ≤ 4
  pub inside : (s i o : ℕ) → s < state_count m → Offers m s i o → (step_in m s i o).target < state_count m
  pub light : (s i o : ℕ) → s < state_count m → Offers m s i o → (step_in m s i o).weight ≤ 100
  pub modest : (s i o : ℕ) → s < state_count m → Offers m s i o → mag (step_in m s i o).reward ≤ 1000
  pub raisable : (s i o : ℕ) → s < state_count m → Offers m s i o → Modest (step_in m s i o).reward
  pub sums : (s i y : ℕ) → s < state_count m → i < choices_in m s → y < 16 → sum_in m s i y ≡ weighed m s i y

-- An array made from a model's blocks: it is prepared, its model is theirs, and so is its head.
pub record Prepares (b m : List ℕ) : Type 0 where
  pub prepared : Prepared m
  pub same : model_in m ≡ model_of b
  pub head : (k : ℕ) → k < 512 → get_or m k 0 ≡ get_or b k 0

-- Where the outcomes of the choice with byte a stand, and how many they are: none if it is not enabled.
pub record RowOf (m : List ℕ) (s a at count : ℕ) : Type 0 where
  pub place : at < 8
  pub few : count ≤ 4
  pub offers : (o : ℕ) → o < count → Offers m s at o
  pub named : 0 < count → choice_in m s at ≡ a
  pub row : outcomes (model_in m) s a ≡ tabulate count (step_in m s at)
