-- What the row of a state has to say of the model of the blocks, whether an action is enabled there or the work is over; and that the row
-- of a state in which the work is over says it.
use Prim.Native.Nat.{ℕ, ◌+◌, ◌*◌, ◌≤◌, ◌<◌}
use native.Mathlib.Omega.{arith}
use native.Mathlib.Nat.{zero-add}
use mathlib.Core.Path.{◌≡◌, refl, sym, ap, ap₂, subst, ◌∙◌}
use mathlib.Core.Bool.{true}
use mathlib.Core.List.{List, [], ◌∷◌}
use lib.ListN.{get_or, drop}
use lib.Seq.{get_or-take, get_or-drop}
use lib.IntN.{pos}
use lib.Signed.{mag}
use Rattle.logic.specs.promises.Refusal.{refusal}
use Rattle.logic.specs.Lists.{count_from, tabulate}
use Rattle.logic.specs.Model.{Step, silent_step, deadlocked, enabled, outcomes}
use Rattle.logic.specs.promises.Raised.{Modest}
use Rattle.logic.proofs.Tests.{length_empty}
use Rattle.logic.proofs.WholeTotals.{modest_reward}
use Rattle.logic.proofs.SilentMove.{silent_alone, silent_outcomes}
use Rattle.blocks.specs.Bytes.{Bytes, signed}
use Rattle.blocks.specs.Block.{sum_below}
use Rattle.models.specs.Grounds.{read_model}
use Rattle.models.specs.Layout.{state_count, action_count, model_of}
use Rattle.models.proofs.EveryCell.{sizes}
use Rattle.models.proofs.GroundsPassed.{passed_all}
use Rattle.models.proofs.ModelOfBytes.{denominator_held, deadlocked_entries}
use Rattle.prepared_model.specs.promises.Rows.{choices_in, choice_in, outcomes_in, step_in, row_in, Offers, sum_in, weighed, lane}
use Rattle.prepared_model.specs.promises.Filled.{listed, Silent}
use Rattle.prepared_model.proofs.RowFilled.{row_at}

-- The ranges that are known of an outcome.
pub record Fair (b : Bytes) (o : Step) : Type 0 where
  pub reaches : o.target < state_count b
  pub light : o.weight ≤ 100
  pub modest : mag o.reward ≤ 1000
  pub raisable : Modest o.reward

pub record Told (b m : List ℕ) (s : ℕ) : Type 0 where
  pub choices : enabled (model_of b) s ≡ tabulate (choices_in m s) (choice_in m s)
  pub few_choices : choices_in m s ≤ 8
  pub bytes : (i : ℕ) → i < choices_in m s → choice_in m s i < 256
  pub rows : (i : ℕ) → i < choices_in m s → outcomes (model_of b) s (choice_in m s i) ≡ row_in m s i
  pub few_outcomes : (i : ℕ) → i < choices_in m s → outcomes_in m s i ≤ 4
  pub fair : (i o : ℕ) → Offers m s i o → Fair b (step_in m s i o)
  pub sums : (i y : ℕ) → i < choices_in m s → y < 16 → sum_in m s i y ≡ weighed m s i y

-- A number of the array by its place in the row.
pub at_row : (m : List ℕ) (s k : ℕ) → k < 256 → get_or m (512 + 256 * s + k) 0 ≡ get_or (row_at m s) k 0
at_row m s k g = sym (get_or-take 256 (drop (512 + 256 * s) m) k 0 g ∙ get_or-drop (512 + 256 * s) m k 0)

module _ (b : Bytes) (e : refusal (read_model b) ≡ 0) (m : List ℕ) (s : ℕ) (h : s < state_count b) (w : Silent b s (row_at m s)) where
  over : deadlocked (model_of b) s ≡ true
  over = deadlocked_entries b (passed_all b e) s h ∙ length_empty (listed b s (action_count b)) w.none

  one_choice : choices_in m s ≡ 1
  one_choice = at_row m s 16 (omega arith) ∙ w.count

  first : (i : ℕ) → i < choices_in m s → i ≡ 0
  first i g = omega (arith, one_choice)

  the_choice : choice_in m s 0 ≡ 255
  the_choice = at_row m s 0 (omega arith) ∙ w.choice

  one_outcome : outcomes_in m s 0 ≡ 1
  one_outcome = let k : 512 + 256 * s + 8 + 0 ≡ 512 + 256 * s + 8 = omega arith in ap (λ j. get_or m j 0) k ∙ at_row m s 8 (omega arith) ∙ w.outcomes

  lane_0 : (k : ℕ) → k < 256 → get_or m (512 + 256 * s + k + 4 * 0 + 0) 0 ≡ get_or (row_at m s) k 0
  lane_0 k g = let z : 512 + 256 * s + k + 4 * 0 + 0 ≡ 512 + 256 * s + k = omega arith in ap (λ j. get_or m j 0) z ∙ at_row m s k g

  the_step : step_in m s 0 0 ≡ silent_step (model_of b) s
  unfolding signed
  the_step =
      let make : ℕ → ℕ → ℕ → ℕ → Step = λ c t v x. record { choice = c; target = t; weight = v; reward = signed 15 x } in
      ap₂ (λ c t. make c t (step_in m s 0 0).weight (get_or m (512 + 256 * s + 96 + 4 * 0 + 0) 0)) the_choice (lane_0 32 (omega arith) ∙ w.target)
      ∙ ap₂ (make 255 s) (lane_0 64 (omega arith) ∙ w.weight ∙ sym (denominator_held b)) (lane_0 96 (omega arith) ∙ w.reward)

  fair_step : Fair b (step_in m s 0 0)
  fair_step =
      subst (Fair b) (sym the_step)
      (record { reaches = h; light = omega (arith, denominator_held b, (sizes b (passed_all b e).sizes).parts); modest = omega arith; raisable = modest_reward (pos 0) refl refl })

  the_sum : (y : ℕ) → y < 16 → sum_in m s 0 y ≡ weighed m s 0 y
  unfolding sum_below
  the_sum y l =
      let k : 512 + 256 * s + 128 + 16 * 0 + y ≡ 512 + 256 * s + (128 + y) = omega arith in
      ap (λ j. get_or m j 0) k
      ∙ at_row m s (128 + y) (omega arith)
      ∙ w.summed y l
      ∙ ap (λ d. d * lane y 0) (sym (ap (λ (x : Step). x.weight) the_step ∙ denominator_held b))
      ∙ sym (zero-add ((step_in m s 0 0).weight * lane y 0))
      ∙ ap (λ n. sum_below n (λ o. (step_in m s 0 o).weight * lane y o)) (sym one_outcome)

  pub silent_told : Told b m s
  unfolding tabulate count_from
  silent_told =
      record {
        choices =
            silent_alone (model_of b) s over ∙ sym (ap (λ n. tabulate n (choice_in m s)) one_choice ∙ ap (λ c. c ∷ []) the_choice);
        few_choices = omega (arith, one_choice);
        bytes = λ i g. rw (first i g, the_choice) (omega arith);
        rows = λ i g.
            rw (first i g)
            (ap (outcomes (model_of b) s) the_choice
            ∙ silent_outcomes (model_of b) s over
            ∙ sym (ap (λ n. tabulate n (step_in m s 0)) one_outcome ∙ ap (λ o. o ∷ []) the_step));
        few_outcomes = λ i g. rw (first i g) (omega (arith, one_outcome));
        fair = λ i o (g, l). rw (first i g) (let z : o ≡ 0 = omega (arith, one_outcome, ap (outcomes_in m s) (first i g)) in rw z fair_step);
        sums = λ i y g l. rw (first i g) (the_sum y l);
      }
