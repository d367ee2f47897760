-- The choices of an accepted model, by its bytes: an action has as many outcomes as its cell has used entries; the silent move has one where no
-- precondition is true, and none elsewhere.
use Prim.Native.Nat.{ℕ, ◌+◌, ◌*◌, ◌-◌, ◌/◌, ◌<◌}
use native.Mathlib.Omega.{arith}
use mathlib.Core.Path.{◌≡◌, refl, sym, ap, ap₂, ◌∙◌}
use mathlib.Core.Bool.{Bool, true, false, ◌&&◌, false≢true}
use mathlib.Core.List.{List, [], ◌∷◌, Memᴰ}
use lib.ListN.{length, get_or}
use Rattle.logic.specs.Lists.{is_empty, every, some_below}
use Rattle.logic.specs.promises.Refusal.{refusal}
use Rattle.logic.specs.Model.{true_of, silent, silent_step, enabled_actions, deadlocked, outcomes}
use Rattle.logic.proofs.Tests.{and_right, every_at, member_place, length_some, some_below_at, some_below_index, length_tabulate, get_or_tabulate}
use Rattle.logic.proofs.SilentMove.{silent_outcomes, outcomes_stored, action_outcomes}
use Rattle.blocks.specs.Bytes.{Bytes, zeros}
use Rattle.blocks.specs.Block.{block_count}
use Rattle.models.specs.Layout.{state_count, action_count, state_mask, pre_of, cell_at, outcome_of, entries, model_of}
use Rattle.models.specs.Grounds.{head_spare, rows_spare, cell_spare, cells_spare, read_model}
use Rattle.models.proofs.EveryCell.{entries_past_actions}
use Rattle.models.proofs.GroundsPassed.{passed_all, passed_sized}
use Rattle.models.proofs.OutcomesOfCell.{stored_are}
use Rattle.models.proofs.ModelOfBytes.{enabled_in, enabled_range, no_entries}

-- A list without members is empty.
none_empty : (l : List ℕ) → ((a : ℕ) → Memᴰ a l → ⊥) → is_empty l ≡ true
unfolding is_empty
none_empty [] h = refl
none_empty (x ∷ l) h = absurd (h x (Memᴰ.head refl))

-- An empty list has no members.
empty_none : (l : List ℕ) → is_empty l ≡ true → (a : ℕ) → Memᴰ a l → ⊥
empty_none l e a i = let w = member_place i 0 in false≢true (sym (length_some l (omega (arith, w.1))) ∙ e)

module _ (b : Bytes) (s : ℕ) (h : s < state_count b) where
  -- Some action is enabled in s, by the bytes.
  abbrev some_action : Bool
  some_action = some_below (action_count b) (λ a. true_of (pre_of b a) (state_mask b s))

  pub not_deadlocked : some_action ≡ true → deadlocked (model_of b) s ≡ false
  unfolding deadlocked
  not_deadlocked e =
      let w = some_below_index _ (action_count b) e in
      let x = member_place (enabled_in b s w.0 h w.1 w.2) 0 in
      length_some (enabled_actions (model_of b) s) (omega (arith, x.1))

  pub is_deadlocked : some_action ≡ false → deadlocked (model_of b) s ≡ true
  unfolding deadlocked
  is_deadlocked e =
      none_empty (enabled_actions (model_of b) s)
      (λ a i. let w = enabled_range b s a h i in false≢true (sym e ∙ some_below_at (λ a. true_of (pre_of b a) (state_mask b s)) (action_count b) w.0 w.1))

module _ (b : Bytes) (e : refusal (read_model b) ≡ 0) (s : ℕ) (h : s < state_count b) where
  -- The silent move has no cell.
  no_cell : entries b s silent ≡ 0
  no_cell = entries_past_actions b s silent (omega (arith, (passed_sized b (passed_all b e)).actions))

  pub action_count_is : (a : ℕ) → (a ≡ silent → ⊥) → entries b s a ≡ length (outcomes (model_of b) s a)
  action_count_is a n = sym (ap length (action_outcomes (model_of b) s a n ∙ stored_are b s a) ∙ length_tabulate (outcome_of b s a) (entries b s a))

  pub silent_none : (a : ℕ) → a ≡ silent → some_action b s h ≡ true → 0 ≡ length (outcomes (model_of b) s a)
  silent_none a z t =
      sym
      (ap (λ c. length (outcomes (model_of b) s c)) z
      ∙ ap length (outcomes_stored (model_of b) s (not_deadlocked b s h t) silent ∙ stored_are b s silent)
      ∙ length_tabulate (outcome_of b s silent) (entries b s silent)
      ∙ no_cell)

  pub silent_one : (a : ℕ) → a ≡ silent → some_action b s h ≡ false → 1 ≡ length (outcomes (model_of b) s a)
  silent_one a z t = sym (ap (λ c. length (outcomes (model_of b) s c)) z ∙ ap length (silent_outcomes (model_of b) s (is_deadlocked b s h t)))

  pub action_target : (a i : ℕ) → (a ≡ silent → ⊥) → i < length (outcomes (model_of b) s a)
      → (outcome_of b s a i).target ≡ (get_or (outcomes (model_of b) s a) i (silent_step (model_of b) s)).target
  action_target a i n l =
      let held = action_outcomes (model_of b) s a n ∙ stored_are b s a in
      ap (λ o. o.target)
      (sym
      (ap (λ r. get_or r i (silent_step (model_of b) s)) held
      ∙ get_or_tabulate (outcome_of b s a) (entries b s a) (silent_step (model_of b) s) (omega (arith, action_count_is a n))))

  pub silent_target : (a i : ℕ) → a ≡ silent → i < length (outcomes (model_of b) s a) → s ≡ (get_or (outcomes (model_of b) s a) i (silent_step (model_of b) s)).target
  silent_target a i z l = by (some_action b s h) refl
    where
      by : (t : Bool) → some_action b s h ≡ t → s ≡ (get_or (outcomes (model_of b) s a) i (silent_step (model_of b) s)).target
      by true t = absurd (omega (arith, silent_none a z t))
      by false t =
          let first : i ≡ 0 = omega (arith, silent_one a z t) in
          sym
          (ap₂ (λ c j. (get_or (outcomes (model_of b) s c) j (silent_step (model_of b) s)).target) z first
          ∙ ap (λ r. (get_or r 0 (silent_step (model_of b) s)).target) (silent_outcomes (model_of b) s (is_deadlocked b s h t)))

  -- Where the work is over every cell is spare: it has nothing but zeros.
  pub cells_zero : deadlocked (model_of b) s ≡ true → (a : ℕ) → a < 8 → zeros b (cell_at s a) 16 ≡ true
  unfolding deadlocked cells_spare cell_spare block_count
  cells_zero w a g =
      let p = passed_all b e in
      let n = (passed_sized b p).bytes in
      let none : entries b s a ≡ 0 = no_entries b p s a h (empty_none (enabled_actions (model_of b) s) w a) in
      let row = every_at (λ s. every 8 (cell_spare b s)) (3 * (length b / 512 - 1)) (and_right (head_spare b && rows_spare b) (cells_spare b) p.spare) {i = s} (omega arith) in
      let at : cell_at s a + 4 * entries b s a ≡ cell_at s a = omega arith in
      let size : 16 - 4 * entries b s a ≡ 16 = omega arith in
      sym (ap₂ (zeros b) at size) ∙ every_at (cell_spare b s) 8 row g
