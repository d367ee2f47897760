-- The bytes of an accepted model are readable: what grounds 4 and 5 found of sizes, postconditions and targets.
use Prim.Native.Nat.{ℕ, ◌<◌}
use native.Mathlib.Omega.{arith}
use native.Mathlib.Decide.{dec_lt}
use mathlib.Core.Path.{◌≡◌}
use mathlib.Core.Bool.{Bool, true, ◌&&◌}
use lib.Dec.{ltb}
use lib.IntN.{negsuc}
use lib.Signed.{le_z}
use borrow.Author.Tests.{ltb-true}
use Rattle.logic.specs.promises.Refusal.{refusal}
use Rattle.logic.specs.Model.{Step}
use Rattle.logic.proofs.Tests.{and_left}
use Rattle.blocks.specs.Bytes.{Bytes, within}
use Rattle.models.specs.Layout.{state_count, action_count, outcome_of, entries}
use Rattle.models.specs.Grounds.{outcome_in_range, read_model}
use Rattle.models.specs.promises.Readable.{Readable}
use Rattle.models.proofs.EveryCell.{entries_past_states, entries_past_actions}
use Rattle.models.proofs.GroundsPassed.{Passed, passed_all, passed_sized, some_post, outcome_passed}

module _ (b : Bytes) where
  -- A cell with used entries belongs to a state and an action of the model.
  cell_exists : (s a : ℕ) {i : ℕ} → i < entries b s a → (s < state_count b) × (a < action_count b)
  cell_exists s a h = (state (dec_lt s (state_count b)), action (dec_lt a (action_count b)))
    where
      state : Dec (s < state_count b) → s < state_count b
      state (yes l) = l
      state (no l) = absurd (omega (arith, entries_past_states b s a (omega arith)))

      action : Dec (a < action_count b) → a < action_count b
      action (yes l) = l
      action (no l) = absurd (omega (arith, entries_past_actions b s a (omega arith)))

  target_inside : (o : Step) → outcome_in_range b o ≡ true → o.target < state_count b
  unfolding outcome_in_range
  target_inside o e =
      let t : Bool = ltb o.target (state_count b) in
      let w : Bool = within 1 100 o.weight in
      let l : Bool = le_z (negsuc 999) o.reward in
      ltb-true o.target (state_count b) (and_left t w (and_left (t && w) l (and_left (t && w && l) _ e)))

  readable_passed : Passed b → Readable b
  readable_passed p =
      let z = passed_sized b p in
      record {
        states = z.states;
        actions = z.actions;
        some_post = λ {a} h. some_post b p a h;
        few_posts = λ {a} h. z.posts a h;
        inside = λ s a {i} h. let w = cell_exists s a h in target_inside (outcome_of b s a i) (outcome_passed b p s a i w.0 w.1 h);
      }

  pub readable : refusal (read_model b) ≡ 0 → Readable b
  readable e = readable_passed (passed_all b e)
