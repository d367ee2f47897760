-- The rewards of an accepted model are from -1000 to 1000: ground 5 found this of the stored outcomes, and the silent move earns 0.
use Prim.Native.Nat.{ℕ, ◌<◌}
use native.Mathlib.Omega.{arith}
use mathlib.Core.Path.{◌≡◌, refl, sym, subst, ◌∙◌}
use mathlib.Core.Logic.{⊎_elim}
use mathlib.Core.Bool.{Bool, true, ◌&&◌}
use mathlib.Core.List.{Memᴰ}
use lib.Dec.{ltb}
use lib.IntN.{pos, negsuc}
use lib.Signed.{le_z}
use Rattle.logic.specs.Model.{Step, silent, enabled_actions, deadlocked, outcomes}
use Rattle.logic.specs.promises.Raised.{Modest, ModestRewards}
use Rattle.logic.proofs.Tests.{and_both}
use Rattle.logic.proofs.SilentMove.{choice_kind, one_outcome, action_outcomes}
use Rattle.logic.proofs.WholeTotals.{modest_reward}
use Rattle.blocks.specs.Bytes.{Bytes, within}
use Rattle.models.specs.Layout.{state_count, outcome_of, entries, model_of}
use Rattle.models.specs.Grounds.{outcome_in_range}
use Rattle.models.proofs.GroundsPassed.{Passed, passed_sized, outcome_passed}
use Rattle.models.proofs.OutcomesOfCell.{stored_are}
use Rattle.models.proofs.ModelOfBytes.{tabulate_member, states_held, enabled_range}

module _ (b : Bytes) where
  in_range_modest : (o : Step) → outcome_in_range b o ≡ true → Modest o.reward
  unfolding outcome_in_range
  in_range_modest o e =
      let first : Bool = ltb o.target (state_count b) && within 1 100 o.weight in
      let most = and_both (first && le_z (negsuc 999) o.reward) (le_z o.reward (pos 1000)) e in
      modest_reward o.reward (and_both first (le_z (negsuc 999) o.reward) most.0).1 most.1

  module _ (p : Passed b) (s : ℕ) (h : s < state_count b) where
    action_modest : (a : ℕ) → Memᴰ a (enabled_actions (model_of b) s) → (o : Step) → Memᴰ o (outcomes (model_of b) s a) → Modest o.reward
    action_modest a x o i =
        let l : a < _ = (enabled_range b s a h x).0 in
        let e = action_outcomes (model_of b) s a (λ q. omega (arith, (passed_sized b p).actions)) ∙ stored_are b s a in
        let w = tabulate_member (outcome_of b s a) (entries b s a) (subst (Memᴰ o) e i) in
        subst (λ (z : Step). Modest z.reward) (sym w.2) (in_range_modest (outcome_of b s a w.0) (outcome_passed b p s a w.0 h l w.1))

    silent_modest : (a : ℕ) → deadlocked (model_of b) s ≡ true → a ≡ silent → (o : Step) → Memᴰ o (outcomes (model_of b) s a) → Modest o.reward
    silent_modest a over e o i =
        subst (λ (z : Step). Modest z.reward) (sym (one_outcome (model_of b) s over (subst (λ c. Memᴰ o (outcomes (model_of b) s c)) e i)))
        (modest_reward (pos 0) refl refl)

  pub modest_rewards : Passed b → ModestRewards (model_of b)
  modest_rewards p =
      record {
        modest = λ {s} {a} x o i.
            let h : s < state_count b = subst (λ n. s < n) (states_held b) x.state in
            ⊎_elim (λ y. action_modest p s h a y o i) (λ y. silent_modest p s h a y.0 y.1 o i) (choice_kind (model_of b) s x.choice);
      }
