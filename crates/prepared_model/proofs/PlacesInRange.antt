-- Where the readers of a prepared model may read, and that no outcome leads out of the model.
use Prim.Native.Nat.{ℕ, ◌<◌}
use native.Mathlib.Omega.{arith}
use mathlib.Core.Path.{subst}
use mathlib.Core.List.{List, Memᴰ}
use Rattle.logic.specs.Model.{Step, enabled, outcomes}
use Rattle.models.specs.Layout.{state_count}
use Rattle.prepared_model.specs.promises.Rows.{choices_in, Offers, model_in, Prepared}
use Rattle.prepared_model.proofs.ReadByPlace.{states_are}

module _ {m : List ℕ} (w : Prepared m) (s : ℕ) (h : s < state_count m) where
  pub place_range : (i : ℕ) → i < choices_in m s → (s < 32) × (i < 8)
  place_range i g = (omega (arith, w.states), omega (arith, w.few_choices s h))

  pub read_range : (i o : ℕ) → Offers m s i o → (s < 32) × (i < 8) × (o < 4)
  read_range i o g = (omega (arith, w.states), omega (arith, w.few_choices s h, g.0), omega (arith, w.few_outcomes s i h g.0, g.1))

  pub outcome_inside : (a : ℕ) → Memᴰ a (enabled (model_in m) s) → (o : Step) → Memᴰ o (outcomes (model_in m) s a) → o.target < state_count m
  outcome_inside a e o f = subst (λ n. o.target < n) (states_are m) (w.accepted.inside (record { state = rw (states_are m) h; choice = e }) o f)
