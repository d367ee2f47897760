-- A model's rows as they stand in its bytes: the outcomes that it gives for an action are the used entries of the cell, in order.
use Prim.Native.Nat.{ℕ, ◌≤◌, ◌<◌}
use native.Mathlib.Omega.{arith}
use native.Mathlib.Decide.{dec_lt}
use mathlib.Core.Path.{◌≡◌, refl, ap, ◌∙◌}
use mathlib.Core.Bool.{Bool, true, false, cond, ◌&&◌}
use mathlib.Core.List.{List, [], ◌∷◌}
use lib.Dec.{eqb}
use lib.ListN.{length, get_or, get_or-eq_default}
use Rattle.logic.specs.Lists.{count_from, tabulate}
use Rattle.logic.specs.Model.{Step, true_of, silent, silent_step, deadlocked, stored, outcomes}
use Rattle.logic.proofs.Tests.{length_tabulate, get_or_tabulate}
use Rattle.blocks.specs.Bytes.{Bytes}
use Rattle.models.specs.Layout.{state_count, action_count, state_mask, pre_of, post_count, outcome_of, entries, model_of}
use Rattle.models.specs.promises.Readable.{Readable}
use Rattle.models.proofs.EveryCell.{entries_past_states, entries_past_actions, entries_inside}

module _ (b : Bytes) where
  pub entries_few : Readable b → (s a : ℕ) → entries b s a ≤ 4
  entries_few r s a = go (dec_lt s (state_count b)) (dec_lt a (action_count b))
    where
      kept : (t : Bool) → post_count b a ≤ 4 → cond t (post_count b a) 0 ≤ 4
      kept true h = h
      kept false h = omega arith

      go : Dec (s < state_count b) → Dec (a < action_count b) → entries b s a ≤ 4
      go (yes h) (yes g) = rw (entries_inside b s a h g) (kept (true_of (pre_of b a) (state_mask b s)) (r.few_posts g))
      go (yes h) (no g) = rw (entries_past_actions b s a (omega arith)) (omega arith)
      go (no h) g = rw (entries_past_states b s a (omega arith)) (omega arith)

  -- A row, and a cell of it, as `rows` holds them.
  cell : ℕ → ℕ → List Step
  cell s a = tabulate (entries b s a) (outcome_of b s a)

  row : ℕ → List (List Step)
  row s = tabulate (action_count b) (cell s)

  pub stored_are : (s a : ℕ) → stored (model_of b) s a ≡ tabulate (entries b s a) (outcome_of b s a)
  unfolding stored model_of row cell tabulate count_from
  stored_are s a = go (dec_lt s (state_count b)) (dec_lt a (action_count b))
    where
      rows : List (List (List Step))
      rows = tabulate (state_count b) row

      nothing : entries b s a ≡ 0 → [] ≡ cell s a
      nothing e = rw e refl

      go : Dec (s < state_count b) → Dec (a < action_count b) → get_or (get_or rows s []) a [] ≡ cell s a
      go (yes h) (yes g) = ap (λ l. get_or l a []) (get_or_tabulate row (state_count b) [] h) ∙ get_or_tabulate (cell s) (action_count b) [] g
      go (yes h) (no g) =
          ap (λ l. get_or l a []) (get_or_tabulate row (state_count b) [] h)
          ∙ get_or-eq_default (row s) [] (rw (length_tabulate (cell s) (action_count b)) (omega arith))
          ∙ nothing (entries_past_actions b s a (omega arith))
      go (no h) g =
          ap (λ l. get_or l a []) (get_or-eq_default rows [] (rw (length_tabulate row (state_count b)) (omega arith)))
          ∙ nothing (entries_past_states b s a (omega arith))

  pub outcomes_few : Readable b → (s a : ℕ) → length (outcomes (model_of b) s a) ≤ 4
  unfolding outcomes
  outcomes_few r s a = go (deadlocked (model_of b) s && eqb a silent)
    where
      go : (t : Bool) → length (cond t (silent_step (model_of b) s ∷ []) (stored (model_of b) s a)) ≤ 4
      go true = omega arith
      go false = rw (stored_are s a, length_tabulate (outcome_of b s a) (entries b s a)) (entries_few r s a)
