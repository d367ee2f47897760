-- The choices of an extended plan, written while those of the shorter plan are read; beyond it they are given by a table. That they are those of
-- `extended`, or of the table's plan, is proved (`ExtendedChoices`).
use Rattle.std.specs.Prelude.{ℕ, zero, suc, ◌+◌, ◌*◌, ◌-◌, ◌≤◌, ◌<◌, min, ◌≡◌, List, [], ◌∷◌, ◌++◌, get_or, drop, length}
use Rattle.logic.specs.Model.{Model, outcomes}
use Rattle.models.specs.Layout.{state_count}
use Rattle.prepared_model.specs.promises.Rows.{choices_in, choice_in}
use Rattle.blocks.specs.Splice.{splice}

-- What is written, and what is left to read.
abbrev pub Run : Type 0
Run = List ℕ × List ℕ

-- One run for each element, one after the other.
unfoldable pub each : {A : Type 0} → (A → List ℕ → Run) → List A → List ℕ → Run
each f [] cs = ([], cs)
each f (x ∷ xs) cs = ((f x cs).0 ++ (each f xs (f x cs).1).0, (each f xs (f x cs).1).1)

-- The choice at a history: read while the given plan has steps, then a.
unfoldable pub choice_at : ℕ → ℕ → List ℕ → ℕ
choice_at a zero cs = a
choice_at a (suc d) cs = get_or cs 0 0

-- A choice before the runs below it.
unfoldable pub after_choice : ℕ → Run → Run
after_choice a y = (a ∷ y.0, y.1)

-- n steps from s, of which d are read; τ has the other choices, by the steps left and the state.
unfoldable pub extend : Model → (τ : ℕ → ℕ → ℕ) (d n s : ℕ) → List ℕ → Run
extend m τ d zero s cs = ([], cs)
extend m τ d (suc n) s cs =
    let a : ℕ = choice_at (τ (suc n) s) d cs in
    after_choice a (each (λ o. extend m τ (d - 1) n o.target) (outcomes m s a) (drop (min 1 d) cs))

-- Choices by a table of their places, 32 states for each number of steps left.
abbrev pub by_place : (m places : List ℕ) (k s : ℕ) → ℕ
by_place m places k s = choice_in m s (get_or places (32 * k + s) 0)

-- The table has a place for each of the n steps left and every state.
pub record Placed (m places : List ℕ) (n : ℕ) : Type 0 where
  pub few : n ≤ 6
  pub inside : (k s : ℕ) → k < n → s < state_count m → get_or places (32 * suc k + s) 0 < choices_in m s

-- ---- in a buffer

-- The run x was read from `src` at `from` and written to `dst` at `at`; neither place moved by more than `most`.
pub record Ran (x : Run) (most : ℕ) (src : List ℕ) (from from' : ℕ) (dst dst' : List ℕ) (at at' : ℕ) : Type 0 where
  pub wrote : dst' ≡ splice dst at x.0
  pub next : at' ≡ at + length x.0
  pub left : drop from' src ≡ x.1
  pub near : from' ≤ from + most
  pub size : length x.0 ≤ most
