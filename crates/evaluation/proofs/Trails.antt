-- Trails: a prefix of a trail is the trail of a prefix of its steps, and a path goes on from the state where its first part ends.
use Prim.Native.Nat.{ℕ, zero, suc, ◌*◌, ◌/◌, ◌%◌, ◌≤◌, ◌<◌}
use native.Mathlib.Omega.{arith}
use native.Mathlib.Nat.{le_of_suc-le-suc}
use mathlib.Core.Path.{◌≡◌, refl, ap}
use mathlib.Core.List.{List, [], ◌∷◌, ◌++◌}
use lib.ListN.{length, get_or, take, drop}
use lib.Signed.{mag}
use Rattle.logic.specs.Quantity.{sum}
use Rattle.models.specs.Layout.{state_count}
use Rattle.prepared_model.specs.promises.Rows.{step_in, Prepared}
use Rattle.evaluation.specs.promises.Path.{step_of, steps_of, state_after, Takes, Trail, stop, move, gain_of}
use Rattle.evaluation.proofs.Integers.{mag_add}

module _ (m : List ℕ) where
  pub steps_length : (s : ℕ) (t : List ℕ) → length (steps_of m s t) ≡ length t
  unfolding steps_of
  steps_length s [] = refl
  steps_length s (b ∷ t) = ap suc (steps_length (step_of m s b).target t)

  pub steps_append : (s : ℕ) (t r : List ℕ) → steps_of m s (t ++ r) ≡ steps_of m s t ++ steps_of m (state_after m s t) r
  unfolding steps_of state_after
  steps_append s [] r = refl
  steps_append s (b ∷ t) r = ap (λ l. step_of m s b ∷ l) (steps_append (step_of m s b).target t r)

  pub state_append : (s : ℕ) (t r : List ℕ) → state_after m s (t ++ r) ≡ state_after m (state_after m s t) r
  unfolding state_after
  state_append s [] r = refl
  state_append s (b ∷ t) r = state_append (step_of m s b).target t r

  -- The steps from a place on are those of the rest of the trail, from the state there.
  pub steps_drop : (s k : ℕ) (t : List ℕ) → drop k (steps_of m s t) ≡ steps_of m (state_after m s (take k t)) (drop k t)
  unfolding steps_of state_after
  steps_drop s zero t = refl
  steps_drop s (suc k) [] = refl
  steps_drop s (suc k) (b ∷ t) = steps_drop (step_of m s b).target k t

  -- One place on.
  pub state_next : (s k : ℕ) (t : List ℕ) → k < length t → state_after m s (take (suc k) t) ≡ (step_of m (state_after m s (take k t)) (get_or t k 0)).target
  unfolding state_after
  state_next s zero (b ∷ t) h = refl
  state_next s zero [] h = absurd (omega arith)
  state_next s (suc k) [] h = absurd (omega arith)
  state_next s (suc k) (b ∷ t) h = state_next (step_of m s b).target k t (le_of_suc-le-suc h)

  pub takes_at : {s : ℕ} {t : List ℕ} → Trail m s t → (k : ℕ) → k < length t → Takes m (state_after m s (take k t)) (get_or t k 0)
  unfolding state_after
  takes_at stop k h = absurd (omega arith)
  takes_at (move u r) zero h = u
  takes_at (move u r) (suc k) h = takes_at r k (le_of_suc-le-suc h)

  pub trail_longer : {s : ℕ} {t : List ℕ} → Trail m s t → (b : ℕ) → Takes m (state_after m s t) b → Trail m s (t ++ (b ∷ []))
  unfolding state_after
  trail_longer stop b u = move u stop
  trail_longer (move v r) b u = move v (trail_longer r b u)

  pub trail_shorter : (s : ℕ) (t r : List ℕ) → Trail m s (t ++ r) → Trail m s t
  trail_shorter s [] r w = stop
  trail_shorter s (b ∷ t) r (move u w) = move u (trail_shorter (step_of m s b).target t r w)

module _ {m : List ℕ} (w : Prepared m) where
  pub state_inside : {s : ℕ} {t : List ℕ} → Trail m s t → s < state_count m → state_after m s t < state_count m
  unfolding state_after step_of
  state_inside stop h = h
  state_inside (move {s} {b} u r) h = state_inside r (w.inside s (b % 32 / 4) (b % 4) h u.offers)

  pub gain_small : {s : ℕ} {t : List ℕ} → Trail m s t → s < state_count m → (k : ℕ) → mag (gain_of (take k (steps_of m s t))) ≤ k * 1001
  unfolding steps_of sum step_of
  gain_small stop h zero = omega arith
  gain_small stop h (suc k) = omega arith
  gain_small (move u r) h zero = omega arith
  gain_small (move {s} {b} {t} u r) h (suc k) =
      let o = step_in m s (b % 32 / 4) (b % 4) in
      let g = gain_small r (w.inside s (b % 32 / 4) (b % 4) h u.offers) k in
      omega (arith, mag_add o.reward (gain_of (take k (steps_of m o.target t))), w.modest s (b % 32 / 4) (b % 4) h u.offers)
