-- A word made lane by lane, from the highest down.
use Prim.Native.Nat.{ℕ, zero, suc, ◌+◌, ◌*◌, ◌-◌, ◌/◌, ◌%◌, ◌^◌, ◌≤◌, ◌<◌}
use native.Mathlib.Omega.{arith}
use native.Mathlib.Nat.{pow-suc}
use mathlib.Core.Path.{◌≡◌, ap, ap₂, ◌∙◌}
use mathlib.Core.Bool.{Bool}
use mathlib.Core.List.{List}
use Rattle.logic.specs.Bound.{one_if}
use Rattle.models.specs.Layout.{state_count}
use Rattle.prepared_model.specs.promises.Rows.{choices_in, lane, Prepared}
use Rattle.prepared_model.proofs.BitSums.{lane_zero, lane_suc}
use Rattle.evaluation.proofs.LearntInOrder.{one_if_small}
use Rattle.last_step.specs.promises.Lanes.{Laned}

-- Of the lanes below n, those from i up are made.
pub record Built (f : ℕ → Bool) (n i x : ℕ) : Type 0 where
  pub right : (l : ℕ) → i + l < n → lane x l ≡ one_if (f (i + l))

module _ {n i x : ℕ} (p : 0 < i) (h : i ≤ n) (b : x < 2 ^ (n - i)) where
  pub room_more : {y : ℕ} (t : Bool) → y ≡ 2 * x + one_if t → y < 2 ^ (n - (i - 1))
  room_more {y} t e =
      let k : n - (i - 1) ≡ suc (n - i) = omega arith in
      let w = ap (λ z. 2 ^ z) k ∙ pow-suc 2 (n - i) in
      omega (arith, one_if_small t, b)

module _ (f : ℕ → Bool) (n : ℕ) where
  module _ {i x : ℕ} (p : 0 < i) (h : i ≤ n) (b : Built f n i x) where
    pub built_more : {y : ℕ} {t : Bool} → y ≡ 2 * x + one_if t → t ≡ f (i - 1) → Built f n (i - 1) y
    built_more {y} {t} e g = record { right = at }
      where
        small : one_if t < 2
        small = omega (arith, one_if_small t)

        at : (l : ℕ) → i - 1 + l < n → lane y l ≡ one_if (f (i - 1 + l))
        at zero q =
            let z : i - 1 ≡ i - 1 + 0 = omega arith in
            let w : y % 2 ≡ one_if t = omega (arith, small) in
            lane_zero y ∙ w ∙ ap one_if (g ∙ ap f z)
        at (suc l) q =
            let w : y / 2 ≡ x = omega (arith, small) in
            let z : i + l ≡ i - 1 + suc l = omega arith in
            lane_suc y l ∙ ap (λ k. lane k l) w ∙ b.right l (omega arith) ∙ ap (λ k. one_if (f k)) z

module _ {m : List ℕ} (w : Prepared m) (s : ℕ) (h : s < state_count m) where
  -- A word with all its lanes made has the outcomes' values.
  pub laned : (v : ℕ → ℕ → Bool) (x : ℕ) → ((k : ℕ) → k < 4 * choices_in m s → lane x k ≡ one_if (v (k / 4) (k % 4))) → Laned m s (λ i o. one_if (v i o)) x
  laned v x b = record {
    right = λ i o f.
        let l : o < 4 = omega (arith, f.1, w.few_outcomes s i h f.0) in
        let p : (4 * i + o) / 4 ≡ i = omega arith in
        let q : (4 * i + o) % 4 ≡ o = omega arith in
        b (4 * i + o) (omega (arith, f.0)) ∙ ap one_if (ap₂ v p q);
  }
