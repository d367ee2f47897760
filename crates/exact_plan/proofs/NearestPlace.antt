-- The nearest number of those seen so far, with one number more: it wins, or the nearest stays.
use Prim.Native.Nat.{ℕ, ◌+◌, ◌<◌}
use native.Mathlib.Omega.{arith}
use native.Mathlib.Decide.{ℕ_discrete}
use mathlib.Core.Path.{◌≡◌, refl, sym, ap, ap₂, subst, ◌∙◌}
use mathlib.Core.Bool.{Bool, true, false, not, ◌&&◌, ◌||◌, false≢true}
use mathlib.Core.List.{List}
use lib.Dec.{T, eqb}
use lib.ListN.{get_or}
use borrow.Author.Tests.{eq-eqb, ne_eqb}
use Rattle.logic.specs.promises.Orders.{weights, order}
use Rattle.logic.proofs.Tests.{true→T, and_both}
use Rattle.logic.proofs.Best.{Ordered, Lt, le_lt}
use Rattle.logic.proofs.FirstBest.{ordered}
use Rattle.exact_plan.specs.declared.nearest.Near.{Near}
use Rattle.exact_plan.specs.promises.Sides.{on_side, wins, NearestIn}

module _ (l : List ℕ) (len : ℕ) (above : Bool) (x : ℕ) where
  -- Before any is seen.
  pub none_yet : {r : Near} → r.place ≡ len → NearestIn l 0 len above x r
  none_yet e =
      record {
        few = λ n. absurd (n e);
        its_total = λ n. absurd (n e);
        there = λ n. absurd (n e);
        nowhere = λ _ j h. absurd (omega arith);
        best = λ n. absurd (n e);
        first = λ n. absurd (n e);
      }

  module _ {i : ℕ} (inside : i < len) {r : Near} (so_far : NearestIn l i len above x r) {y : ℕ} (seen : y ≡ get_or l i 0) where
    -- The place of a number seen, before the last or the last.
    seen_at : {P : Type 0} {j : ℕ} → j < i + 1 → (j < i → P) → (j ≡ i → P) → P
    seen_at {P} {j} h f g = go (ℕ_discrete j i)
      where
        go : Dec (j ≡ i) → P
        go (yes e) = g e
        go (no n) = f (omega arith)

    last_is : {j : ℕ} → j ≡ i → get_or l j 0 ≡ y
    last_is e = ap (λ k. get_or l k 0) e ∙ sym seen

    -- What beats the nearest so far, if there is one, beats every number before it on that side.
    beats : (eqb r.place len || not (order above y r.total)) ≡ true → (j : ℕ) → j < i → on_side above x (get_or l j 0) ≡ true
        → Lt (weights (order above)) (get_or l j 0) y
    beats w j h t = go (ℕ_discrete r.place len)
      where
        go : Dec (r.place ≡ len) → Lt (weights (order above)) (get_or l j 0) y
        go (yes e) = absurd (false≢true (sym (so_far.nowhere e j h) ∙ t))
        go (no n) =
            le_lt (weights (order above)) (ordered above) (get_or l j 0) r.total y (so_far.best n j h t)
            (true→T (ap (λ u. u || not (order above y r.total)) (sym (ne_eqb r.place len n)) ∙ w))

    pub won : wins above x len r y ≡ true → NearestIn l (i + 1) len above x (record { place = i; total = y })
    unfolding wins
    won w =
        let O : Ordered (weights (order above)) = ordered above in
        let b = and_both (on_side above x y) _ w in
        record {
          few = λ _. omega arith;
          its_total = λ _. sym seen;
          there = λ _. b.0;
          nowhere = λ e. absurd (omega arith);
          best = λ _ j h t. seen_at h (λ k. O.lt_le (get_or l j 0) y (beats b.1 j k t)) (λ e. subst (λ z. T (order above z y)) (sym (last_is e)) (O.le_self y));
          first = λ _ j h t. beats b.1 j h t;
        }

    pub lost : wins above x len r y ≡ false → NearestIn l (i + 1) len above x r
    unfolding wins
    lost w =
        record {
          few = λ n. omega (arith, so_far.few n);
          its_total = so_far.its_total;
          there = so_far.there;
          nowhere = λ e j h. seen_at h (so_far.nowhere e j)
              (λ k. ap (on_side above x) (last_is k) ∙ off (on_side above x y) (ap (λ u. on_side above x y && (u || not (order above y r.total))) (sym (eq-eqb r.place len e)) ∙ w));
          best = λ n j h t. seen_at h (λ k. so_far.best n j k t)
              (λ k.
              subst (λ z. T (order above z r.total)) (sym (last_is k))
              (true→T (no_better (order above y r.total) (ap₂ (λ u v. u && (v || not (order above y r.total))) (sym (ap (on_side above x) (sym (last_is k)) ∙ t)) (sym (ne_eqb r.place len n)) ∙ w))));
          first = so_far.first;
        }
      where
        off : (t : Bool) → (t && (true || not (order above y r.total))) ≡ false → t ≡ false
        off true e = e
        off false e = refl

        no_better : (t : Bool) → (true && (false || not t)) ≡ false → t ≡ true
        no_better true e = refl
        no_better false e = sym e
