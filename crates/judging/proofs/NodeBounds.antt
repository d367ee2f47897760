-- A node that sets a bound on plans, operator 8 or 9: the bound is that of its formula, what a path is worth to it is a natural number when raised,
-- and its raised totals are small. All that is decided of such nodes follows from these.
use Prim.Native.Nat.{ℕ, suc, ◌+◌, ◌*◌, ◌-◌, ◌/◌, ◌%◌, ◌^◌, ◌≤◌, ◌<◌}
use native.Mathlib.Omega.{arith}
use native.Mathlib.Nat.{le_trans}
use mathlib.Core.Path.{◌≡◌, refl, sym, ap, subst, ◌∙◌}
use mathlib.Core.Logic.{⊎_elim}
use mathlib.Core.Bool.{Bool}
use mathlib.Core.List.{List, [], ◌∷◌, Memᴰ}
use lib.IntN.{ℤ, pos}
use lib.ListN.{length}
use Rattle.logic.specs.Model.{Model, Step}
use Rattle.logic.specs.Quantity.{naturals, sum}
use Rattle.logic.specs.Bound.{total, one_if, gain_between}
use Rattle.logic.specs.Plan.{Plan, plans, paths}
use Rattle.logic.specs.Formula.{Formula, plan, earns, Node, sat, depth, relation, nonnegative}
use Rattle.logic.specs.promises.Orders.{weights, order}
use Rattle.logic.specs.promises.Total.{value_of}
use Rattle.logic.specs.promises.Raised.{raised}
use Rattle.logic.specs.promises.Recursion.{greatest, best_plan}
use Rattle.logic.proofs.FirstBest.{ordered, additive}
use Rattle.logic.proofs.Best.{best_member}
use Rattle.logic.proofs.Members.{in_map}
use Rattle.logic.proofs.Recursion.{best_plan_first, best_plan_total}
use Rattle.logic.proofs.Search.{Raises}
use Rattle.logic.proofs.Shown.{Sets, sets_plan, sets_gain}
use Rattle.logic.proofs.WholeTotals.{raises_condition, raises_gain, AllModest}
use Rattle.blocks.specs.Bytes.{Bytes}
use Rattle.models.specs.Layout.{state_count, action_count, prop_count, denominator_of}
use Rattle.prepared_model.specs.promises.Rows.{model_in}
use Rattle.prepared_model.proofs.ReadByPlace.{states_are, denominator_is, modest_rewards}
use Rattle.questions.specs.Layout.{node_of}
use Rattle.questions.specs.promises.Formed.{PlanRange, EarnsRange}
use Rattle.questions.proofs.AcceptedFacts as questions
use Rattle.questions.proofs.SetsBound.{sets_which}
use Rattle.prepared_question.specs.promises.Nodes.{formula}
use Rattle.evaluation.proofs.LearntInOrder.{one_if_small}
use Rattle.evaluation.proofs.PathWorth.{raised_most}
use Rattle.bounds.specs.promises.Bounded.{Bounded, span_before, span_last, lift_of, most_of}
use Rattle.bounds.proofs.ProductsFit.{lift_8, lift_9, most_8, most_9}
use Rattle.exact_plan.specs.promises.Totals.{totals}
use Rattle.exact_plan.proofs.TotalsBounded.{up_totals}
use Rattle.judging.specs.promises.Decided.{condition, worth_at, raised_at, bound_as}

-- Totals are the same under any order.
sum_any : {A : Type 0} (le : ℕ → ℕ → Bool) (f : A → ℕ) (l : List A) → sum (weights le) f l ≡ sum naturals f l
unfolding sum
sum_any le f [] = refl
sum_any le f (x ∷ l) = ap (λ z. f x + z) (sum_any le f l)

total_any : (le : ℕ → ℕ → Bool) (M : Model) (n s : ℕ) (π : Plan n) (f : List Step → ℕ) → total (weights le) M n s π f ≡ total naturals M n s π f
unfolding total
total_any le M n s π f = sum_any le _ (paths M n s π)

-- A raised gain of at most six steps.
raised_small : (a u : ℕ) (r : List Step) → AllModest r → u ≤ 6 → raised a u r ≤ 12000
unfolding raised
raised_small a u r h l = omega (arith, raised_most a u r h)

-- The "plan" node j.
pub record Planned (q : Bytes) (j : ℕ) : Type 0 where
  pub here : formula q j ≡ plan (node_of q j).n (condition q j) (relation (node_of q j).right) (nonnegative (node_of q j).p) (node_of q j).q
  pub deep : depth (condition q j) ≤ (node_of q j).n
  pub few : (node_of q j).n ≤ 6
  pub range : PlanRange j (node_of q j)

-- The node j of operator 9.
pub record Earned (q : Bytes) (j : ℕ) : Type 0 where
  pub here : formula q j
      ≡ earns (node_of q j).n ((node_of q j).left % 8) ((node_of q j).left / 8) (relation (node_of q j).right) (node_of q j).p (node_of q j).q
  pub range : EarnsRange (node_of q j)

module _ {m q : Bytes} {j : ℕ} (b : Bounded m q j) where
  abbrev M : Model
  M = model_in m

  abbrev x : Node
  x = node_of q j

  pub planned : x.operator ≡ 8 → Planned q j
  planned o =
      let asks = b.nodes.formed in
      let r = (asks.in_range j b.node).of_plan o in
      record {
        here = questions.at_plan (state_count m) (action_count m) (prop_count m) q asks j b.node o;
        deep = questions.plan_depth (state_count m) (action_count m) (prop_count m) q asks j b.node o;
        few = r.compares.few_steps;
        range = r;
      }

  pub earned : x.operator ≡ 9 → Earned q j
  earned o =
      let asks = b.nodes.formed in
      record { here = questions.at_earns (state_count m) (action_count m) (prop_count m) q asks j b.node o; range = (asks.in_range j b.node).of_earns o }

  -- The two kinds.
  pub either : {P : Type 0} → (x.operator ≡ 8 → P) → (x.operator ≡ 9 → P) → P
  either f g = ⊎_elim f g (sets_which x.operator b.sets)

  module _ (s : ℕ) where
    worth_8 : x.operator ≡ 8 → worth_at m q j s ≡ λ ρ. pos (one_if (sat M (condition q j) s ρ))
    unfolding worth_at
    worth_8 o = rw o refl

    worth_9 : x.operator ≡ 9 → worth_at m q j s ≡ gain_between (x.left % 8) (x.left / 8)
    unfolding worth_at
    worth_9 o = rw o refl

    pub raised_8 : x.operator ≡ 8 → raised_at m q j s ≡ value_of M (condition q j) s
    unfolding raised_at
    raised_8 o = rw o refl

    pub raised_9 : x.operator ≡ 9 → raised_at m q j s ≡ raised (span_before q j) (span_last q j)
    unfolding raised_at
    raised_9 o = rw o refl

    -- The formula sets the bound.
    pub sets_at : Sets M s (formula q j) (bound_as (relation x.right) m q j s)
    sets_at = either by_8 by_9
      where
        by_8 : x.operator ≡ 8 → Sets M s (formula q j) (bound_as (relation x.right) m q j s)
        by_8 o =
            let P = planned o in
            let φ : Formula = plan x.n (condition q j) (relation x.right) (nonnegative x.p) x.q in
            subst (λ φ. Sets M s φ (bound_as (relation x.right) m q j s)) (sym P.here)
            (subst (λ (w : List Step → ℤ). Sets M s φ (record { steps = x.n; worth = w; relation = relation x.right; p = x.p; q = x.q })) (sym (worth_8 o))
            (subst (λ (p : ℤ). Sets M s φ (record { steps = x.n; worth = λ ρ. pos (one_if (sat M (condition q j) s ρ)); relation = relation x.right; p = p; q = x.q })) (sym P.range.whole)
            (sets_plan M s x.n (condition q j) (relation x.right) (nonnegative x.p) x.q)))

        by_9 : x.operator ≡ 9 → Sets M s (formula q j) (bound_as (relation x.right) m q j s)
        by_9 o =
            let φ : Formula = earns x.n (x.left % 8) (x.left / 8) (relation x.right) x.p x.q in
            subst (λ φ. Sets M s φ (bound_as (relation x.right) m q j s)) (sym (earned o).here)
            (subst (λ (w : List Step → ℤ). Sets M s φ (record { steps = x.n; worth = w; relation = relation x.right; p = x.p; q = x.q })) (sym (worth_9 o))
            (sets_gain M s x.n (x.left % 8) (x.left / 8) (relation x.right) x.p x.q))

    module _ (h : s < state_count m) where
      pub inside : s < length M.states
      inside = rw (states_are m) h

      -- Raised by the lift, the worth is a natural number.
      pub raises_at : Raises M s x.n (worth_at m q j s) (raised_at m q j s) (lift_of m q j)
      raises_at = either by_8 by_9
        where
          by_8 : x.operator ≡ 8 → Raises M s x.n (worth_at m q j s) (raised_at m q j s) (lift_of m q j)
          by_8 o = rw (worth_8 o, raised_8 o, lift_8 m q j b o) (raises_condition M b.prepared.accepted x.n s inside (condition q j))

          by_9 : x.operator ≡ 9 → Raises M s x.n (worth_at m q j s) (raised_at m q j s) (lift_of m q j)
          by_9 o =
              let r = (earned o).range in
              let e : suc (span_before q j) ≡ x.left % 8 = omega (arith, r.from_one) in
              rw (worth_9 o, raised_9 o, lift_9 m q j b o)
              (subst (λ l. Raises M s x.n (gain_between l (span_last q j)) (raised (span_before q j) (span_last q j)) (1000 * (span_last q j - span_before q j) * denominator_of m ^ x.n)) e
              (subst (λ d. Raises M s x.n (gain_between (suc (span_before q j)) (span_last q j)) (raised (span_before q j) (span_last q j)) (1000 * (span_last q j - span_before q j) * d ^ x.n)) (denominator_is m)
              (raises_gain M b.prepared.accepted (modest_rewards b.prepared) x.n s (span_before q j) (span_last q j) inside r.within)))

      -- The raised total of every plan is at most this.
      pub total_most : (π : Plan x.n) → Memᴰ π (plans M x.n s) → total naturals M x.n s π (raised_at m q j s) ≤ most_of m q j
      unfolding totals
      total_most π i = either by_8 by_9
        where
          up : (f : List Step → ℕ) (c : ℕ) → ((r : List Step) → AllModest r → f r ≤ c) → total naturals M x.n s π f ≤ c * denominator_of m ^ x.n
          up f c g =
              subst (λ d. total naturals M x.n s π f ≤ c * d ^ x.n) (denominator_is m)
              (up_totals M b.prepared.accepted (modest_rewards b.prepared) x.n s inside f c g _ (in_map (λ π. total naturals M x.n s π f) i))

          by_8 : x.operator ≡ 8 → total naturals M x.n s π (raised_at m q j s) ≤ most_of m q j
          by_8 o = rw (raised_8 o, most_8 m q j b o) (le_trans (up (value_of M (condition q j) s) 1 (λ r g. one_if_small _)) (omega arith))

          by_9 : x.operator ≡ 9 → total naturals M x.n s π (raised_at m q j s) ≤ most_of m q j
          by_9 o =
              let z = (earned o).range in
              rw (raised_9 o, most_9 m q j b o)
              (up (raised (span_before q j) (span_last q j)) 12000 (λ r g. raised_small (span_before q j) (span_last q j) r g (omega (arith, z.within, z.compares.few_steps))))

      -- So is the best.
      pub best_most : (least : Bool) → greatest (weights (order least)) M x.n s (raised_at m q j s) ≤ most_of m q j
      best_most least =
          let Q = weights (order least) in
          let f = raised_at m q j s in
          let best = best_plan_first Q (additive (order least)) (ordered least) M b.prepared.accepted x.n s f inside in
          let π = best_plan Q M x.n s f in
          let e : total naturals M x.n s π f ≡ greatest Q M x.n s f = sym (total_any (order least) M x.n s π f) ∙ best_plan_total Q (additive (order least)) M x.n s f in
          subst (λ z. z ≤ most_of m q j) e (total_most π (best_member Q (ordered least) (λ p. total Q M x.n s p f) best))
