-- "equal": the raised totals nearest to the bound are those of the plans that are reached on either side. The least raised total that is not below the
-- bound is at it, and then its first place is that of the shown plan, or no plan meets the bound, and then it is the nearest above.
use Prim.Native.Nat.{ℕ, ◌+◌, ◌^◌, ◌≤◌, ◌<◌}
use native.Mathlib.Omega.{arith}
use native.Mathlib.Decide.{ℕ_discrete}
use mathlib.Core.Path.{◌≡◌, refl, sym, ap, ap₂, subst, ◌∙◌}
use mathlib.Core.Bool.{Bool, true, false, not, cond, ◌&&◌, false≢true}
use mathlib.Core.List.{[], Memᴰ}
use mathlib.Core.Option.{Option, none, some}
use lib.Dec.{T, eqb, leb, ltb}
use lib.IntN.{ℤ, sub_ℕ}
use lib.ListN.{get_or, length}
use borrow.Author.Tests.{eq-eqb, ne_eqb, eqb-true, leb-true, le-leb}
use Rattle.logic.specs.Model.{Model}
use Rattle.logic.specs.Quantity.{integers, naturals, less, equal, greater}
use Rattle.logic.specs.Plan.{Plan, plans, choices}
use Rattle.logic.specs.Bound.{Bound, Lamp, below, at, above, total, meets, lamp, total_of}
use Rattle.logic.specs.Formula.{relation}
use Rattle.logic.specs.Limits.{plan_total}
use Rattle.logic.specs.Verdict.{verdict}
use Rattle.logic.specs.Reason.{Reached, nearest, foremost, standing, reason_for, reason}
use Rattle.logic.specs.promises.Orders.{order}
use Rattle.logic.specs.promises.Lamps.{met_by_lamp}
use Rattle.logic.specs.promises.Extension.{first_plan}
use Rattle.logic.proofs.Tests.{T→true, and_both, member_place}
use Rattle.logic.proofs.Naturals.{ltb_leb}
use Rattle.logic.proofs.Integers.{integers_ordered}
use Rattle.logic.proofs.Lowered.{lowered_order}
use Rattle.logic.proofs.Lamps.{meets_by_lamp}
use Rattle.logic.proofs.Dictionary.{plan_count}
use Rattle.logic.proofs.Search.{extreme}
use Rattle.logic.proofs.Best.{Best}
use Rattle.logic.proofs.Reasons.{kept_none, kept_best, order_of, ordering, foremost_best, foremost_empty}
use Rattle.blocks.specs.Bytes.{Bytes}
use Rattle.models.specs.Layout.{state_count, denominator_of}
use Rattle.prepared_model.specs.promises.Rows.{model_in}
use Rattle.prepared_model.proofs.ReadByPlace.{denominator_is}
use Rattle.questions.specs.Layout.{node_of}
use Rattle.prepared_question.specs.promises.Nodes.{formula}
use Rattle.bounds.specs.promises.Bounded.{Bounded, lift_of, lowered, most_of, meets_as, lamp_at, Exactly}
use Rattle.bounds.specs.declared.Exact.{Exact}
use Rattle.exact_plan.specs.promises.Totals.{totals}
use Rattle.exact_plan.specs.promises.Sides.{on_side, NearestIn, Around}
use Rattle.exact_plan.specs.declared.nearest.Near.{Near}
use Rattle.exact_plan.specs.declared.nearest.Neighbours.{Neighbours}
use Rattle.judging.specs.promises.Decided.{raised_at, bound_as, plan_at, First}
use Rattle.judging.proofs.NodeBounds.{raises_at, total_most}
use Rattle.judging.proofs.SearchDecides.{shows, denies, totals_count, listed, total_at, first_led, never_led, equal_yes, equal_no}
use Rattle.reasons.specs.promises.Told.{raised_totals, near_reached, Placed, at_bound}
use Rattle.reasons.proofs.LedReason.{reason_at}

-- ---- orders and lamps

lowered_as : (least : Bool) (a b c : ℕ) → order_of least (sub_ℕ a c) (sub_ℕ b c) ≡ order least a b
lowered_as true a b c = lowered_order b a c
lowered_as false a b c = lowered_order a b c

-- What is not at the bound is above it where it is not below it.
above_by_lamp : (l : Lamp) → met_by_lamp equal l ≡ false → met_by_lamp greater l ≡ not (met_by_lamp less l)
unfolding met_by_lamp
above_by_lamp below e = refl
above_by_lamp at e = absurd (false≢true (sym e))
above_by_lamp above e = refl

not_below : (m : Model) (n : ℕ) (p : ℤ) (q : ℕ) (w : ℤ) → meets integers m n equal p q w ≡ false → meets integers m n greater p q w ≡ not (meets integers m n less p q w)
not_below m n p q w e =
    let by = meets_by_lamp integers m n p q w integers_ordered in
    by greater ∙ above_by_lamp (lamp integers m n p q w) (sym (by equal) ∙ e) ∙ ap not (sym (by less))

not_less : (x y : ℕ) → not (ltb y x) ≡ leb x y
not_less x y = ap not (ltb_leb y x) ∙ twice (leb x y)
  where
    twice : (t : Bool) → not (not t) ≡ t
    twice true = refl
    twice false = refl

module _ {m q : Bytes} {j : ℕ} (b : Bounded m q j) (s : ℕ) (h : s < state_count m) where
  abbrev M : Model
  M = model_in m

  abbrev n : ℕ
  n = (node_of q j).n

  abbrev B : Bound
  B = bound_as equal m q j s

  abbrev all : ℕ
  all = plan_total M n s

  abbrev lifted : Plan n → ℕ
  lifted π = total naturals M n s π (raised_at m q j s)

  lowers : (π : Plan n) → Memᴰ π (plans M n s) → total_of M s B π ≡ lowered m q j (lifted π)
  lowers π i = (raises_at b s h).lowered π i

  -- A plan of the list has a place, and there its raised total.
  at_place : (P : Plan n → Type 0) → ((i : ℕ) → i < all → P (plan_at M n s i)) → (π : Plan n) → Memᴰ π (plans M n s) → P π
  at_place P f π i =
      let w = member_place i (first_plan M n s) in
      subst P w.2 (f w.0 (subst (λ k. w.0 < k) (plan_count M n s) w.1))

  value_at : (i : ℕ) → i < all → lifted (plan_at M n s i) ≡ get_or (raised_totals m q j s) i 0
  unfolding totals
  value_at i l = total_at b s h i l

  -- What is nearest has a place in the list, and a small total, unless there is none.
  placed_there : {up : Bool} {x : ℕ} {r : Near} → NearestIn (raised_totals m q j s) all all up x r → Placed m q j s all r
  placed_there {r = r} N =
      record {
        inside = λ g. N.few g;
        small = λ g. subst (λ w. w ≤ most_of m q j) (value_at r.place (N.few g) ∙ N.its_total g) (total_most b s h _ (listed b s h r.place (N.few g)));
      }

  -- ---- one side

  module _ (up : Bool) {x : ℕ}
      (test : (π : Plan n) → Memᴰ π (plans M n s) → meets integers M n (extreme (not up)) B.p B.q (total_of M s B π) ≡ on_side up x (lifted π))
      {r : Near} (N : NearestIn (raised_totals m q j s) all all up x r) where
    side : Plan n → Bool
    side π = meets integers M n (extreme (not up)) B.p B.q (total_of M s B π)

    -- The test at a place of the list.
    tested : (i : ℕ) → i < all → side (plan_at M n s i) ≡ on_side up x (get_or (raised_totals m q j s) i 0)
    unfolding side
    tested i l = test (plan_at M n s i) (listed b s h i l) ∙ ap (on_side up x) (value_at i l)

    -- The order of the totals is that of the raised ones.
    ordered_at : (i k : ℕ) → i < all → k < all
        → order_of up (total_of M s B (plan_at M n s i)) (total_of M s B (plan_at M n s k)) ≡ order up (get_or (raised_totals m q j s) i 0) (get_or (raised_totals m q j s) k 0)
    ordered_at i k l g =
        ap₂ (order_of up) (lowers _ (listed b s h i l)) (lowers _ (listed b s h k g))
        ∙ lowered_as up (lifted (plan_at M n s i)) (lifted (plan_at M n s k)) (lift_of m q j)
        ∙ ap₂ (order up) (value_at i l) (value_at k g)

    nothing_there : r.place ≡ all → standing M s B (extreme (not up)) ≡ []
    unfolding standing side
    nothing_there e = kept_none side (plans M n s) (at_place (λ π. side π ≡ false) (λ i l. tested i l ∙ N.nowhere e i l))

    module _ (some_place : r.place ≡ all → ⊥) where
      in_list : r.place < all
      in_list = N.few some_place

      best_there : Best (ordering (order_of up)) (total_of M s B) (standing M s B (extreme (not up))) (plan_at M n s r.place)
      unfolding standing side
      best_there =
          let v = N.its_total some_place in
          kept_best side (ordering (order_of up)) (total_of M s B) (first_plan M n s) (plans M n s) r.place (subst (λ k. r.place < k) (sym (plan_count M n s)) in_list)
          (tested r.place in_list ∙ ap (on_side up x) v ∙ N.there some_place)
          (at_place (λ π. side π ≡ true → T (order_of up (total_of M s B π) (total_of M s B (plan_at M n s r.place))))
          (λ i l t. subst T (ap (order up (get_or (raised_totals m q j s) i 0)) (sym v) ∙ sym (ordered_at i r.place l in_list)) (N.best some_place i l (sym (tested i l) ∙ t))))
          (λ i l t.
          let k : i < all = omega (arith, in_list) in
          subst (λ u. T (not u)) (ap (λ w. order up w (get_or (raised_totals m q j s) i 0)) (sym v) ∙ sym (ordered_at r.place i in_list k)) (N.first some_place i l (sym (tested i k) ∙ t)))

      weighs_there : total_of M s B (plan_at M n s r.place) ≡ lowered m q j r.total
      weighs_there = lowers _ (listed b s h r.place in_list) ∙ ap (lowered m q j) (value_at r.place in_list ∙ N.its_total some_place)

    -- What is reached on this side.
    side_reached : foremost M s B (extreme up) (standing M s B (extreme (not up))) ≡ near_reached m q j s all r
    unfolding near_reached
    side_reached = go (ℕ_discrete r.place all)
      where
        there : Option Reached
        there = some (record { total = lowered m q j r.total; whole = denominator_of m ^ n; choices = choices n (plan_at M n s r.place) })

        go : Dec (r.place ≡ all) → foremost M s B (extreme up) (standing M s B (extreme (not up))) ≡ cond (eqb r.place all) none there
        go (yes e) = foremost_empty M s B (extreme up) (nothing_there e) ∙ ap (λ u. cond u none there) (sym (eq-eqb r.place all e))
        go (no g) =
            foremost_best M s B up (standing M s B (extreme (not up))) (best_there g)
            ∙ ap₂ (λ (w : ℤ) (D : ℕ). some (record { total = w; whole = D ^ n; choices = choices n (plan_at M n s r.place) })) (weighs_there g) (denominator_is m)
            ∙ ap (λ u. cond u none there) (sym (ne_eqb r.place all g))

  -- ---- both sides

  module _ {x : Exact} (exact : Exactly m q j x.whole x.total) {r : Neighbours} (A : Around (raised_totals m q j s) x.total r) where
    size : length (raised_totals m q j s) ≡ all
    unfolding totals
    size = totals_count b s h

    lower : NearestIn (raised_totals m q j s) all all false x.total r.below
    lower = subst (λ k. NearestIn (raised_totals m q j s) k k false x.total r.below) size A.lower

    upper : NearestIn (raised_totals m q j s) all all true x.total r.above
    upper = subst (λ k. NearestIn (raised_totals m q j s) k k true x.total r.above) size A.upper

    pub both_placed : Placed m q j s all r.below × Placed m q j s all r.above
    both_placed = (placed_there lower, placed_there upper)

    lower_test : (π : Plan n) → Memᴰ π (plans M n s) → meets integers M n less B.p B.q (total_of M s B π) ≡ on_side false x.total (lifted π)
    unfolding on_side
    lower_test π i = ap (meets integers M n less B.p B.q) (lowers π i) ∙ exact.below (lifted π)

    -- Where the least total that is not below the bound is at it.
    module _ (t : at_bound x r.above all ≡ true) where
      abbrev place : ℕ
      place = r.above.place

      met_parts : (x.whole ≡ true) × ((place ≡ all → ⊥) × (r.above.total ≡ x.total))
      unfolding at_bound
      met_parts =
          let u = and_both x.whole _ t in
          let v = and_both (not (eqb place all)) _ u.1 in
          (u.0, (λ e. false≢true (sym (ap not (eq-eqb place all e)) ∙ v.0), eqb-true _ _ v.1))

      pub met_placed : (place < all) × (r.above.total ≤ most_of m q j)
      met_placed = let p = both_placed.1 in (p.inside met_parts.1.0, p.small met_parts.1.0)

      there : First m q j s x.total place
      unfolding on_side totals
      there =
          let v = met_parts.1.1 in
          first_led b s h x.total (exact.one met_parts.0) place
          (λ i l e.
          subst (λ u. T (not u)) (ap₂ leb e v ∙ le-leb x.total x.total (omega arith)) (upper.first met_parts.1.0 i l (ap (leb x.total) e ∙ le-leb x.total x.total (omega arith))))
          (λ l. upper.its_total met_parts.1.0 ∙ v)

      pub met_verdict : (node_of q j).right ≡ 2
          → verdict M s (formula q j) ≡ shows (lowered m q j r.above.total) (lamp_at m q j (lowered m q j r.above.total)) n (1 + place) (choices n (plan_at M n s place))
      met_verdict e =
          equal_yes b s h e there met_placed.0
          ∙ ap (λ w. shows (lowered m q j w) (lamp_at m q j (lowered m q j w)) n (1 + place) (choices n (plan_at M n s place))) (sym met_parts.1.1)

    -- Where it is not, no total is.
    module _ (t : at_bound x r.above all ≡ false) where
      other_total : x.whole ≡ true → (i : ℕ) → i < all → get_or (raised_totals m q j s) i 0 ≡ x.total → ⊥
      unfolding on_side at_bound
      other_total e i l same = go (ℕ_discrete r.above.place all)
        where
          reached_it : leb x.total (get_or (raised_totals m q j s) i 0) ≡ true
          reached_it = ap (leb x.total) same ∙ le-leb x.total x.total (omega arith)

          go : Dec (r.above.place ≡ all) → ⊥
          go (yes g) = false≢true (sym (upper.nowhere g i l) ∙ reached_it)
          go (no g) =
              let lo = leb-true x.total r.above.total (upper.there g) in
              let hi = leb-true r.above.total (get_or (raised_totals m q j s) i 0) (T→true _ (upper.best g i l reached_it)) in
              let z : r.above.total ≡ x.total = omega (arith, lo, hi, same) in
              false≢true (sym t ∙ ap₂ ◌&&◌ e (ap₂ (λ u v. not u && v) (ne_eqb r.above.place all g) (eq-eqb r.above.total x.total z)))

      unequal : (π : Plan n) → Memᴰ π (plans M n s) → meets integers M n equal B.p B.q (total_of M s B π) ≡ false
      unequal = at_place (λ π. meets integers M n equal B.p B.q (total_of M s B π) ≡ false) (λ i l. ap (meets integers M n equal B.p B.q) (lowers _ (listed b s h i l)) ∙ by x.whole refl i l)
        where
          by : (w : Bool) → x.whole ≡ w → (i : ℕ) → i < all → meets_as equal m q j (lowered m q j (lifted (plan_at M n s i))) ≡ false
          by true e i l = exact.one e _ ∙ ne_eqb _ _ (λ g. other_total e i l (sym (value_at i l) ∙ g))
          by false e i l = exact.none e _

      nowhere : First m q j s x.total all
      unfolding totals
      nowhere = by x.whole refl
        where
          by : (w : Bool) → x.whole ≡ w → First m q j s x.total all
          by true e = first_led b s h x.total (exact.one e) all (λ i l g. other_total e i l g) (λ l. absurd (omega arith))
          by false e = never_led b s h (exact.none e) x.total

      upper_test : (π : Plan n) → Memᴰ π (plans M n s) → meets integers M n greater B.p B.q (total_of M s B π) ≡ on_side true x.total (lifted π)
      unfolding on_side
      upper_test π i = not_below M n B.p B.q (total_of M s B π) (unequal π i) ∙ ap not (lower_test π i) ∙ not_less x.total (lifted π)

      pub missed_verdict : (node_of q j).right ≡ 2 → verdict M s (formula q j) ≡ denies all none
      missed_verdict e = equal_no b s h e nowhere (omega arith)

      pub missed_reason : (node_of q j).right ≡ 2 → reason M s (formula q j) ≡ nearest (near_reached m q j s all r.below) (near_reached m q j s all r.above)
      unfolding relation reason_for
      missed_reason e =
          reason_at b s ∙ ap (λ k. reason_for M s (bound_as (relation k) m q j s) (relation k)) e
          ∙ ap₂ nearest (side_reached false lower_test lower) (side_reached true upper_test upper)
