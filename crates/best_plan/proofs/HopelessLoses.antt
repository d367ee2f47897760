-- A choice that can no longer win: the outcomes left add at most their weight times D to the number of steps after them. Where even that
-- does not win, the choice's total does not.
use Prim.Native.Nat.{ℕ, zero, suc, ◌+◌, ◌*◌, ◌-◌, ◌^◌, ◌≤◌, ◌<◌}
use native.Mathlib.Omega.{arith}
use native.Mathlib.Nat.{le_refl, add-zero, add-mul, mul-le-mul, mul-le-mul_left}
use native.Mathlib.Numerals.{add-one}
use mathlib.Core.Path.{◌≡◌, refl, sym, ap, subst, ◌∙◌}
use mathlib.Core.Bool.{Bool, true, false, not}
use mathlib.Core.List.{List, ◌∷◌}
use borrow.Author.Tests.{le-leb}
use Rattle.logic.specs.Lists.{tabulate}
use Rattle.logic.specs.Model.{Model, Step}
use Rattle.logic.specs.promises.Orders.{weights, order}
use Rattle.logic.specs.promises.Recursion.{greatest}
use Rattle.logic.proofs.Tests.{T→true, true→T, tabulate_more}
use Rattle.blocks.specs.Block.{sum_below}
use Rattle.models.specs.Layout.{state_count, denominator_of}
use Rattle.prepared_model.specs.promises.Rows.{choices_in, outcomes_in, step_in, row_in, model_in, Prepared}
use Rattle.prepared_model.proofs.ReadByPlace.{states_are, denominator_is, weights_sum}
use Rattle.bounds.proofs.Powers.{power_le}
use Rattle.best_plan.specs.promises.Greatest.{worth, best_left}
use Rattle.std.specs.Prelude.{Option, None, Some}
use Rattle.best_plan.specs.declared.Walked.{Walked}
use Rattle.best_plan.specs.promises.Buffers.{wins}
use Rattle.logic.proofs.FirstBest.{ordered}
use Rattle.best_plan.proofs.TotalsBounded.{greatest_small}
use Rattle.best_plan.proofs.OutcomesWalked.{worth_more}

-- What is no better than what does not win does not win.
wins_not : (best : Option Walked) (x y : ℕ) (least : Bool) → order least x y ≡ true → wins best y least ≡ false → wins best x least ≡ false
unfolding wins
wins_not None x y least h e = e
wins_not (Some b) x y least h e =
    ap not (T→true (order least x b.value) ((ordered least).trans x y b.value (true→T h) (true→T (beaten (order least y b.value) e))))
  where
    beaten : (t : Bool) → not t ≡ false → t ≡ true
    beaten true e = refl
    beaten false e = sym e

-- What lies between what is walked and what can be added to it is no better than the limit.
no_better : (least : Bool) (D k sum rest all : ℕ) → sum ≤ all → all ≤ sum + rest * D ^ k
    → (order least all (best_left least D k sum rest) ≡ true) × (order least sum (best_left least D k sum rest) ≡ true)
unfolding best_left
no_better true D k sum rest all h g = (le-leb sum all h, le-leb sum sum (le_refl sum))
no_better false D k sum rest all h g = (le-leb all (sum + rest * D ^ k) g, le-leb sum (sum + rest * D ^ k) (omega arith))

below_on : (f : ℕ → ℕ) (i j : ℕ) → sum_below i f ≤ sum_below (i + j) f
unfolding sum_below
below_on f i zero = rw (add-zero i) (le_refl _)
below_on f i (suc j) = let q : i + suc j ≡ suc (i + j) = omega arith in rw q (omega (arith, below_on f i j))

-- What the first i outcomes of the choice at place a weigh.
abbrev pub weighed : (m : List ℕ) (s a i : ℕ) → ℕ
weighed m s a i = sum_below i (λ o. (step_in m s a o).weight)

pub weighed_none : (m : List ℕ) (s a : ℕ) → weighed m s a 0 ≡ 0
unfolding sum_below
weighed_none m s a = refl

module _ {m : List ℕ} (w : Prepared m) (s a : ℕ) (here : s < state_count m) (place : a < choices_in m s) where
  -- Those up to one and that one weigh no more.
  weighed_most : (i : ℕ) → i < outcomes_in m s a → weighed m s a i + (step_in m s a i).weight ≤ denominator_of m
  unfolding sum_below
  weighed_most i u =
      let n = outcomes_in m s a in
      let j : suc i + (n - suc i) ≡ n = omega arith in
      omega (arith, below_on (λ o. (step_in m s a o).weight) (suc i) (n - suc i), ap (weighed m s a) j, weights_sum w s here a place)

  -- What is left weighs, one outcome further, as much less as that one weighs.
  pub rest_less : (i rest x : ℕ) → i < outcomes_in m s a → rest + weighed m s a i ≡ denominator_of m → x ≡ (step_in m s a i).weight
      → (x ≤ rest) × (rest - x + weighed m s a (i + 1) ≡ denominator_of m)
  unfolding sum_below
  rest_less i rest x u left e =
      let h = weighed_most i u in
      (omega (arith, h), omega (arith, h, ap (weighed m s a) (add-one i)))

  module _ (least : Bool) (k : ℕ) (f : List Step → ℕ) (bits : (r : List Step) → f r ≤ 1) where
    abbrev M : Model
    M = model_in m

    abbrev all_after : ℕ
    all_after = denominator_of m ^ k

    -- The total of the first i outcomes.
    abbrev come : ℕ → ℕ
    come i = worth least M k f (tabulate i (step_in m s a))

    -- One more.
    come_more : (i : ℕ) → i < outcomes_in m s a → (come i ≤ come (suc i)) × (come (suc i) ≤ come i + (step_in m s a i).weight * all_after)
    come_more i u =
        let o : Step = step_in m s a i in
        let g : greatest (weights (order least)) M k o.target (λ r. f (o ∷ r)) ≤ all_after =
        subst (λ d. greatest (weights (order least)) M k o.target (λ r. f (o ∷ r)) ≤ d ^ k) (denominator_is m)
        (greatest_small least M w.accepted k o.target (λ r. f (o ∷ r)) (rw (states_are m) (w.inside s a i here (place, u))) (λ r. bits (o ∷ r))) in
        let e = ap (worth least M k f) (tabulate_more (step_in m s a) i) ∙ worth_more least M k f (tabulate i (step_in m s a)) o in
        (omega (arith, e), omega (arith, e, mul-le-mul_left o.weight g))

    -- And j more: at most what they weigh, times D to the k.
    come_on : (i j : ℕ) → i + j ≤ outcomes_in m s a
        → (come i ≤ come (i + j)) × (come (i + j) + weighed m s a i * all_after ≤ come i + weighed m s a (i + j) * all_after)
    unfolding sum_below
    come_on i zero h = rw (add-zero i) (le_refl _, le_refl _)
    come_on i (suc j) h =
        let q : i + suc j ≡ suc (i + j) = omega arith in
        let n = come_on i j (omega arith) in
        let e = come_more (i + j) (omega arith) in
        let z = add-mul (weighed m s a (i + j)) (step_in m s a (i + j)).weight all_after in
        rw q (omega (arith, n.0, e.0), omega (arith, n.1, e.1, z))

    -- After i outcomes: `rest` is what those left weigh.
    module _ (i sum rest : ℕ) (u : i < outcomes_in m s a) (e : sum ≡ come i) (left : rest + weighed m s a i ≡ denominator_of m) where
      abbrev limit : ℕ
      limit = best_left least (denominator_of m) k sum rest

      abbrev all : ℕ
      all = worth least M k f (row_in m s a)

      -- The limit fits its type.
      pub limit_fits : k ≤ 5 → sum ≤ i * 100 ^ 6 → (denominator_of m ≤ 100) × (sum + rest * all_after < 2 ^ 64)
      limit_fits few small =
          let d = w.parts in
          let r : rest ≤ 100 = omega arith in
          let p : rest * all_after ≤ 100 * 100 ^ 5 = mul-le-mul r (power_le (denominator_of m) k 5 d few) in
          (d, omega (arith, w.few_outcomes s a here place))

      -- The total of all of them is at least `sum`, and at most `sum` with what those left can add.
      between : (sum ≤ all) × (all ≤ sum + rest * all_after)
      between =
          let n = outcomes_in m s a in
          let j : i + (n - i) ≡ n = omega arith in
          let g = come_on i (n - i) (omega arith) in
          let z = ap (λ x. x * all_after) (left ∙ sym (weights_sum w s here a place)) in
          let y = add-mul rest (weighed m s a i) all_after in
          let c : come (i + (n - i)) ≡ come n = ap come j in
          let x : weighed m s a (i + (n - i)) ≡ weighed m s a n = ap (weighed m s a) j in
          (omega (arith, c, e, g.0), omega (arith, c, e, g.1, y, z, ap (λ x. x * all_after) x))

      -- Where the limit does not win, neither do they, nor those walked so far.
      pub limit_lost : (best : Option Walked) → wins best limit least ≡ false → (wins best all least ≡ false) × (wins best sum least ≡ false)
      limit_lost best h =
          let g = no_better least (denominator_of m) k sum rest all between.0 between.1 in
          (wins_not best all limit least g.0 h, wins_not best sum limit least g.1 h)
