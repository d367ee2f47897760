-- The outcomes walked so far: their weights times the best totals below them are summed, and the choices there stand one behind the other.
use Prim.Native.Nat.{ℕ, ◌+◌, ◌*◌, ◌^◌, ◌≤◌, ◌<◌}
use native.Mathlib.Omega.{arith}
use native.Mathlib.Nat.{mul-le-mul, add-zero, mul-le-mul_right}
use native.Mathlib.Numerals.{add-one}
use mathlib.Core.Path.{◌≡◌, refl, sym, ap, ap₂, subst, ◌∙◌}
use mathlib.Core.Bool.{Bool}
use mathlib.Core.List.{List, [], ◌∷◌, ◌++◌, flat_map, append-nil}
use lib.ListN.{length}
use Rattle.logic.specs.Lists.{count_from, tabulate}
use Rattle.logic.specs.Model.{Model, Step}
use Rattle.logic.specs.Quantity.{sum}
use Rattle.logic.specs.promises.Orders.{weights, order}
use Rattle.logic.specs.promises.Recursion.{greatest}
use Rattle.logic.proofs.Tests.{tabulate_more, length_tabulate}
use Rattle.logic.proofs.Sums.{sum-append}
use Rattle.models.specs.Layout.{state_count}
use Rattle.prepared_model.specs.promises.Rows.{outcomes_in, step_in, row_in, Offers, model_in, Prepared}
use Rattle.logic.specs.promises.MostChoices.{most_choices}
use Rattle.best_plan.specs.promises.Greatest.{best_choices, worth, below}
use Rattle.best_plan.specs.promises.Buffers.{Wrote}
use Rattle.logic.proofs.FirstBest.{additive}
use Rattle.best_plan.proofs.BestByFirstStep.{flat_append}
use Rattle.best_plan.proofs.ChoiceStack.{wrote_none, wrote_both}
use Rattle.best_plan.proofs.TotalsBounded.{value_small, below_few}

module _ (least : Bool) (M : Model) (k : ℕ) (f : List Step → ℕ) (l : List Step) (o : Step) where
  abbrev on : List Step → ℕ
  on r = f (o ∷ r)

  pub worth_more : worth least M k f (l ++ (o ∷ [])) ≡ worth least M k f l + o.weight * greatest (weights (order least)) M k o.target on
  unfolding worth sum
  worth_more =
      sum-append (weights (order least)) (additive (order least)) (λ o. o.weight * greatest (weights (order least)) M k o.target (λ r. f (o ∷ r))) l (o ∷ [])
      ∙ ap (λ x. worth least M k f l + x) (add-zero _)

  below_more : below least M k f (l ++ (o ∷ [])) ≡ below least M k f l ++ best_choices least M k o.target on
  unfolding below flat_map
  below_more =
      let g : Step → List ℕ = λ o. best_choices least M k o.target (λ r. f (o ∷ r)) in
      flat_append g l (o ∷ []) ∙ ap (λ x. flat_map g l ++ x) (append-nil (g o))

-- Of the choice at place a of the state s.
module _ (least : Bool) (m : List ℕ) (s a k : ℕ) (f : List Step → ℕ) where
  abbrev M : Model
  M = model_in m

  -- The first i outcomes.
  abbrev seen : ℕ → List Step
  seen i = tabulate i (step_in m s a)

  pub record Walking (i at : ℕ) (before after : List ℕ) (total end : ℕ) : Type 0 where
    pub value : total ≡ worth least M k f (seen i)
    pub wrote : Wrote (below least M k f (seen i)) at before after end
    pub small : total ≤ i * 100 ^ 6

  pub walking_none : (at : ℕ) (c : List ℕ) → Walking 0 at c c 0 at
  unfolding tabulate count_from worth below sum flat_map
  walking_none at c = record { value = refl; wrote = wrote_none at c; small = omega arith }

  module _ (w : Prepared m) (here : s < state_count m) (few : k ≤ 5) (bits : (r : List Step) → f r ≤ 1) (i : ℕ) (offers : Offers m s a i) where
    abbrev o : Step
    o = step_in m s a i

    abbrev best : ℕ
    best = greatest (weights (order least)) M k o.target (λ r. f (o ∷ r))

    term_small : o.weight * best ≤ 100 ^ 6
    term_small =
        mul-le-mul (w.light s a i here offers) (value_small w least k 5 o.target (λ r. f (o ∷ r)) (w.inside s a i here offers) few (λ r. bits (o ∷ r)))

    module _ (at e1 e2 total v : ℕ) (c0 c1 c2 : List ℕ) (W : Walking i at c0 c1 total e1) (worth_here : v ≡ best)
        (wrote : Wrote (best_choices least M k o.target (λ r. f (o ∷ r))) e1 c1 c2 e2) where
      -- The sum fits.
      pub sum_fits : (x : ℕ) → x ≡ o.weight → total + x * v < 2 ^ 64
      sum_fits x e =
          let g : x * v ≤ 100 ^ 6 = rw (e, worth_here) term_small in
          omega (arith, W.small, offers.1, w.few_outcomes s a here offers.0)

      -- One outcome more.
      pub walking_more : (x : ℕ) → x ≡ o.weight → Walking (i + 1) at c0 c2 (total + x * v) e2
      walking_more x e =
          let more : seen (i + 1) ≡ seen i ++ (o ∷ []) = ap seen (add-one i) ∙ tabulate_more (step_in m s a) i in
          let g : x * v ≡ o.weight * best = ap₂ ◌*◌ e worth_here in
          record {
            value = ap₂ ◌+◌ W.value g ∙ sym (worth_more least M k f (seen i) o) ∙ ap (worth least M k f) (sym more);
            wrote = subst (λ l. Wrote l at c0 c2 e2) (sym (below_more least M k f (seen i) o) ∙ ap (below least M k f) (sym more)) (wrote_both W.wrote wrote);
            small = omega (arith, W.small, g, term_small);
          }

  module _ (i at total e : ℕ) (c0 c : List ℕ) (W : Walking i at c0 c total e) where
    -- Before the last outcome there is room for the search below it.
    pub walking_room : Prepared m → s < state_count m → Offers m s a i → e + 3 * most_choices k ≤ at + 6 * most_choices k
    walking_room w here offers =
        let n : length (below least M k f (seen i)) ≤ i * most_choices k =
        subst (λ j. length (below least M k f (seen i)) ≤ j * most_choices k) (length_tabulate (step_in m s a) i) (below_few w least k f (seen i)) in
        omega (arith, n, W.wrote.next, mul-le-mul_right {m = i} {n = 3} (most_choices k) (omega (arith, offers.1, w.few_outcomes s a here offers.0)))

    pub walked_value : i ≡ outcomes_in m s a → total ≡ worth least M k f (row_in m s a)
    walked_value l = W.value ∙ ap (λ n. worth least M k f (seen n)) l

    pub walked_wrote : i ≡ outcomes_in m s a → Wrote (below least M k f (row_in m s a)) at c0 c e
    walked_wrote l = subst (λ n. Wrote (below least M k f (seen n)) at c0 c e) l W.wrote
