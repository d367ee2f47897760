-- The last step from a state: a choice is worth the weights of its outcomes whose lanes are 1, and nothing is chosen below it.
use Prim.Native.Nat.{ℕ, zero, suc, ◌+◌, ◌*◌, ◌≤◌, ◌<◌}
use native.Mathlib.Omega.{arith}
use mathlib.Core.Path.{◌≡◌, refl, sym, ap, ap₂, subst, ◌∙◌}
use mathlib.Core.Bool.{Bool, true, false, not, cond}
use mathlib.Core.List.{List, [], ◌∷◌, flat_map}
use lib.ListN.{length, set}
use Rattle.logic.specs.Lists.{count_from, tabulate}
use Rattle.logic.specs.Model.{Model, Step, outcomes}
use Rattle.logic.specs.Plan.{choices}
use Rattle.logic.specs.Quantity.{sum}
use Rattle.logic.specs.promises.Orders.{order}
use Rattle.logic.specs.promises.Recursion.{first_best, best_choice, greatest}
use Rattle.logic.proofs.Tests.{tabulate_more}
use Rattle.blocks.specs.Block.{sum_below}
use Rattle.models.specs.Layout.{state_count}
use Rattle.prepared_model.specs.promises.Rows.{choices_in, choice_in, outcomes_in, step_in, lane, model_in, Prepared}
use Rattle.last_step.specs.promises.Lanes.{Laned}
use Rattle.best_plan.specs.promises.Greatest.{best_choices, worth, below}
use Rattle.best_plan.specs.promises.Buffers.{Wrote, wins, Ends}
use Rattle.best_plan.proofs.ChoiceStack.{wrote_choice}
use Rattle.best_plan.proofs.BestByFirstStep.{worth_of, best_of}
use Rattle.best_plan.proofs.ChoicesTried.{first, first_more, first_some, best_yet, best_more, picked_best}
use Rattle.std.specs.Prelude.{Some}
use Rattle.best_plan.proofs.OutcomesWalked.{worth_more}

below_none : (least : Bool) (M : Model) (f : List Step → ℕ) (l : List Step) → below least M 0 f l ≡ []
unfolding below flat_map best_choices choices
below_none least M f [] = refl
below_none least M f (o ∷ l) = below_none least M f l

-- x has the value f of the last step in the lane of each outcome of s.
abbrev Valued : (m : List ℕ) (s x : ℕ) (f : List Step → ℕ) → Type 0
Valued m s x f = Laned m s (λ i o. f (step_in m s i o ∷ [])) x

-- What the choice at place i is worth by the lanes.
abbrev in_lanes : (m : List ℕ) (s i x n : ℕ) → ℕ
in_lanes m s i x n = sum_below n (λ o. (step_in m s i o).weight * lane x (4 * i + o))

-- Of the first i choices, some: the total of the best, and its place.
pub record Ending (least : Bool) (m : List ℕ) (s x i value place : ℕ) : Type 0 where
  pub inside : place < i
  pub best : (f : List Step → ℕ) → Valued m s x f
      → (choice_in m s place ≡ best_of least (model_in m) 0 s f (first m s i)) × (value ≡ worth_of least (model_in m) 0 s f (choice_in m s place))

module _ (least : Bool) {m : List ℕ} {s x : ℕ} (w : Prepared m) (here : s < state_count m) where
  module _ (i : ℕ) (place : i < choices_in m s) (f : List Step → ℕ) (X : Valued m s x f) where
    lanes_worth : (n : ℕ) → n ≤ outcomes_in m s i → in_lanes m s i x n ≡ worth least (model_in m) 0 f (tabulate n (step_in m s i))
    unfolding sum_below worth sum tabulate count_from greatest
    lanes_worth zero h = refl
    lanes_worth (suc n) h =
        let o : Step = step_in m s i n in
        ap₂ ◌+◌ (lanes_worth n (omega arith)) (ap (λ z. o.weight * z) (X.right i n (place, omega arith)))
        ∙ sym (worth_more least (model_in m) 0 f (tabulate n (step_in m s i)) o)
        ∙ ap (worth least (model_in m) 0 f) (sym (tabulate_more (step_in m s i) n))

    lanes_total : in_lanes m s i x (outcomes_in m s i) ≡ worth_of least (model_in m) 0 s f (choice_in m s i)
    lanes_total = lanes_worth (outcomes_in m s i) (omega arith) ∙ ap (worth least (model_in m) 0 f) (sym (w.rows s i here place))

  pub ending_first : {v : ℕ} → 0 < choices_in m s → v ≡ in_lanes m s 0 x (outcomes_in m s 0) → Ending least m s x 1 v 0
  unfolding tabulate count_from best_choice first_best
  ending_first place e = record { inside = omega arith; best = λ f X. (refl, e ∙ lanes_total 0 place f X) }

  module _ {i value at : ℕ} (E : Ending least m s x i value at) where
    module _ {v : ℕ} (place : i < choices_in m s) (e : v ≡ in_lanes m s i x (outcomes_in m s i)) where
      best_next : (t : Bool) → not (order least v value) ≡ t → (f : List Step → ℕ) → Valued m s x f
          → best_of least (model_in m) 0 s f (first m s (i + 1)) ≡ cond t (choice_in m s i) (best_of least (model_in m) 0 s f (first m s i))
      unfolding wins
      best_next t h f X =
          let b = E.best f X in
          ap (best_of least (model_in m) 0 s f) (first_more m s i)
          ∙ best_more least (model_in m) 0 s f (first m s i) (choice_in m s i) (Some (record { value = value; end = 0 })) v
          (best_yet (first_some m s i (omega (arith, E.inside))) (b.1 ∙ ap (worth_of least (model_in m) 0 s f) b.0)) (e ∙ lanes_total i place f X) t h

      pub ending_won : not (order least v value) ≡ true → Ending least m s x (i + 1) v i
      ending_won h = record { inside = omega arith; best = λ f X. (sym (best_next true h f X), e ∙ lanes_total i place f X) }

      pub ending_lost : not (order least v value) ≡ false → Ending least m s x (i + 1) value at
      ending_lost h = record { inside = omega (arith, E.inside); best = λ f X. let b = E.best f X in (b.0 ∙ sym (best_next false h f X), b.1) }

    pub ending_all : i ≡ choices_in m s → {p : ℕ} {written : List ℕ} → p < length written
        → Ends least m s x p written (set written p (choice_in m s at)) (record { value = value; end = p + 1 })
    ending_all e {p} {written} fits =
        let a : ℕ = choice_in m s at in
        record {
          picked = λ f X.
              let b = E.best f X in
              picked_best least m f s 0 w here p written (set written p a) (record { value = value; end = p + 1 }) a
              (b.0 ∙ ap (λ n. best_of least (model_in m) 0 s f (first m s n)) e) b.1
              (subst (λ z. Wrote (a ∷ z) p written (set written p a) (p + 1)) (sym (below_none least (model_in m) f (outcomes (model_in m) s a)))
              (wrote_choice a p written fits));
        }
