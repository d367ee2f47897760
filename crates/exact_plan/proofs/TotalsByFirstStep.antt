-- The totals over one step more: for each enabled choice, in order, the totals below its outcomes, weighed and combined.
use Prim.Native.Nat.{ℕ, suc, ◌+◌, ◌*◌}
use mathlib.Core.Path.{◌≡◌, refl, sym, ap, ap₂, ◌∙◌, fun_ext}
use mathlib.Core.List.{List, [], ◌∷◌, ◌++◌, map, flat_map, map-map, map-append}
use lib.ListN.{length, length-map}
use Rattle.logic.specs.Lists.{product}
use Rattle.logic.specs.Model.{Model, Step, enabled, outcomes}
use Rattle.logic.specs.Quantity.{naturals}
use Rattle.logic.specs.Plan.{Plan, plans}
use Rattle.logic.specs.Limits.{multiply, plan_total}
use Rattle.logic.specs.Bound.{total}
use Rattle.logic.proofs.Sums.{naturals_additive, sum_pairs, total_step}
use Rattle.logic.proofs.Dictionary.{plan_count}
use Rattle.logic.proofs.Members.{block}
use Rattle.exact_plan.specs.promises.Totals.{totals, grid, combined, weighed}
use Rattle.exact_plan.proofs.Grid.{combined_length}

map-flat_map : {A B C : Type 0} (g : B → C) (h : A → List B) (l : List A) → map g (flat_map h l) ≡ flat_map (λ a. map g (h a)) l
unfolding flat_map
map-flat_map g h [] = refl
map-flat_map g h (a ∷ l) = map-append g (h a) (flat_map h l) ∙ ap (λ r. map g (h a) ++ r) (map-flat_map g h l)

module _ {A B : Type 0} (F : A → B → ℕ) (g : A → List B) where
  below : (P : List (List B)) (v : List B → ℕ) (o : A) (l : List B)
      → flat_map (λ x. map (λ r. F o x + v r) P) l ≡ grid (map (F o) l) (map v P)
  unfolding flat_map grid
  below P v o [] = refl
  below P v o (x ∷ l) = ap₂ ◌++◌ (sym (map-map (λ y. F o x + y) v P)) (below P v o l)

  -- The sums over all choices of one element from each list.
  pub product_sums : (os : List A) → map (λ qs. sum_pairs naturals F os qs) (product (map g os)) ≡ combined (λ o. map (F o) (g o)) os
  unfolding product combined sum_pairs
  product_sums [] = refl
  product_sums (o ∷ os) =
      let P : List (List B) = product (map g os) in
      map-flat_map (λ qs. sum_pairs naturals F (o ∷ os) qs) (λ x. map (λ r. x ∷ r) P) (g o)
      ∙ ap (λ h. flat_map h (g o)) (fun_ext (λ x. map-map (λ qs. sum_pairs naturals F (o ∷ os) qs) (λ r. x ∷ r) P))
      ∙ below P (λ r. sum_pairs naturals F os r) o (g o)
      ∙ ap (grid (map (F o) (g o))) (product_sums os)

module _ (m : Model) where
  pub totals_length : (n s : ℕ) (f : List Step → ℕ) → length (totals m n s f) ≡ plan_total m n s
  unfolding totals
  totals_length n s f = length-map (plans m n s) (λ π. total naturals m n s π f) ∙ plan_count m n s

  pub totals_step : (n s : ℕ) (f : List Step → ℕ) → totals m (suc n) s f ≡ flat_map (λ a. combined (weighed m n f) (outcomes m s a)) (enabled m s)
  unfolding totals plans weighed
  totals_step n s f =
      map-flat_map (λ π. total naturals m (suc n) s π f) (block m n s) (enabled m s)
      ∙ ap (λ h. flat_map h (enabled m s)) (fun_ext choice)
    where
      term : Step → Plan n → ℕ
      term o q = o.weight * total naturals m n o.target q (λ r. f (o ∷ r))

      choice : (a : ℕ) → map (λ π. total naturals m (suc n) s π f) (block m n s a) ≡ combined (weighed m n f) (outcomes m s a)
      choice a =
          let P : List (List (Plan n)) = product (map (λ o. plans m n o.target) (outcomes m s a)) in
          map-map (λ π. total naturals m (suc n) s π f) (λ qs. (a, qs)) P
          ∙ ap (λ h. map h P) (fun_ext (λ qs. total_step naturals naturals_additive m n s (a, qs) f))
          ∙ product_sums term (λ o. plans m n o.target) (outcomes m s a)
          ∙ ap (λ h. combined h (outcomes m s a)) (fun_ext (λ o. sym (map-map (λ y. o.weight * y) (λ q. total naturals m n o.target q (λ r. f (o ∷ r))) (plans m n o.target))))

  pub weighed_length : (n : ℕ) (f : List Step → ℕ) (o : Step) → length (weighed m n f o) ≡ plan_total m n o.target
  unfolding weighed
  weighed_length n f o =
      length-map (totals m n o.target (λ r. f (o ∷ r))) (λ y. o.weight * y)
      ∙ totals_length n o.target (λ r. f (o ∷ r))

  pub choice_length : (n : ℕ) (f : List Step → ℕ) (os : List Step) → length (combined (weighed m n f) os) ≡ multiply (λ o. plan_total m n o.target) os
  choice_length n f os = combined_length (weighed m n f) (λ o. plan_total m n o.target) (weighed_length n f) os
