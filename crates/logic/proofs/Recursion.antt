-- The greatest total by recursion over the steps, and the plan of first_best choices: they are the maximum over all plans, and the
-- first plan in dictionary order that reaches it.
use Prim.Native.Nat.{ℕ, zero, suc, ◌<◌}
use mathlib.Core.Path.{◌≡◌, refl, sym, ap, subst, ◌∙◌, fun_ext}
use mathlib.Core.List.Memᴰ
use mathlib.Core.List.{List, [], ◌∷◌, map, Memᴰ}
use lib.ListN.{length}
use Rattle.logic.specs.Lists.{product}
use Rattle.logic.specs.Model.{Model, Step, enabled, outcomes}
use Rattle.logic.specs.Plan.{Plan, plans}
use Rattle.logic.specs.Quantity.{Quantity, sum}
use Rattle.logic.specs.Bound.{total}
use Rattle.logic.specs.promises.Recursion.{best_choice, greatest, best_plan}
use Rattle.logic.specs.Accepted.{Accepted, Executable}
use Rattle.logic.proofs.Members.{block}
use Rattle.logic.proofs.Sums.{Additive, sum_pairs, total_step, total_zero, sum_ext}
use Rattle.logic.proofs.Best.{Ordered, Best, here, first_best_is, best_map, best_blocks, best_product, best_member, best_le, Le}

module _ (Q : Quantity) (L : Additive Q) where
  pairs_map : {A B : Type 0} (f : A → B → Q.Value) (g : A → B) (l : List A) → sum_pairs Q f l (map g l) ≡ sum Q (λ a. f a (g a)) l
  unfolding sum sum_pairs
  pairs_map f g [] = refl
  pairs_map f g (x ∷ xs) = ap (Q.plus (f x (g x))) (pairs_map f g xs)

  module _ (m : Model) where
    -- The best plan that begins with the choice a, and its total, given those of the plans below.
    chosen : (n s : ℕ) → (List Step → Q.Value) → ℕ → Plan (suc n)
    chosen n s f a = (a, map (λ o. best_plan Q m n o.target (λ r. f (o ∷ r))) (outcomes m s a))

    chosen_total : (n s : ℕ) (f : List Step → Q.Value) (a : ℕ)
        → ((t : ℕ) (g : List Step → Q.Value) → total Q m n t (best_plan Q m n t g) g ≡ greatest Q m n t g)
        → total Q m (suc n) s (chosen n s f a) f ≡ sum Q (λ o. Q.times o.weight (greatest Q m n o.target (λ r. f (o ∷ r)))) (outcomes m s a)
    unfolding chosen
    chosen_total n s f a h =
        total_step Q L m n s (chosen n s f a) f
        ∙ pairs_map (λ o q. Q.times o.weight (total Q m n o.target q (λ r. f (o ∷ r)))) (λ o. best_plan Q m n o.target (λ r. f (o ∷ r))) _
        ∙ sum_ext Q L _ _ _ (λ o. ap (Q.times o.weight) (h o.target (λ r. f (o ∷ r))))

    -- The plan of first_best choices has the greatest total.
    pub best_plan_total : (n s : ℕ) (f : List Step → Q.Value) → total Q m n s (best_plan Q m n s f) f ≡ greatest Q m n s f
    unfolding greatest best_plan chosen
    best_plan_total zero s f = total_zero Q L m s tt f
    best_plan_total (suc n) s f = chosen_total n s f _ (best_plan_total n)

module _ (Q : Quantity) (L : Additive Q) (O : Ordered Q) (m : Model) (accepted : Accepted m) where
  best_of_choices : (v : ℕ → Q.Value) (l : List ℕ) → (a : ℕ) × (k : List ℕ) × (l ≡ a ∷ k) → Best Q v l (best_choice Q v l)
  unfolding best_choice
  best_of_choices v l h = subst (λ z. Best Q v z (best_choice Q v z)) (sym h.2) (first_best_is Q O v h.0 h.1)

  best_of_block : (n s a : ℕ) (f : List Step → Q.Value) → Executable m s a
      → ((o : Step) → Memᴰ o (outcomes m s a)
      → Best Q (λ p. total Q m n o.target p (λ r. f (o ∷ r))) (plans m n o.target) (best_plan Q m n o.target (λ r. f (o ∷ r))))
      → Best Q (λ p. total Q m (suc n) s p f) (block m n s a) (chosen Q L m n s f a)
  unfolding chosen
  best_of_block n s a f x h =
      best_map Q O (λ p. total Q m (suc n) s p f) (λ qs. (a, qs))
      (subst (λ v. Best Q v (product (map (λ o. plans m n o.target) (outcomes m s a))) (chosen Q L m n s f a).1)
      (fun_ext (λ qs. sym (total_step Q L m n s (a, qs) f)))
      (best_product Q O (λ o. o.weight) (λ o q. total Q m n o.target q (λ r. f (o ∷ r)))
      (λ o. plans m n o.target) (λ o. best_plan Q m n o.target (λ r. f (o ∷ r))) (outcomes m s a)
      (accepted.weighs x) h))

  -- The plan of first_best choices is the first of all plans in dictionary order that has the greatest total.
  pub best_plan_first : (n s : ℕ) (f : List Step → Q.Value) → s < length m.states → Best Q (λ p. total Q m n s p f) (plans m n s) (best_plan Q m n s f)
  unfolding plans best_plan chosen
  best_plan_first zero s f k = here (λ y i. absurd (Memᴰ.not-nil i))
  best_plan_first (suc n) s f k =
      best_blocks Q O (λ p. total Q m (suc n) s p f) (block m n s) (chosen Q L m n s f)
      (λ a i.
      let x : Executable m s a = record { state = k; choice = i } in
      best_of_block n s a f x (λ o j. best_plan_first n o.target (λ r. f (o ∷ r)) (accepted.inside x o j)))
      (subst (λ v. Best Q v (enabled m s) (best_plan Q m (suc n) s f).0)
      (fun_ext (λ a. sym (chosen_total Q L m n s f a (best_plan_total Q L m n))))
      (best_of_choices _ (enabled m s) (accepted.some_choice s k)))

  -- The greatest total by recursion is reached by some plan and passed by none.
  pub greatest_is_maximum : (n s : ℕ) (f : List Step → Q.Value) → s < length m.states
      → ((p : Plan n) × Memᴰ p (plans m n s) × (total Q m n s p f ≡ greatest Q m n s f))
      × ((p : Plan n) → Memᴰ p (plans m n s) → Le Q (total Q m n s p f) (greatest Q m n s f))
  greatest_is_maximum n s f k =
      let b = best_plan_first n s f k in
      let e = best_plan_total Q L m n s f in (
        (best_plan Q m n s f, best_member Q O (λ p. total Q m n s p f) b, e),
        λ p i. subst (λ z. Le Q (total Q m n s p f) z) e (best_le Q O (λ p. total Q m n s p f) b p i),
      )
