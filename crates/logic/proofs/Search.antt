-- What a search finds is the shown plan. It searches natural numbers: the totals of a bound, all raised by one number, which changes no order.
-- For "greater" the shown plan is that of first_best choices, for "less" the same in the reversed order, and where its total does not meet
-- the bound there is none; it is the leader either way. For "equal" the shown plan is the one at the first place of the list that meets the bound.
use Prim.Native.Nat.{ℕ, ◌+◌, ◌<◌}
use mathlib.Core.Path.{◌≡◌, refl, sym, ap, ap₂, subst, ◌∙◌}
use mathlib.Core.Bool.{Bool, true, false, not, and-true}
use mathlib.Core.List.{List, Memᴰ}
use mathlib.Core.Option.{none, some}
use lib.Dec.{T, leb}
use lib.IntN.{ℤ, sub_ℕ}
use lib.ListN.{length, get_or}
use lib.Signed.{le_z}
use Rattle.logic.specs.Model.{Model, Step}
use Rattle.logic.specs.Plan.{Plan, plans, paths}
use Rattle.logic.specs.Quantity.{Quantity, naturals, integers, Relation, less, equal, greater, related}
use Rattle.logic.specs.Bound.{Bound, total, meets}
use Rattle.logic.specs.promises.Orders.{reversed, weights, order}
use Rattle.logic.specs.promises.Recursion.{greatest, best_plan}
use Rattle.logic.specs.Verdict.{leads, bound_goal, shown, leader}
use Rattle.logic.specs.Accepted.{Accepted}
use Rattle.logic.proofs.Tests.{find_at, find_nowhere}
use Rattle.logic.proofs.Sums.{naturals_additive, reversed_additive, sum_reversed}
use Rattle.logic.proofs.Best.{Best, here, later, naturals_ordered, reversed_ordered, best_member}
use Rattle.logic.proofs.Integers.{integers_ordered}
use Rattle.logic.proofs.Lowered.{lowered_order}
use Rattle.logic.proofs.Recursion.{best_plan_first, best_plan_total}
use Rattle.logic.proofs.Shown.{best_leads, best_found, best_missed}

-- The best by one value is the best by another that has the same order.
best_as : (Q R : Quantity) {A : Type 0} (v : A → Q.Value) (u : A → R.Value) {l : List A} {x : A}
    → ((a b : A) → Memᴰ a l → Memᴰ b l → R.at_most (u a) (u b) ≡ Q.at_most (v a) (v b)) → Best Q v l x → Best R u l x
best_as Q R v u same (here {x} {l} h) =
    here (λ y i. subst T (sym (same y x (Memᴰ.tail i) (Memᴰ.head refl))) (h y i))
best_as Q R v u same (later {x} {y} {l} p b) =
    later (subst (λ t. T (not t)) (sym (same x y (Memᴰ.tail (member b)) (Memᴰ.head refl))) p) (best_as Q R v u (λ a c i j. same a c (Memᴰ.tail i) (Memᴰ.tail j)) b)
  where
    member : {A : Type 0} {v : A → Q.Value} {l : List A} {x : A} → Best Q v l x → Memᴰ x l
    member (here h) = Memᴰ.head refl
    member (later p b) = Memᴰ.tail (member b)

-- From a state of an accepted model there is a plan: the best of any value.
pub some_plan : (m : Model) → Accepted m → (n s : ℕ) → s < length m.states → (π : Plan n) × Memᴰ π (plans m n s)
some_plan m accepted n s k =
    let f : List Step → ℕ = λ r. 0 in
    (best_plan naturals m n s f, best_member naturals naturals_ordered (λ π. total naturals m n s π f) (best_plan_first naturals naturals_additive naturals_ordered m accepted n s f k))

-- ---- a bound whose totals, all raised by c, are those of f

pub record Raises (m : Model) (s n : ℕ) (g : List Step → ℤ) (f : List Step → ℕ) (c : ℕ) : Type 0 where
  pub lowered : (π : Plan n) → Memᴰ π (plans m n s) → total integers m n s π g ≡ sub_ℕ (total naturals m n s π f) c

-- The relation that the search for the least total is for, and that for the greatest.
abbrev pub extreme : (least : Bool) → Relation
extreme true = less
extreme false = greater

module _ (m : Model) (s n : ℕ) (g : List Step → ℤ) (p : ℤ) (q : ℕ) where
  abbrev pub bound : Relation → Bound
  bound r = record { steps = n; worth = g; relation = r; p = p; q = q }

  -- The plan π, of the total w, is the first that leads, and decides: where w meets the bound π is the shown plan, and where not there is none.
  pub record Decides (r : Relation) (w : ℤ) (π : Plan n) : Type 0 where
    pub weighs : total integers m n s π g ≡ w
    pub first : (k : ℕ) × (leader m s (bound_goal m s (bound r)) ≡ some (k, π))
    pub met : meets integers m n r p q w ≡ true → (k : ℕ) × (shown m s (bound_goal m s (bound r)) ≡ some (k, π))
    pub missed : meets integers m n r p q w ≡ false → shown m s (bound_goal m s (bound r)) ≡ none

  module _ {f : List Step → ℕ} {c : ℕ} (R : Raises m s n g f c) (accepted : Accepted m) (k : s < length m.states) where
    same_order : (a b : Plan n) → Memᴰ a (plans m n s) → Memᴰ b (plans m n s)
        → le_z (total integers m n s a g) (total integers m n s b g) ≡ leb (total naturals m n s a f) (total naturals m n s b f)
    same_order a b i j = ap₂ le_z (R.lowered a i) (R.lowered b j) ∙ lowered_order (total naturals m n s a f) (total naturals m n s b f) c

    most_first : Best integers (λ π. total integers m n s π g) (plans m n s) (best_plan naturals m n s f)
    most_first =
        best_as naturals integers (λ π. total naturals m n s π f) (λ π. total integers m n s π g) same_order
        (best_plan_first naturals naturals_additive naturals_ordered m accepted n s f k)

    forwards : (π : Plan n) → total (reversed naturals) m n s π f ≡ total naturals m n s π f
    unfolding total
    forwards π = sum_reversed naturals _ (paths m n s π)

    fewest_first : Best (reversed integers) (λ π. total integers m n s π g) (plans m n s) (best_plan (reversed naturals) m n s f)
    fewest_first =
        best_as (reversed naturals) (reversed integers) (λ π. total (reversed naturals) m n s π f) (λ π. total integers m n s π g)
        (λ a b i j. same_order b a j i ∙ sym (ap₂ leb (forwards b) (forwards a)))
        (best_plan_first (reversed naturals) (reversed_additive naturals naturals_additive) (reversed_ordered naturals naturals_ordered) m accepted n s f k)

    -- The best plan's total, lowered.
    pub best_lowered : (least : Bool)
        → total integers m n s (best_plan (weights (order least)) m n s f) g ≡ sub_ℕ (greatest (weights (order least)) m n s f) c
    best_lowered false =
        R.lowered (best_plan naturals m n s f) (best_member integers integers_ordered (λ π. total integers m n s π g) most_first)
        ∙ ap (λ x. sub_ℕ x c) (best_plan_total naturals naturals_additive m n s f)
    best_lowered true =
        R.lowered (best_plan (reversed naturals) m n s f) (best_member (reversed integers) (reversed_ordered integers integers_ordered) (λ π. total integers m n s π g) fewest_first)
        ∙ ap (λ x. sub_ℕ x c)
        (sym (forwards (best_plan (reversed naturals) m n s f)) ∙ best_plan_total (reversed naturals) (reversed_additive naturals naturals_additive) m n s f)

    pub best_decides : (least : Bool) → Decides (extreme least) (sub_ℕ (greatest (weights (order least)) m n s f) c) (best_plan (weights (order least)) m n s f)
    unfolding shown leader leads meets related
    best_decides false =
        let t : Plan n → ℤ = λ π. total integers m n s π g in
        let e = best_lowered false in
        record {
          weighs = e;
          first = best_leads integers integers_ordered t (plans m n s) most_first;
          met = λ h. best_found integers integers_ordered m n p q t (plans m n s) most_first (ap (meets integers m n greater p q) e ∙ h);
          missed = λ h. best_missed integers integers_ordered m n p q t (plans m n s) most_first (ap (meets integers m n greater p q) e ∙ h);
        }
    best_decides true =
        let t : Plan n → ℤ = λ π. total integers m n s π g in
        let O = reversed_ordered integers integers_ordered in
        let e = best_lowered true in
        record {
          weighs = e;
          first = best_leads (reversed integers) O t (plans m n s) fewest_first;
          met = λ h. best_found (reversed integers) O m n p q t (plans m n s) fewest_first (ap (meets integers m n less p q) e ∙ h);
          missed = λ h. best_missed (reversed integers) O m n p q t (plans m n s) fewest_first (ap (meets integers m n less p q) e ∙ h);
        }

  -- For "equal", by the places of the list; d stands past its end.
  module _ (d : Plan n) where
    abbrev pub met_at : ℕ → Bool
    met_at k = meets integers m n equal p q (total integers m n s (get_or (plans m n s) k d) g)

    pub equal_shown : (k : ℕ) → k < length (plans m n s) → met_at k ≡ true → ((j : ℕ) → j < k → met_at j ≡ false)
        → shown m s (bound_goal m s (bound equal)) ≡ some (1 + k, get_or (plans m n s) k d)
    unfolding shown leads
    equal_shown k h e g = find_at _ d 1 k (plans m n s) h (and-true _ ∙ e) (λ j i. and-true _ ∙ g j i)

    pub equal_none : ((j : ℕ) → j < length (plans m n s) → met_at j ≡ false) → shown m s (bound_goal m s (bound equal)) ≡ none
    unfolding shown leads
    equal_none g = find_nowhere _ d 1 (plans m n s) (λ j i. and-true _ ∙ g j i)
