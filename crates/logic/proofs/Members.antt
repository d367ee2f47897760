-- Members of the lists that `map`, `flat_map` and `product` make, paired lists, and the members of the list of plans: a member comes from a
-- member of what the list is made of, and the other way round.
use Prim.Native.Nat.{ℕ, suc}
use mathlib.Core.Path.{◌≡◌, refl, sym, ap, ap₂, subst}
use mathlib.Core.Logic.{⊎_elim}
use mathlib.Core.List.Memᴰ
use mathlib.Core.List.{List, [], ◌∷◌, ◌++◌, map, flat_map, Memᴰ}
use Rattle.logic.specs.Lists.{product, join}
use Rattle.logic.specs.Model.{Model, enabled, outcomes}
use Rattle.logic.specs.Plan.{Plan, plans, Match, ends, pair}

module _ {A B : Type 0} where
  pub map_member : (f : A → B) (l : List A) {b : B} → Memᴰ b (map f l) → (a : A) × Memᴰ a l × (b ≡ f a)
  map_member f [] h = absurd (Memᴰ.not-nil h)
  map_member f (x ∷ xs) {b} h = ⊎_elim (λ e. (x, Memᴰ.head refl, e)) (λ t. later (map_member f xs t)) (Memᴰ.cases_cons h)
    where
      later : (a : A) × Memᴰ a xs × (b ≡ f a) → (a : A) × Memᴰ a (x ∷ xs) × (b ≡ f a)
      later w = (w.0, Memᴰ.tail w.1, w.2)

  pub in_map : (f : A → B) {a : A} {l : List A} → Memᴰ a l → Memᴰ (f a) (map f l)
  in_map f (Memᴰ.head e) = Memᴰ.head (ap f e)
  in_map f (Memᴰ.tail t) = Memᴰ.tail (in_map f t)

  pub flat_map_member : (f : A → List B) (l : List A) {b : B} → Memᴰ b (flat_map f l) → (a : A) × Memᴰ a l × Memᴰ b (f a)
  unfolding flat_map
  flat_map_member f [] h = absurd (Memᴰ.not-nil h)
  flat_map_member f (x ∷ xs) {b} h = ⊎_elim (λ e. (x, Memᴰ.head refl, e)) (λ t. later (flat_map_member f xs t)) (Memᴰ.append_cases (f x) h)
    where
      later : (a : A) × Memᴰ a xs × Memᴰ b (f a) → (a : A) × Memᴰ a (x ∷ xs) × Memᴰ b (f a)
      later w = (w.0, Memᴰ.tail w.1, w.2)

  pub in_flat_map : (f : A → List B) {a : A} {l : List A} {b : B} → Memᴰ a l → Memᴰ b (f a) → Memᴰ b (flat_map f l)
  unfolding flat_map
  in_flat_map f {b = b} (Memᴰ.head {x} {xs} e) h = Memᴰ.append_left (flat_map f xs) (subst (λ y. Memᴰ b (f y)) e h)
  in_flat_map f (Memᴰ.tail {x} t) h = Memᴰ.append_right (f x) (in_flat_map f t h)

  pub match_weaken : {R S : A → B → Type 0} {xs : List A} {ys : List B} → ((a : A) (b : B) → Memᴰ a xs → R a b → S a b) → Match R xs ys → Match S xs ys
  match_weaken h ends = ends
  match_weaken h (pair {x} {y} r t) = pair (h x y (Memᴰ.head refl) r) (match_weaken (λ a b i. h a b (Memᴰ.tail i)) t)

  pub match_map : {R : A → B → Type 0} (g : A → B) (l : List A) → ((a : A) → Memᴰ a l → R a (g a)) → Match R l (map g l)
  match_map g [] h = ends
  match_map g (x ∷ xs) h = pair (h x (Memᴰ.head refl)) (match_map g xs (λ a i. h a (Memᴰ.tail i)))

  -- Paired lists, joined by a function that looks at the first alone.
  pub join_match : {C : Type 0} (f : A → B → List C) (g : A → List C) {xs : List A} {ys : List B} → Match (λ x y. f x y ≡ g x) xs ys → join f xs ys ≡ flat_map g xs
  unfolding join flat_map
  join_match f g ends = refl
  join_match f g (pair e t) = ap₂ ◌++◌ e (join_match f g t)

module _ {A B : Type 0} (g : A → List B) where
  pub product_member : (l : List A) {bs : List B} → Memᴰ bs (product (map g l)) → Match (λ a b. Memᴰ b (g a)) l bs
  unfolding product
  product_member [] h = subst (λ z. Match (λ a b. Memᴰ b (g a)) [] z) (sym (Memᴰ.eq_of_singleton h)) ends
  product_member (x ∷ xs) {bs} h =
      let u = flat_map_member (λ b. map (λ r. b ∷ r) (product (map g xs))) (g x) h in
      let v = map_member (λ r. u.0 ∷ r) (product (map g xs)) u.2 in
      subst (λ z. Match (λ a b. Memᴰ b (g a)) (x ∷ xs) z) (sym v.2) (pair u.1 (product_member xs v.1))

  pub in_product : {l : List A} {bs : List B} → Match (λ a b. Memᴰ b (g a)) l bs → Memᴰ bs (product (map g l))
  unfolding product
  in_product ends = Memᴰ.head refl
  in_product (pair {x} {y} {xs} {ys} h t) = in_flat_map (λ b. map (λ r. b ∷ r) (product (map g xs))) h (in_map (λ r. y ∷ r) (in_product t))

-- The plans that begin with the choice a.
abbrev pub block : (m : Model) (n s a : ℕ) → List (Plan (suc n))
block m n s a = map (λ qs. (a, qs)) (product (map (λ o. plans m n o.target) (outcomes m s a)))

pub block_member : (m : Model) (n s a : ℕ) {p : Plan (suc n)} → Memᴰ p (block m n s a)
    → (qs : List (Plan n)) × Memᴰ qs (product (map (λ o. plans m n o.target) (outcomes m s a))) × (p ≡ (a, qs))
block_member m n s a i = map_member {B = Plan (suc n)} (λ qs. (a, qs)) (product (map (λ o. plans m n o.target) (outcomes m s a))) i

-- A plan of n + 1 steps is an enabled choice with an n-step plan for each of its outcomes.
pub plan_member : (m : Model) (n s : ℕ) (p : Plan (suc n)) → Memᴰ p (plans m (suc n) s)
    → Memᴰ p.0 (enabled m s) × Match (λ o q. Memᴰ q (plans m n o.target)) (outcomes m s p.0) p.1
unfolding plans
plan_member m n s p h =
    let u = flat_map_member (block m n s) (enabled m s) h in
    let v = block_member m n s u.0 u.2 in
    subst (λ z. Memᴰ z.0 (enabled m s) × Match (λ o q. Memᴰ q (plans m n o.target)) (outcomes m s z.0) z.1) (sym v.2)
    (u.1, product_member (λ o. plans m n o.target) (outcomes m s u.0) v.1)

pub in_plans : (m : Model) (n s : ℕ) (p : Plan (suc n)) → Memᴰ p.0 (enabled m s)
    → Match (λ o q. Memᴰ q (plans m n o.target)) (outcomes m s p.0) p.1 → Memᴰ p (plans m (suc n) s)
unfolding plans
in_plans m n s p h t = in_flat_map (block m n s) h (in_map {B = Plan (suc n)} (λ qs. (p.0, qs)) (in_product (λ o. plans m n o.target) t))
