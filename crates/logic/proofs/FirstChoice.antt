-- The first of the best choices, by a value of choices under an order: it is one of them, it is the same by another value of the same order, and
-- among choices of one value it is the first. With the lists and sums that a step over all outcomes makes.
use Prim.Native.Nat.{ℕ, ◌+◌, ◌*◌}
use native.Mathlib.Omega.{arith}
use mathlib.Core.Path.{◌≡◌, refl, sym, ap, ap₂, subst, ◌∙◌}
use mathlib.Core.Bool.{Bool, true, false, cond}
use mathlib.Core.List.{List, [], ◌∷◌, map, Memᴰ}
use Rattle.logic.specs.Lists.{join}
use Rattle.logic.specs.Model.{Step}
use Rattle.logic.specs.Quantity.{naturals, sum}
use Rattle.logic.specs.promises.Orders.{weights}
use Rattle.logic.specs.promises.Recursion.{first_best, best_choice}

-- ---- lists

pub map_same : {A B : Type 0} (f g : A → B) (l : List A) → ((x : A) → Memᴰ x l → f x ≡ g x) → map f l ≡ map g l
map_same f g [] h = refl
map_same f g (x ∷ l) h = ap₂ ◌∷◌ (h x (Memᴰ.head refl)) (map_same f g l (λ y i. h y (Memᴰ.tail i)))

pub join_map : {A B C : Type 0} (f : A → B → C) (g : A → B) (l : List A) → join (λ x y. f x y ∷ []) l (map g l) ≡ map (λ x. f x (g x)) l
unfolding join
join_map f g [] = refl
join_map f g (x ∷ l) = ap (λ z. f x (g x) ∷ z) (join_map f g l)

pub sum_any : (le : ℕ → ℕ → Bool) (f : Step → ℕ) (l : List Step) → sum (weights le) f l ≡ sum naturals f l
unfolding sum
sum_any le f [] = refl
sum_any le f (x ∷ l) = ap (λ z. f x + z) (sum_any le f l)

pub sum_scaled : (k : ℕ) (f g : Step → ℕ) (l : List Step) → ((o : Step) → Memᴰ o l → f o ≡ k * g o) → sum naturals f l ≡ k * sum naturals g l
unfolding sum
sum_scaled k f g [] h = omega arith
sum_scaled k f g (o ∷ l) h =
    let i = sum_scaled k f g l (λ x j. h x (Memᴰ.tail j)) in
    let j = h o (Memᴰ.head refl) in
    omega arith

-- ---- first_best choices

module _ (le : ℕ → ℕ → Bool) where
  first_best_in : (v : ℕ → ℕ) (x : ℕ) (l : List ℕ) → Memᴰ (first_best (weights le) v x l) (x ∷ l)
  unfolding first_best
  first_best_in v x [] = Memᴰ.head refl
  first_best_in v x (y ∷ l) = pick (le (v (first_best (weights le) v y l)) (v x)) (first_best_in v y l)
    where
      pick : (t : Bool) → Memᴰ (first_best (weights le) v y l) (y ∷ l) → Memᴰ (cond t x (first_best (weights le) v y l)) (x ∷ y ∷ l)
      pick true i = Memᴰ.head refl
      pick false i = Memᴰ.tail i

  -- By another value that has the same order.
  first_best_same : (u v : ℕ → ℕ) (x : ℕ) (l : List ℕ) → ((a b : ℕ) → Memᴰ a (x ∷ l) → Memᴰ b (x ∷ l) → le (u a) (u b) ≡ le (v a) (v b))
      → first_best (weights le) u x l ≡ first_best (weights le) v x l
  unfolding first_best
  first_best_same u v x [] h = refl
  first_best_same u v x (y ∷ l) h =
      let b : ℕ = first_best (weights le) v y l in
      ap (λ z. cond (le (u z) (u x)) x z) (first_best_same u v y l (λ a b i j. h a b (Memᴰ.tail i) (Memᴰ.tail j)))
      ∙ ap (λ t. cond t x b) (h b x (Memᴰ.tail (first_best_in v y l)) (Memᴰ.head refl))

  -- Among choices of one worth the first leads.
  pub first_best_constant : ((a : ℕ) → le a a ≡ true) → (c : ℕ) (v : ℕ → ℕ) (x : ℕ) (l : List ℕ) → ((a : ℕ) → Memᴰ a (x ∷ l) → v a ≡ c)
      → first_best (weights le) v x l ≡ x
  unfolding first_best
  first_best_constant self c v x [] h = refl
  first_best_constant self c v x (y ∷ l) h =
      let b : ℕ = first_best (weights le) v y l in
      ap (λ t. cond t x b) (ap₂ le (h b (Memᴰ.tail (first_best_in v y l))) (h x (Memᴰ.head refl)) ∙ self c)

  pub choice_in : (v : ℕ → ℕ) (l : List ℕ) → (a : ℕ) × (k : List ℕ) × (l ≡ a ∷ k) → Memᴰ (best_choice (weights le) v l) l
  unfolding best_choice
  choice_in v l h = subst (λ z. Memᴰ (best_choice (weights le) v z) z) (sym h.2) (first_best_in v h.0 h.1)

  pub choice_same : (u v : ℕ → ℕ) (l : List ℕ) → (a : ℕ) × (k : List ℕ) × (l ≡ a ∷ k)
      → ((a b : ℕ) → Memᴰ a l → Memᴰ b l → le (u a) (u b) ≡ le (v a) (v b)) → best_choice (weights le) u l ≡ best_choice (weights le) v l
  unfolding best_choice
  choice_same u v l h =
      subst
      (λ z. ((a b : ℕ) → Memᴰ a z → Memᴰ b z → le (u a) (u b) ≡ le (v a) (v b)) → best_choice (weights le) u z ≡ best_choice (weights le) v z)
      (sym h.2) (first_best_same u v h.0 h.1)
