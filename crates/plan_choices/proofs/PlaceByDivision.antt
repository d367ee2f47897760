-- The plan at a place by division stands there in the list of plans: the block of each choice is as long as its ways to go on, and in a product
-- of lists the place of the first element is the quotient by the length of the product of the others, theirs the remainder.
use Prim.Native.Nat.{ℕ, zero, suc, ◌*◌, ◌-◌, ◌/◌, ◌%◌, ◌<◌, ◌≤◌}
use native.Mathlib.Omega.{arith}
use native.Mathlib.Nat.{not-suc-le-zero, le_of_suc-le-suc, div-eq_of_lt, mod-eq_of_lt, div-eq-sub-div, mod-eq-sub-mod, mod-lt, div-lt_iff_lt-mul, zero-mul, suc-mul, mul-zero}
use native.Mathlib.Numerals.{add-one}
use native.Mathlib.Decide.{dec_lt}
use mathlib.Core.Path.{◌≡◌, refl, sym, ap, ap₂, subst, ◌∙◌}
use mathlib.Core.Bool.{cond}
use mathlib.Core.List.{List, [], ◌∷◌, ◌++◌, map, flat_map}
use lib.Dec.{ltb}
use lib.ListN
use lib.ListN.{length, get_or, length-map, get_or-append}
use borrow.Author.Tests.{lt-ltb, le-ltb}
use Rattle.logic.specs.Lists.{product}
use Rattle.logic.specs.Model.{Model, Step, enabled, outcomes}
use Rattle.logic.specs.Plan.{Plan, plans}
use Rattle.logic.specs.Quantity.{naturals, sum}
use Rattle.logic.specs.Limits.{multiply, plan_total}
use Rattle.logic.proofs.Sums.{naturals_additive, sum_ext, sum_constant, length-flat_map}
use Rattle.logic.proofs.Dictionary.{plan_count}
use Rattle.logic.proofs.Members.{block}
use Rattle.plan_choices.specs.promises.Numbered.{block_of, parts_at, below, ways, plan_at}

pub positive : (x y : ℕ) {k : ℕ} → k < x * y → 0 < y
positive x zero h = omega (arith, mul-zero x)
positive x (suc y) h = omega arith

module _ {A : Type 0} where
  any_default : (l : List A) (k : ℕ) (d e : A) → k < length l → get_or l k d ≡ get_or l k e
  any_default [] k d e h = absurd (not-suc-le-zero h)
  any_default (x ∷ l) zero d e h = refl
  any_default (x ∷ l) (suc k) d e h = any_default l k d e (le_of_suc-le-suc h)

  -- Past the first of two lists.
  get_or_past : (l r : List A) (k : ℕ) (d : A) → length l ≤ k → get_or (l ++ r) k d ≡ get_or r (k - length l) d
  get_or_past [] r k d h = ap (λ z. get_or r z d) (omega arith)
  get_or_past (x ∷ l) r zero d h = absurd (not-suc-le-zero h)
  get_or_past (x ∷ l) r (suc k) d h = get_or_past l r k d (le_of_suc-le-suc h) ∙ ap (λ z. get_or r z d) (omega arith)

get_or_map : {A B : Type 0} (f : A → B) (l : List A) (k : ℕ) (d : B) (e : A) → k < length l → get_or (map f l) k d ≡ f (get_or l k e)
get_or_map f l k d e h = any_default (map f l) k d (f e) (subst (λ z. k < z) (sym (length-map l f)) h) ∙ ListN.get_or-map f l k e

-- ---- blocks of given sizes

module _ {B : Type 0} (size : ℕ → ℕ) (block : ℕ → List B) (d : B) (lengths : (a : ℕ) → length (block a) ≡ size a) where
  blocks_at : (l : List ℕ) (k : ℕ) → k < sum naturals size l
      → (get_or (flat_map block l) k d ≡ get_or (block (block_of size l k).0) (block_of size l k).1 d) × ((block_of size l k).1 < size (block_of size l k).0)
  unfolding flat_map block_of sum
  blocks_at [] k h = absurd (not-suc-le-zero h)
  blocks_at (a ∷ l) k h = go (λ i. blocks_at l (k - size a) i) (dec_lt k (size a))
    where
      Held : List B → ℕ → ℕ × ℕ → Type 0
      Held r j x = (get_or r j d ≡ get_or (block x.0) x.1 d) × (x.1 < size x.0)

      At : ℕ × ℕ → Type 0
      At x = Held (block a ++ flat_map block l) k x

      go : (k - size a < sum naturals size l → Held (flat_map block l) (k - size a) (block_of size l (k - size a)))
          → Dec (k < size a) → At (cond (ltb k (size a)) (a, k) (block_of size l (k - size a)))
      go r (yes i) =
          subst (λ t. At (cond t (a, k) (block_of size l (k - size a)))) (sym (lt-ltb k (size a) i))
          (get_or-append (block a) (flat_map block l) d k (subst (λ z. k < z) (sym (lengths a)) i), i)
      go r (no i) =
          let w = r (omega arith) in
          subst (λ t. At (cond t (a, k) (block_of size l (k - size a)))) (sym (le-ltb k (size a) (omega arith))) (
            get_or_past (block a) (flat_map block l) k d (subst (λ z. z ≤ k) (sym (lengths a)) (omega arith))
                ∙ ap (λ z. get_or (flat_map block l) (k - z) d) (lengths a)
                ∙ w.0,
            w.1,
          )

-- ---- products

module _ {B : Type 0} (P : List (List B)) (d : List B) (e : B) where
  -- In a grid of rows of one length: divide, and keep the remainder.
  grid_at : (l : List B) (k : ℕ) → k < length l * length P
      → get_or (flat_map (λ b. map (λ r. b ∷ r) P) l) k d ≡ get_or l (k / length P) e ∷ get_or P (k % length P) d
  unfolding flat_map
  grid_at [] k h = absurd (not-suc-le-zero (subst (λ z. k < z) (zero-mul (length P)) h))
  grid_at (b ∷ l) k h = go (λ i. grid_at l (k - length P) i) (dec_lt k (length P))
    where
      row : List (List B)
      row = map (λ r. b ∷ r) P

      rows : List (List B)
      rows = flat_map (λ b. map (λ r. b ∷ r) P) l

      go : (k - length P < length l * length P → get_or rows (k - length P) d ≡ get_or l ((k - length P) / length P) e ∷ get_or P ((k - length P) % length P) d)
          → Dec (k < length P) → get_or (row ++ rows) k d ≡ get_or (b ∷ l) (k / length P) e ∷ get_or P (k % length P) d
      go q (yes i) =
          get_or-append row rows d k (subst (λ z. k < z) (sym (length-map P (λ r. b ∷ r))) i)
          ∙ get_or_map (λ r. b ∷ r) P k d d i
          ∙ ap₂ (λ x y. get_or (b ∷ l) x e ∷ get_or P y d) (sym (div-eq_of_lt i)) (sym (mod-eq_of_lt i))
      go q (no f) =
          let i : length P ≤ k = omega arith in
          let n : 0 < length P = positive (suc (length l)) (length P) h in
          get_or_past row rows k d (subst (λ z. z ≤ k) (sym (length-map P (λ r. b ∷ r))) i)
          ∙ ap (λ z. get_or rows (k - z) d) (length-map P (λ r. b ∷ r))
          ∙ q (omega (arith, suc-mul (length l) (length P)))
          ∙ ap₂ (λ x y. get_or (b ∷ l) x e ∷ get_or P y d) (sym (add-one ((k - length P) / length P)) ∙ sym (div-eq-sub-div n i)) (sym (mod-eq-sub-mod i))

module _ {A B : Type 0} (g : A → List B) (t : A → ℕ) (lengths : (a : A) → length (g a) ≡ t a) where
  length_product : (l : List A) → length (product (map g l)) ≡ multiply t l
  unfolding product multiply
  length_product [] = refl
  length_product (x ∷ xs) =
      length-flat_map (λ b. map (λ r. b ∷ r) (product (map g xs))) (g x)
      ∙ sum_ext naturals naturals_additive _ _ (g x) (λ b. length-map (product (map g xs)) (λ r. b ∷ r))
      ∙ sum_constant (length (product (map g xs))) (g x)
      ∙ ap₂ ◌*◌ (lengths x) (length_product xs)

  module _ (f : A → ℕ → B) (e : B) (places : (a : A) (k : ℕ) → k < t a → get_or (g a) k e ≡ f a k) where
    products_at : (l : List A) (k : ℕ) (d : List B) → k < multiply t l → get_or (product (map g l)) k d ≡ parts_at t f l k
    unfolding product parts_at multiply
    products_at [] zero d h = refl
    products_at [] (suc k) d h = absurd (not-suc-le-zero (le_of_suc-le-suc h))
    products_at (x ∷ l) k d h =
        let n : length (product (map g l)) ≡ multiply t l = length_product l in
        let p : 0 < multiply t l = positive (t x) (multiply t l) h in
        grid_at (product (map g l)) d e (g x) k (subst (λ z. k < z) (sym (ap₂ ◌*◌ (lengths x) n)) h)
        ∙ ap (λ z. get_or (g x) (k / z) e ∷ get_or (product (map g l)) (k % z) d) n
        ∙ ap₂ {C = List B} ◌∷◌ (places x (k / multiply t l) ((div-lt_iff_lt-mul p).1 h)) (products_at l (k % multiply t l) d (mod-lt k p))

-- ---- plans

module _ (m : Model) where
  any_plan : (n : ℕ) → Plan n
  any_plan zero = tt
  any_plan (suc n) = (0, [])

  pub plan_at_is : (n s k : ℕ) (d : Plan n) → k < plan_total m n s → get_or (plans m n s) k d ≡ plan_at m n s k
  unfolding plans plan_at plan_total
  plan_at_is zero s zero d h = refl
  plan_at_is zero s (suc k) d h = absurd (not-suc-le-zero (le_of_suc-le-suc h))
  plan_at_is (suc n) s k d h =
      let g : Step → List (Plan n) = λ o. plans m n o.target in
      let count : (a : ℕ) → length (product (map g (outcomes m s a))) ≡ ways m n s a =
      λ a. length_product g (below m n) (λ o. plan_count m n o.target) (outcomes m s a) in
      let sized : (a : ℕ) → length (block m n s a) ≡ ways m n s a = λ a. length-map (product (map g (outcomes m s a))) (λ qs. (a, qs)) ∙ count a in
      let w = blocks_at {B = Plan (suc n)} (ways m n s) (block m n s) d sized (enabled m s) k h in
      let x : ℕ × ℕ = block_of (ways m n s) (enabled m s) k in
      let P : List (List (Plan n)) = product (map g (outcomes m s x.0)) in
      w.0
      ∙ get_or_map {B = Plan (suc n)} (λ qs. (x.0, qs)) P x.1 d [] (subst (λ z. x.1 < z) (sym (count x.0)) w.1)
      ∙ ap {B = Plan (suc n)} (λ qs. (x.0, qs))
      (products_at g (below m n) (λ o. plan_count m n o.target) (λ o i. plan_at m n o.target i) (any_plan n)
      (λ o i q. plan_at_is n o.target i (any_plan n) q) (outcomes m s x.0) x.1 [] w.1)
