-- Laws of whole numbers and lists that several layers cite: tests by one another, sums, products, and lists made one after the other.
use Prim.Native.Nat.{ℕ, zero, suc, ◌≤◌, ◌<◌}
use native.Mathlib.Nat.{le_refl, add-le-add, mul-pos}
use native.Mathlib.Omega.{arith}
use native.Mathlib.Decide.{dec_lt, ℕ_discrete}
use mathlib.Core.Path.{◌≡◌, refl, sym, ap, ap₂, ◌∙◌}
use mathlib.Core.Bool.{not, ◌&&◌}
use mathlib.Core.List.{List, [], ◌∷◌, ◌++◌, flat_map, append-nil, append_assoc, Memᴰ}
use lib.Dec.{eqb, leb, ltb}
use borrow.Author.Tests.{lt-ltb, le-ltb, le-leb, lt-leb, eq-eqb, ne_eqb}
use mathlib.Core.Logic.{◌⊎◌, inl, inr}
use Rattle.logic.specs.Quantity.{Quantity, naturals, sum, related}
use Rattle.logic.specs.Formula.{relation}
use Rattle.logic.specs.Limits.{multiply}

-- ---- tests

pub ltb_leb : (a b : ℕ) → ltb a b ≡ not (leb b a)
ltb_leb a b = go (dec_lt a b)
  where
    go : Dec (a < b) → ltb a b ≡ not (leb b a)
    go (yes l) = lt-ltb a b l ∙ sym (ap not (lt-leb b a l))
    go (no g) = le-ltb a b (omega arith) ∙ sym (ap not (le-leb b a (omega arith)))

pub eqb_leb : (a b : ℕ) → eqb a b ≡ (leb a b && leb b a)
eqb_leb a b = go (ℕ_discrete a b) (dec_lt a b)
  where
    go : Dec (a ≡ b) → Dec (a < b) → eqb a b ≡ (leb a b && leb b a)
    go (yes e) d = eq-eqb a b e ∙ sym (ap₂ ◌&&◌ (le-leb a b (omega arith)) (le-leb b a (omega arith)))
    go (no n) (yes l) = ne_eqb a b n ∙ sym (ap₂ ◌&&◌ (le-leb a b (omega arith)) (lt-leb b a l))
    go (no n) (no g) = ne_eqb a b n ∙ sym (ap (λ t. t && leb b a) (lt-leb a b (omega arith)))

-- ---- sums and products

pub sum_le : {A : Type 0} (f g : A → ℕ) (l : List A) → ((a : A) → f a ≤ g a) → sum naturals f l ≤ sum naturals g l
unfolding sum
sum_le f g [] h = le_refl 0
sum_le f g (x ∷ l) h = add-le-add (h x) (sum_le f g l h)

pub multiply_positive : {A : Type 0} (f : A → ℕ) (l : List A) → ((x : A) → Memᴰ x l → 0 < f x) → 0 < multiply f l
unfolding multiply
multiply_positive f [] h = omega arith
multiply_positive f (x ∷ l) h = mul-pos (h x (Memᴰ.head refl)) (multiply_positive f l (λ y i. h y (Memᴰ.tail i)))

-- ---- lists one after the other

pub flat_map_last : (f : ℕ → List ℕ) (l : List ℕ) (x : ℕ) → flat_map f (l ++ (x ∷ [])) ≡ flat_map f l ++ f x
unfolding flat_map
flat_map_last f [] x = append-nil (f x)
flat_map_last f (y ∷ l) x = ap (λ r. f y ++ r) (flat_map_last f l x) ∙ sym (append_assoc (f y) (flat_map f l) (f x))

-- ---- relations by their numbers

-- Numbers other than 0, 1 and 2 stand for "greater".
pub greater_by : (Q : Quantity) (k : ℕ) (a b : Q.Value) → (k ≡ 1 → ⊥) → ((k ≡ 0) ⊎ (k ≡ 2) → ⊥) → related Q (relation k) a b ≡ not (Q.at_most a b)
unfolding related relation
greater_by Q zero a b n1 n2 = absurd (n2 (inl refl))
greater_by Q (suc zero) a b n1 n2 = absurd (n1 refl)
greater_by Q (suc (suc zero)) a b n1 n2 = absurd (n2 (inr refl))
greater_by Q (suc (suc (suc k))) a b n1 n2 = refl
