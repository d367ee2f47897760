-- Laws of totals: over a list, and over the paths of a plan by the first step.
use Prim.Native.Nat.{ℕ, suc, ◌+◌, ◌*◌}
use native.Mathlib.Nat.{zero-add, add-zero, add_assoc, add_comm, mul-zero, mul-add, mul_assoc, one-mul, zero-mul, suc-mul}
use lib.ListN.{length, length-append}
use mathlib.Core.Path.{◌≡◌, refl, sym, ap, ap₂, ◌∙◌}
use mathlib.Core.List.{List, [], ◌∷◌, ◌++◌, map, flat_map}
use Rattle.logic.specs.Lists.{join}
use Rattle.logic.specs.Model.{Model, Step, outcomes}
use Rattle.logic.specs.Plan.{Plan, paths, weight}
use Rattle.logic.specs.Quantity.{Quantity, naturals, sum}
use Rattle.logic.specs.promises.Orders.{reversed}
use Rattle.logic.specs.Bound.{total}

-- What a quantity must obey for totals to split by the first step.
pub record Additive (Q : Quantity) : Type 0 where
  pub none_plus : (a : Q.Value) → Q.plus Q.none a ≡ a
  pub plus_none : (a : Q.Value) → Q.plus a Q.none ≡ a
  pub plus_assoc : (a b c : Q.Value) → Q.plus (Q.plus a b) c ≡ Q.plus a (Q.plus b c)
  pub times_none : (k : ℕ) → Q.times k Q.none ≡ Q.none
  pub times_plus : (k : ℕ) (a b : Q.Value) → Q.times k (Q.plus a b) ≡ Q.plus (Q.times k a) (Q.times k b)
  pub times_times : (j k : ℕ) (a : Q.Value) → Q.times (j * k) a ≡ Q.times j (Q.times k a)
  pub one_times : (a : Q.Value) → Q.times 1 a ≡ a

pub naturals_additive : Additive naturals
naturals_additive =
    record {
      none_plus = zero-add;
      plus_none = add-zero;
      plus_assoc = add_assoc;
      times_none = mul-zero;
      times_plus = mul-add;
      times_times = mul_assoc;
      one_times = one-mul;
    }

module _ (Q : Quantity) where
  -- The sum over two lists of one length, pairwise.
  unfoldable pub sum_pairs : {A B : Type 0} → (A → B → Q.Value) → List A → List B → Q.Value
  sum_pairs f [] ys = Q.none
  sum_pairs f (x ∷ xs) [] = Q.none
  sum_pairs f (x ∷ xs) (y ∷ ys) = Q.plus (f x y) (sum_pairs f xs ys)

module _ (Q : Quantity) (L : Additive Q) where
  module _ {A : Type 0} where
    pub sum-append : (f : A → Q.Value) (l r : List A) → sum Q f (l ++ r) ≡ Q.plus (sum Q f l) (sum Q f r)
    unfolding sum
    sum-append f [] r = sym (L.none_plus (sum Q f r))
    sum-append f (x ∷ xs) r = ap (Q.plus (f x)) (sum-append f xs r) ∙ sym (L.plus_assoc (f x) (sum Q f xs) (sum Q f r))

    pub sum_ext : (f g : A → Q.Value) (l : List A) → ((a : A) → f a ≡ g a) → sum Q f l ≡ sum Q g l
    unfolding sum
    sum_ext f g [] h = refl
    sum_ext f g (x ∷ xs) h = ap₂ Q.plus (h x) (sum_ext f g xs h)

    pub sum_times : (k : ℕ) (f : A → Q.Value) (l : List A) → sum Q (λ x. Q.times k (f x)) l ≡ Q.times k (sum Q f l)
    unfolding sum
    sum_times k f [] = sym (L.times_none k)
    sum_times k f (x ∷ xs) = ap (Q.plus (Q.times k (f x))) (sum_times k f xs) ∙ sym (L.times_plus k (f x) (sum Q f xs))

  pub sum-map : {A B : Type 0} (f : B → Q.Value) (g : A → B) (l : List A) → sum Q f (map g l) ≡ sum Q (λ a. f (g a)) l
  unfolding sum
  sum-map f g [] = refl
  sum-map f g (x ∷ xs) = ap (Q.plus (f (g x))) (sum-map f g xs)

  module _ {A B : Type 0} where
    pub sum_join : {C : Type 0} (f : C → Q.Value) (g : A → B → List C) (xs : List A) (ys : List B)
        → sum Q f (join g xs ys) ≡ sum_pairs Q (λ x y. sum Q f (g x y)) xs ys
    unfolding sum join sum_pairs
    sum_join f g [] ys = refl
    sum_join f g (x ∷ xs) [] = refl
    sum_join f g (x ∷ xs) (y ∷ ys) = sum-append f (g x y) (join g xs ys) ∙ ap (Q.plus (sum Q f (g x y))) (sum_join f g xs ys)

    pub sum_pairs_ext : (f g : A → B → Q.Value) (xs : List A) (ys : List B) → ((a : A) (b : B) → f a b ≡ g a b) → sum_pairs Q f xs ys ≡ sum_pairs Q g xs ys
    unfolding sum_pairs
    sum_pairs_ext f g [] ys h = refl
    sum_pairs_ext f g (x ∷ xs) [] h = refl
    sum_pairs_ext f g (x ∷ xs) (y ∷ ys) h = ap₂ Q.plus (h x y) (sum_pairs_ext f g xs ys h)

  module _ (m : Model) where
    -- The total of a plan, by its first step: the steps taken stand in the value.
    pub total_zero : (s : ℕ) (p : Plan 0) (f : List Step → Q.Value) → total Q m 0 s p f ≡ f []
    unfolding total paths sum weight
    total_zero s p f = ap (λ v. Q.plus v Q.none) (L.one_times (f [])) ∙ L.plus_none (f [])

    pub total_step : (n s : ℕ) (p : Plan (suc n)) (f : List Step → Q.Value)
        → total Q m (suc n) s p f
        ≡ sum_pairs Q (λ o q. Q.times o.weight (total Q m n o.target q (λ r. f (o ∷ r)))) (outcomes m s p.0) p.1
    unfolding total paths weight
    total_step n s p f =
        sum_join (λ r. Q.times (weight r) (f r)) (λ o q. map (λ r. o ∷ r) (paths m n o.target q)) (outcomes m s p.0) p.1
        ∙ sum_pairs_ext _ _ (outcomes m s p.0) p.1 (λ o q. first o (paths m n o.target q))
      where
        first : (o : Step) (l : List (List Step))
            → sum Q (λ r. Q.times (weight r) (f r)) (map (λ r. o ∷ r) l) ≡ Q.times o.weight (sum Q (λ r. Q.times (weight r) (f (o ∷ r))) l)
        first o l =
            sum-map (λ r. Q.times (weight r) (f r)) (λ r. o ∷ r) l
            ∙ sum_ext _ _ l (λ r. L.times_times o.weight (weight r) (f (o ∷ r)))
            ∙ sum_times o.weight (λ r. Q.times (weight r) (f (o ∷ r))) l

-- Reversing the order of a quantity changes no sum.
pub reversed_additive : (Q : Quantity) → Additive Q → Additive (reversed Q)
reversed_additive Q L =
    record {
      none_plus = L.none_plus;
      plus_none = L.plus_none;
      plus_assoc = L.plus_assoc;
      times_none = L.times_none;
      times_plus = L.times_plus;
      times_times = L.times_times;
      one_times = L.one_times;
    }

pub sum_reversed : (Q : Quantity) {A : Type 0} (f : A → Q.Value) (l : List A) → sum (reversed Q) f l ≡ sum Q f l
unfolding sum
sum_reversed Q f [] = refl
sum_reversed Q f (x ∷ l) = ap (Q.plus (f x)) (sum_reversed Q f l)

pub sum_constant : {A : Type 0} (k : ℕ) (l : List A) → sum naturals (λ a. k) l ≡ length l * k
unfolding sum
sum_constant k [] = sym (zero-mul k)
sum_constant k (x ∷ xs) = ap (λ z. k + z) (sum_constant k xs) ∙ add_comm k (length xs * k) ∙ sym (suc-mul (length xs) k)

pub length-flat_map : {A B : Type 0} (f : A → List B) (l : List A) → length (flat_map f l) ≡ sum naturals (λ a. length (f a)) l
unfolding flat_map sum
length-flat_map f [] = refl
length-flat_map f (x ∷ xs) = length-append (f x) (flat_map f xs) ∙ ap (λ k. length (f x) + k) (length-flat_map f xs)
