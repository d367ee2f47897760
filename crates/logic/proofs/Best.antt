-- The first of the greatest elements of a list, over any ordered quantity, and how it is found in a list made of lists: in blocks, it is
-- the best of the best block; in a product of lists weighed by numbers of at least 1, it is the list of the bests.
use Prim.Native.Nat.{ℕ, ◌<◌}
use mathlib.Core.Path.{◌≡◌, refl, sym, subst}
use mathlib.Core.Logic.{⊎_elim}
use mathlib.Core.Bool.{Bool, true, false, not, cond}
use mathlib.Core.List.Memᴰ
use mathlib.Core.List.{List, [], ◌∷◌, ◌++◌, map, flat_map, Memᴰ}
use lib.Dec.{T, leb, leb→le, le→leb, nleb→lt, not_T, T_not}
use native.Mathlib.Nat.{le_refl, le_trans, le_of_lt, not-le_of_lt, add-le-add, add-lt-add_of_lt_of_le, add-lt-add_of_le_of_lt, mul-le-mul_left, mul-lt-mul_of_pos_left}
use Rattle.logic.specs.Lists.{product}
use Rattle.logic.specs.Quantity.{Quantity, naturals}
use Rattle.logic.specs.promises.Orders.{reversed}
use Rattle.logic.specs.promises.Recursion.{first_best}
use Rattle.logic.proofs.Members.{map_member, flat_map_member}
use Rattle.logic.proofs.Sums.{sum_pairs}

abbrev pub Le : (Q : Quantity) → Q.Value → Q.Value → Type 0
Le Q a b = T (Q.at_most a b)

abbrev pub Lt : (Q : Quantity) → Q.Value → Q.Value → Type 0
Lt Q a b = T (not (Q.at_most b a))

pub record Ordered (Q : Quantity) : Type 0 where
  pub le_self : (a : Q.Value) → Le Q a a
  pub trans : (a b c : Q.Value) → Le Q a b → Le Q b c → Le Q a c
  pub lt_le : (a b : Q.Value) → Lt Q a b → Le Q a b
  pub plus_le : (a b c d : Q.Value) → Le Q a b → Le Q c d → Le Q (Q.plus a c) (Q.plus b d)
  pub plus_lt_le : (a b c d : Q.Value) → Lt Q a b → Le Q c d → Lt Q (Q.plus a c) (Q.plus b d)
  pub plus_le_lt : (a b c d : Q.Value) → Le Q a b → Lt Q c d → Lt Q (Q.plus a c) (Q.plus b d)
  pub times_le : (k : ℕ) (a b : Q.Value) → Le Q a b → Le Q (Q.times k a) (Q.times k b)
  pub times_lt : (k : ℕ) (a b : Q.Value) → 0 < k → Lt Q a b → Lt Q (Q.times k a) (Q.times k b)

-- The least of a quantity is the greatest of it reversed.
pub reversed_ordered : (Q : Quantity) → Ordered Q → Ordered (reversed Q)
reversed_ordered Q O =
    record {
      le_self = O.le_self;
      trans = λ a b c p q. O.trans c b a q p;
      lt_le = λ a b p. O.lt_le b a p;
      plus_le = λ a b c d p q. O.plus_le b a d c p q;
      plus_lt_le = λ a b c d p q. O.plus_lt_le b a d c p q;
      plus_le_lt = λ a b c d p q. O.plus_le_lt b a d c p q;
      times_le = λ k a b p. O.times_le k b a p;
      times_lt = λ k a b h p. O.times_lt k b a h p;
    }

lt→nleb : (a b : ℕ) → a < b → T (not (leb b a))
lt→nleb a b h = not_T (leb b a) (λ t. not-le_of_lt h (leb→le b a t))

pub naturals_ordered : Ordered naturals
naturals_ordered =
    record {
      le_self = λ a. le→leb a a (le_refl a);
      trans = λ a b c p q. le→leb a c (le_trans (leb→le a b p) (leb→le b c q));
      lt_le = λ a b p. le→leb a b (le_of_lt (nleb→lt b a p));
      plus_le = λ a b c d p q. le→leb _ _ (add-le-add (leb→le a b p) (leb→le c d q));
      plus_lt_le = λ a b c d p q. lt→nleb _ _ (add-lt-add_of_lt_of_le (nleb→lt b a p) (leb→le c d q));
      plus_le_lt = λ a b c d p q. lt→nleb _ _ (add-lt-add_of_le_of_lt (leb→le a b p) (nleb→lt d c q));
      times_le = λ k a b p. le→leb _ _ (mul-le-mul_left k (leb→le a b p));
      times_lt = λ k a b h p. lt→nleb _ _ (mul-lt-mul_of_pos_left (nleb→lt b a p) h);
    }

module _ (Q : Quantity) where
  -- x is the first of the elements of the list that have the greatest value.
  pub data Best {A : Type 0} (v : A → Q.Value) : List A → A → Type 0 where
    here : {x : A} {l : List A} → ((y : A) → Memᴰ y l → Le Q (v y) (v x)) → Best v (x ∷ l) x
    later : {x y : A} {l : List A} → Lt Q (v y) (v x) → Best v l x → Best v (y ∷ l) x

module _ (Q : Quantity) (O : Ordered Q) where
  pub le_lt : (a b c : Q.Value) → Le Q a b → Lt Q b c → Lt Q a c
  le_lt a b c p q = not_T (Q.at_most c a) (λ t. T_not (Q.at_most c b) q (O.trans c a b t p))

  module _ {A : Type 0} where
    pub best_le : (v : A → Q.Value) {l : List A} {x : A} → Best Q v l x → (y : A) → Memᴰ y l → Le Q (v y) (v x)
    best_le v (here {x} h) y i = ⊎_elim (λ e. subst (λ z. Le Q (v z) (v x)) (sym e) (O.le_self (v x))) (h y) (Memᴰ.cases_cons i)
    best_le v (later {x} {y = z} p b) y i = ⊎_elim (λ e. subst (λ u. Le Q (v u) (v x)) (sym e) (O.lt_le (v z) (v x) p)) (best_le v b y) (Memᴰ.cases_cons i)

    pub best_member : (v : A → Q.Value) {l : List A} {x : A} → Best Q v l x → Memᴰ x l
    best_member v (here h) = Memᴰ.head refl
    best_member v (later p b) = Memᴰ.tail (best_member v b)

    pub first_best_is : (v : A → Q.Value) (x : A) (l : List A) → Best Q v (x ∷ l) (first_best Q v x l)
    unfolding first_best
    first_best_is v x [] = here (λ y i. absurd (Memᴰ.not-nil i))
    first_best_is v x (y ∷ l) = pick (first_best Q v y l) (first_best_is v y l) (Q.at_most (v (first_best Q v y l)) (v x)) refl
      where
        pick : (b : A) → Best Q v (y ∷ l) b → (t : Bool) → Q.at_most (v b) (v x) ≡ t → Best Q v (x ∷ y ∷ l) (cond t x b)
        pick b h true e = here (λ z i. O.trans (v z) (v b) (v x) (best_le v h z i) (subst T (sym e) tt))
        pick b h false e = later (subst (λ t. T (not t)) (sym e) tt) h

    pub best_left : (v : A → Q.Value) {l : List A} {x : A} (r : List A) → Best Q v l x → ((y : A) → Memᴰ y r → Le Q (v y) (v x)) → Best Q v (l ++ r) x
    best_left v r (here {x} {l} h) k = here (λ y i. ⊎_elim (h y) (k y) (Memᴰ.append_cases l i))
    best_left v r (later p b) k = later p (best_left v r b k)

    pub best_right : (v : A → Q.Value) (l : List A) {r : List A} {x : A} → Best Q v r x → ((y : A) → Memᴰ y l → Lt Q (v y) (v x)) → Best Q v (l ++ r) x
    best_right v [] b k = b
    best_right v (y ∷ l) b k = later (k y (Memᴰ.head refl)) (best_right v l b (λ z i. k z (Memᴰ.tail i)))

    -- Another value that goes up and down with the first has the same best element.
    pub best_mono : (v u : A → Q.Value) → ((a b : A) → Le Q (v a) (v b) → Le Q (u a) (u b)) → ((a b : A) → Lt Q (v a) (v b) → Lt Q (u a) (u b))
        → {l : List A} {x : A} → Best Q v l x → Best Q u l x
    best_mono v u f g (here {x} h) = here (λ y i. f y x (h y i))
    best_mono v u f g (later {x} {y} p b) = later (g y x p) (best_mono v u f g b)

  pub best_map : {A B : Type 0} (v : B → Q.Value) (g : A → B) {l : List A} {x : A} → Best Q (λ a. v (g a)) l x → Best Q v (map g l) (g x)
  best_map v g (here {x} {l} h) = here (λ y i. let w = map_member g l i in subst (λ z. Le Q (v z) (v (g x))) (sym w.2) (h w.0 w.1))
  best_map v g (later p b) = later p (best_map v g b)

  -- The best of blocks, one for each choice, is the block's best for the best choice.
  pub best_blocks : {A B : Type 0} (t : B → Q.Value) (block : A → List B) (c : A → B) {l : List A} {x : A}
      → ((a : A) → Memᴰ a l → Best Q t (block a) (c a)) → Best Q (λ a. t (c a)) l x → Best Q t (flat_map block l) (c x)
  unfolding flat_map
  best_blocks t block c k (here {x} {l} h) =
      best_left t (flat_map block l) (k x (Memᴰ.head refl))
      (λ z i. let w = flat_map_member block l i in
      O.trans (t z) (t (c w.0)) (t (c x)) (best_le t (k w.0 (Memᴰ.tail w.1)) z w.2) (h w.0 w.1))
  best_blocks t block c k (later {x} {y} p b) =
      best_right t (block y) (best_blocks t block c (λ a i. k a (Memᴰ.tail i)) b)
      (λ z i. le_lt (t z) (t (c y)) (t (c x)) (best_le t (k y (Memᴰ.head refl)) z i) p)

  -- The best of a product is the product of the bests.
  module _ {A B : Type 0} (w : A → ℕ) (v : A → B → Q.Value) (g : A → List B) (c : A → B) where
    value : List A → List B → Q.Value
    value l bs = sum_pairs Q (λ a b. Q.times (w a) (v a b)) l bs

    best_pairs : (x : A) (xs : List A) (ys : List (List B)) (zs : List B) → 0 < w x → Best Q (value xs) ys zs
        → {l : List B} {y : B} → Best Q (v x) l y → Best Q (value (x ∷ xs)) (flat_map (λ b. map (λ r. b ∷ r) ys) l) (y ∷ zs)
    unfolding flat_map value sum_pairs
    best_pairs x xs ys zs pos h (here {x = y} {l} k) =
        best_left (value (x ∷ xs)) (flat_map (λ b. map (λ r. b ∷ r) ys) l) (best_head x xs ys zs y h)
        (λ u i.
        let p = flat_map_member (λ b. map (λ r. b ∷ r) ys) l i in
        let q = map_member (λ r. p.0 ∷ r) ys p.2 in
        subst (λ z. Le Q (value (x ∷ xs) z) (value (x ∷ xs) (y ∷ zs))) (sym q.2)
        (O.plus_le _ _ _ _ (O.times_le (w x) _ _ (k p.0 p.1)) (best_le (value xs) h q.0 q.1)))
      where
        best_head : (x : A) (xs : List A) (ys : List (List B)) (zs : List B) (y : B)
            → Best Q (value xs) ys zs → Best Q (value (x ∷ xs)) (map (λ r. y ∷ r) ys) (y ∷ zs)
        best_head x xs ys zs y h =
            best_map (value (x ∷ xs)) (λ r. y ∷ r)
            (best_mono (value xs) (λ r. value (x ∷ xs) (y ∷ r)) (λ a b p. O.plus_le _ _ _ _ (O.le_self _) p) (λ a b p. O.plus_le_lt _ _ _ _ (O.le_self _) p) h)
    best_pairs x xs ys zs pos h (later {x = y} {y = u} p b) =
        best_right (value (x ∷ xs)) (map (λ r. u ∷ r) ys) (best_pairs x xs ys zs pos h b)
        (λ e i.
        let q = map_member (λ r. u ∷ r) ys i in
        subst (λ z. Lt Q (value (x ∷ xs) z) (value (x ∷ xs) (y ∷ zs))) (sym q.2)
        (O.plus_lt_le _ _ _ _ (O.times_lt (w x) _ _ pos p) (best_le (value xs) h q.0 q.1)))

    pub best_product : (l : List A) → ((a : A) → Memᴰ a l → 0 < w a) → ((a : A) → Memᴰ a l → Best Q (v a) (g a) (c a))
        → Best Q (λ bs. sum_pairs Q (λ a b. Q.times (w a) (v a b)) l bs) (product (map g l)) (map c l)
    unfolding product value
    best_product [] pos h = here (λ y i. absurd (Memᴰ.not-nil i))
    best_product (x ∷ xs) pos h =
        best_pairs x xs (product (map g xs)) (map c xs) (pos x (Memᴰ.head refl))
        (best_product xs (λ a i. pos a (Memᴰ.tail i)) (λ a i. h a (Memᴰ.tail i))) (h x (Memᴰ.head refl))
