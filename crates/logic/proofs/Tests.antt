-- Tests that compute, and what they say. A test over a list or over the numbers below n passes exactly when it passes at each member
-- (`all`, `every`) or at some member (`any`, `some_below`, `find`); a tabulated list holds the function's values at its places.
use Prim.Native.Nat.{ℕ, zero, suc, ◌+◌, ◌<◌, ◌≤◌, suc-le-suc}
use native.Mathlib.Omega.{arith}
use native.Mathlib.Numerals.{add-one}
use native.Mathlib.Nat.{not-suc-le-zero, le_of_suc-le-suc, le_of_suc-le, eq-or-lt_of_le}
use mathlib.Core.Path.{◌≡◌, refl, sym, ap, ap₂, subst, ◌∙◌}
use mathlib.Core.Logic.{⊎_elim}
use mathlib.Core.Bool.{Bool, true, false, cond, ◌&&◌, ◌||◌, false≢true, or-true}
use mathlib.Core.Option.{none, some}
use mathlib.Core.List.Memᴰ
use mathlib.Core.List.{List, [], ◌∷◌, ◌++◌, map, map-append, Memᴰ}
use lib.Dec.{T, eqb, ltb, eqb→eq, eqb_refl, ltb→lt}
use lib.ListN.{length, get_or, length-map}
use Rattle.logic.specs.Lists.{is_empty, keep, any, all, find, count_from, tabulate, every, some_below}
use Rattle.logic.proofs.Members.{map_member, in_map}

-- ---- one test

pub T→true : (t : Bool) → T t → t ≡ true
T→true true h = refl
T→true false h = absurd h

pub true→T : {t : Bool} → t ≡ true → T t
true→T e = subst T (sym e) tt

pub and_left : (a b : Bool) → (a && b) ≡ true → a ≡ true
and_left true b e = refl
and_left false b e = e

pub and_right : (a b : Bool) → (a && b) ≡ true → b ≡ true
and_right true b e = e
and_right false b e = absurd (false≢true e)

pub and_both : (a b : Bool) → (a && b) ≡ true → (a ≡ true) × (b ≡ true)
and_both a b e = (and_left a b e, and_right a b e)

pub not_true : (t : Bool) → (t ≡ true → ⊥) → t ≡ false
not_true true h = absurd (h refl)
not_true false h = refl

pub same_test : (a b : Bool) → (a ≡ true → b ≡ true) → (b ≡ true → a ≡ true) → a ≡ b
same_test true b f g = sym (f refl)
same_test false b f g = sym (not_true b (λ e. false≢true (g e)))

pub eqb_eq : (a b : ℕ) → eqb a b ≡ true → a ≡ b
eqb_eq a b e = eqb→eq a b (true→T e)

pub eq_eqb : {a b : ℕ} → a ≡ b → eqb a b ≡ true
eq_eqb {a} e = subst (λ z. eqb a z ≡ true) e (T→true (eqb a a) (eqb_refl a))

pub ne_eqb : (a b : ℕ) → (a ≡ b → ⊥) → eqb a b ≡ false
ne_eqb a b h = not_true (eqb a b) (λ e. h (eqb_eq a b e))

pub ltb_lt : (a b : ℕ) → ltb a b ≡ true → a < b
ltb_lt a b e = ltb→lt a b (true→T e)

module _ {A : Type 0} where
  pub none≢some : {x : A} → none ≡ some x → ⊥
  none≢some e = let z : ◌≡◌ {A = ℕ} 0 1 = cc in omega arith

  pub some_same : {x y : A} → some x ≡ some y → x ≡ y
  some_same e = cc

-- ---- over a list

pub member_place : {A : Type 0} {a : A} {l : List A} → Memᴰ a l → (d : A) → (i : ℕ) × (i < length l) × (get_or l i d ≡ a)
member_place (Memᴰ.head e) d = (0, omega arith, sym e)
member_place (Memᴰ.tail t) d = let w = member_place t d in (suc w.0, suc-le-suc w.1, w.2)

pub length_empty : {A : Type 0} (l : List A) → length l ≡ 0 → is_empty l ≡ true
unfolding is_empty
length_empty [] h = refl
length_empty (x ∷ l) h = absurd (omega arith)

pub length_some : {A : Type 0} (l : List A) → 0 < length l → is_empty l ≡ false
unfolding is_empty
length_some [] h = absurd (omega arith)
length_some (x ∷ l) h = refl

pub get_or_member : {A : Type 0} (l : List A) (i : ℕ) (d : A) → i < length l → Memᴰ (get_or l i d) l
get_or_member [] i d h = absurd (omega arith)
get_or_member (x ∷ l) zero d h = Memᴰ.head refl
get_or_member (x ∷ l) (suc i) d h = Memᴰ.tail (get_or_member l i d (omega arith))

module _ {A : Type 0} (f : A → Bool) where
  pub all_true : (l : List A) → ((y : A) → Memᴰ y l → f y ≡ true) → all f l ≡ true
  unfolding all
  all_true [] h = refl
  all_true (x ∷ l) h = ap₂ ◌&&◌ (h x (Memᴰ.head refl)) (all_true l (λ y i. h y (Memᴰ.tail i)))

  pub all_at : (l : List A) → all f l ≡ true → {y : A} → Memᴰ y l → f y ≡ true
  unfolding all
  all_at [] e h = absurd (Memᴰ.not-nil h)
  all_at (x ∷ l) e h =
      ⊎_elim (λ q. ap f q ∙ and_left (f x) (all f l) e) (λ t. all_at l (and_right (f x) (all f l) e) t) (Memᴰ.cases_cons h)

  pub any_there : {a : A} {l : List A} → Memᴰ a l → f a ≡ true → any f l ≡ true
  unfolding any
  any_there (Memᴰ.head {x} {xs} e) h = ap (λ t. t || any f xs) (ap f (sym e) ∙ h)
  any_there (Memᴰ.tail {x} i) h = ap (λ t. f x || t) (any_there i h) ∙ or-true (f x)

  pub any_some : (l : List A) → any f l ≡ true → (a : A) × Memᴰ a l × (f a ≡ true)
  unfolding any
  any_some [] e = absurd (false≢true e)
  any_some (x ∷ l) e = pick (any_some l) (f x) refl e
    where
      pick : (any f l ≡ true → (a : A) × Memᴰ a l × (f a ≡ true)) → (t : Bool) → f x ≡ t → (t || any f l) ≡ true → (a : A) × Memᴰ a (x ∷ l) × (f a ≡ true)
      pick k true q h = (x, Memᴰ.head refl, q)
      pick k false q h = let w = k h in (w.0, Memᴰ.tail w.1, w.2)

  pub in_keep : {a : A} {l : List A} → Memᴰ a l → f a ≡ true → Memᴰ a (keep f l)
  unfolding keep
  in_keep {a = a} (Memᴰ.head {x} {xs} e) h = subst (λ t. Memᴰ a (cond t (x ∷ keep f xs) (keep f xs))) (sym (ap f (sym e) ∙ h)) (Memᴰ.head e)
  in_keep {a = a} (Memᴰ.tail {x} {xs} i) h = pick (f x) (in_keep i h)
    where
      pick : (t : Bool) → Memᴰ a (keep f xs) → Memᴰ a (cond t (x ∷ keep f xs) (keep f xs))
      pick true k = Memᴰ.tail k
      pick false k = k

  pub keep_member : (l : List A) {y : A} → Memᴰ y (keep f l) → Memᴰ y l × (f y ≡ true)
  unfolding keep
  keep_member [] h = absurd (Memᴰ.not-nil h)
  keep_member (x ∷ l) {y} h = pick (keep_member l) (f x) refl h
    where
      pick : (Memᴰ y (keep f l) → Memᴰ y l × (f y ≡ true)) → (t : Bool) → f x ≡ t
          → Memᴰ y (cond t (x ∷ keep f l) (keep f l)) → Memᴰ y (x ∷ l) × (f y ≡ true)
      pick k true q i = ⊎_elim (λ e. (Memᴰ.head e, ap f e ∙ q)) (λ t. let w = k t in (Memᴰ.tail w.0, w.1)) (Memᴰ.cases_cons i)
      pick k false q i = let w = k i in (Memᴰ.tail w.0, w.1)

  pub keep_append : (l r : List A) → keep f (l ++ r) ≡ keep f l ++ keep f r
  unfolding keep
  keep_append [] r = refl
  keep_append (x ∷ l) r = pick (f x) (keep_append l r)
    where
      pick : (t : Bool) → keep f (l ++ r) ≡ keep f l ++ keep f r → cond t (x ∷ keep f (l ++ r)) (keep f (l ++ r)) ≡ cond t (x ∷ keep f l) (keep f l) ++ keep f r
      pick true e = ap (λ (k : List A). x ∷ k) e
      pick false e = e

  pub keep_same : (g : A → Bool) (l : List A) → ((y : A) → Memᴰ y l → f y ≡ g y) → keep f l ≡ keep g l
  unfolding keep
  keep_same g [] h = refl
  keep_same g (x ∷ l) h =
      ap₂ (λ (t : Bool) (k : List A). cond t (x ∷ k) k) (h x (Memᴰ.head refl)) (keep_same g l (λ y i. h y (Memᴰ.tail i)))

  -- What is found is a member that passes the test.
  pub find_sound : (k : ℕ) (l : List A) {x : ℕ × A} → find f k l ≡ some x → Memᴰ x.1 l × (f x.1 ≡ true)
  unfolding find
  find_sound k [] e = absurd (none≢some e)
  find_sound k (y ∷ l) {x} e = pick (λ q. find_sound (suc k) l q) (f y) refl e
    where
      pick : (find f (suc k) l ≡ some x → Memᴰ x.1 l × (f x.1 ≡ true)) → (t : Bool) → f y ≡ t → cond t (some (k, y)) (find f (suc k) l) ≡ some x
          → Memᴰ x.1 (y ∷ l) × (f x.1 ≡ true)
      pick h true q e = subst (λ z. Memᴰ z.1 (y ∷ l) × (f z.1 ≡ true)) (some_same e) (Memᴰ.head refl, q)
      pick h false q e = let w = h e in (Memᴰ.tail w.0, w.1)

  -- Where a member passes, something is found.
  pub find_there : (k : ℕ) (l : List A) {a : A} → Memᴰ a l → f a ≡ true → (x : ℕ × A) × (find f k l ≡ some x)
  unfolding find
  find_there k [] h e = absurd (Memᴰ.not-nil h)
  find_there k (y ∷ l) {a} h e = pick (λ i. find_there (suc k) l i e) (f y) refl
    where
      pick : (Memᴰ a l → (x : ℕ × A) × (find f (suc k) l ≡ some x)) → (t : Bool) → f y ≡ t → (x : ℕ × A) × (cond t (some (k, y)) (find f (suc k) l) ≡ some x)
      pick g true q = ((k, y), refl)
      pick g false q = ⊎_elim (λ r. absurd (false≢true (sym q ∙ ap f (sym r) ∙ e))) g (Memᴰ.cases_cons h)

  pub find_none : (k : ℕ) (l : List A) → ((y : A) → Memᴰ y l → f y ≡ false) → find f k l ≡ none
  unfolding find
  find_none k [] h = refl
  find_none k (x ∷ l) h = ap (λ t. cond t (some (k, x)) (find f (suc k) l)) (h x (Memᴰ.head refl)) ∙ find_none (suc k) l (λ y i. h y (Memᴰ.tail i))

  module _ (d : A) where
    -- The first place that passes is found, with its count from c.
    pub find_at : (c k : ℕ) (l : List A) → k < length l → f (get_or l k d) ≡ true → ((j : ℕ) → j < k → f (get_or l j d) ≡ false) → find f c l ≡ some (c + k, get_or l k d)
    unfolding find
    find_at c k [] h e g = absurd (not-suc-le-zero h)
    find_at c zero (x ∷ l) h e g = ap (λ t. cond t (some (c, x)) (find f (suc c) l)) e ∙ ap (λ z. some (z, x)) (omega arith)
    find_at c (suc k) (x ∷ l) h e g =
        ap (λ t. cond t (some (c, x)) (find f (suc c) l)) (g 0 (omega arith))
        ∙ find_at (suc c) k l (le_of_suc-le-suc h) e (λ j i. g (suc j) (suc-le-suc i))
        ∙ ap (λ z. some (z, get_or l k d)) (omega arith)

    pub find_nowhere : (c : ℕ) (l : List A) → ((j : ℕ) → j < length l → f (get_or l j d) ≡ false) → find f c l ≡ none
    find_nowhere c l g = find_none c l (λ y i. let w = member_place i d in ap f (sym w.2) ∙ g w.0 w.1)

-- ---- over the numbers below n

module _ (f : ℕ → Bool) where
  pub every_at : (n : ℕ) → every n f ≡ true → {i : ℕ} → i < n → f i ≡ true
  unfolding every
  every_at zero e h = absurd (not-suc-le-zero h)
  every_at (suc n) e h =
      ⊎_elim (λ q. ap f q ∙ and_right (every n f) (f n) e) (λ l. every_at n (and_left (every n f) (f n) e) l) (eq-or-lt_of_le (le_of_suc-le-suc h))

  pub every_intro : (n : ℕ) → ((i : ℕ) → i < n → f i ≡ true) → every n f ≡ true
  unfolding every
  every_intro zero h = refl
  every_intro (suc n) h = ap₂ ◌&&◌ (every_intro n (λ i l. h i (omega arith))) (h n (omega arith))

  pub every_false : (n : ℕ) {i : ℕ} → i < n → f i ≡ false → every n f ≡ false
  every_false n h e = not_true (every n f) (λ a. false≢true (sym e ∙ every_at n a h))

  pub every_fails : (n : ℕ) → every n f ≡ false → (i : ℕ) × (i < n) × (f i ≡ false)
  unfolding every
  every_fails zero e = absurd (false≢true (sym e))
  every_fails (suc n) e = by (every n f) refl e (every_fails n)
    where
      by : (t : Bool) → every n f ≡ t → (t && f n) ≡ false → (every n f ≡ false → (i : ℕ) × (i < n) × (f i ≡ false)) → (i : ℕ) × (i < suc n) × (f i ≡ false)
      by true h e r = (n, omega arith, e)
      by false h e r = let w = r h in (w.0, omega (arith, w.1), w.2)

  pub some_below_at : (n : ℕ) {i : ℕ} → i < n → f i ≡ true → some_below n f ≡ true
  unfolding some_below
  some_below_at zero h e = absurd (not-suc-le-zero h)
  some_below_at (suc n) h e =
      ⊎_elim (λ q. ap (λ t. some_below n f || t) (ap f (sym q) ∙ e) ∙ or-true (some_below n f))
      (λ l. ap (λ t. t || f n) (some_below_at n l e)) (eq-or-lt_of_le (le_of_suc-le-suc h))

  pub some_below_index : (n : ℕ) → some_below n f ≡ true → (i : ℕ) × (i < n) × (f i ≡ true)
  unfolding some_below
  some_below_index zero e = absurd (false≢true e)
  some_below_index (suc n) e = pick (some_below_index n) (some_below n f) refl e
    where
      pick : (some_below n f ≡ true → (i : ℕ) × (i < n) × (f i ≡ true)) → (t : Bool) → some_below n f ≡ t → (t || f n) ≡ true → (i : ℕ) × (i < suc n) × (f i ≡ true)
      pick k true q h = let w = k q in (w.0, omega (arith, w.1), w.2)
      pick k false q h = (n, omega arith, h)

-- ---- tabulated lists

pub counted_in : (k n : ℕ) {i : ℕ} → k ≤ i → i < k + n → Memᴰ i (count_from k n)
unfolding count_from
counted_in k zero h l = absurd (omega arith)
counted_in k (suc n) h l = ⊎_elim (λ e. Memᴰ.head (sym e)) (λ u. Memᴰ.tail (counted_in (suc k) n u (omega arith))) (eq-or-lt_of_le h)

pub counted_range : (k n : ℕ) {i : ℕ} → Memᴰ i (count_from k n) → (k ≤ i) × (i < k + n)
unfolding count_from
counted_range k zero h = absurd (Memᴰ.not-nil h)
counted_range k (suc n) h =
    ⊎_elim (λ e. (omega arith, omega arith)) (λ t. let w = counted_range (suc k) n t in (le_of_suc-le w.0, omega (arith, w.1))) (Memᴰ.cases_cons h)

-- One number more, at the end.
pub count_more : (k n : ℕ) → count_from k (suc n) ≡ count_from k n ++ ((k + n) ∷ [])
unfolding count_from
count_more k zero = let e : k ≡ k + 0 = omega arith in ap (λ (x : ℕ). x ∷ []) e
count_more k (suc n) =
    let e : suc k + n ≡ k + suc n = omega arith in
    ap (λ (l : List ℕ). k ∷ l) (count_more (suc k) n ∙ ap (λ (x : ℕ). count_from (suc k) n ++ (x ∷ [])) e)

length_count : (k n : ℕ) → length (count_from k n) ≡ n
unfolding count_from
length_count k zero = refl
length_count k (suc n) = ap suc (length_count (suc k) n)

module _ {A : Type 0} (f : ℕ → A) where
  pub length_tabulate : (n : ℕ) → length (tabulate n f) ≡ n
  unfolding tabulate
  length_tabulate n = length-map (count_from 0 n) f ∙ length_count 0 n

  pub tabulate_more : (n : ℕ) → tabulate (suc n) f ≡ tabulate n f ++ (f n ∷ [])
  unfolding tabulate
  tabulate_more n =
      let e : 0 + n ≡ n = omega arith in
      ap (map f) (count_more 0 n) ∙ map-append f (count_from 0 n) ((0 + n) ∷ []) ∙ ap (λ (x : ℕ). map f (count_from 0 n) ++ (f x ∷ [])) e

  get_or_counted : (k n i : ℕ) (d : A) → i < n → get_or (map f (count_from k n)) i d ≡ f (k + i)
  unfolding count_from
  get_or_counted k zero i d h = absurd (not-suc-le-zero h)
  get_or_counted k (suc n) zero d h = ap f (omega arith)
  get_or_counted k (suc n) (suc i) d h = get_or_counted (suc k) n i d (le_of_suc-le-suc h) ∙ ap f (omega arith)

  pub get_or_tabulate : (n : ℕ) {i : ℕ} (d : A) → i < n → get_or (tabulate n f) i d ≡ f i
  unfolding tabulate
  get_or_tabulate n {i} d h = get_or_counted 0 n i d h ∙ ap f (omega arith)

  -- A test of all of a tabulated list is a test of every place.
  pub all_tabulate : (t : A → Bool) (n : ℕ) → all t (tabulate n f) ≡ every n (λ i. t (f i))
  unfolding tabulate
  all_tabulate t n =
      same_test _ _
      (λ e. every_intro _ n (λ i h. all_at t (map f (count_from 0 n)) e (in_map f (counted_in 0 n (omega arith) (omega arith)))))
      (λ e. all_true t _ (λ y i. let w = map_member f (count_from 0 n) i in ap t w.2 ∙ every_at (λ i. t (f i)) n e (omega (arith, (counted_range 0 n w.1).1))))

-- One number more is tested, as a loop does it.
module _ (f : ℕ → Bool) (i : ℕ) {r t : Bool} where
  pub every_more : r ≡ every i f → t ≡ f i → (r && t) ≡ every (i + 1) f
  unfolding every
  every_more e h = rw (add-one i) (ap₂ ◌&&◌ e h)

  pub some_more : r ≡ some_below i f → t ≡ f i → (r || t) ≡ some_below (i + 1) f
  unfolding some_below
  some_more e h = rw (add-one i) (ap₂ ◌||◌ e h)
