-- Lists that rise in an order, built by `++`, `map`, `flat_map` and `keep`. Blocks that rise, and of which each stands before all later
-- ones, rise together. A list that rises in "differs" has each element once.
use Prim.Native.Nat.{ℕ, zero, suc, ◌<◌}
use mathlib.Core.Path.{refl, sym, subst}
use mathlib.Core.Logic.{⊎_elim}
use mathlib.Core.Bool.{Bool, true, false, cond}
use mathlib.Core.List.Memᴰ
use mathlib.Core.List.{List, [], ◌∷◌, ◌++◌, map, flat_map, Memᴰ}
use Rattle.logic.specs.Lists.{keep, count_from}
use Rattle.logic.specs.Order.{Rising, nothing, first}
use Rattle.logic.proofs.Members.{map_member, flat_map_member}
use Rattle.logic.proofs.Tests.{keep_member, counted_range}

module _ {A : Type 0} (R : A → A → Type 0) where
  pub rising_one : (x : A) → Rising R (x ∷ [])
  rising_one x = first (λ y i. absurd (Memᴰ.not-nil i)) nothing

  rising_append : {l r : List A} → Rising R l → Rising R r → ((x y : A) → Memᴰ x l → Memᴰ y r → R x y) → Rising R (l ++ r)
  rising_append nothing b h = b
  rising_append (first {x} {l} k a) b h =
      first (λ y i. ⊎_elim (k y) (h x y (Memᴰ.head refl)) (Memᴰ.append_cases l i))
      (rising_append a b (λ x y i j. h x y (Memᴰ.tail i) j))

  pub rising_keep : (f : A → Bool) {l : List A} → Rising R l → Rising R (keep f l)
  unfolding keep
  rising_keep f nothing = nothing
  rising_keep f (first {x} {l} k a) = pick (f x) (rising_keep f a)
    where
      pick : (b : Bool) → Rising R (keep f l) → Rising R (cond b (x ∷ keep f l) (keep f l))
      pick true r = first (λ y i. k y (keep_member f l i).0) r
      pick false r = r

module _ {A B : Type 0} (R : A → A → Type 0) (S : B → B → Type 0) where
  pub rising_map : (g : A → B) → ((x y : A) → R x y → S (g x) (g y)) → {l : List A} → Rising R l → Rising S (map g l)
  rising_map g h nothing = nothing
  rising_map g h (first {x} {l} k a) =
      first (λ y i. let w = map_member g l i in subst (S (g x)) (sym w.2) (h x w.0 (k w.0 w.1))) (rising_map g h a)

  pub rising_flat_map : (g : A → List B) {l : List A} → ((x y : A) (u v : B) → Memᴰ x l → Memᴰ y l → R x y → Memᴰ u (g x) → Memᴰ v (g y) → S u v)
      → ((x : A) → Memᴰ x l → Rising S (g x)) → Rising R l → Rising S (flat_map g l)
  unfolding flat_map
  rising_flat_map g h k nothing = nothing
  rising_flat_map g h k (first {x} {l} p a) =
      rising_append S (k x (Memᴰ.head refl))
      (rising_flat_map g (λ x y u v i j. h x y u v (Memᴰ.tail i) (Memᴰ.tail j)) (λ y i. k y (Memᴰ.tail i)) a)
      (λ u v i j.
      let w = flat_map_member g l j in
      h x w.0 u v (Memᴰ.head refl) (Memᴰ.tail w.1) (p w.0 w.1) i w.2)

pub rising_weaken : {A : Type 0} (R S : A → A → Type 0) → ((x y : A) → R x y → S x y) → {l : List A} → Rising R l → Rising S l
rising_weaken R S h nothing = nothing
rising_weaken R S h (first {x} k a) = first (λ y i. h x y (k y i)) (rising_weaken R S h a)

pub rising_count : (k n : ℕ) → Rising (λ a b. a < b) (count_from k n)
unfolding count_from
rising_count k zero = nothing
rising_count k (suc n) = first (λ y i. (counted_range (suc k) n i).0) (rising_count (suc k) n)
