-- The list of plans is every plan, once, in dictionary order of the choices, and as long as the plan total says. Plans that begin with a
-- smaller choice stand before those with a greater one; below one choice the product of rising lists rises.
use Prim.Native.Nat.{ℕ, zero, suc, ◌*◌, ◌<◌}
use native.Mathlib.Omega.{arith}
use mathlib.Core.Path.{◌≡◌, refl, sym, ap, ap₂, subst, ◌∙◌}
use mathlib.Core.Logic.{◌↔◌}
use mathlib.Core.Bool.{Bool, true, false, cond}
use mathlib.Core.List.{List, [], ◌∷◌, ◌++◌, map, flat_map, Memᴰ}
use lib.ListN.{length, length-map}
use Rattle.logic.specs.Lists.{product}
use Rattle.logic.specs.Model.{Model, silent, enabled_actions, deadlocked, enabled, outcomes}
use Rattle.logic.specs.Plan.{Plan, plans, choices}
use Rattle.logic.specs.Order.{Before, differ, agree, Rising, IsPlan}
use Rattle.logic.specs.Quantity.{naturals}
use Rattle.logic.specs.Limits.{multiply, plan_total}
use Rattle.logic.proofs.Members.{map_member, match_weaken, block, block_member, plan_member, in_plans}
use Rattle.logic.proofs.Sums.{naturals_additive, sum_ext, sum_constant, length-flat_map}
use Rattle.logic.proofs.Rising.{rising_one, rising_map, rising_flat_map, rising_keep, rising_weaken, rising_count}

-- ---- the count

length_product : {A B : Type 0} (g : A → List B) (t : A → ℕ) → ((a : A) → length (g a) ≡ t a) → (l : List A) → length (product (map g l)) ≡ multiply t l
unfolding product multiply
length_product g t h [] = refl
length_product g t h (x ∷ xs) =
    length-flat_map (λ b. map (λ r. b ∷ r) (product (map g xs))) (g x)
    ∙ sum_ext naturals naturals_additive _ _ (g x) (λ b. length-map (product (map g xs)) (λ r. b ∷ r))
    ∙ sum_constant (length (product (map g xs))) (g x)
    ∙ ap₂ ◌*◌ (h x) (length_product g t h xs)

pub plan_count : (m : Model) (n s : ℕ) → length (plans m n s) ≡ plan_total m n s
unfolding plans plan_total
plan_count m zero s = refl
plan_count m (suc n) s =
    length-flat_map (block m n s) (enabled m s)
    ∙ sum_ext naturals naturals_additive _ _ (enabled m s)
    (λ a.
    length-map (product (map (λ o. plans m n o.target) (outcomes m s a))) (λ qs. (a, qs))
    ∙ length_product (λ o. plans m n o.target) (λ o. plan_total m n o.target) (λ o. plan_count m n o.target) (outcomes m s a))

-- ---- the members

-- The list of plans has just the plans.
pub plans_are : (m : Model) (n s : ℕ) (p : Plan n) → Memᴰ p (plans m n s) ↔ IsPlan m n s p
unfolding plans
plans_are m zero s p = (λ i. tt, λ u. Memᴰ.head refl)
plans_are m (suc n) s p = (
  λ i. let w = plan_member m n s p i in (w.0, match_weaken (λ o q _ j. (plans_are m n o.target q).0 j) w.1),
  λ w. in_plans m n s p w.0 (match_weaken (λ o q _ j. (plans_are m n o.target q).1 j) w.1),
)

-- ---- the order

longer : {l r : List ℕ} (u v : List ℕ) → Before l r → Before (l ++ u) (r ++ v)
longer u v (differ h) = differ h
longer u v (agree e b) = agree e (longer u v b)

after : (l : List ℕ) {u v : List ℕ} → Before u v → Before (l ++ u) (l ++ v)
after [] b = b
after (x ∷ l) b = agree refl (after l b)

pub before_differs : {l r : List ℕ} → Before l r → l ≡ r → ⊥
before_differs (differ {a} {b} h) e = let q : a ≡ b = cc in omega arith
before_differs (agree {l = l} {r} q b) e = before_differs b (let t : l ≡ r = cc in t)

pub before_one_way : {l r : List ℕ} → Before l r → Before r l → ⊥
before_one_way (differ h) (differ k) = omega arith
before_one_way (differ h) (agree e k) = omega arith
before_one_way (agree e h) (differ k) = omega arith
before_one_way (agree e h) (agree f k) = before_one_way h k

-- x comes before y by the choices that its key gives.
abbrev By : {B : Type 0} → (B → List ℕ) → B → B → Type 0
By key x y = Before (key x) (key y)

module _ {A B : Type 0} (key : B → List ℕ) (g : A → List B) where
  rising_product : (l : List A) → ((a : A) → Rising (By key) (g a)) → Rising (By (flat_map key)) (product (map g l))
  unfolding product flat_map
  rising_product [] h = rising_one _ []
  rising_product (x ∷ xs) h =
      rising_flat_map (By key) (By (flat_map key)) (λ b. map (λ r. b ∷ r) (product (map g xs)))
      (λ b c u v _ _ p i j.
      let e = map_member (λ r. b ∷ r) (product (map g xs)) i in
      let f = map_member (λ r. c ∷ r) (product (map g xs)) j in
      subst (λ z. By (flat_map key) z v) (sym e.2)
      (subst (λ z. By (flat_map key) (b ∷ e.0) z) (sym f.2) (longer (flat_map key e.0) (flat_map key f.0) p)))
      (λ b i. rising_map (By (flat_map key)) (By (flat_map key)) (λ r. b ∷ r) (λ u v p. after (key b) p) (rising_product xs h))
      (h x)

-- The choices in a state stand in rising order.
pub enabled_rising : (m : Model) (s : ℕ) → Rising (λ a b. a < b) (enabled m s)
unfolding enabled enabled_actions
enabled_rising m s = by (deadlocked m s)
  where
    by : (t : Bool) → Rising (λ a b. a < b) (cond t (silent ∷ []) (enabled_actions m s))
    by true = rising_one _ silent
    by false = rising_keep (λ a b. a < b) _ (rising_count 0 (length m.actions))

-- The plans stand in dictionary order of their choices.
pub plans_rising : (m : Model) (n s : ℕ) → Rising (λ p q. Before (choices n p) (choices n q)) (plans m n s)
unfolding plans choices
plans_rising m zero s = rising_one _ tt
plans_rising m (suc n) s =
    rising_flat_map (λ a b. a < b) (By (choices (suc n))) (block m n s)
    (λ a b u v _ _ p i j.
    let x = block_member m n s a i in
    let y = block_member m n s b j in
    subst (λ z. By (choices (suc n)) z v) (sym x.2) (subst (λ z. By (choices (suc n)) (a, x.0) z) (sym y.2) (differ p)))
    (λ a i.
    rising_map {B = Plan (suc n)} (By (flat_map (choices n))) (By (choices (suc n))) (λ qs. (a, qs)) (λ x y p. agree refl p)
    (rising_product (choices n) (λ o. plans m n o.target) (outcomes m s a) (λ o. plans_rising m n o.target)))
    (enabled_rising m s)

-- Each plan stands in the list once.
pub plans_once : (m : Model) (n s : ℕ) → Rising (λ p q. p ≡ q → ⊥) (plans m n s)
plans_once m n s = rising_weaken (By (choices n)) _ (λ p q b e. before_differs b (ap (choices n) e)) (plans_rising m n s)
