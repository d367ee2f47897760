-- Differences of natural numbers, `sub_ℕ`: their order, their sums and products, and a bound on them in natural numbers: with both sides raised
-- alike, nothing is negative. Searches and comparisons are made in these.
use Prim.Native.Nat.{ℕ, suc, ◌+◌, ◌*◌, ◌-◌, ◌^◌, ◌≤◌, ◌<◌}
use native.Mathlib.Omega.{arith}
use mathlib.Core.Path.{◌≡◌, refl, sym, ap, ap₂, subst, ◌∙◌}
use mathlib.Core.Bool.{Bool, true, false, not, ◌&&◌}
use lib.Dec.{T, leb, ltb, leb→le, le→leb, ltb→lt, nltb→le, nleb→lt}
use lib.IntN.{ℤ, pos, negsuc, sub_ℕ, ◌+ℤ◌, ◌*ℤ◌, pos-*ℤ-pos, pos-ne-negsuc}
use lib.Signed.{mag, le_z}
use Rattle.logic.specs.Model.{Model}
use Rattle.logic.specs.Quantity.{naturals, integers, Relation, less, equal, greater, related}
use Rattle.logic.specs.Bound.{meets}
use Rattle.logic.proofs.Tests.{T→true, true→T, not_true}
use Rattle.logic.proofs.Integers.{times_plus, subℕ_ge, subℕ_lt}

-- What is y when raised by c is y lowered by c.
pub lowered_by : (x : ℤ) (y c : ℕ) → x +ℤ pos c ≡ pos y → x ≡ sub_ℕ y c
lowered_by (pos a) y c e = ap pos (omega (arith, pos_same e)) ∙ sym (subℕ_ge y c (omega (arith, pos_same e)))
  where
    pos_same : {a b : ℕ} → pos a ≡ pos b → a ≡ b
    pos_same e = ap (λ z. mag z) e
lowered_by (negsuc a) y c e = pick (ltb c (suc a)) refl
  where
    pick : (t : Bool) → ltb c (suc a) ≡ t → negsuc a ≡ sub_ℕ y c
    pick true f =
        let h = ltb→lt c (suc a) (subst T (sym f) tt) in
        absurd (pos-ne-negsuc y (suc a - suc c) (sym (sym (subℕ_lt c (suc a) h) ∙ e)))
    pick false f =
        let h = nltb→le c (suc a) (subst (λ t. T (not t)) (sym f) tt) in
        let k : c - suc a ≡ y = ap (λ z. mag z) (sym (subℕ_ge c (suc a) h) ∙ e) in
        ap negsuc (omega arith) ∙ sym (subℕ_lt y c (omega arith))

-- ---- order

-- Lowered by c, numbers keep their order.
lowered_le : (a b c : ℕ) → a ≤ b → T (le_z (sub_ℕ a c) (sub_ℕ b c))
lowered_le a b c h = pick (ltb a c) (ltb b c) refl refl
  where
    pick : (t u : Bool) → ltb a c ≡ t → ltb b c ≡ u → T (le_z (sub_ℕ a c) (sub_ℕ b c))
    pick true true e f =
        let x = ltb→lt a c (true→T e) in
        let y = ltb→lt b c (true→T f) in
        rw (subℕ_lt a c x, subℕ_lt b c y) (le→leb (c - suc b) (c - suc a) (omega arith))
    pick true false e f =
        let x = ltb→lt a c (true→T e) in
        let y = nltb→le b c (subst (λ t. T (not t)) (sym f) tt) in
        rw (subℕ_lt a c x, subℕ_ge b c y) tt
    pick false u e f =
        let x = nltb→le a c (subst (λ t. T (not t)) (sym e) tt) in
        rw (subℕ_ge a c x, subℕ_ge b c (omega arith)) (le→leb (a - c) (b - c) (omega arith))

lowered_lt : (a b c : ℕ) → b < a → T (le_z (sub_ℕ a c) (sub_ℕ b c)) → ⊥
lowered_lt a b c h = pick (ltb a c) (ltb b c) refl refl
  where
    pick : (t u : Bool) → ltb a c ≡ t → ltb b c ≡ u → T (le_z (sub_ℕ a c) (sub_ℕ b c)) → ⊥
    pick true u e f p =
        let x = ltb→lt a c (true→T e) in
        let q = leb→le (c - suc b) (c - suc a) (rw (subℕ_lt a c x, subℕ_lt b c (omega arith)) at p) in
        omega arith
    pick false true e f p =
        let x = nltb→le a c (subst (λ t. T (not t)) (sym e) tt) in
        let y = ltb→lt b c (true→T f) in
        rw (subℕ_ge a c x, subℕ_lt b c y) at p
    pick false false e f p =
        let x = nltb→le a c (subst (λ t. T (not t)) (sym e) tt) in
        let y = nltb→le b c (subst (λ t. T (not t)) (sym f) tt) in
        let q = leb→le (a - c) (b - c) (rw (subℕ_ge a c x, subℕ_ge b c y) at p) in
        omega arith

pub lowered_order : (a b c : ℕ) → le_z (sub_ℕ a c) (sub_ℕ b c) ≡ leb a b
lowered_order a b c = pick (leb a b) refl
  where
    pick : (t : Bool) → leb a b ≡ t → le_z (sub_ℕ a c) (sub_ℕ b c) ≡ t
    pick true e = T→true _ (lowered_le a b c (leb→le a b (true→T e)))
    pick false e = not_true _ (λ p. lowered_lt a b c (nleb→lt a b (subst (λ t. T (not t)) (sym e) tt)) (true→T p))

-- ---- sums and products

pub sub_plus : (a b : ℕ) → sub_ℕ a b +ℤ pos b ≡ pos a
sub_plus a b = pick (ltb a b) refl
  where
    pick : (t : Bool) → ltb a b ≡ t → sub_ℕ a b +ℤ pos b ≡ pos a
    pick true e =
        let h = ltb→lt a b (true→T e) in
        rw (subℕ_lt a b h) (subℕ_ge b (suc (b - suc a)) (omega arith) ∙ ap pos (omega arith))
    pick false e = let h = nltb→le a b (subst (λ t. T (not t)) (sym e) tt) in rw (subℕ_ge a b h) (ap pos (omega arith))

sub_raised : (a b k : ℕ) → sub_ℕ a b ≡ sub_ℕ (a + k) (b + k)
sub_raised a b k = pick (ltb a b) refl
  where
    pick : (t : Bool) → ltb a b ≡ t → sub_ℕ a b ≡ sub_ℕ (a + k) (b + k)
    pick true e = let h = ltb→lt a b (true→T e) in subℕ_lt a b h ∙ ap negsuc (omega arith) ∙ sym (subℕ_lt (a + k) (b + k) (omega arith))
    pick false e =
        let h = nltb→le a b (subst (λ t. T (not t)) (sym e) tt) in
        subℕ_ge a b h ∙ ap pos (omega arith) ∙ sym (subℕ_ge (a + k) (b + k) (omega arith))

pub times_sub : (q a b : ℕ) → pos q *ℤ sub_ℕ a b ≡ sub_ℕ (q * a) (q * b)
times_sub q a b =
    lowered_by (pos q *ℤ sub_ℕ a b) (q * a) (q * b)
    (ap (λ z. pos q *ℤ sub_ℕ a b +ℤ z) (sym (pos-*ℤ-pos q b)) ∙ sym (times_plus q (sub_ℕ a b) (pos b)) ∙ ap (λ z. pos q *ℤ z) (sub_plus a b) ∙ pos-*ℤ-pos q a)

-- Differences are in order just where what is left and right of it is, each with the other's second number.
sub_order : (a b c d : ℕ) → le_z (sub_ℕ a b) (sub_ℕ c d) ≡ leb (a + d) (c + b)
sub_order a b c d =
    ap₂ le_z (sub_raised a b d) (sub_raised c d b ∙ ap (sub_ℕ (c + b)) (omega arith)) ∙ lowered_order (a + d) (c + b) (b + d)

-- ---- a bound, in natural numbers

related_raised : (r : Relation) (a b c d : ℕ) → related integers r (sub_ℕ a b) (sub_ℕ c d) ≡ related naturals r (a + d) (c + b)
unfolding related
related_raised less a b c d = ap not (sub_order c d a b)
related_raised equal a b c d = ap₂ ◌&&◌ (sub_order a b c d) (sub_order c d a b)
related_raised greater a b c d = ap not (sub_order a b c d)

pub meets_raised : (m : Model) (n : ℕ) (r : Relation) (P N q x c : ℕ)
    → meets integers m n r (sub_ℕ P N) q (sub_ℕ x c) ≡ related naturals r (q * x + m.denominator ^ n * N) (m.denominator ^ n * P + q * c)
unfolding meets
meets_raised m n r P N q x c =
    ap₂ (related integers r) (times_sub q x c) (times_sub (m.denominator ^ n) P N)
    ∙ related_raised r (q * x) (q * c) (m.denominator ^ n * P) (m.denominator ^ n * N)
