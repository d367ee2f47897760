-- The integers obey the laws that totals and their order want.
use Prim.Native.Nat.{ℕ, zero, suc, ◌+◌, ◌*◌, ◌-◌, ◌<◌, ◌≤◌}
use native.Mathlib.Omega.{arith}
use mathlib.Core.Path.{◌≡◌, refl, sym, ap, ap₂, subst, ◌∙◌}
use mathlib.Core.Bool.{Bool, true, false, not, cond}
use lib.Dec.{T, ltb, leb→le, le→leb, ltb→lt, nleb→lt, nltb→le, not_T}
use lib.IntN.{ℤ, pos, negsuc, suc_ℤ, sub_ℕ, ◌+ℤ◌, ◌*ℤ◌, +ℤ_idr, +ℤ_assoc, +ℤ_comm, +ℤ_one, +ℤ-suc_ℤ, suc_ℤ-+ℤ, zero-*ℤ, suc_ℤ-*ℤ}
use lib.Signed.{le_z}
use Rattle.logic.specs.Quantity.{integers}
use Rattle.logic.proofs.Best.{Ordered}

pub swap : (a b c d : ℤ) → (a +ℤ b) +ℤ (c +ℤ d) ≡ (a +ℤ c) +ℤ (b +ℤ d)
swap a b c d = +ℤ_assoc a b (c +ℤ d) ∙ ap (λ z. a +ℤ z) (sym (+ℤ_assoc b c d) ∙ ap (λ z. z +ℤ d) (+ℤ_comm b c) ∙ +ℤ_assoc c b d) ∙ sym (+ℤ_assoc a c (b +ℤ d))

pub times_plus : (k : ℕ) (a b : ℤ) → pos k *ℤ (a +ℤ b) ≡ pos k *ℤ a +ℤ pos k *ℤ b
times_plus zero a b = zero-*ℤ (a +ℤ b) ∙ sym (ap₂ ◌+ℤ◌ (zero-*ℤ a) (zero-*ℤ b))
times_plus (suc k) a b =
    suc_ℤ-*ℤ (pos k) (a +ℤ b) ∙ ap (λ z. z +ℤ (a +ℤ b)) (times_plus k a b) ∙ swap (pos k *ℤ a) (pos k *ℤ b) a b ∙ sym (ap₂ ◌+ℤ◌ (suc_ℤ-*ℤ (pos k) a) (suc_ℤ-*ℤ (pos k) b))

-- ---- the order: b is a and something more

pub subℕ_ge : (a b : ℕ) → b ≤ a → sub_ℕ a b ≡ pos (a - b)
subℕ_ge a b h = pick (ltb a b) refl
  where
    pick : (t : Bool) → ltb a b ≡ t → cond t (negsuc (b - suc a)) (pos (a - b)) ≡ pos (a - b)
    pick true e = let q = ltb→lt a b (subst T (sym e) tt) in absurd (omega arith)
    pick false e = refl

pub subℕ_lt : (a b : ℕ) → a < b → sub_ℕ a b ≡ negsuc (b - suc a)
subℕ_lt a b h = pick (ltb a b) refl
  where
    pick : (t : Bool) → ltb a b ≡ t → cond t (negsuc (b - suc a)) (pos (a - b)) ≡ negsuc (b - suc a)
    pick true e = refl
    pick false e = let q = nltb→le a b (subst (λ t. T (not t)) (sym e) tt) in absurd (omega arith)

more : (a b : ℤ) → T (le_z a b) → (k : ℕ) × (b ≡ a +ℤ pos k)
more (pos a) (pos b) t = let h = leb→le a b t in (b - a, ap pos (omega arith))
more (pos a) (negsuc b) t = absurd t
more (negsuc a) (pos b) t = (b + suc a, ap pos (omega arith) ∙ sym (subℕ_ge (b + suc a) (suc a) (omega arith)))
more (negsuc a) (negsuc b) t = let h = leb→le b a t in (a - b, ap negsuc (omega arith) ∙ sym (subℕ_lt (a - b) (suc a) (omega arith)))

le_more : (a : ℤ) (k : ℕ) → T (le_z a (a +ℤ pos k))
le_more (pos a) k = le→leb a (a + k) (omega arith)
le_more (negsuc a) k = pick (ltb k (suc a)) refl
  where
    pick : (t : Bool) → ltb k (suc a) ≡ t → T (le_z (negsuc a) (cond t (negsuc (suc a - suc k)) (pos (k - suc a))))
    pick true e = le→leb (suc a - suc k) a (omega arith)
    pick false e = tt

le_by : (a b : ℤ) (k : ℕ) → b ≡ a +ℤ pos k → T (le_z a b)
le_by a b k e = subst (λ z. T (le_z a z)) (sym e) (le_more a k)

le_trans_z : (a b c : ℤ) → T (le_z a b) → T (le_z b c) → T (le_z a c)
le_trans_z a b c p q =
    let u = more a b p in
    let v = more b c q in
    le_by a c (u.0 + v.0) (v.1 ∙ ap (λ z. z +ℤ pos v.0) u.1 ∙ +ℤ_assoc a (pos u.0) (pos v.0))

plus_le : (a b c d : ℤ) → T (le_z a b) → T (le_z c d) → T (le_z (a +ℤ c) (b +ℤ d))
plus_le a b c d p q =
    let u = more a b p in
    let v = more c d q in
    le_by (a +ℤ c) (b +ℤ d) (u.0 + v.0) (ap₂ ◌+ℤ◌ u.1 v.1 ∙ swap a (pos u.0) c (pos v.0))

times_le : (k : ℕ) (a b : ℤ) → T (le_z a b) → T (le_z (pos k *ℤ a) (pos k *ℤ b))
times_le k a b p =
    let u = more a b p in
    le_by (pos k *ℤ a) (pos k *ℤ b) (k * u.0) (ap (λ z. pos k *ℤ z) u.1 ∙ times_plus k a (pos u.0))

-- a is below b where a + 1 is at most b
step_le : (a b : ℤ) → T (not (le_z b a)) → T (le_z (suc_ℤ a) b)
step_le (pos a) (pos b) t = le→leb (suc a) b (nleb→lt b a t)
step_le (pos a) (negsuc b) t = absurd t
step_le (negsuc zero) (pos b) t = le→leb 0 b (omega arith)
step_le (negsuc (suc a)) (pos b) t = tt
step_le (negsuc zero) (negsuc b) t = let h = nleb→lt zero b t in absurd (omega arith)
step_le (negsuc (suc a)) (negsuc b) t = let h = nleb→lt (suc a) b t in le→leb b a (omega arith)

not_below : (a : ℤ) → T (le_z (suc_ℤ a) a) → ⊥
not_below (pos a) t = let h = leb→le (suc a) a t in omega arith
not_below (negsuc zero) t = t
not_below (negsuc (suc a)) t = let h = leb→le (suc a) a t in omega arith

lt_by : (a b : ℤ) → T (le_z (suc_ℤ a) b) → T (not (le_z b a))
lt_by a b p = not_T (le_z b a) (λ q. not_below a (le_trans_z (suc_ℤ a) b a p q))

lt_le_z : (a b : ℤ) → T (not (le_z b a)) → T (le_z a b)
lt_le_z a b p = le_trans_z a (suc_ℤ a) b (le_by a (suc_ℤ a) 1 (sym (+ℤ_one a))) (step_le a b p)

pub integers_ordered : Ordered integers
integers_ordered =
    record {
      le_self = λ a. le_by a a 0 (sym (+ℤ_idr a));
      trans = le_trans_z;
      lt_le = lt_le_z;
      plus_le = plus_le;
      plus_lt_le = λ a b c d p q. lt_by (a +ℤ c) (b +ℤ d) (subst (λ z. T (le_z z (b +ℤ d))) (suc_ℤ-+ℤ a c) (plus_le (suc_ℤ a) b c d (step_le a b p) q));
      plus_le_lt = λ a b c d p q. lt_by (a +ℤ c) (b +ℤ d) (subst (λ z. T (le_z z (b +ℤ d))) (+ℤ-suc_ℤ a c) (plus_le a b (suc_ℤ c) d p (step_le c d q)));
      times_le = times_le;
      times_lt = times_lt;
    }
  where
    times_lt : (k : ℕ) (a b : ℤ) → 0 < k → T (not (le_z b a)) → T (not (le_z (pos k *ℤ b) (pos k *ℤ a)))
    times_lt k a b h p =
        let u = times_le k (suc_ℤ a) b (step_le a b p) in
        lt_by (pos k *ℤ a) (pos k *ℤ b) (le_trans_z (suc_ℤ (pos k *ℤ a)) (pos k *ℤ suc_ℤ a) (pos k *ℤ b)
        (subst (λ z. T (le_z (suc_ℤ (pos k *ℤ a)) (pos k *ℤ z))) (+ℤ_one a) (subst (λ z. T (le_z (suc_ℤ (pos k *ℤ a)) z)) (sym (times_plus k a (pos 1))) (subst (λ z. T (le_z z (pos k *ℤ a +ℤ pos (k * 1)))) (+ℤ_one (pos k *ℤ a))
        (plus_le (pos k *ℤ a) (pos k *ℤ a) (pos 1) (pos (k * 1)) (le_by (pos k *ℤ a) (pos k *ℤ a) 0 (sym (+ℤ_idr (pos k *ℤ a)))) (le→leb 1 (k * 1) (omega arith)))))) u)
