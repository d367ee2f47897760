-- Laws of marks: one mark more, marks added twice over, and a table with one mark.
use Prim.Native.Nat.{ℕ, ◌≤◌, ◌<◌}
use native.Mathlib.Omega.{arith}
use native.Mathlib.Decide.{dec_lt, ℕ_discrete}
use mathlib.Core.Path.{◌≡◌, refl, sym, ap, subst, ◌∙◌}
use mathlib.Core.Logic.{◌⊎◌, inl, inr, ⊎_elim}
use mathlib.Core.List.{List}
use lib.ListN.{get_or, length, set, length-set, replicate, length-replicate, get_or-replicate, get_or-eq_default}
use lib.Seq.{get_or-set_same, get_or-set_other}
use Rattle.prepared_question.specs.promises.Marks.{Grown}

-- ---- marks added

pub grown_none : (P : ℕ → Type 0) (l : List ℕ) → Grown P l l
grown_none P l = record { size = refl; stays = λ k e. e; new = λ k e. inl e }

pub grown_mark : (P : ℕ → Type 0) (l : List ℕ) (x : ℕ) → x < length l → P x → Grown P l (set l x 1)
grown_mark P l x z h = record { size = length-set l x 1; stays = λ k e. kept k e (ℕ_discrete k x); new = λ k e. made k e (ℕ_discrete k x) }
  where
    kept : (k : ℕ) → get_or l k 0 ≡ 1 → Dec (k ≡ x) → get_or (set l x 1) k 0 ≡ 1
    kept k e (yes p) = ap (λ y. get_or (set l x 1) y 0) p ∙ get_or-set_same l x 1 0 z
    kept k e (no n) = get_or-set_other l x k 1 0 n ∙ e

    made : (k : ℕ) → get_or (set l x 1) k 0 ≡ 1 → Dec (k ≡ x) → (get_or l k 0 ≡ 1) ⊎ P k
    made k e (yes p) = inr (subst P (sym p) h)
    made k e (no n) = inl (sym (get_or-set_other l x k 1 0 n) ∙ e)

pub grown_then : (P Q R : ℕ → Type 0) {x y z : List ℕ} → ((k : ℕ) → P k → R k) → ((k : ℕ) → Q k → R k) → Grown P x y → Grown Q y z → Grown R x z
grown_then P Q R f g p q =
    record {
      size = q.size ∙ p.size;
      stays = λ k e. q.stays k (p.stays k e);
      new = λ k e. ⊎_elim (λ w. ⊎_elim (λ u. inl u) (λ v. inr (f k v)) (p.new k w)) (λ v. inr (g k v)) (q.new k e);
    }

-- ---- tables with one mark

abbrev pub blank : ℕ → List ℕ
blank n = replicate {A = ℕ} n 0

module _ (n c : ℕ) (h : c < n) where
  inside : c < length (blank n)
  inside = subst (λ k. c < k) (sym (length-replicate {A = ℕ} n 0)) h

  pub one_there : get_or (set (blank n) c 1) c 0 ≡ 1
  one_there = get_or-set_same (blank n) c 1 0 inside

  pub one_only : (x : ℕ) → get_or (set (blank n) c 1) x 0 ≡ 1 → x ≡ c
  one_only x e = go (ℕ_discrete x c) (dec_lt x n)
    where
      go : Dec (x ≡ c) → Dec (x < n) → x ≡ c
      go (yes p) d = p
      go (no p) (yes l) = absurd (omega (arith, sym (get_or-set_other (blank n) c x 1 0 p) ∙ e, get_or-replicate {A = ℕ} n x 0 0 l))
      go (no p) (no l) =
          let z : length (blank n) ≤ x = subst (λ k. k ≤ x) (sym (length-replicate {A = ℕ} n 0)) (omega arith) in
          absurd (omega (arith, sym (get_or-set_other (blank n) c x 1 0 p) ∙ e, get_or-eq_default (blank n) 0 z))
