-- Lists over consecutive numbers, one more at either end: products, combined lists, and lists one after the other.
use Prim.Native.Nat.{ℕ, zero, suc, ◌+◌, ◌-◌, ◌*◌, ◌≤◌, ◌<◌}
use native.Mathlib.Nat.{mul-one, one-mul, mul_assoc, le_refl, le_trans, le-mul_of_pos_right, mul_comm}
use native.Mathlib.Omega.{arith}
use mathlib.Core.Path.{◌≡◌, refl, sym, ap, subst, ◌∙◌}
use mathlib.Core.List.{List, [], ◌∷◌, ◌++◌, map, flat_map, append_assoc, append-nil}
use lib.ListN.{length, take, length-append}
use Rattle.logic.specs.Lists.{count_from, tabulate}
use Rattle.logic.specs.Limits.{multiply}
use Rattle.logic.proofs.Tests.{count_more, tabulate_more}
use Rattle.exact_plan.specs.promises.Totals.{grid, combined}
use Rattle.exact_plan.proofs.Grid.{combined_append, combined_one}
use Rattle.logic.proofs.Naturals.{flat_map_last}

multiply_append : {A : Type 0} (t : A → ℕ) (l r : List A) → multiply t (l ++ r) ≡ multiply t l * multiply t r
unfolding multiply
multiply_append t [] r = sym (one-mul (multiply t r))
multiply_append t (x ∷ l) r = ap (λ k. t x * k) (multiply_append t l r) ∙ sym (mul_assoc (t x) (multiply t l) (multiply t r))

pub multiply_map : {A B : Type 0} (t : B → ℕ) (g : A → B) (l : List A) → multiply t (map g l) ≡ multiply (λ a. t (g a)) l
unfolding multiply
multiply_map t g [] = refl
multiply_map t g (x ∷ l) = ap (λ k. t (g x) * k) (multiply_map t g l)

pub combined_map : {A B : Type 0} (f : B → List ℕ) (g : A → B) (l : List A) → combined f (map g l) ≡ combined (λ a. f (g a)) l
unfolding combined
combined_map f g [] = refl
combined_map f g (x ∷ l) = ap (grid (f (g x))) (combined_map f g l)

take_count : {A : Type 0} (g : ℕ → A) (lo c n : ℕ) → c ≤ n → take c (map g (count_from lo n)) ≡ map g (count_from lo c)
unfolding count_from
take_count g lo zero n h = refl
take_count g lo (suc c) zero h = absurd (omega arith)
take_count g lo (suc c) (suc n) h = ap (λ l. g lo ∷ l) (take_count g (suc lo) c n (omega arith))

pub take_tabulate : {A : Type 0} (g : ℕ → A) (c n : ℕ) → c ≤ n → take c (tabulate n g) ≡ tabulate c g
unfolding tabulate
take_tabulate g c n h = take_count g 0 c n h

-- ---- from lo on, n of them

module _ (f : ℕ → List ℕ) (lo n : ℕ) where
  pub combined_right : combined f (count_from lo (suc n)) ≡ grid (combined f (count_from lo n)) (f (lo + n))
  combined_right =
      ap (combined f) (count_more lo n)
      ∙ combined_append f (count_from lo n) ((lo + n) ∷ [])
      ∙ ap (grid (combined f (count_from lo n))) (combined_one f (lo + n))

  pub combined_left : combined f (count_from lo (suc n)) ≡ grid (f lo) (combined f (count_from (suc lo) n))
  unfolding combined count_from
  combined_left = refl

module _ (t : ℕ → ℕ) where
  pub multiply_right : (lo n : ℕ) → multiply t (count_from lo (suc n)) ≡ multiply t (count_from lo n) * t (lo + n)
  unfolding multiply
  multiply_right lo n =
      ap (multiply t) (count_more lo n)
      ∙ multiply_append t (count_from lo n) ((lo + n) ∷ [])
      ∙ ap (λ k. multiply t (count_from lo n) * k) (mul-one (t (lo + n)))

  pub multiply_left : (lo n : ℕ) → multiply t (count_from lo (suc n)) ≡ t lo * multiply t (count_from (suc lo) n)
  unfolding multiply count_from
  multiply_left lo n = refl

  pub multiply_one : (lo : ℕ) → multiply t (count_from lo 1) ≡ t lo
  unfolding multiply count_from
  multiply_one lo = mul-one (t lo)

  module _ (c : ℕ) (some : (i : ℕ) → i < c → 0 < t i) where
    more_right : (lo n e : ℕ) → lo + (n + e) ≤ c → multiply t (count_from lo n) ≤ multiply t (count_from lo (n + e))
    more_right lo n zero h = let z : n + 0 ≡ n = omega arith in rw z (le_refl _)
    more_right lo n (suc e) h =
        let z : n + suc e ≡ suc (n + e) = omega arith in
        rw (z, multiply_right lo (n + e))
        (le_trans (more_right lo n e (omega arith)) (le-mul_of_pos_right (multiply t (count_from lo (n + e))) (some (lo + (n + e)) (omega arith))))

    more_left : (lo n : ℕ) → lo + n ≤ c → multiply t (count_from lo n) ≤ multiply t (count_from 0 (lo + n))
    more_left zero n h = let z : 0 + n ≡ n = omega arith in rw z (le_refl _)
    more_left (suc lo) n h =
        let z : suc lo + n ≡ lo + suc n = omega arith in
        rw z
        (le_trans (le-mul_of_pos_right (multiply t (count_from (suc lo) n)) (some lo (omega arith)))
        (subst (λ k. k ≤ multiply t (count_from 0 (lo + suc n))) (multiply_left lo n ∙ mul_comm (t lo) (multiply t (count_from (suc lo) n)))
        (more_left lo (suc n) (omega arith))))

    -- The product of some of the factors is at most that of all.
    pub multiply_within : (lo n : ℕ) → lo + n ≤ c → multiply t (count_from lo n) ≤ multiply t (count_from 0 c)
    multiply_within lo n h =
        let e : lo + n + (c - (lo + n)) ≡ c = omega arith in
        le_trans (more_left lo n h)
        (subst (λ k. multiply t (count_from 0 (lo + n)) ≤ multiply t (count_from 0 k)) e (more_right 0 (lo + n) (c - (lo + n)) (omega arith)))

-- ---- lists made for the numbers below n, one after the other

module _ (f : ℕ → List ℕ) (g : ℕ → ℕ) where
  pub flat_map_more : (n : ℕ) → flat_map f (tabulate (suc n) g) ≡ flat_map f (tabulate n g) ++ f (g n)
  flat_map_more n = ap (flat_map f) (tabulate_more g n) ∙ flat_map_last f (tabulate n g) (g n)

  longer : (n e : ℕ) → length (flat_map f (tabulate n g)) ≤ length (flat_map f (tabulate (n + e) g))
  longer n zero = let z : n + 0 ≡ n = omega arith in rw z (le_refl _)
  longer n (suc e) =
      let z : n + suc e ≡ suc (n + e) = omega arith in
      rw (z, flat_map_more (n + e)) (omega (arith, longer n e, length-append (flat_map f (tabulate (n + e) g)) (f (g (n + e)))))

  -- The lists below n and the next one are together no longer than those below c.
  pub flat_map_within : (n c : ℕ) → n < c → length (flat_map f (tabulate n g)) + length (f (g n)) ≤ length (flat_map f (tabulate c g))
  flat_map_within n c h =
      let z : suc n + (c - suc n) ≡ c = omega arith in
      omega (
        arith,
        length-append (flat_map f (tabulate n g)) (f (g n)),
        ap length (flat_map_more n),
        subst (λ k. length (flat_map f (tabulate (suc n) g)) ≤ length (flat_map f (tabulate k g))) z (longer (suc n) (c - suc n)),
      )

  -- The lists below c are those below n and others behind them.
  pub flat_map_split : (n c : ℕ) → n ≤ c → (l : List ℕ) × (flat_map f (tabulate n g) ++ l ≡ flat_map f (tabulate c g))
  flat_map_split n c h = subst (λ k. (l : List ℕ) × (flat_map f (tabulate n g) ++ l ≡ flat_map f (tabulate k g))) (let z : n + (c - n) ≡ c = omega arith in z) (go (c - n))
    where
      go : (e : ℕ) → (l : List ℕ) × (flat_map f (tabulate n g) ++ l ≡ flat_map f (tabulate (n + e) g))
      go zero = let z : n + 0 ≡ n = omega arith in ([], append-nil (flat_map f (tabulate n g)) ∙ ap (λ k. flat_map f (tabulate k g)) (sym z))
      go (suc e) =
          let z : n + suc e ≡ suc (n + e) = omega arith in
          let u = go e in
          (u.0 ++ f (g (n + e)), sym (append_assoc (flat_map f (tabulate n g)) u.0 (f (g (n + e)))) ∙ ap (λ l. l ++ f (g (n + e))) u.1 ∙ sym (flat_map_more (n + e)) ∙ ap (λ k. flat_map f (tabulate k g)) (sym z))
