-- What the code counts. What is left of a choice's outcomes multiplies to what is left of its ways, so that each division is exact and each count of
-- the table is below its cap; what is left of the choices holds the rest of the place.
use Prim.Native.Nat.{ℕ, zero, suc, ◌+◌, ◌*◌, ◌-◌, ◌≤◌, ◌<◌}
use native.Mathlib.Omega.{arith}
use native.Mathlib.Numerals.{add-one}
use native.Mathlib.Nat.{not-suc-le-zero, mul-one, mul_assoc, mul_comm, le-mul_of_pos_right, min-eq_right}
use mathlib.Core.Path.{◌≡◌, sym, ap, subst, ◌∙◌}
use mathlib.Core.Bool.{true, cond}
use mathlib.Core.List.{List, [], ◌∷◌, map, Memᴰ}
use lib.ListN.{get_or}
use borrow.Author.Tests.{lt-ltb, le-ltb}
use Rattle.logic.specs.Lists.{count_from, tabulate}
use Rattle.logic.specs.Model.{Step, enabled, outcomes}
use Rattle.logic.specs.Quantity.{naturals, sum}
use Rattle.logic.specs.Limits.{multiply, plan_total}
use Rattle.models.specs.Layout.{state_count}
use Rattle.prepared_model.specs.promises.Rows.{choices_in, choice_in, outcomes_in, step_in, model_in, Prepared}
use Rattle.prepared_model.proofs.ReadByPlace.{states_are, some_choice, choice_enabled}
use Rattle.prepared_model.proofs.PlacesInRange.{outcome_inside}
use Rattle.limits.specs.promises.Totals.{Totals, total, limit}
use Rattle.plan_choices.specs.promises.Numbered.{block_of, below, ways, Found}
use Rattle.plan_choices.proofs.PlaceByDivision.{positive}
use Rattle.logic.proofs.Naturals.{multiply_positive}

-- ---- products

-- Two factors of a number that is not 0.
pub factors : (x y : ℕ) {z : ℕ} → x * y ≡ z → 0 < z → (0 < x) × (0 < y) × (x ≤ z) × (y ≤ z)
factors x y {z} e h =
    let p : 0 < y = positive x y {k = 0} (rw e h) in
    let q : 0 < x = positive y x {k = 0} (rw (mul_comm y x, e) h) in
    (q, p, omega (arith, le-mul_of_pos_right x p, e), omega (arith, le-mul_of_pos_right y q, mul_comm y x, e))

member_most : {A : Type 0} (f : A → ℕ) {x : A} {l : List A} → Memᴰ x l → f x ≤ sum naturals f l
unfolding sum
member_most f (Memᴰ.head {x} {xs} e) = rw e (omega arith)
member_most f (Memᴰ.tail {x} {xs} i) = omega (arith, member_most f i)

-- ---- a prepared model has plans

module _ {m : List ℕ} (w : Prepared m) where
  ways_some : (n : ℕ) → ((t : ℕ) → t < state_count m → 0 < plan_total (model_in m) n t)
      → (s : ℕ) → s < state_count m → (i : ℕ) → i < choices_in m s → 0 < ways (model_in m) n s (choice_in m s i)
  ways_some n f s h i g =
      multiply_positive (below (model_in m) n) (outcomes (model_in m) s (choice_in m s i))
      (λ o j. f o.target (outcome_inside w s h (choice_in m s i) (choice_enabled w s h i g) o j))

  -- Below a choice there are at most as many ways as plans from the state.
  pub ways_most : (n s : ℕ) → s < state_count m → (i : ℕ) → i < choices_in m s → ways (model_in m) n s (choice_in m s i) ≤ plan_total (model_in m) (n + 1) s
  unfolding plan_total
  ways_most n s h i g = rw (add-one n) (member_most (ways (model_in m) n s) (choice_enabled w s h i g))

  plan_some : (n s : ℕ) → s < state_count m → 0 < plan_total (model_in m) n s
  unfolding plan_total
  plan_some zero s h = omega arith
  plan_some (suc n) s h =
      let g = some_choice w s h in
      omega (arith, ways_some n (plan_some n) s h 0 g, member_most (ways (model_in m) n s) (choice_enabled w s h 0 g))

-- ---- what is left of a row

-- The entries from j on, of c entries that g gives.
module _ {A : Type 0} (g : ℕ → A) (c : ℕ) where
  abbrev pub left : ℕ → List A
  left j = map g (count_from j (c - j))

  pub left_all : left 0 ≡ tabulate c g
  unfolding tabulate
  left_all = let e : c - 0 ≡ c = omega arith in ap (λ k. map g (count_from 0 k)) e

  pub left_step : (j : ℕ) → j < c → left j ≡ g j ∷ left (j + 1)
  unfolding count_from
  left_step j h = let e : c - j ≡ suc (c - suc j) = omega arith in ap (λ k. map g (count_from j k)) e ∙ ap (λ k. g j ∷ left k) (sym (add-one j))

  pub left_end : (j : ℕ) → j ≡ c → left j ≡ []
  unfolding count_from
  left_end j h = let e : c - j ≡ 0 = omega arith in ap (λ k. map g (count_from j k)) e

-- The outcomes of choice i from j on, and the ways below them.
abbrev pub later : List ℕ → (s i j : ℕ) → List Step
later m s i j = left (step_in m s i) (outcomes_in m s i) j

abbrev pub ways_left : List ℕ → (s i n j : ℕ) → ℕ
ways_left m s i n j = multiply (below (model_in m) n) (later m s i j)

-- Outcome j leads to t: its count splits off from what is left of the ways, and is the table's.
pub record OutcomeCounted (m counts : List ℕ) (n s i j t : ℕ) : Type 0 where
  pub target : t ≡ (step_in m s i j).target
  pub state : t < state_count m
  pub split : ways_left m s i n j ≡ plan_total (model_in m) n t * ways_left m s i n (j + 1)
  pub some : 0 < plan_total (model_in m) n t
  pub few : plan_total (model_in m) n t ≤ 65536
  pub later : 0 < ways_left m s i n (j + 1)
  pub counted : get_or counts (32 * n + t) 0 ≡ plan_total (model_in m) n t

module _ {m : List ℕ} (w : Prepared m) (s : ℕ) (h : s < state_count m) (i : ℕ) (g : i < choices_in m s) where
  pub outcomes_left : later m s i 0 ≡ outcomes (model_in m) s (choice_in m s i)
  outcomes_left = left_all (step_in m s i) (outcomes_in m s i) ∙ sym (w.rows s i h g)

  pub ways_all : (n : ℕ) → ways_left m s i n 0 ≡ ways (model_in m) n s (choice_in m s i)
  ways_all n = ap (multiply (below (model_in m) n)) outcomes_left

  module _ {counts : List ℕ} (totals : Totals true (model_in m) 7 counts) (n : ℕ) (k : n ≤ 6) where
    exact : (t : ℕ) → t < state_count m → plan_total (model_in m) n t ≤ 65536 → get_or counts (32 * n + t) 0 ≡ plan_total (model_in m) n t
    unfolding total limit
    exact t l f = totals.at n t (omega arith) (rw (states_are m) l) ∙ min-eq_right (omega arith)

    pub outcome_counted : {j t : ℕ} → t ≡ (step_in m s i j).target → j < outcomes_in m s i → 0 < ways_left m s i n j → ways_left m s i n j ≤ 65536 → OutcomeCounted m counts n s i j t
    unfolding multiply
    outcome_counted {j} {t} e l some few =
        let state : t < state_count m = rw e (w.inside s i j h (g, l)) in
        let split : ways_left m s i n j ≡ plan_total (model_in m) n t * ways_left m s i n (j + 1) =
        ap (multiply (below (model_in m) n)) (left_step (step_in m s i) (outcomes_in m s i) j l) ∙ ap (λ t. plan_total (model_in m) n t * ways_left m s i n (j + 1)) (sym e) in
        let f = factors (plan_total (model_in m) n t) (ways_left m s i n (j + 1)) (sym split) some in
        let most : plan_total (model_in m) n t ≤ 65536 = omega (arith, f.2) in
        record { target = e; state = state; split = split; some = f.0; few = most; later = f.1; counted = exact t state most }

    -- ---- the loop that counts the ways

    -- Every factor of the ways is in range, so that the count of outcome j is the table's.
    pub count_here : {j t size : ℕ} → plan_total (model_in m) (n + 1) s ≤ 65536 → size * ways_left m s i n j ≡ ways (model_in m) n s (choice_in m s i)
        → t ≡ (step_in m s i j).target → j < outcomes_in m s i → (size ≤ 65536) × OutcomeCounted m counts n s i j t
    count_here {j} {t} {size} f p e l =
        let x = factors size (ways_left m s i n j) p (ways_some w n (plan_some w n) s h i g) in
        let most = ways_most w n s h i g in
        (omega (arith, x.2, most), outcome_counted e l x.1 (omega (arith, x.3, most)))

module _ (m : List ℕ) (s i n : ℕ) {x : ℕ} where
  pub ways_one_outcome_more : {counts : List ℕ} {j t : ℕ} (size : ℕ) → OutcomeCounted m counts n s i j t → size * ways_left m s i n j ≡ x
      → (size * get_or counts (32 * n + t) 0) * ways_left m s i n (j + 1) ≡ x
  ways_one_outcome_more {j = j} {t} size u h =
      let z : ℕ = ways_left m s i n (j + 1) in
      ap (λ v. (size * v) * z) u.counted
      ∙ mul_assoc size (plan_total (model_in m) n t) z
      ∙ ap (λ v. size * v) (sym u.split)
      ∙ h

  pub count_end : (j size : ℕ) → j ≡ outcomes_in m s i → size * ways_left m s i n j ≡ x → size ≡ x
  unfolding multiply
  count_end j size h e =
      sym (mul-one size) ∙ ap (λ l. size * multiply (below (model_in m) n) l) (sym (left_end (step_in m s i) (outcomes_in m s i) j h)) ∙ e

-- ---- the loop over the choices

module _ (size : ℕ → ℕ) (a k : ℕ) (l : List ℕ) where
  block_first : k < size a → block_of size (a ∷ l) k ≡ (a, k)
  unfolding block_of
  block_first h = ap (λ t. cond t (a, k) (block_of size l (k - size a))) (lt-ltb k (size a) h)

  block_next : size a ≤ k → block_of size (a ∷ l) k ≡ block_of size l (k - size a)
  unfolding block_of
  block_next h = ap (λ t. cond t (a, k) (block_of size l (k - size a))) (le-ltb k (size a) h)

module _ (m : List ℕ) (n s : ℕ) where
  -- The choices from a on, and the sizes of their blocks.
  abbrev from : ℕ → List ℕ
  from a = left (choice_in m s) (choices_in m s) a

  abbrev sizes : ℕ → ℕ
  sizes a = ways (model_in m) n s a

  -- Place i is the place `rest` in the blocks of the choices from a on.
  pub record Rest (i a rest : ℕ) : Type 0 where
    pub block : block_of sizes (from a) rest ≡ block_of sizes (enabled (model_in m) s) i
    pub inside : rest < sum naturals sizes (from a)

  pub rest_start : Prepared m → s < state_count m → (i : ℕ) → i < plan_total (model_in m) (n + 1) s → Rest i 0 i
  unfolding plan_total
  rest_start w k i h =
      let e : enabled (model_in m) s ≡ from 0 = w.choices s k ∙ sym (left_all (choice_in m s) (choices_in m s)) in
      record { block = ap (λ l. block_of sizes l i) (sym e); inside = subst (λ l. i < sum naturals sizes l) e (rw (add-one n) at h) }

  module _ {i a rest v : ℕ} (here : Rest i a rest) (l : a < choices_in m s) (e : v ≡ sizes (choice_in m s a)) where
    step : from a ≡ choice_in m s a ∷ from (a + 1)
    step = left_step (choice_in m s) (choices_in m s) a l

    pub rest_found : rest < v → v ≤ 65536 → Found (model_in m) n s i (choice_in m s a) v rest
    rest_found h f =
        record {
          block = sym (block_first sizes (choice_in m s a) rest (from (a + 1)) (omega arith)) ∙ ap (λ l. block_of sizes l rest) (sym step) ∙ here.block;
          sized = e;
          inside = h;
          few = f;
        }

    pub rest_passed : v ≤ rest → Rest i (a + 1) (rest - v)
    unfolding sum
    rest_passed h =
        let g : rest < sizes (choice_in m s a) + sum naturals sizes (from (a + 1)) = subst (λ l. rest < sum naturals sizes l) step here.inside in
        record {
          block = ap (λ v. block_of sizes (from (a + 1)) (rest - v)) e
              ∙ sym (block_next sizes (choice_in m s a) rest (from (a + 1)) (omega arith))
              ∙ ap (λ l. block_of sizes l rest) (sym step)
              ∙ here.block;
          inside = omega arith;
        }

  pub rest_none : {i a rest : ℕ} → Rest i a rest → a ≡ choices_in m s → ⊥
  unfolding sum
  rest_none {a = a} {rest} here e =
      not-suc-le-zero (subst (λ l. rest < sum naturals sizes l) (left_end (choice_in m s) (choices_in m s) a e) here.inside)
