-- Totals counted up to a cap. Two numbers that are the same up to the cap may be put for one another in sums and products, and what
-- comes out is the same up to the cap; so a table of capped totals gives the capped totals of one step more.
use Prim.Native.Nat.{ℕ, zero, suc, ◌+◌, ◌*◌, ◌-◌, ◌/◌, ◌%◌, ◌≤◌, ◌<◌, min}
use native.Mathlib.Omega.{arith}
use native.Mathlib.Numerals.{add-one}
use native.Mathlib.Decide.{dec_lt, ℕ_discrete}
use native.Mathlib.Nat.{min-le_left, min-eq_left, min-eq_right, le_trans, mul-le-mul_left, mul_assoc, mul-one, mul_comm, add-zero, add_assoc, mul-zero}
use mathlib.Core.Path.{◌≡◌, refl, sym, ap, ap₂, ◌∙◌}
use mathlib.Core.Logic.{◌⊎◌, inl, inr, ⊎_elim}
use mathlib.Core.Bool.{Bool, true, false}
use mathlib.Core.List.{List, [], ◌∷◌, ◌++◌, Memᴰ}
use lib.ListN.{get_or, length, set, length-set, replicate, length-replicate, get_or-replicate}
use lib.Seq.{get_or-set_same, get_or-set_other}
use Rattle.logic.specs.Lists.{count_from, tabulate}
use Rattle.logic.specs.Model.{Model, Step, enabled, outcomes}
use Rattle.logic.specs.Quantity.{naturals, sum}
use Rattle.logic.specs.Limits.{path_total, plan_total, multiply}
use Rattle.logic.proofs.Sums.{naturals_additive, sum-append, sum_ext}
use Rattle.logic.proofs.Tests.{tabulate_more}
use Rattle.models.specs.Layout.{state_count}
use Rattle.prepared_model.specs.promises.Rows.{choices_in, choice_in, model_in, Prepared}
use Rattle.prepared_model.proofs.ReadByPlace.{states_are}
use Rattle.prepared_model.proofs.PlacesInRange.{outcome_inside}
use Rattle.limits.specs.promises.Totals.{total, none, joined, gather, step_total, limit, cap, Totals}

-- ---- the same up to a cap

module _ (c : ℕ) where
  abbrev pub Same : ℕ → ℕ → Type 0
  Same x y = min c x ≡ min c y

  pub capped_same : (x : ℕ) → Same (min c x) x
  capped_same x = min-eq_right (min-le_left c x)

  both_full : (x y : ℕ) → c ≤ x → c ≤ y → Same x y
  both_full x y h g = min-eq_left h ∙ sym (min-eq_left g)

  -- Equal, or both at the cap or above it.
  same_or_full : (x y : ℕ) → Same x y → (x ≡ y) ⊎ ((c ≤ x) × (c ≤ y))
  same_or_full x y e = go (dec_lt x c) (dec_lt y c)
    where
      go : Dec (x < c) → Dec (y < c) → (x ≡ y) ⊎ ((c ≤ x) × (c ≤ y))
      go (yes h) (yes g) = inl (sym (min-eq_right {n = x} {m = c} (omega arith)) ∙ e ∙ min-eq_right {n = y} {m = c} (omega arith))
      go (yes h) (no g) = absurd (omega (arith, min-eq_right {n = x} {m = c} (omega arith), min-eq_left {n = c} {m = y} (omega arith)))
      go (no h) (yes g) = absurd (omega (arith, min-eq_left {n = c} {m = x} (omega arith), min-eq_right {n = y} {m = c} (omega arith)))
      go (no h) (no g) = inr (omega arith, omega arith)

  pub plus_same : (x x' y y' : ℕ) → Same x x' → Same y y' → Same (x + y) (x' + y')
  plus_same x x' y y' e f =
      ⊎_elim
      (λ p. ⊎_elim (λ q. ap₂ (λ a b. min c (a + b)) p q) (λ q. both_full (x + y) (x' + y') (omega arith) (omega arith)) (same_or_full y y' f))
      (λ p. both_full (x + y) (x' + y') (omega arith) (omega arith)) (same_or_full x x' e)

  full_times : {x y : ℕ} → c ≤ x → 0 < y → c ≤ x * y
  full_times {x} {y} h g = le_trans h (omega (arith, mul-le-mul_left x g, mul-one x))

  -- A factor at the cap makes the product 0 or full, by the other one.
  times_full : (x x' y y' : ℕ) → c ≤ x → c ≤ x' → ((y ≡ 0) × (y' ≡ 0)) ⊎ ((0 < y) × (0 < y')) → Same (x * y) (x' * y')
  times_full x x' y y' h g w =
      ⊎_elim
      (λ z. ap (λ a. min c (x * a)) z.0 ∙ ap (min c) (mul-zero x ∙ sym (mul-zero x')) ∙ ap (λ b. min c (x' * b)) (sym z.1))
      (λ z. both_full (x * y) (x' * y') (full_times h z.0) (full_times g z.1)) w

  positive : 0 < c → (y y' : ℕ) → Same y y' → ((y ≡ 0) × (y' ≡ 0)) ⊎ ((0 < y) × (0 < y'))
  positive k y y' f = ⊎_elim (λ p. go (dec_lt 0 y) p) (λ p. inr (omega arith, omega arith)) (same_or_full y y' f)
    where
      go : Dec (0 < y) → y ≡ y' → ((y ≡ 0) × (y' ≡ 0)) ⊎ ((0 < y) × (0 < y'))
      go (yes h) p = inr (h, omega arith)
      go (no h) p = inl (omega arith, omega arith)

  pub times_same : 0 < c → (x x' y y' : ℕ) → Same x x' → Same y y' → Same (x * y) (x' * y')
  times_same k x x' y y' e f =
      ⊎_elim
      (λ p.
      ⊎_elim (λ q. ap₂ (λ a b. min c (a * b)) p q)
      (λ q. ap (min c) (mul_comm x y) ∙ times_full y y' x x' q.0 q.1 (positive k x x' e) ∙ ap (min c) (mul_comm y' x'))
      (same_or_full y y' f))
      (λ p. times_full x x' y y' p.0 p.1 (positive k y y' f)) (same_or_full x x' e)

-- ---- totals up to the cap

pub limit_most : (plans : Bool) → limit plans ≤ 1000000
unfolding limit
limit_most true = omega arith
limit_most false = omega arith

capped_most : (plans : Bool) (x : ℕ) → min (cap plans) x ≤ 1000001
capped_most plans x = omega (arith, min-le_left (cap plans) x, limit_most plans)

none_small : (plans : Bool) → none plans ≤ cap plans
unfolding none
none_small true = omega arith
none_small false = omega arith

none_capped : (plans : Bool) → none plans ≡ min (cap plans) (none plans)
none_capped plans = sym (min-eq_right (none_small plans))

pub small_of : (plans : Bool) (x y : ℕ) → x ≡ min (cap plans) y → x ≤ 1000001
small_of plans x y e = rw e (capped_most plans y)

joined_same : (plans : Bool) (x x' y y' : ℕ) → Same (cap plans) x x' → Same (cap plans) y y' → Same (cap plans) (joined plans x y) (joined plans x' y')
unfolding joined
joined_same true x x' y y' e f = times_same (cap true) (omega arith) x x' y y' e f
joined_same false x x' y y' e f = plus_same (cap false) x x' y y' e f

gather_end : (plans : Bool) (x : ℕ) → joined plans x (none plans) ≡ joined plans (none plans) x
unfolding joined none
gather_end true x = mul_comm x 1
gather_end false x = omega arith

joined_assoc : (plans : Bool) (x y z : ℕ) → joined plans x (joined plans y z) ≡ joined plans (joined plans x y) z
unfolding joined
joined_assoc true x y z = sym (mul_assoc x y z)
joined_assoc false x y z = sym (add_assoc x y z)

module _ {A : Type 0} where
  pub gather_same : (plans : Bool) (f g : A → ℕ) (l : List A) → ((x : A) → Memᴰ x l → Same (cap plans) (f x) (g x))
      → Same (cap plans) (gather plans f l) (gather plans g l)
  unfolding gather
  gather_same plans f g [] h = refl
  gather_same plans f g (x ∷ l) h =
      joined_same plans (f x) (g x) (gather plans f l) (gather plans g l) (h x (Memᴰ.head refl)) (gather_same plans f g l (λ y i. h y (Memᴰ.tail i)))

  pub sum_same : (c : ℕ) (f g : A → ℕ) (l : List A) → ((x : A) → Memᴰ x l → Same c (f x) (g x)) → Same c (sum naturals f l) (sum naturals g l)
  unfolding sum
  sum_same c f g [] h = refl
  sum_same c f g (x ∷ l) h =
      plus_same c (f x) (g x) (sum naturals f l) (sum naturals g l) (h x (Memᴰ.head refl)) (sum_same c f g l (λ y i. h y (Memᴰ.tail i)))

  -- One outcome more.
  gather_more : (plans : Bool) (f : A → ℕ) (l : List A) (x : A) → gather plans f (l ++ (x ∷ [])) ≡ joined plans (gather plans f l) (f x)
  unfolding gather
  gather_more plans f [] x = gather_end plans (f x)
  gather_more plans f (y ∷ l) x = ap (joined plans (f y)) (gather_more plans f l x) ∙ joined_assoc plans (f y) (gather plans f l) (f x)

  gather_multiply : (f : A → ℕ) (l : List A) → multiply f l ≡ gather true f l
  unfolding gather multiply none joined
  gather_multiply f [] = refl
  gather_multiply f (x ∷ l) = ap (λ z. f x * z) (gather_multiply f l)

  gather_sum : (f : A → ℕ) (l : List A) → sum naturals f l ≡ gather false f l
  unfolding gather sum none joined
  gather_sum f [] = refl
  gather_sum f (x ∷ l) = ap (λ z. f x + z) (gather_sum f l)

-- ---- the turns of the loops

module _ (plans : Bool) (f : Step → ℕ) (g : ℕ → Step) where
  pub gather_start : none plans ≡ min (cap plans) (gather plans f (tabulate 0 g))
  unfolding gather tabulate count_from
  gather_start = none_capped plans

  pub gather_next : (i x v r : ℕ) → x ≡ min (cap plans) (gather plans f (tabulate i g)) → v ≡ f (g i) → r ≡ min (cap plans) (joined plans x v)
      → r ≡ min (cap plans) (gather plans f (tabulate (i + 1) g))
  gather_next i x v r e h k =
      let l : ℕ = gather plans f (tabulate i g) in
      k ∙ ap₂ (λ a b. min (cap plans) (joined plans a b)) e h
      ∙ joined_same plans (min (cap plans) l) l (f (g i)) (f (g i)) (capped_same (cap plans) l) refl
      ∙ ap (min (cap plans)) (sym (gather_more plans f (tabulate i g) (g i)) ∙ ap (gather plans f) (sym (tabulate_more g i)) ∙ ap (λ n. gather plans f (tabulate n g)) (sym (add-one i)))

module _ (c : ℕ) (f g : ℕ → ℕ) where
  pub sum_start : 0 ≡ min c (sum naturals f (tabulate 0 g))
  unfolding sum tabulate count_from
  sum_start = sym (min-eq_right (omega arith))

  pub sum_next : (i x v r : ℕ) → x ≡ min c (sum naturals f (tabulate i g)) → v ≡ min c (f (g i)) → r ≡ min c (x + v) → r ≡ min c (sum naturals f (tabulate (i + 1) g))
  unfolding sum
  sum_next i x v r e h k =
      let l : List ℕ = tabulate i g in
      k ∙ ap₂ (λ p q. min c (p + q)) e h
      ∙ plus_same c (min c (sum naturals f l)) (sum naturals f l) (min c (f (g i))) (f (g i)) (capped_same c (sum naturals f l)) (capped_same c (f (g i)))
      ∙ ap (min c)
      (ap (λ y. sum naturals f l + y) (sym (add-zero (f (g i))))
      ∙ sym (sum-append naturals naturals_additive f l (g i ∷ []))
      ∙ ap (sum naturals f) (sym (tabulate_more g i))
      ∙ ap (λ n. sum naturals f (tabulate n g)) (sym (add-one i)))

-- The loop over the choices of a state ends with all of them.
pub state_end : {m : List ℕ} → Prepared m → (plans : Bool) (f : ℕ → ℕ) (s : ℕ) → s < state_count m
    → sum naturals (λ a. gather plans (λ o. f o.target) (outcomes (model_in m) s a)) (tabulate (choices_in m s) (choice_in m s)) ≡ step_total plans (model_in m) f s
unfolding step_total
state_end {m} w plans f s h = ap (sum naturals (λ a. gather plans (λ o. f o.target) (outcomes (model_in m) s a))) (sym (w.choices s h))

-- ---- one step more

module _ (plans : Bool) (m : Model) where
  pub total_none : (s : ℕ) → total plans m 0 s ≡ 1
  unfolding total path_total plan_total
  total_none s = go plans
    where
      go : (t : Bool) → total t m 0 s ≡ 1
      go true = refl
      go false = refl

  pub total_step : (n s : ℕ) → total plans m (suc n) s ≡ step_total plans m (total plans m n) s
  unfolding step_total total path_total plan_total
  total_step n s = go plans
    where
      go : (t : Bool) → total t m (suc n) s ≡ sum naturals (λ a. gather t (λ o. total t m n o.target) (outcomes m s a)) (enabled m s)
      go true = sum_ext naturals naturals_additive _ _ (enabled m s) (λ a. gather_multiply (λ o. plan_total m n o.target) (outcomes m s a))
      go false = sum_ext naturals naturals_additive _ _ (enabled m s) (λ a. gather_sum (λ o. path_total m n o.target) (outcomes m s a))

  -- Where the totals f are the capped ones of n steps, those of a step more come out capped.
  pub step_capped : (n s : ℕ) (f : ℕ → ℕ)
      → ((a : ℕ) → Memᴰ a (enabled m s) → (o : Step) → Memᴰ o (outcomes m s a) → f o.target ≡ min (cap plans) (total plans m n o.target))
      → min (cap plans) (step_total plans m f s) ≡ min (cap plans) (total plans m (suc n) s)
  unfolding step_total
  step_capped n s f h =
      sum_same (cap plans) _ _ (enabled m s)
      (λ a i. gather_same plans (λ o. f o.target) (λ o. total plans m n o.target) (outcomes m s a)
      (λ o j. ap (min (cap plans)) (h a i o j) ∙ capped_same (cap plans) (total plans m n o.target)))
      ∙ ap (min (cap plans)) (sym (total_step n s))

-- ---- the table

-- The totals before place k stand in the table.
pub record Filled (plans : Bool) (m table : List ℕ) (k : ℕ) : Type 0 where
  pub size : length table ≡ 224
  pub small : (i : ℕ) → get_or table i 0 ≤ cap plans
  pub counted : (n s : ℕ) → 32 * n + s < k → s < state_count m → get_or table (32 * n + s) 0 ≡ min (cap plans) (total plans (model_in m) n s)

ones_small : (n i : ℕ) → get_or (replicate n 1) i 0 ≤ 1
ones_small zero i = omega arith
ones_small (suc n) zero = omega arith
ones_small (suc n) (suc i) = ones_small n i

module _ (plans : Bool) (m : List ℕ) (w : Prepared m) where
  pub filled_start : Filled plans m (replicate 224 1) 32
  filled_start =
      record {
        size = length-replicate {A = ℕ} 224 1;
        small = λ i. omega (arith, ones_small 224 i, limit_most plans);
        counted = λ n s h k.
            let z : n ≡ 0 = omega arith in
            get_or-replicate {A = ℕ} 224 (32 * n + s) 1 0 (omega arith)
            ∙ sym (ap (λ n. min (cap plans) (total plans (model_in m) n s)) z ∙ ap (min (cap plans)) (total_none plans (model_in m) s) ∙ min-eq_right (omega arith));
      }

  module _ (table : List ℕ) (k : ℕ) (f : Filled plans m table k) where
    -- A place of no state stays.
    pub filled_past : state_count m ≤ k % 32 → Filled plans m table (k + 1)
    filled_past h =
        record {
          size = f.size;
          small = f.small;
          counted = λ n s l g. f.counted n s (omega (arith, w.states)) g;
        }

    pub filled_more : (v : ℕ) → 32 ≤ k → k < 224 → k % 32 < state_count m
        → v ≡ min (cap plans) (step_total plans (model_in m) (λ t. get_or table (32 * (k / 32 - 1) + t) 0) (k % 32)) → Filled plans m (set table k v) (k + 1)
    filled_more v low high h e =
        record {
          size = length-set table k v ∙ f.size;
          small = λ i. small i (ℕ_discrete i k);
          counted = λ n s l g. counted n s l g (ℕ_discrete (32 * n + s) k);
        }
      where
        small : (i : ℕ) → Dec (i ≡ k) → get_or (set table k v) i 0 ≤ cap plans
        small i (yes q) = rw (q, get_or-set_same table k v 0 (rw f.size high), e) (min-le_left (cap plans) _)
        small i (no q) = rw (get_or-set_other table k i v 0 q) (f.small i)

        here : v ≡ min (cap plans) (total plans (model_in m) (k / 32) (k % 32))
        here =
            let z : suc (k / 32 - 1) ≡ k / 32 = omega arith in
            e
            ∙ step_capped plans (model_in m) (k / 32 - 1) (k % 32) (λ t. get_or table (32 * (k / 32 - 1) + t) 0)
            (λ a i o j. let t = outcome_inside w (k % 32) h a i o j in f.counted (k / 32 - 1) o.target (omega (arith, w.states)) t)
            ∙ ap (λ n. min (cap plans) (total plans (model_in m) n (k % 32))) z

        counted : (n s : ℕ) → 32 * n + s < k + 1 → s < state_count m → Dec (32 * n + s ≡ k)
            → get_or (set table k v) (32 * n + s) 0 ≡ min (cap plans) (total plans (model_in m) n s)
        counted n s l g (yes q) =
            let en : k / 32 ≡ n = omega (arith, w.states) in
            let es : k % 32 ≡ s = omega (arith, w.states) in
            ap (λ i. get_or (set table k v) i 0) q
            ∙ get_or-set_same table k v 0 (rw f.size high)
            ∙ here
            ∙ ap₂ (λ n s. min (cap plans) (total plans (model_in m) n s)) en es
        counted n s l g (no q) = get_or-set_other table k (32 * n + s) v 0 q ∙ f.counted n s (omega arith) g

  -- So many rows are filled.
  pub filled_rows : (rows : ℕ) (table : List ℕ) (k : ℕ) → Filled plans m table k → 32 * rows ≤ k → Totals plans (model_in m) rows table
  filled_rows rows table k f e = record { at = λ n s h g. let i : s < state_count m = rw (states_are m) at g in f.counted n s (omega (arith, w.states)) i }
