-- A value that looks at the first d steps only: over n steps its greatest total is that over d steps, times D to the n - d, and the plan of
-- first_best choices is the one of d steps, continued with first choices. Beyond d every enabled choice is worth the same, since a
-- choice's weights sum to D. The same for the least total: the order is any that does not mind a factor.
use Prim.Native.Nat.{ℕ, zero, suc, ◌*◌, ◌-◌, ◌^◌, ◌<◌, ◌≤◌}
use native.Mathlib.Omega.{arith}
use native.Mathlib.Nat.{le_of_suc-le-suc, not-suc-le-zero, mul_assoc, mul_left_comm, mul_comm, one-mul, pow-zero, pow-suc, mul-pos, le_refl, mul-le-mul_left, le_of_mul-le-mul_left}
use mathlib.Core.Path.{◌≡◌, refl, sym, ap, ap₂, subst, ◌∙◌}
use mathlib.Core.Bool.{Bool, true, false}
use mathlib.Core.List.{List, [], ◌∷◌, map, Memᴰ}
use lib.Dec.{leb, leb→le, le→leb}
use lib.ListN.{length, get_or, take}
use Rattle.logic.specs.Model.{Model, Step, enabled, outcomes}
use Rattle.logic.specs.Plan.{Plan}
use Rattle.logic.specs.Quantity.{naturals, sum}
use Rattle.logic.specs.promises.Orders.{weights, order}
use Rattle.logic.specs.Bound.{one_if}
use Rattle.logic.specs.promises.Total.{value_of}
use Rattle.logic.specs.Formula.{Formula, depth}
use Rattle.logic.specs.promises.Recursion.{best_choice, greatest, best_plan}
use Rattle.logic.specs.promises.Extension.{first_choice, first_plan, extended}
use Rattle.logic.specs.Accepted.{Accepted, Executable}
use Rattle.logic.proofs.Tests.{T→true, true→T, same_test}
use Rattle.logic.proofs.FirstChoice.{map_same, join_map, sum_any, sum_scaled, first_best_constant, choice_in, choice_same}
use Rattle.logic.proofs.Depth.{sat_short}

-- A value that looks at the first d steps only.
abbrev pub Short : ℕ → (List Step → ℕ) → Type 0
Short d f = (r : List Step) → f r ≡ f (take d r)

short_after : (d : ℕ) (f : List Step → ℕ) → Short (suc d) f → (o : Step) → Short d (λ r. f (o ∷ r))
short_after d f h o r = h (o ∷ r)

constant_after : (f : List Step → ℕ) → Short 0 f → (o : Step) → Short 0 (λ r. f (o ∷ r))
constant_after f h o r = h (o ∷ r) ∙ sym (h (o ∷ []))

module _ (m : Model) (accepted : Accepted m) (some_weight : 0 < m.denominator) where
  module _ (le : ℕ → ℕ → Bool) (self : (a : ℕ) → le a a ≡ true) (scale : (k a b : ℕ) → 0 < k → le (k * a) (k * b) ≡ le a b) where
    abbrev best : (n s : ℕ) → (List Step → ℕ) → ℕ
    best n s f = greatest (weights le) m n s f

    -- The worth of a choice, and the first_best choice.
    worth : (n s : ℕ) → (List Step → ℕ) → ℕ → ℕ
    worth n s f a = sum (weights le) (λ o. o.weight * best n o.target (λ r. f (o ∷ r))) (outcomes m s a)

    chosen : (n s : ℕ) → (List Step → ℕ) → ℕ
    chosen n s f = best_choice (weights le) (worth n s f) (enabled m s)

    best_step : (n s : ℕ) (f : List Step → ℕ) → best (suc n) s f ≡ worth n s f (chosen n s f)
    unfolding greatest worth chosen
    best_step n s f = refl

    best_none : (s : ℕ) (f : List Step → ℕ) → best 0 s f ≡ f []
    unfolding greatest
    best_none s f = refl

    plan_step : (n s : ℕ) (f : List Step → ℕ)
        → best_plan (weights le) m (suc n) s f
        ≡ (chosen n s f, map (λ o. best_plan (weights le) m n o.target (λ r. f (o ∷ r))) (outcomes m s (chosen n s f)))
    unfolding best_plan worth chosen
    plan_step n s f = refl

    choice_scaled : (k : ℕ) → 0 < k → (u v : ℕ → ℕ) (l : List ℕ) → (a : ℕ) × (r : List ℕ) × (l ≡ a ∷ r) → ((a : ℕ) → Memᴰ a l → u a ≡ k * v a)
        → best_choice (weights le) u l ≡ best_choice (weights le) v l
    choice_scaled k p u v l h e = choice_same le u v l h (λ a b i j. ap₂ le (e a i) (e b j) ∙ scale k (v a) (v b) p)

    choice_constant : (c : ℕ) (v : ℕ → ℕ) (l : List ℕ) → (a : ℕ) × (r : List ℕ) × (l ≡ a ∷ r) → ((a : ℕ) → Memᴰ a l → v a ≡ c) → best_choice (weights le) v l ≡ get_or l 0 0
    unfolding best_choice
    choice_constant c v l h =
        subst (λ z. ((a : ℕ) → Memᴰ a z → v a ≡ c) → best_choice (weights le) v z ≡ get_or z 0 0) (sym h.2)
        (first_best_constant le self c v h.0 h.1)

    module _ {s : ℕ} (k : s < length m.states) where
      exec : (a : ℕ) → Memᴰ a (enabled m s) → Executable m s a
      exec a i = record { state = k; choice = i }

      chosen_in : (n : ℕ) (f : List Step → ℕ) → Memᴰ (chosen n s f) (enabled m s)
      unfolding chosen
      chosen_in n f = choice_in le (worth n s f) (enabled m s) (accepted.some_choice s k)

      -- What each enabled choice is worth, where the best values below it are c times g.
      worth_scaled : (c n : ℕ) (f : List Step → ℕ) (g : Step → ℕ) (a : ℕ) → Memᴰ a (enabled m s)
          → ((o : Step) → o.target < length m.states → best n o.target (λ r. f (o ∷ r)) ≡ c * g o)
          → worth n s f a ≡ c * sum naturals (λ o. o.weight * g o) (outcomes m s a)
      unfolding worth
      worth_scaled c n f g a i h =
          sum_any le _ (outcomes m s a)
          ∙ sum_scaled c _ (λ o. o.weight * g o) (outcomes m s a)
          (λ o j. ap (λ z. o.weight * z) (h o (accepted.inside (exec a i) o j)) ∙ mul_left_comm o.weight c (g o))

    -- ---- the greatest total

    constant_step : (n x w : ℕ) → w ≡ m.denominator → m.denominator ^ n * (x * w) ≡ m.denominator ^ suc n * x
    constant_step n x w e =
        let D : ℕ = m.denominator in
        ap (λ z. D ^ n * z) (mul_comm x w ∙ ap (λ z. z * x) e) ∙ sym (ap (λ z. z * x) (pow-suc D n) ∙ mul_assoc (D ^ n) D x)

    -- A value that looks at no step: every choice is worth the same.
    worth_constant : (n s : ℕ) (f : List Step → ℕ) → s < length m.states → Short 0 f
        → ((t : ℕ) (g : List Step → ℕ) → t < length m.states → Short 0 g → best n t g ≡ m.denominator ^ n * g [])
        → (a : ℕ) → Memᴰ a (enabled m s) → worth n s f a ≡ m.denominator ^ suc n * f []
    worth_constant n s f k h ih a i =
        worth_scaled k (m.denominator ^ n) n f (λ o. f []) a i
        (λ o t. ih o.target (λ r. f (o ∷ r)) t (constant_after f h o) ∙ ap (λ z. m.denominator ^ n * z) (h (o ∷ [])))
        ∙ ap (λ z. m.denominator ^ n * z) (sum_scaled (f []) _ (λ o. o.weight) (outcomes m s a) (λ o j. mul_comm o.weight (f [])))
        ∙ constant_step n (f []) _ (accepted.sums (exec k a i))

    best_constant : (n s : ℕ) (f : List Step → ℕ) → s < length m.states → Short 0 f → best n s f ≡ m.denominator ^ n * f []
    best_constant zero s f k h = best_none s f ∙ sym (ap (λ z. z * f []) (pow-zero m.denominator) ∙ one-mul (f []))
    best_constant (suc n) s f k h = best_step n s f ∙ worth_constant n s f k h (best_constant n) (chosen n s f) (chosen_in k n f)

    -- What a choice is worth over more steps than its value looks at, given the same below it.
    worth_longer : (c d n s : ℕ) (f : List Step → ℕ) → s < length m.states → Short (suc d) f
        → ((t : ℕ) (g : List Step → ℕ) → t < length m.states → Short d g → best n t g ≡ c * best d t g)
        → (a : ℕ) → Memᴰ a (enabled m s) → worth n s f a ≡ c * worth d s f a
    unfolding worth
    worth_longer c d n s f k h ih a i =
        worth_scaled k c n f (λ o. best d o.target (λ r. f (o ∷ r))) a i (λ o t. ih o.target (λ r. f (o ∷ r)) t (short_after d f h o))
        ∙ ap (λ z. c * z) (sym (sum_any le (λ o. o.weight * best d o.target (λ r. f (o ∷ r))) (outcomes m s a)))

    some_power : (n : ℕ) → 0 < m.denominator ^ n
    some_power zero = rw (pow-zero m.denominator) (omega arith)
    some_power (suc n) = rw (pow-suc m.denominator n) (mul-pos (some_power n) some_weight)

    chosen_longer : (d n s : ℕ) (f : List Step → ℕ) → s < length m.states → Short (suc d) f
        → ((t : ℕ) (g : List Step → ℕ) → t < length m.states → Short d g → best n t g ≡ m.denominator ^ (n - d) * best d t g)
        → chosen n s f ≡ chosen d s f
    unfolding chosen
    chosen_longer d n s f k h ih =
        choice_scaled (m.denominator ^ (n - d)) (some_power (n - d)) (worth n s f) (worth d s f) (enabled m s) (accepted.some_choice s k)
        (worth_longer (m.denominator ^ (n - d)) d n s f k h ih)

    -- The greatest total over n steps, of a value that looks at d of them.
    pub greatest_longer : (d n s : ℕ) (f : List Step → ℕ) → d ≤ n → s < length m.states → Short d f
        → greatest (weights le) m n s f ≡ m.denominator ^ (n - d) * greatest (weights le) m d s f
    greatest_longer zero n s f l k h =
        let e : n ≡ n - 0 = omega arith in
        best_constant n s f k h ∙ ap₂ (λ i z. m.denominator ^ i * z) e (sym (best_none s f))
    greatest_longer (suc d) zero s f l k h = absurd (not-suc-le-zero l)
    greatest_longer (suc d) (suc n) s f l k h =
        let e : n - d ≡ suc n - suc d = omega arith in
        let ih : (t : ℕ) (g : List Step → ℕ) → t < length m.states → Short d g → best n t g ≡ m.denominator ^ (n - d) * best d t g =
        λ t g j p. greatest_longer d n t g (le_of_suc-le-suc l) j p in
        best_step n s f
        ∙ ap (worth n s f) (chosen_longer d n s f k h ih)
        ∙ worth_longer (m.denominator ^ (n - d)) d n s f k h ih (chosen d s f) (chosen_in k d f)
        ∙ ap₂ (λ i z. m.denominator ^ i * z) e (sym (best_step d s f))

    -- ---- the plan

    abbrev plan_of_best : (n s : ℕ) → (List Step → ℕ) → Plan n
    plan_of_best n s f = best_plan (weights le) m n s f

    first_chosen : (n s : ℕ) (f : List Step → ℕ) → s < length m.states → Short 0 f → chosen n s f ≡ first_choice m s
    unfolding chosen first_choice
    first_chosen n s f k h =
        choice_constant (m.denominator ^ suc n * f []) (worth n s f) (enabled m s) (accepted.some_choice s k) (worth_constant n s f k h (best_constant n))

    plan_constant : (n s : ℕ) (f : List Step → ℕ) → s < length m.states → Short 0 f → plan_of_best n s f ≡ first_plan m n s
    unfolding best_plan first_plan
    plan_constant zero s f k h = refl
    plan_constant (suc n) s f k h =
        let a : ℕ = chosen n s f in
        plan_step n s f
        ∙ ap (λ ps. (a, ps))
        (map_same (λ o. plan_of_best n o.target (λ r. f (o ∷ r))) (λ o. first_plan m n o.target) (outcomes m s a)
        (λ o j. plan_constant n o.target (λ r. f (o ∷ r)) (accepted.inside (exec k a (chosen_in k n f)) o j) (constant_after f h o)))
        ∙ ap (λ a. (a, map (λ o. first_plan m n o.target) (outcomes m s a))) (first_chosen n s f k h)

    -- The plan of first_best choices over n steps, of a value that looks at d of them.
    pub plan_longer : (d n s : ℕ) (f : List Step → ℕ) → d ≤ n → s < length m.states → Short d f
        → best_plan (weights le) m n s f ≡ extended m d n s (best_plan (weights le) m d s f)
    unfolding extended
    plan_longer zero n s f l k h = plan_constant n s f k h
    plan_longer (suc d) zero s f l k h = absurd (not-suc-le-zero l)
    plan_longer (suc d) (suc n) s f l k h =
        let a : ℕ = chosen d s f in
        let i : Memᴰ a (enabled m s) = chosen_in k d f in
        let below : Step → Plan d = λ o. plan_of_best d o.target (λ r. f (o ∷ r)) in
        plan_step n s f
        ∙ ap (λ a. (a, map (λ o. plan_of_best n o.target (λ r. f (o ∷ r))) (outcomes m s a)))
        (chosen_longer d n s f k h (λ t g j p. greatest_longer d n t g (le_of_suc-le-suc l) j p))
        ∙ ap (λ ps. (a, ps))
        (map_same _ (λ o. extended m d n o.target (below o)) (outcomes m s a)
        (λ o j. plan_longer d n o.target (λ r. f (o ∷ r)) (le_of_suc-le-suc l) (accepted.inside (exec k a i) o j) (short_after d f h o))
        ∙ sym (join_map (λ o q. extended m d n o.target q) below (outcomes m s a)))
        ∙ ap (extended m (suc d) (suc n) s) (sym (plan_step d s f))

  -- ---- the greatest and the least weight of a condition

  order_self : (least : Bool) (a : ℕ) → order least a a ≡ true
  order_self true a = T→true (leb a a) (le→leb a a (le_refl a))
  order_self false a = T→true (leb a a) (le→leb a a (le_refl a))

  leb_scaled : (k a b : ℕ) → 0 < k → leb (k * a) (k * b) ≡ leb a b
  leb_scaled k a b h =
      same_test _ _
      (λ e. T→true _ (le→leb a b (le_of_mul-le-mul_left (leb→le (k * a) (k * b) (true→T e)) h)))
      (λ e. T→true _ (le→leb (k * a) (k * b) (mul-le-mul_left k (leb→le a b (true→T e)))))

  order_scaled : (least : Bool) (k a b : ℕ) → 0 < k → order least (k * a) (k * b) ≡ order least a b
  order_scaled true k a b h = leb_scaled k b a h
  order_scaled false k a b h = leb_scaled k a b h

  module _ (least : Bool) (φ : Formula) (d n s : ℕ) (deep : depth φ ≤ d) (more : d ≤ n) (inside : s < length m.states) where
    short_value : Short d (value_of m φ s)
    short_value r = ap one_if (sat_short m φ d s r deep)

    pub weight_longer : greatest (weights (order least)) m n s (value_of m φ s) ≡ m.denominator ^ (n - d) * greatest (weights (order least)) m d s (value_of m φ s)
    weight_longer = greatest_longer (order least) (order_self least) (order_scaled least) d n s (value_of m φ s) more inside short_value

    pub best_longer : best_plan (weights (order least)) m n s (value_of m φ s) ≡ extended m d n s (best_plan (weights (order least)) m d s (value_of m φ s))
    best_longer = plan_longer (order least) (order_self least) (order_scaled least) d n s (value_of m φ s) more inside short_value
