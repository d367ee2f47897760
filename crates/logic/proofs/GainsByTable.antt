-- Expected gains by backward induction: a gain is a sum over steps, so the best plan from a state does not depend on how the state was reached. A
-- number that is added to the value of every path adds itself, times the denominator to the steps left, to every total, and changes no
-- choice. So the best totals over one step more are made from those below, a table by steps left and states, and the plan of the choices
-- kept in it is the first of the best.
use Prim.Native.Nat.{ℕ, zero, suc, ◌+◌, ◌*◌, ◌-◌, ◌^◌, ◌≤◌, ◌<◌}
use native.Mathlib.Omega.{arith}
use native.Mathlib.Nat.{mul_comm, mul_assoc, mul-add, pow-suc, pow-zero, one-mul, mul-le-mul_left}
use mathlib.Core.Path.{◌≡◌, refl, sym, ap, ap₂, subst, ◌∙◌, fun_ext}
use mathlib.Core.Bool.{Bool, true, false}
use mathlib.Core.List.{List, [], ◌∷◌, map, Memᴰ}
use lib.Dec.{leb, leb→le, le→leb}
use lib.ListN.{length, take, drop}
use lib.Seq.{drop-nil}
use Rattle.logic.specs.Model.{Model, Step, enabled, outcomes}
use Rattle.logic.specs.Quantity.{naturals, sum}
use Rattle.logic.specs.Accepted.{Accepted, Executable}
use Rattle.logic.specs.promises.Orders.{weights, order}
use Rattle.logic.specs.promises.Raised.{raise, raised, pay, gain_worth, gain_choice, ModestRewards}
use Rattle.logic.specs.promises.Extension.{chosen_plan}
use Rattle.logic.specs.promises.Recursion.{best_choice, greatest, best_plan}
use Rattle.logic.proofs.Tests.{T→true, true→T, same_test}
use Rattle.logic.proofs.FirstChoice.{map_same, sum_any, choice_in, choice_same}

-- ---- a number added to every value

leb_added : (c a b : ℕ) → leb (c + a) (c + b) ≡ leb a b
leb_added c a b =
    same_test _ _
    (λ e. let h = leb→le (c + a) (c + b) (true→T e) in T→true _ (le→leb a b (omega arith)))
    (λ e. let h = leb→le a b (true→T e) in T→true _ (le→leb (c + a) (c + b) (omega arith)))

order_added : (least : Bool) (c a b : ℕ) → order least (c + a) (c + b) ≡ order least a b
order_added true c a b = leb_added c b a
order_added false c a b = leb_added c a b

-- Each weighed value has x more: the sum has x more for each part of the weights.
sum_added : (x : ℕ) (f g : Step → ℕ) (l : List Step) → ((o : Step) → Memᴰ o l → f o ≡ x + g o)
    → sum naturals (λ o. o.weight * f o) l ≡ x * sum naturals (λ o. o.weight) l + sum naturals (λ o. o.weight * g o) l
unfolding sum
sum_added x f g [] h = omega arith
sum_added x f g (o ∷ l) h =
    let i = sum_added x f g l (λ y j. h y (Memᴰ.tail j)) in
    let j : o.weight * f o ≡ x * o.weight + o.weight * g o =
    ap (λ z. o.weight * z) (h o (Memᴰ.head refl)) ∙ mul-add o.weight x (g o) ∙ ap (λ z. z + o.weight * g o) (mul_comm o.weight x) in
    let k = mul-add x o.weight (sum naturals (λ o. o.weight) l) in
    omega arith

pub sum_same : (f g : Step → ℕ) (l : List Step) → ((o : Step) → Memᴰ o l → f o ≡ g o) → sum naturals f l ≡ sum naturals g l
unfolding sum
sum_same f g [] h = refl
sum_same f g (o ∷ l) h = ap₂ ◌+◌ (h o (Memᴰ.head refl)) (sum_same f g l (λ x i. h x (Memᴰ.tail i)))

module _ (m : Model) (accepted : Accepted m) (least : Bool) where
  abbrev D : ℕ
  D = m.denominator

  abbrev best : (n s : ℕ) → (List Step → ℕ) → ℕ
  best n s f = greatest (weights (order least)) m n s f

  -- What a choice is worth.
  worth : (n s : ℕ) → (List Step → ℕ) → ℕ → ℕ
  worth n s f a = sum naturals (λ o. o.weight * best n o.target (λ r. f (o ∷ r))) (outcomes m s a)

  chosen : (n s : ℕ) → (List Step → ℕ) → ℕ
  chosen n s f = best_choice (weights (order least)) (worth n s f) (enabled m s)

  worth_any : (n s : ℕ) (f : List Step → ℕ)
      → (λ a. sum (weights (order least)) (λ o. o.weight * best n o.target (λ r. f (o ∷ r))) (outcomes m s a)) ≡ worth n s f
  unfolding worth
  worth_any n s f = fun_ext (λ a. sum_any (order least) _ (outcomes m s a))

  best_step : (n s : ℕ) (f : List Step → ℕ) → best (suc n) s f ≡ worth n s f (chosen n s f)
  unfolding greatest chosen
  best_step n s f = ap (λ v. v (best_choice (weights (order least)) v (enabled m s))) (worth_any n s f)

  plan_step : (n s : ℕ) (f : List Step → ℕ)
      → best_plan (weights (order least)) m (suc n) s f
      ≡ (chosen n s f, map (λ o. best_plan (weights (order least)) m n o.target (λ r. f (o ∷ r))) (outcomes m s (chosen n s f)))
  unfolding best_plan chosen
  plan_step n s f =
      ap (λ v. let a : ℕ = best_choice (weights (order least)) v (enabled m s) in (a, map (λ o. best_plan (weights (order least)) m n o.target (λ r. f (o ∷ r))) (outcomes m s a)))
      (worth_any n s f)

  module _ {s : ℕ} (k : s < length m.states) where
    exec : (a : ℕ) → Memᴰ a (enabled m s) → Executable m s a
    exec a i = record { state = k; choice = i }

    chosen_in : (n : ℕ) (f : List Step → ℕ) → Memᴰ (chosen n s f) (enabled m s)
    unfolding chosen
    chosen_in n f = choice_in (order least) (worth n s f) (enabled m s) (accepted.some_choice s k)

    -- Where all that is worth something is worth x more, the choice is the same.
    chosen_more : (x n : ℕ) (f g : List Step → ℕ) → ((a : ℕ) → Memᴰ a (enabled m s) → worth n s f a ≡ x + worth n s g a) → chosen n s f ≡ chosen n s g
    unfolding chosen
    chosen_more x n f g h =
        choice_same (order least) (worth n s f) (worth n s g) (enabled m s) (accepted.some_choice s k)
        (λ a b i j. ap₂ (order least) (h a i) (h b j) ∙ order_added least x (worth n s g a) (worth n s g b))

  worth_added : (n s c : ℕ) (f : List Step → ℕ) → s < length m.states
      → ((t : ℕ) (g : List Step → ℕ) → t < length m.states → best n t (λ r. c + g r) ≡ D ^ n * c + best n t g)
      → (a : ℕ) → Memᴰ a (enabled m s) → worth n s (λ r. c + f r) a ≡ D ^ suc n * c + worth n s f a
  unfolding worth
  worth_added n s c f k ih a i =
      sum_added (D ^ n * c) _ (λ o. best n o.target (λ r. f (o ∷ r))) (outcomes m s a)
      (λ o j. ih o.target (λ r. f (o ∷ r)) (accepted.inside (exec k a i) o j))
      ∙ ap (λ z. z + sum naturals (λ o. o.weight * best n o.target (λ r. f (o ∷ r))) (outcomes m s a))
      (ap (λ w. D ^ n * c * w) (accepted.sums (exec k a i)) ∙ shuffle (D ^ n) c D ∙ ap (λ z. z * c) (sym (pow-suc D n)))
    where
      shuffle : (x y z : ℕ) → x * y * z ≡ x * z * y
      shuffle x y z = mul_assoc x y z ∙ ap (λ w. x * w) (mul_comm y z) ∙ sym (mul_assoc x z y)

  greatest_added : (n s c : ℕ) (f : List Step → ℕ) → s < length m.states → best n s (λ r. c + f r) ≡ D ^ n * c + best n s f
  unfolding greatest
  greatest_added zero s c f k = ap (λ z. z + f []) (sym (ap (λ z. z * c) (pow-zero D) ∙ one-mul c))
  greatest_added (suc n) s c f k =
      let h = worth_added n s c f k (λ t g j. greatest_added n t c g j) in
      best_step n s (λ r. c + f r)
      ∙ ap (worth n s (λ r. c + f r)) (chosen_more k (D ^ suc n * c) n (λ r. c + f r) f h)
      ∙ h (chosen n s f) (chosen_in k n f)
      ∙ ap (λ z. D ^ suc n * c + z) (sym (best_step n s f))

  plan_added : (n s c : ℕ) (f : List Step → ℕ) → s < length m.states → best_plan (weights (order least)) m n s (λ r. c + f r) ≡ best_plan (weights (order least)) m n s f
  unfolding best_plan
  plan_added zero s c f k = refl
  plan_added (suc n) s c f k =
      let a : ℕ = chosen n s f in
      plan_step n s (λ r. c + f r)
      ∙ ap (λ a. (a, map (λ o. best_plan (weights (order least)) m n o.target (λ r. c + f (o ∷ r))) (outcomes m s a)))
      (chosen_more k (D ^ suc n * c) n (λ r. c + f r) f (worth_added n s c f k (λ t g j. greatest_added n t c g j)))
      ∙ ap (λ ps. (a, ps))
      (map_same _ (λ o. best_plan (weights (order least)) m n o.target (λ r. f (o ∷ r))) (outcomes m s a)
      (λ o j. plan_added n o.target c (λ r. f (o ∷ r)) (accepted.inside (exec k a (chosen_in k n f)) o j)))
      ∙ sym (plan_step n s f)

  -- ---- gains

  one_less : (u : ℕ) → suc u - 1 ≡ u
  one_less u = omega arith

  raised_step : (a u : ℕ) (o : Step) (r : List Step) → raised a u (o ∷ r) ≡ pay a u * raise o.reward + raised (a - 1) (u - 1) r
  unfolding raised pay sum
  raised_step zero zero o r = omega arith
  raised_step (suc a) zero o r = rw (one_less a, drop-nil {A = Step} a) (omega arith)
  raised_step zero (suc u) o r = rw (one_less u) (omega arith)
  raised_step (suc a) (suc u) o r = rw (one_less a, one_less u) (omega arith)

  -- What a choice is worth by the table.
  gains_worth : (n a u s : ℕ) → s < length m.states → (c : ℕ) → Memᴰ c (enabled m s) → worth n s (raised a u) c ≡ gain_worth least m n a u s c
  unfolding worth gain_worth
  gains_worth n a u s k c i =
      sum_same _ _ (outcomes m s c)
      (λ o j.
      ap (λ z. o.weight * z)
      (ap (best n o.target) (fun_ext (λ r. raised_step a u o r))
      ∙ greatest_added n o.target (pay a u * raise o.reward) (raised (a - 1) (u - 1)) (accepted.inside (exec k c i) o j)))

  gains_choice : (n a u s : ℕ) → s < length m.states → chosen n s (raised a u) ≡ gain_choice least m n a u s
  unfolding chosen gain_choice
  gains_choice n a u s k =
      choice_same (order least) (worth n s (raised a u)) (gain_worth least m n a u s) (enabled m s) (accepted.some_choice s k)
      (λ c d i j. ap₂ (order least) (gains_worth n a u s k c i) (gains_worth n a u s k d j))

  pub gain_choice_in : (n a u s : ℕ) → s < length m.states → Memᴰ (gain_choice least m n a u s) (enabled m s)
  gain_choice_in n a u s k = subst (λ c. Memᴰ c (enabled m s)) (gains_choice n a u s k) (chosen_in k n (raised a u))

  -- The best total over one step more.
  pub greatest_gains : (n a u s : ℕ) → s < length m.states
      → greatest (weights (order least)) m (suc n) s (raised a u) ≡ gain_worth least m n a u s (gain_choice least m n a u s)
  greatest_gains n a u s k =
      best_step n s (raised a u)
      ∙ gains_worth n a u s k (chosen n s (raised a u)) (chosen_in k n (raised a u))
      ∙ ap (gain_worth least m n a u s) (gains_choice n a u s k)

  pub greatest_nothing : (a u s : ℕ) → greatest (weights (order least)) m 0 s (raised a u) ≡ 0
  unfolding greatest raised sum
  greatest_nothing a u s = ap (λ l. sum naturals (λ o. raise o.reward) l) (nothing a u)
    where
      nothing : (a u : ℕ) → ◌≡◌ {A = List Step} (drop a (take u [])) []
      nothing zero zero = refl
      nothing zero (suc u) = refl
      nothing (suc a) zero = refl
      nothing (suc a) (suc u) = refl

  -- The plan of the choices kept by the table: with k of the n steps left, n - k of them are behind.
  pub gains_plan : (τ : ℕ → ℕ → ℕ) (a u : ℕ)
      → (n s : ℕ) → s < length m.states → (e : ℕ)
      → ((k t : ℕ) → k < n → t < length m.states → τ (suc k) t ≡ gain_choice least m k (a - (e + (n - suc k))) (u - (e + (n - suc k))) t)
      → chosen_plan m τ n s ≡ best_plan (weights (order least)) m n s (raised (a - e) (u - e))
  unfolding chosen_plan best_plan
  gains_plan τ a u zero s k e h = refl
  gains_plan τ a u (suc n) s k e h =
      let A : ℕ = a - e in
      let U : ℕ = u - e in
      let c : ℕ = gain_choice least m n A U s in
      let now : τ (suc n) s ≡ c =
      h n s (omega arith) k ∙ ap₂ (λ x y. gain_choice least m n x y s) (behind a n e) (behind u n e) in
      ap (λ c. (c, map (λ o. chosen_plan m τ n o.target) (outcomes m s c))) now
      ∙ ap (λ ps. (c, ps))
      (map_same _ (λ o. best_plan (weights (order least)) m n o.target (λ r. raised A U (o ∷ r))) (outcomes m s c)
      (λ o j.
      let t = accepted.inside (exec k c (gain_choice_in n A U s k)) o j in
      gains_plan τ a u n o.target t (suc e) (λ i t l v. h i t (omega arith) v ∙ ap₂ (λ x y. gain_choice least m i x y t) (later a i l) (later u i l))
      ∙ ap₂ (λ x y. best_plan (weights (order least)) m n o.target (raised x y)) (one_on a) (one_on u)
      ∙ sym (plan_added n o.target (pay A U * raise o.reward) (raised (A - 1) (U - 1)) t)
      ∙ ap (best_plan (weights (order least)) m n o.target) (fun_ext (λ r. sym (raised_step A U o r)))))
      ∙ ap (λ c. (c, map (λ o. best_plan (weights (order least)) m n o.target (λ r. raised A U (o ∷ r))) (outcomes m s c))) (sym (gains_choice n A U s k))
      ∙ sym (plan_step n s (raised A U))
    where
      behind : (x n e : ℕ) → x - (e + (suc n - suc n)) ≡ x - e
      behind x n e = omega arith

      one_on : (x : ℕ) → x - suc e ≡ x - e - 1
      one_on x = omega arith

      later : (x i : ℕ) → i < n → x - (e + (suc n - suc i)) ≡ x - (suc e + (n - suc i))
      later x i l = omega arith

  -- ---- how large they are

  sum_small : (b : ℕ) (f : Step → ℕ) (l : List Step) → ((o : Step) → Memᴰ o l → f o ≤ b) → sum naturals (λ o. o.weight * f o) l ≤ sum naturals (λ o. o.weight) l * b
  unfolding sum
  sum_small b f [] h = omega arith
  sum_small b f (o ∷ l) h =
      let i = sum_small b f l (λ x j. h x (Memᴰ.tail j)) in
      let j = mul-le-mul_left o.weight (h o (Memᴰ.head refl)) in
      let k = native.Mathlib.Nat.add-mul o.weight (sum naturals (λ o. o.weight) l) b in
      omega arith

  pay_small : (a u x : ℕ) → x ≤ 2000 → pay a u * x ≤ 2000
  unfolding pay
  pay_small zero zero x h = omega arith
  pay_small zero (suc u) x h = omega arith
  pay_small (suc a) u x h = omega arith

  module _ (modest : ModestRewards m) where
    -- What one outcome adds, before it is weighed.
    pub outcome_small : (n a u s : ℕ) → (c : ℕ) → Executable m s c → (o : Step) → Memᴰ o (outcomes m s c)
        → ((t : ℕ) → t < length m.states → greatest (weights (order least)) m n t (raised (a - 1) (u - 1)) ≤ 2000 * n * D ^ n)
        → D ^ n * (pay a u * raise o.reward) + greatest (weights (order least)) m n o.target (raised (a - 1) (u - 1)) ≤ 2000 * suc n * D ^ n
    outcome_small n a u s c x o j ih =
        let i = mul-le-mul_left (D ^ n) (pay_small a u (raise o.reward) (modest.modest x o j).small) in
        let h = ih o.target (accepted.inside x o j) in
        let k : 2000 * suc n * D ^ n ≡ D ^ n * 2000 + 2000 * n * D ^ n = spread n (D ^ n) in
        omega arith
      where
        spread : (n x : ℕ) → 2000 * suc n * x ≡ x * 2000 + 2000 * n * x
        spread n x =
            ap (λ z. z * x) (native.Mathlib.Nat.mul-suc 2000 n ∙ native.Mathlib.Nat.add_comm (2000 * n) 2000)
            ∙ native.Mathlib.Nat.add-mul 2000 (2000 * n) x ∙ ap (λ z. z + 2000 * n * x) (mul_comm 2000 x)

    pub gains_small : (n a u s : ℕ) → s < length m.states → greatest (weights (order least)) m n s (raised a u) ≤ 2000 * n * D ^ n
    unfolding gain_worth
    gains_small zero a u s k = rw (greatest_nothing a u s) (omega arith)
    gains_small (suc n) a u s k =
        let c : ℕ = gain_choice least m n a u s in
        let x : Executable m s c = exec k c (gain_choice_in n a u s k) in
        let h = sum_small (2000 * suc n * D ^ n) _ (outcomes m s c) (λ o j. outcome_small n a u s c x o j (λ t l. gains_small n (a - 1) (u - 1) t l)) in
        rw (greatest_gains n a u s k) (subst (λ z. gain_worth least m n a u s c ≤ z) (ap (λ w. w * (2000 * suc n * D ^ n)) (accepted.sums x) ∙ turn D (2000 * suc n) (D ^ n) ∙ ap (λ z. 2000 * suc n * z) (sym (pow-suc D n))) h)
      where
        turn : (x y z : ℕ) → x * (y * z) ≡ y * (z * x)
        turn x y z = mul_comm x (y * z) ∙ mul_assoc y z x
