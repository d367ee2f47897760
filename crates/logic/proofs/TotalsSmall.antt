-- How large totals are: the weights of a plan's paths sum to the denominator to the n, so a total is at most that many times what a path is
-- worth. A path is worth at most 1 to operator 8, and to operator 9 at most 1000 for each step.
use Prim.Native.Nat.{ℕ, zero, suc, ◌+◌, ◌*◌, ◌-◌, ◌^◌, ◌≤◌, ◌<◌}
use native.Mathlib.Omega.{arith}
use native.Mathlib.Nat.{le_trans, le_of_eq, mul-le-mul_left, mul-add, mul_comm}
use mathlib.Core.Path.{◌≡◌, refl, sym, ap, subst, ◌∙◌}
use mathlib.Core.Bool.{Bool, true, false}
use mathlib.Core.List.{List, [], ◌∷◌, Memᴰ}
use lib.Dec.{ltb}
use lib.IntN.{ℤ, pos, negsuc, sub_ℕ, nat_abs, neg_ℤ, ◌+ℤ◌, ◌*ℤ◌}
use lib.ListN.{length, take, drop}
use lib.Signed.{mag}
use borrow.Author.Tests.{ltb-true, ltb-false}
use Rattle.logic.specs.Checked.{ok}
use Rattle.logic.specs.Model.{Model, Step}
use Rattle.logic.specs.Quantity.{naturals, integers, sum}
use Rattle.logic.specs.Plan.{Plan, plans, paths, weight}
use Rattle.logic.specs.Accepted.{Accepted}
use Rattle.logic.specs.Bound.{Bound, total, one_if, gain_between}
use Rattle.logic.specs.Formula.{Formula, sat}
use Rattle.logic.specs.Verdict.{Goal, bound_of, goal}
use Rattle.logic.specs.promises.Raised.{raise, Modest, ModestRewards}
use Rattle.logic.proofs.Integers.{subℕ_ge, subℕ_lt}
use Rattle.logic.proofs.Checked.{not_ok, ok_same}
use Rattle.logic.proofs.PathWeights.{path_weights}
use Rattle.logic.proofs.Lowered.{lowered_by}
use Rattle.logic.proofs.WholeTotals.{AllModest, path_modest}
use Rattle.logic.proofs.OnPlan.{by_plan}
use Rattle.logic.proofs.Shown.{goal_bound}

-- ---- absolute values

difference_small : (a b : ℕ) → nat_abs (sub_ℕ a b) ≤ a + b
difference_small a b = by (ltb a b) refl
  where
    by : (t : Bool) → ltb a b ≡ t → nat_abs (sub_ℕ a b) ≤ a + b
    by true e = rw (subℕ_lt a b (ltb-true a b e)) (omega (arith, ltb-true a b e))
    by false e = rw (subℕ_ge a b (ltb-false a b e)) (omega arith)

sum_small : (x y : ℤ) → nat_abs (x +ℤ y) ≤ nat_abs x + nat_abs y
sum_small (pos a) (pos b) = omega arith
sum_small (pos a) (negsuc b) = difference_small a (suc b)
sum_small (negsuc a) (pos b) = le_trans (difference_small b (suc a)) (omega arith)
sum_small (negsuc a) (negsuc b) = omega arith

times_size : (a : ℕ) (z : ℤ) → nat_abs (pos a *ℤ z) ≡ a * nat_abs z
times_size a (pos b) = refl
times_size a (negsuc b) = size (a * suc b)
  where
    size : (n : ℕ) → nat_abs (neg_ℤ (pos n)) ≡ n
    size zero = refl
    size (suc n) = refl

-- ---- what a path is worth

reward_small : (z : ℤ) → Modest z → nat_abs z ≤ 1000
unfolding raise
reward_small (pos k) w = omega (arith, w.small)
reward_small (negsuc k) w =
    let e = ap (λ z. mag z) (lowered_by (negsuc k) (999 - k) 1000 (sym w.up) ∙ subℕ_lt (999 - k) 1000 (omega arith)) in
    omega arith

-- The rewards of the steps after the first k, up to step u.
gain_small : (k u : ℕ) (r : List Step) → AllModest r → nat_abs (sum integers (λ o. o.reward) (drop k (take u r))) ≤ 1000 * length r
unfolding sum
gain_small zero zero r h = omega arith
gain_small (suc k) zero r h = omega arith
gain_small zero (suc u) [] h = omega arith
gain_small (suc k) (suc u) [] h = omega arith
gain_small zero (suc u) (o ∷ r) h =
    omega (
      arith,
      sum_small o.reward (sum integers (λ o. o.reward) (take u r)),
      reward_small o.reward (h o (Memᴰ.head refl)),
      gain_small zero u r (λ p i. h p (Memᴰ.tail i)),
    )
gain_small (suc k) (suc u) (o ∷ r) h = omega (arith, gain_small k u r (λ p i. h p (Memᴰ.tail i)))

-- ---- what a plan is worth

weighed_small : {A : Type 0} (w : A → ℕ) (g : A → ℤ) (b : ℕ) (l : List A) → ((a : A) → Memᴰ a l → nat_abs (g a) ≤ b)
    → nat_abs (sum integers (λ a. pos (w a) *ℤ g a) l) ≤ b * sum naturals w l
unfolding sum
weighed_small w g b [] h = omega arith
weighed_small w g b (x ∷ l) h =
    omega (
      arith,
      sum_small (pos (w x) *ℤ g x) (sum integers (λ a. pos (w a) *ℤ g a) l),
      times_size (w x) (g x),
      mul-le-mul_left (w x) (h x (Memᴰ.head refl)),
      weighed_small w g b l (λ a i. h a (Memᴰ.tail i)),
      mul-add b (w x) (sum naturals w l),
      mul_comm (w x) b,
    )

module _ (m : Model) (accepted : Accepted m) (modest : ModestRewards m) where
  total_small : (n s : ℕ) → s < length m.states → (g : List Step → ℤ) (b : ℕ) → ((r : List Step) → length r ≡ n → AllModest r → nat_abs (g r) ≤ b)
      → (π : Plan n) → Memᴰ π (plans m n s) → nat_abs (total integers m n s π g) ≤ b * m.denominator ^ n
  unfolding total
  total_small n s k g b h π i =
      subst (λ d. nat_abs (sum integers (λ r. pos (weight r) *ℤ g r) (paths m n s π)) ≤ b * d) (path_weights m accepted n s k π i)
      (weighed_small weight g b (paths m n s π) (λ r j. let w = path_modest m accepted modest n s k π i r j in h r w.0 w.1))

  -- The worth of a path to a bound, of either operator.
  worth_small : (s : ℕ) (φ : Formula) (b : Bound) → bound_of m s φ ≡ ok b → 1 ≤ b.steps
      → (r : List Step) → length r ≡ b.steps → AllModest r → nat_abs (b.worth r) ≤ 1000 * b.steps
  unfolding bound_of gain_between one_if
  worth_small s φ b =
      let Small : Bound → Type 0 = λ b. 1 ≤ b.steps → (r : List Step) → length r ≡ b.steps → AllModest r → nat_abs (b.worth r) ≤ 1000 * b.steps in
      by_plan (λ φ c. c ≡ ok b → Small b) (λ _ e. absurd (not_ok e))
      (λ n ψ r p q e. subst Small (ok_same e) (λ h ρ l a. at_most_one (sat m ψ s ρ) n h))
      (λ n l u r p q e. subst Small (ok_same e) (λ h ρ k a. le_trans (gain_small (l - 1) u ρ a) (le_of_eq (ap (λ n. 1000 * n) k)))) φ
    where
      at_most_one : (t : Bool) (n : ℕ) → 1 ≤ n → one_if t ≤ 1000 * n
      at_most_one true n h = omega arith
      at_most_one false n h = omega arith

  -- The totals of every goal.
  pub goal_small : (s : ℕ) → s < length m.states → (φ : Formula) (g : Goal) → goal m s φ ≡ ok g → 1 ≤ g.steps
      → (π : Plan g.steps) → Memᴰ π (plans m g.steps s) → nat_abs (g.total π) ≤ 1000 * g.steps * m.denominator ^ g.steps
  goal_small s k φ g e =
      let w = goal_bound m s φ g e in
      let b : Bound = w.0 in
      let Small : Goal → Type 0 = λ g. 1 ≤ g.steps → (π : Plan g.steps) → Memᴰ π (plans m g.steps s) → nat_abs (g.total π) ≤ 1000 * g.steps * m.denominator ^ g.steps in
      subst Small w.2 (λ h. total_small b.steps s k b.worth (1000 * b.steps) (worth_small s φ b w.1 h))
