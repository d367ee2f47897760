-- Totals in ℤ and in ℕ. Where every path's worth, raised by one number, is a natural number, a plan's total is that of these numbers, lowered by
-- that number times the denominator to the n: the weights of all paths sum to it. So W is the total of operator 8, and expected gains are
-- searched in natural numbers.
use Prim.Native.Nat.{ℕ, zero, suc, ◌+◌, ◌*◌, ◌-◌, ◌^◌, ◌≤◌, ◌<◌}
use native.Mathlib.Omega.{arith}
use native.Mathlib.Nat.{mul-add, mul_comm, zero-mul}
use mathlib.Core.Path.{◌≡◌, refl, sym, ap, ap₂, subst, ◌∙◌}
use mathlib.Core.Bool.{true, not, ◌&&◌}
use mathlib.Core.Logic.{⊎_elim}
use mathlib.Core.List.Memᴰ
use mathlib.Core.List.{List, [], ◌∷◌, map, Memᴰ}
use lib.Dec.{T, leb→le}
use lib.IntN.{ℤ, pos, negsuc, ◌+ℤ◌, ◌*ℤ◌, +ℤ_idr, pos-+ℤ-pos, pos-*ℤ-pos}
use lib.ListN.{length, take, drop}
use lib.Seq.{length-take-le}
use lib.Signed.{le_z}
use Rattle.logic.specs.Lists.{join}
use Rattle.logic.specs.Model.{Model, Step}
use Rattle.logic.specs.Quantity.{naturals, integers, sum, Relation, less, equal, greater, related}
use Rattle.logic.specs.Plan.{Plan, plans, paths, weight, Match, ends, pair}
use Rattle.logic.specs.Bound.{total, meets, one_if, chance, gain_between, met_by}
use Rattle.logic.specs.Formula.{Formula, sat, W}
use Rattle.logic.specs.Accepted.{Accepted, Executable}
use Rattle.logic.specs.promises.Total.{value_of}
use Rattle.logic.specs.promises.Raised.{raise, raised, Modest, ModestRewards}
use Rattle.logic.proofs.Members.{map_member, plan_member}
use Rattle.logic.proofs.Integers.{swap, times_plus, subℕ_ge}
use Rattle.logic.proofs.PathWeights.{path_weights, W-total}
use Rattle.logic.proofs.Lowered.{lowered_by}
use Rattle.logic.proofs.Search.{Raises}

-- ---- one number added to every value

module _ {A : Type 0} (w : A → ℕ) (g : A → ℤ) (f : A → ℕ) (c : ℕ) where
  sum_raised : (l : List A) → ((a : A) → Memᴰ a l → g a +ℤ pos c ≡ pos (f a))
      → sum integers (λ a. pos (w a) *ℤ g a) l +ℤ pos (c * sum naturals w l) ≡ pos (sum naturals (λ a. w a * f a) l)
  unfolding sum
  sum_raised [] h = ap pos (omega arith)
  sum_raised (x ∷ l) h =
      let G : ℤ = sum integers (λ a. pos (w a) *ℤ g a) l in
      let S : ℕ = sum naturals w l in
      ap (λ z. (pos (w x) *ℤ g x +ℤ G) +ℤ z) (ap pos (mul-add c (w x) S ∙ ap (λ k. k + c * S) (mul_comm c (w x))) ∙ sym (pos-+ℤ-pos (w x * c) (c * S)))
      ∙ swap (pos (w x) *ℤ g x) G (pos (w x * c)) (pos (c * S))
      ∙ ap₂ ◌+ℤ◌
      (ap (λ z. pos (w x) *ℤ g x +ℤ z) (sym (pos-*ℤ-pos (w x) c))
      ∙ sym (times_plus (w x) (g x) (pos c))
      ∙ ap (λ z. pos (w x) *ℤ z) (h x (Memᴰ.head refl))
      ∙ pos-*ℤ-pos (w x) (f x))
      (sum_raised l (λ a i. h a (Memᴰ.tail i)))
      ∙ pos-+ℤ-pos (w x * f x) (sum naturals (λ a. w a * f a) l)

module _ (m : Model) (accepted : Accepted m) (n s : ℕ) (k : s < length m.states) where
  pub raises_by : (g : List Step → ℤ) (f : List Step → ℕ) (c : ℕ)
      → ((π : Plan n) → Memᴰ π (plans m n s) → (r : List Step) → Memᴰ r (paths m n s π) → g r +ℤ pos c ≡ pos (f r))
      → Raises m s n g f (c * m.denominator ^ n)
  unfolding total
  raises_by g f c h =
      record {
        lowered = λ π i. lowered_by _ (sum naturals (λ r. weight r * f r) (paths m n s π)) (c * m.denominator ^ n)
            (ap (λ z. sum integers (λ r. pos (weight r) *ℤ g r) (paths m n s π) +ℤ pos (c * z)) (sym (path_weights m accepted n s k π i))
            ∙ sum_raised weight g f c (paths m n s π) (h π i));
      }

  -- ---- operator 8

  pub raises_condition : (φ : Formula) → Raises m s n (λ r. pos (one_if (sat m φ s r))) (value_of m φ s) 0
  raises_condition φ =
      subst (Raises m s n (λ r. pos (one_if (sat m φ s r))) (value_of m φ s)) (zero-mul (m.denominator ^ n))
      (raises_by (λ r. pos (one_if (sat m φ s r))) (value_of m φ s) 0 (λ π i r j. +ℤ_idr _))

-- In ℕ and in ℤ a bound is met alike.
pub meets_naturals : (m : Model) (n : ℕ) (r : Relation) (p q w : ℕ) → meets integers m n r (pos p) q (pos w) ≡ meets naturals m n r p q w
unfolding meets related
meets_naturals m n less p q w = ap₂ (λ a b. not (le_z b a)) (pos-*ℤ-pos q w) (pos-*ℤ-pos (m.denominator ^ n) p)
meets_naturals m n equal p q w = ap₂ (λ a b. le_z a b && le_z b a) (pos-*ℤ-pos q w) (pos-*ℤ-pos (m.denominator ^ n) p)
meets_naturals m n greater p q w = ap₂ (λ a b. not (le_z a b)) (pos-*ℤ-pos q w) (pos-*ℤ-pos (m.denominator ^ n) p)

-- The total of operator 8 is document 01's W, of every plan.
pub condition_total : (m : Model) (φ : Formula) (n s : ℕ) (π : Plan n) → total integers m n s π (λ r. pos (one_if (sat m φ s r))) ≡ pos (W m φ n s π)
unfolding total
condition_total m φ n s π =
    sym (+ℤ_idr _)
    ∙ ap (λ k. sum integers (λ r. pos (weight r) *ℤ pos (one_if (sat m φ s r))) (paths m n s π) +ℤ pos k) (sym (zero-mul (sum naturals weight (paths m n s π))))
    ∙ sum_raised weight (λ r. pos (one_if (sat m φ s r))) (value_of m φ s) 0 (paths m n s π) (λ r i. +ℤ_idr _)
    ∙ ap pos (sym (W-total m φ n s π))

pub met_condition : (m : Model) (s n : ℕ) (φ : Formula) (r : Relation) (p q : ℕ) (π : Plan n)
    → met_by m s (chance n (sat m φ s) r p q) π ≡ meets naturals m n r p q (W m φ n s π)
met_condition m s n φ r p q π = ap (meets integers m n r (pos p) q) (condition_total m φ n s π) ∙ meets_naturals m n r p q (W m φ n s π)

-- ---- operator 9

pub modest_reward : (z : ℤ) → le_z (negsuc 999) z ≡ true → le_z z (pos 1000) ≡ true → Modest z
unfolding raise
modest_reward (pos k) a b = let h = leb→le k 1000 (subst T (sym b) tt) in record { up = ap pos (omega arith); small = omega arith }
modest_reward (negsuc k) a b =
    let h = leb→le k 999 (subst T (sym a) tt) in
    record { up = ap pos (omega arith) ∙ sym (subℕ_ge 1000 (suc k) (omega arith)); small = omega arith }

-- A list of steps with modest rewards.
abbrev pub AllModest : List Step → Type 0
AllModest r = (o : Step) → Memᴰ o r → Modest o.reward

gain_raised : (l : List Step) → AllModest l → sum integers (λ o. o.reward) l +ℤ pos (1000 * length l) ≡ pos (sum naturals (λ o. raise o.reward) l)
unfolding sum
gain_raised [] h = refl
gain_raised (o ∷ l) h =
    let G : ℤ = sum integers (λ o. o.reward) l in
    ap (λ z. (o.reward +ℤ G) +ℤ z) (ap pos (omega arith) ∙ sym (pos-+ℤ-pos 1000 (1000 * length l)))
    ∙ swap o.reward G (pos 1000) (pos (1000 * length l))
    ∙ ap₂ ◌+ℤ◌ (sym (h o (Memᴰ.head refl)).up) (gain_raised l (λ x i. h x (Memᴰ.tail i)))
    ∙ pos-+ℤ-pos (raise o.reward) (sum naturals (λ o. raise o.reward) l)

-- Members of a joined list.
join_member : {A B C : Type 0} {R : A → B → Type 0} (f : A → B → List C) {xs : List A} {ys : List B} → Match R xs ys → {c : C} → Memᴰ c (join f xs ys)
    → (x : A) × (y : B) × Memᴰ x xs × R x y × Memᴰ c (f x y)
unfolding join
join_member f ends i = absurd (Memᴰ.not-nil i)
join_member f (pair {x} {y} {xs} {ys} r t) i =
    ⊎_elim (λ j. (x, y, Memᴰ.head refl, r, j)) (λ j. let w = join_member f t j in (w.0, w.1, Memᴰ.tail w.2, w.3, w.4)) (Memᴰ.append_cases (f x y) i)

in_drop : {A : Type 0} (k : ℕ) (l : List A) {x : A} → Memᴰ x (drop k l) → Memᴰ x l
in_drop zero l i = i
in_drop (suc k) [] i = absurd (Memᴰ.not-nil i)
in_drop (suc k) (y ∷ l) i = Memᴰ.tail (in_drop k l i)

in_take : {A : Type 0} (k : ℕ) (l : List A) {x : A} → Memᴰ x (take k l) → Memᴰ x l
in_take zero l i = absurd (Memᴰ.not-nil i)
in_take (suc k) [] i = i
in_take (suc k) (y ∷ l) i = ⊎_elim (λ e. Memᴰ.head e) (λ j. Memᴰ.tail (in_take k l j)) (Memᴰ.cases_cons i)

length-drop_is : {A : Type 0} (k : ℕ) (l : List A) → length (drop k l) ≡ length l - k
length-drop_is zero l = omega arith
length-drop_is (suc k) [] = omega arith
length-drop_is (suc k) (y ∷ l) = length-drop_is k l ∙ omega arith

-- A path of steps with modest rewards is worth its gain, raised.
pub worth_raised : (a u : ℕ) (r : List Step) → AllModest r → u ≤ length r → gain_between (suc a) u r +ℤ pos (1000 * (u - a)) ≡ pos (raised a u r)
unfolding gain_between raised
worth_raised a u r h k =
    let L : List Step = drop a (take u r) in
    let e : length L ≡ u - a = length-drop_is a (take u r) ∙ ap (λ n. n - a) (length-take-le u r k) in
    let i : suc a - 1 ≡ a = omega arith in
    rw i (ap (λ n. sum integers (λ o. o.reward) L +ℤ pos (1000 * n)) (sym e) ∙ gain_raised L (λ o j. h o (in_take u r (in_drop a (take u r) j))))

module _ (m : Model) (accepted : Accepted m) (modest : ModestRewards m) where
  -- The paths of a plan have its steps, and modest rewards.
  pub path_modest : (n s : ℕ) → s < length m.states → (π : Plan n) → Memᴰ π (plans m n s) → (r : List Step) → Memᴰ r (paths m n s π)
      → (length r ≡ n) × AllModest r
  unfolding paths
  path_modest zero s k π i r j = let e = Memᴰ.eq_of_singleton j in (ap length e, λ o h. absurd (Memᴰ.not-nil (subst (Memᴰ o) e h)))
  path_modest (suc n) s k π i r j =
      let u = plan_member m n s π i in
      let x : Executable m s π.0 = record { state = k; choice = u.0 } in
      let w = join_member (λ o q. map (λ r. o ∷ r) (paths m n o.target q)) u.1 j in
      let v = map_member (λ r. w.0 ∷ r) (paths m n w.0.target w.1) w.4 in
      let below = path_modest n w.0.target (accepted.inside x w.0 w.2) w.1 w.3 v.0 v.1 in (
        ap length v.2 ∙ ap suc below.0,
        λ o h. ⊎_elim (λ e. subst (λ z. Modest z.reward) (sym e) (modest.modest x w.0 w.2)) (below.1 o) (Memᴰ.cases_cons (subst (Memᴰ o) v.2 h)),
      )

  -- The totals of operator 9 over n steps, raised.
  pub raises_gain : (n s a u : ℕ) → s < length m.states → u ≤ n
      → Raises m s n (gain_between (suc a) u) (raised a u) (1000 * (u - a) * m.denominator ^ n)
  raises_gain n s a u k h =
      raises_by m accepted n s k (gain_between (suc a) u) (raised a u) (1000 * (u - a))
      (λ π i r j. let w = path_modest n s k π i r j in worth_raised a u r w.1 (omega (arith, w.0)))
