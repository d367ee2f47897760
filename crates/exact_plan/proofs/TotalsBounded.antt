-- How large totals are: where every path is worth at most b, at most b times the denominator to the number of steps; where the worth is
-- decided already, all are alike.
use Prim.Native.Nat.{ℕ, ◌+◌, ◌*◌, ◌^◌, ◌≤◌, ◌<◌}
use native.Mathlib.Nat.{add-le-add, mul-le-mul_left, mul-add, mul-one, mul_comm, suc-mul}
use native.Mathlib.Omega.{arith}
use mathlib.Core.Path.{◌≡◌, refl, sym, ap, ap₂, subst, ◌∙◌}
use mathlib.Core.List.Memᴰ
use mathlib.Core.List.{List, [], ◌∷◌, map, Memᴰ}
use lib.ListN.{length, replicate}
use Rattle.logic.specs.Model.{Model, Step}
use Rattle.logic.specs.Quantity.{naturals, sum}
use Rattle.logic.specs.Plan.{plans, paths, weight}
use Rattle.logic.specs.Limits.{plan_total}
use Rattle.logic.specs.Accepted.{Accepted}
use Rattle.logic.specs.Bound.{total}
use Rattle.logic.specs.promises.Raised.{ModestRewards}
use Rattle.logic.proofs.Members.{map_member, flat_map_member}
use Rattle.logic.proofs.Sums.{naturals_additive, sum_ext, sum_times}
use Rattle.logic.proofs.PathWeights.{total_ones, path_weights}
use Rattle.logic.proofs.WholeTotals.{AllModest, path_modest}
use Rattle.logic.proofs.Dictionary.{plan_count}
use Rattle.exact_plan.specs.promises.Totals.{totals, grid, combined}

abbrev pub UpTo : ℕ → List ℕ → Type 0
UpTo b l = (x : ℕ) → Memᴰ x l → x ≤ b

pub up_grid : (b d : ℕ) (xs ys : List ℕ) → UpTo b xs → UpTo d ys → UpTo (b + d) (grid xs ys)
unfolding grid
up_grid b d xs ys h k z i =
    let u = flat_map_member (λ x. map (λ y. x + y) ys) xs i in
    let v = map_member (λ y. u.0 + y) ys u.2 in
    rw v.2 (add-le-add (h u.0 u.1) (k v.0 v.1))

pub up_times : (w b : ℕ) (l : List ℕ) → UpTo b l → UpTo (w * b) (map (λ y. w * y) l)
up_times w b l h z i = let u = map_member (λ y. w * y) l i in rw u.2 (mul-le-mul_left w (h u.0 u.1))

pub up_combined : {A : Type 0} (f : A → List ℕ) (b : ℕ) (l : List A) → ((o : A) → Memᴰ o l → UpTo b (f o)) → UpTo (length l * b) (combined f l)
unfolding combined
up_combined f b [] h x i = rw (Memᴰ.eq_of_singleton i) (omega arith)
up_combined f b (o ∷ l) h x i =
    let k = up_grid b (length l * b) (f o) (combined f l) (h o (Memᴰ.head refl)) (up_combined f b l (λ p j. h p (Memᴰ.tail j))) x i in
    omega (arith, suc-mul (length l) b)

same_map : {A : Type 0} (f : A → ℕ) (c : ℕ) (l : List A) → ((a : A) → Memᴰ a l → f a ≡ c) → map f l ≡ replicate (length l) c
same_map f c [] h = refl
same_map f c (x ∷ l) h = ap₂ {C = List ℕ} ◌∷◌ (h x (Memᴰ.head refl)) (same_map f c l (λ a i. h a (Memᴰ.tail i)))

-- Values of at most b, weighed.
sum_up : {A : Type 0} (w f : A → ℕ) (b : ℕ) (l : List A) → ((x : A) → Memᴰ x l → f x ≤ b) → sum naturals (λ x. w x * f x) l ≤ b * sum naturals w l
unfolding sum
sum_up w f b [] h = omega arith
sum_up w f b (x ∷ l) h =
    omega (arith, mul-le-mul_left (w x) (h x (Memᴰ.head refl)), sum_up w f b l (λ y i. h y (Memᴰ.tail i)), mul-add b (w x) (sum naturals w l), mul_comm (w x) b)

-- Worths of at most b, on paths with modest rewards: a model has no others.
pub up_totals : (m : Model) → Accepted m → ModestRewards m → (n s : ℕ) → s < length m.states → (f : List Step → ℕ) (b : ℕ)
    → ((r : List Step) → AllModest r → f r ≤ b) → UpTo (b * m.denominator ^ n) (totals m n s f)
unfolding totals total
up_totals m accepted modest n s k f b h x i =
    let u = map_member (λ π. total naturals m n s π f) (plans m n s) i in
    let l = sum_up weight f b (paths m n s u.0) (λ r j. h r (path_modest m accepted modest n s k u.0 u.1 r j).1) in
    rw u.2 (subst (λ z. total naturals m n s u.0 f ≤ b * z) (path_weights m accepted n s k u.0 u.1) l)

module _ (m : Model) (accepted : Accepted m) (n s : ℕ) (k : s < length m.states) where
  -- One value on all paths.
  pub totals_alike : (f : List Step → ℕ) (v : ℕ) → ((r : List Step) → f r ≡ v) → totals m n s f ≡ replicate (plan_total m n s) (v * m.denominator ^ n)
  unfolding totals total
  totals_alike f v h =
      same_map (λ π. total naturals m n s π f) (v * m.denominator ^ n) (plans m n s)
      (λ π i.
      sum_ext naturals naturals_additive (λ r. weight r * f r) (λ r. v * (weight r * 1)) (paths m n s π)
      (λ r. ap (λ z. weight r * z) (h r) ∙ mul_comm (weight r) v ∙ ap (λ z. v * z) (sym (mul-one (weight r))))
      ∙ sum_times naturals naturals_additive v (λ r. weight r * 1) (paths m n s π)
      ∙ ap (λ z. v * z) (total_ones m accepted n s k π i))
      ∙ ap (λ z. replicate z (v * m.denominator ^ n)) (plan_count m n s)
