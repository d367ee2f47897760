-- The weights of all paths of any plan sum to the denominator to the number of steps: by the first step, each outcome's weight times what
-- its plan has below, which is the same for all. And W, a sum over the kept paths, is the total of 1 or 0 over all of them.
use Prim.Native.Nat.{ℕ, zero, suc, ◌+◌, ◌*◌, ◌^◌, ◌<◌}
use native.Mathlib.Nat.{pow-zero, pow-suc, mul-one, mul_comm, add-mul, zero-mul, mul-zero, zero-add}
use mathlib.Core.Path.{◌≡◌, refl, sym, ap, ap₂, ◌∙◌}
use mathlib.Core.Bool.{Bool, true, false, cond}
use mathlib.Core.List.{List, [], ◌∷◌, Memᴰ}
use lib.ListN.{length}
use Rattle.logic.specs.Lists.{keep}
use Rattle.logic.specs.Model.{Model, Step}
use Rattle.logic.specs.Quantity.{naturals, sum}
use Rattle.logic.specs.Plan.{Plan, plans, paths, weight, Match, ends, pair}
use Rattle.logic.specs.Formula.{Formula, sat, W}
use Rattle.logic.specs.Bound.{one_if, total}
use Rattle.logic.specs.promises.Total.{value_of}
use Rattle.logic.specs.Accepted.{Accepted, Executable}
use Rattle.logic.proofs.Members.{plan_member}
use Rattle.logic.proofs.Sums.{naturals_additive, sum_pairs, total_step, sum_ext}

module _ {A B : Type 0} (w : A → ℕ) (t : A → B → ℕ) (d : ℕ) where
  constant : {R : A → B → Type 0} {xs : List A} {ys : List B} → Match R xs ys → ((x : A) (y : B) → Memᴰ x xs → R x y → t x y ≡ d)
      → sum_pairs naturals (λ x y. w x * t x y) xs ys ≡ sum naturals w xs * d
  unfolding sum sum_pairs
  constant ends h = sym (zero-mul d)
  constant (pair {x} {y} {xs} {ys} e r) h =
      ap₂ ◌+◌ (ap (λ v. w x * v) (h x y (Memᴰ.head refl) e)) (constant r (λ x y k. h x y (Memᴰ.tail k)))
      ∙ sym (add-mul (w x) (sum naturals w xs) d)

module _ (m : Model) (accepted : Accepted m) where
  zero_steps : (s : ℕ) (p : Plan 0) → total naturals m 0 s p (λ r. 1) ≡ m.denominator ^ 0
  unfolding total paths sum weight
  zero_steps s p = sym (pow-zero m.denominator)

  -- The total of 1 on every path.
  pub total_ones : (n s : ℕ) → s < length m.states → (p : Plan n) → Memᴰ p (plans m n s) → total naturals m n s p (λ r. 1) ≡ m.denominator ^ n
  total_ones zero s k p h = zero_steps s p
  total_ones (suc n) s k p h =
      let u = plan_member m n s p h in
      let x : Executable m s p.0 = record { state = k; choice = u.0 } in
      total_step naturals naturals_additive m n s p (λ r. 1)
      ∙ constant (λ o. o.weight) (λ o q. total naturals m n o.target q (λ r. 1)) (m.denominator ^ n) u.1
      (λ o q i e. total_ones n o.target (accepted.inside x o i) q e)
      ∙ ap (λ v. v * m.denominator ^ n) (accepted.sums x)
      ∙ mul_comm m.denominator (m.denominator ^ n)
      ∙ sym (pow-suc m.denominator n)

  pub path_weights : (n s : ℕ) → s < length m.states → (p : Plan n) → Memᴰ p (plans m n s) → sum naturals weight (paths m n s p) ≡ m.denominator ^ n
  unfolding total
  path_weights n s k p h = sym (sum_ext naturals naturals_additive _ _ (paths m n s p) (λ r. mul-one (weight r))) ∙ total_ones n s k p h

-- The sum over what passes the test is the sum of 1 or 0 times the weight.
sum_kept : (f : List Step → Bool) (l : List (List Step)) → sum naturals weight (keep f l) ≡ sum naturals (λ r. weight r * one_if (f r)) l
unfolding sum keep one_if
sum_kept f [] = refl
sum_kept f (r ∷ l) = pick (f r) (sum_kept f l)
  where
    pick : (t : Bool) → sum naturals weight (keep f l) ≡ sum naturals (λ r. weight r * one_if (f r)) l
        → sum naturals weight (cond t (r ∷ keep f l) (keep f l)) ≡ weight r * one_if t + sum naturals (λ r. weight r * one_if (f r)) l
    pick true e = ap₂ ◌+◌ (sym (mul-one (weight r))) e
    pick false e = e ∙ sym (ap (λ z. z + sum naturals (λ r. weight r * one_if (f r)) l) (mul-zero (weight r)) ∙ zero-add _)

pub W-total : (m : Model) (φ : Formula) (n s : ℕ) (π : Plan n) → W m φ n s π ≡ total naturals m n s π (value_of m φ s)
unfolding W total
W-total m φ n s π = sum_kept (sat m φ s) (paths m n s π)
