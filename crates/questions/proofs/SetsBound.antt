-- The operators that set a bound on plans, 8 and 9: as a test, and what is known of a node that has one.
use Prim.Native.Nat.{ℕ}
use mathlib.Core.Path.{◌≡◌, refl, sym, ◌∙◌}
use mathlib.Core.Logic.{◌⊎◌, inl, inr, ⊎_elim}
use mathlib.Core.Bool.{true, false, false≢true}
use native.Mathlib.Decide.{ℕ_discrete}
use borrow.Author.Tests.{ne_eqb}
use Rattle.logic.specs.Formula.{Node}
use Rattle.questions.specs.promises.Formed.{Compares, InRange, sets_bound}

pub sets_by_8 : (op : ℕ) → op ≡ 8 → sets_bound op ≡ true
unfolding sets_bound
sets_by_8 op e = rw e refl

pub sets_by_9 : (op : ℕ) → op ≡ 9 → sets_bound op ≡ true
unfolding sets_bound
sets_by_9 op e = rw e refl

pub sets_not : (op : ℕ) → (op ≡ 8 → ⊥) → (op ≡ 9 → ⊥) → sets_bound op ≡ false
unfolding sets_bound
sets_not op h k = rw (ne_eqb op 8 h, ne_eqb op 9 k) refl

pub sets_which : (op : ℕ) → sets_bound op ≡ true → (op ≡ 8) ⊎ (op ≡ 9)
sets_which op e = go (ℕ_discrete op 8) (ℕ_discrete op 9)
  where
    go : Dec (op ≡ 8) → Dec (op ≡ 9) → (op ≡ 8) ⊎ (op ≡ 9)
    go (yes h) k = inl h
    go (no h) (yes k) = inr k
    go (no h) (no k) = absurd (false≢true (sym (sets_not op h k) ∙ e))

pub sets_neither : (op : ℕ) → sets_bound op ≡ false → (op ≡ 8 → ⊥) × (op ≡ 9 → ⊥)
sets_neither op e = (λ h. false≢true (sym e ∙ sets_by_8 op h), λ h. false≢true (sym e ∙ sets_by_9 op h))

pub bound_compares : {A N i : ℕ} {x : Node} → InRange A N i x → sets_bound x.operator ≡ true → Compares x
bound_compares {x = x} r e = ⊎_elim (λ o. (r.of_plan o).compares) (λ o. (r.of_earns o).compares) (sets_which x.operator e)
