-- A condition looks at as many steps as its depth: what comes after them changes nothing.
use Prim.Native.Nat.{ℕ, zero, suc, ◌≤◌}
use native.Mathlib.Nat.{le_of_suc-le-suc, not-suc-le-zero, le_trans, le-max_left, le-max_right}
use mathlib.Core.Path.{◌≡◌, refl, sym, ap, ap₂, ◌∙◌}
use mathlib.Core.Bool.{not, ◌&&◌, Bool, true, false, ◌||◌, false≢true}
use mathlib.Core.List.{List, [], ◌∷◌}
use lib.ListN.{take}
use lib.Seq.{take-take}
use Rattle.logic.specs.Model.{Model, Step}
use Rattle.logic.specs.Quantity.{integers, sum, related}
use Rattle.logic.specs.Formula.{Formula, never, prop, neg, both, does, next, gain, plan, earns, sat, depth, is_path}

pub sat_short : (m : Model) (φ : Formula) (n s : ℕ) (r : List Step) → depth φ ≤ n → sat m φ s r ≡ sat m φ s (take n r)
unfolding sat depth
sat_short m never n s r h = refl
sat_short m (prop i) n s r h = refl
sat_short m (neg φ) n s r h = ap not (sat_short m φ n s r h)
sat_short m (both φ ψ) n s r h =
    ap₂ ◌&&◌ (sat_short m φ n s r (le_trans (le-max_left (depth φ) (depth ψ)) h)) (sat_short m ψ n s r (le_trans (le-max_right (depth φ) (depth ψ)) h))
sat_short m (does a) zero s r h = absurd (not-suc-le-zero h)
sat_short m (does a) (suc n) s [] h = refl
sat_short m (does a) (suc n) s (o ∷ r) h = refl
sat_short m (next φ) zero s r h = absurd (not-suc-le-zero h)
sat_short m (next φ) (suc n) s [] h = refl
sat_short m (next φ) (suc n) s (o ∷ r) h = sat_short m φ n o.target r (le_of_suc-le-suc h)
sat_short m (gain k b p) n s r h = ap (λ z. related integers b (sum integers (λ o. o.reward) z) p) (sym (take-take k n r h))
sat_short m (plan k φ b p q) n s r h = refl
sat_short m (earns k l u b p q) n s r h = refl

-- Steps beyond the depth may differ.
pub sat_same : (m : Model) (φ : Formula) (n s : ℕ) (r t : List Step) → depth φ ≤ n → take n r ≡ take n t → sat m φ s r ≡ sat m φ s t
sat_same m φ n s r t h e = sat_short m φ n s r h ∙ ap (sat m φ s) e ∙ sym (sat_short m φ n s t h)

-- ---- a state formula looks no step ahead

or_left : (a b : Bool) → (a || b) ≡ false → a ≡ false
or_left true b e = e
or_left false b e = refl

or_right : (a b : Bool) → (a || b) ≡ false → b ≡ false
or_right true b e = absurd (false≢true (sym e))
or_right false b e = e

pub state_depth : (φ : Formula) → is_path φ ≡ false → depth φ ≡ 0
unfolding is_path depth
state_depth never e = refl
state_depth (prop i) e = refl
state_depth (neg φ) e = state_depth φ e
state_depth (both φ ψ) e = rw (state_depth φ (or_left (is_path φ) (is_path ψ) e), state_depth ψ (or_right (is_path φ) (is_path ψ) e)) refl
state_depth (does a) e = absurd (false≢true (sym e))
state_depth (next φ) e = absurd (false≢true (sym e))
state_depth (gain n b p) e = absurd (false≢true (sym e))
state_depth (plan n φ b p q) e = refl
state_depth (earns n l u b p q) e = refl
