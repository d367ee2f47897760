-- No bytes are refused with 8 (document 02, A.1): no ground of a model has that number.
use Prim.Native.Nat.{ℕ}
use native.Mathlib.Omega.{arith}
use mathlib.Core.Path.{◌≡◌, refl, sym, ap, ◌∙◌}
use mathlib.Core.Bool.{Bool, true, false, not, false≢true}
use mathlib.Core.List.{List, [], ◌∷◌}
use lib.Dec.{eqb}
use Rattle.logic.specs.Lists.{all}
use Rattle.logic.specs.Checked.{◌>>◌, guard}
use Rattle.logic.specs.Grounds.{Ground, decided}
use Rattle.logic.specs.promises.Refusal.{refusal}
use Rattle.logic.proofs.Tests.{and_both, eq_eqb}
use Rattle.blocks.specs.Bytes.{Bytes}
use Rattle.models.specs.Layout.{model_of}
use Rattle.models.specs.Grounds.{model_grounds, read_model}

module _ {A : Type 0} (a : A) (k : ℕ) where
  other : (j : ℕ) (t : Bool) (gs : List Ground) → not (eqb j k) ≡ true → (refusal (decided gs a) ≡ k → ⊥) → refusal (guard j t >> decided gs a) ≡ k → ⊥
  other j true gs h g e = g e
  other j false gs h g e = false≢true (sym (ap not (eq_eqb e)) ∙ h)

  none_of : (gs : List Ground) → (0 ≡ k → ⊥) → all (λ g. not (eqb g.number k)) gs ≡ true → refusal (decided gs a) ≡ k → ⊥
  unfolding all
  none_of [] z h e = z e
  none_of (g ∷ gs) z h e =
      let w = and_both (not (eqb g.number k)) _ h in
      other g.number g.passes gs w.0 (none_of gs z w.1) e

pub no_ground_8 : (b : Bytes) → refusal (read_model b) ≡ 8 → ⊥
unfolding read_model all
no_ground_8 b = none_of (model_of b) 8 (model_grounds b) (λ e. omega arith) refl
