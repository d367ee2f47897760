-- Back from below a step: the steps before it are as they were, and so is what is known of them.
use Prim.Native.Nat.{ℕ, ◌+◌}
use native.Mathlib.Omega.{arith}
use mathlib.Core.Path.{◌≡◌, refl, sym, ap, subst, ◌∙◌}
use mathlib.Core.List.{List, [], ◌∷◌}
use lib.IntN.{ℤ}
use lib.ListN.{take}
use lib.Seq.{take-take, take_at}
use Rattle.blocks.specs.Bytes.{Bytes}
use Rattle.evaluation.specs.promises.Path.{number_of, state_after}
use Rattle.evaluation.specs.promises.Known.{Knows, Stepped, Back}
use Rattle.evaluation.proofs.LearnKnows.{knows_shorter}

module _ {m q : Bytes} {start : ℕ} {cone : List ℕ} {h : ℕ} where
  pub back_none : {trail : List ℕ} {gains : List ℤ} {v : List ℕ} → Knows m q start cone (take h trail) gains v → Back m q start cone h trail trail gains v
  back_none K = record { kept = refl; knows = K }

  -- Seen from another trail with the same first h steps.
  pub back_same : {trail₀ trail trail' : List ℕ} {gains' : List ℤ} {v' : List ℕ} → take h trail ≡ take h trail₀
      → Back m q start cone h trail trail' gains' v' → Back m q start cone h trail₀ trail' gains' v'
  back_same {gains' = gains'} {v'} e B = record { kept = B.kept ∙ e; knows = subst (λ t. Knows m q start cone t gains' v') e B.knows }

  module _ {trail trail' : List ℕ} {gains' : List ℤ} {v' : List ℕ} (B : Back m q start cone h trail trail' gains' v') where
    pub knows_back : Knows m q start cone (take h trail') gains' v'
    knows_back = (back_same (sym B.kept) B).knows

    pub state_back : state_after m start (take h trail') ≡ state_after m start (take h trail)
    state_back = ap (state_after m start) B.kept

  -- One step back.
  pub step_back : {s i o t : ℕ} {trail trail' trail'' : List ℕ} {gains' gains'' : List ℤ} {v' v'' : List ℕ}
      → Stepped m q start cone h s i o trail trail' gains' v' t → Back m q start cone (h + 1) trail' trail'' gains'' v'' → Back m q start cone h trail trail'' gains'' v''
  step_back {s} {i} {o} {trail = trail} {trail'' = trail''} {gains'' = gains''} {v'' = v''} S B =
      record {
        kept = sym (take-take h (h + 1) trail'' (omega arith)) ∙ ap (take h) (B.kept ∙ S.longer) ∙ take_at (take h trail) (number_of m s i o ∷ []) h S.whole;
        knows = knows_shorter m q start cone (take h trail) (number_of m s i o) gains'' v'' (subst (λ l. Knows m q start cone l gains'' v'') S.longer B.knows);
      }
