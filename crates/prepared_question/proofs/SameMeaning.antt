-- Formulas of one meaning: "and" of two that mean the same means what either does, and a formula made of children that mean the same is
-- the same for whoever judges.
use Prim.Native.Nat.{ℕ, zero, suc, max}
use native.Mathlib.Omega.{arith}
use mathlib.Core.Path.{◌≡◌, refl, ap, ap₂, ◌∙◌, fun_ext}
use mathlib.Core.Bool.{Bool, true, false, not, cond, ◌&&◌, ◌||◌}
use mathlib.Core.List.{List, [], ◌∷◌}
use lib.Dec.{eqb, leb}
use lib.IntN.{ℤ}
use lib.ListN.{get_or}
use Rattle.logic.specs.Lists.{is_empty, any}
use Rattle.logic.specs.Model.{Model, Step}
use Rattle.logic.specs.Checked.{ok}
use Rattle.logic.specs.Quantity.{Relation}
use Rattle.logic.specs.Plan.{plans}
use Rattle.logic.specs.Bound.{chance, met_by}
use Rattle.logic.specs.Verdict.{bound_of}
use Rattle.logic.specs.Formula.{Formula, never, prop, neg, both, does, next, plan, sat, depth, is_path, shallow, Node, formula_of}
use Rattle.questions.specs.promises.Used.{has_left}
use Rattle.prepared_question.specs.promises.Shared.{Same, Alike}

-- ---- one meaning

same_refl : (φ : Formula) → Same φ φ
same_refl φ = record { depths = refl; paths = refl; truths = λ M s r. refl }

module _ {φ ψ : Formula} (e : Same φ ψ) where
  truth : (M : Model) → ◌≡◌ {A = ℕ → List Step → Bool} (λ s r. sat M φ s r) (λ s r. sat M ψ s r)
  truth M = fun_ext (λ s. fun_ext (λ r. e.truths M s r))

and_same : (t : Bool) → (t && t) ≡ t
and_same true = refl
and_same false = refl

or_same : (t : Bool) → (t || t) ≡ t
or_same true = refl
or_same false = refl

-- Two halves that mean what χ does.
pub same_both : {φ ψ χ : Formula} → Same φ χ → Same ψ χ → Same (both φ ψ) χ
unfolding depth is_path sat
same_both {φ} {ψ} {χ} e f =
    record {
      depths = omega (arith, e.depths, f.depths);
      paths = ap₂ ◌||◌ e.paths f.paths ∙ or_same (is_path χ);
      truths = λ M s r. ap₂ ◌&&◌ (e.truths M s r) (f.truths M s r) ∙ and_same (sat M χ s r);
    }

-- ---- the same for whoever judges

alike_refl : (φ : Formula) → Alike φ φ
alike_refl φ = record { same = same_refl φ; ground_9 = refl; bounds = λ M s. refl }

module _ {φ ψ : Formula} (e : Same φ ψ) where
  alike_neg : Alike (neg φ) (neg ψ)
  unfolding depth is_path sat shallow bound_of
  alike_neg =
      record {
        same = record { depths = e.depths; paths = e.paths; truths = λ M s r. ap not (e.truths M s r) };
        ground_9 = refl;
        bounds = λ M s. refl;
      }

  alike_both : {φ' ψ' : Formula} → Same φ' ψ' → Alike (both φ φ') (both ψ ψ')
  unfolding depth is_path sat shallow bound_of
  alike_both f =
      record {
        same =
            record {
              depths = ap₂ max e.depths f.depths;
              paths = ap₂ ◌||◌ e.paths f.paths;
              truths = λ M s r. ap₂ ◌&&◌ (e.truths M s r) (f.truths M s r);
            };
        ground_9 = refl;
        bounds = λ M s. refl;
      }

  next_truth : (M : Model) (s : ℕ) (r : List Step) → sat M (next φ) s r ≡ sat M (next ψ) s r
  unfolding sat
  next_truth M s [] = refl
  next_truth M s (o ∷ r) = e.truths M o.target r

  alike_next : Alike (next φ) (next ψ)
  unfolding depth is_path shallow bound_of
  alike_next = record { same = record { depths = ap suc e.depths; paths = refl; truths = next_truth }; ground_9 = refl; bounds = λ M s. refl }

  plan_truth : (n : ℕ) (b : Relation) (p q : ℕ) (M : Model) (s : ℕ) (r : List Step) → sat M (plan n φ b p q) s r ≡ sat M (plan n ψ b p q) s r
  unfolding sat
  plan_truth n b p q M s r =
      ap (λ (f : ℕ → List Step → Bool). any (met_by M s (chance n (f s) b p q)) (plans M n s))
      (truth e M)

  alike_plan : (n : ℕ) (b : Relation) (p q : ℕ) → Alike (plan n φ b p q) (plan n ψ b p q)
  unfolding depth is_path shallow bound_of
  alike_plan n b p q =
      record {
        same = record { depths = refl; paths = refl; truths = plan_truth n b p q };
        ground_9 = ap (λ d. leb d n) e.depths;
        bounds = λ M s. ap (λ (f : ℕ → List Step → Bool). ok (chance n (f s) b p q)) (truth e M);
      }

-- ---- by the operator

abbrev pub node : ℕ → ℕ → ℕ → ℕ → ℤ → ℕ → Node
node op n left right p q = record { operator = op; n = n; left = left; right = right; p = p; q = q }

-- A node whose children are replaced by ones that mean the same.
module _ (fs gs : List Formula) (n l r L R : ℕ) (p : ℤ) (q : ℕ) where
  pub alike_node : (op : ℕ) → (has_left op ≡ true → Same (get_or fs l never) (get_or gs L never)) → (op ≡ 4 → Same (get_or fs r never) (get_or gs R never))
      → Alike (formula_of fs (node op n l r p q)) (formula_of gs (node op n (cond (has_left op) L l) (cond (eqb op 4) R r) p q))
  unfolding formula_of has_left is_empty
  alike_node zero e f = alike_refl never
  alike_node (suc zero) e f = alike_refl never
  alike_node (suc (suc zero)) e f = alike_refl (prop l)
  alike_node (suc (suc (suc zero))) e f = alike_neg (e refl)
  alike_node (suc (suc (suc (suc zero)))) e f = alike_both (e refl) (f refl)
  alike_node (suc (suc (suc (suc (suc zero))))) e f = alike_refl (does l)
  alike_node (suc (suc (suc (suc (suc (suc zero)))))) e f = alike_next (e refl)
  alike_node (suc (suc (suc (suc (suc (suc (suc zero))))))) e f = alike_refl _
  alike_node (suc (suc (suc (suc (suc (suc (suc (suc zero)))))))) e f = alike_plan (e refl) n _ _ q
  alike_node (suc (suc (suc (suc (suc (suc (suc (suc (suc zero))))))))) e f = alike_refl _
  alike_node (suc (suc (suc (suc (suc (suc (suc (suc (suc (suc k)))))))))) e f = alike_refl never
