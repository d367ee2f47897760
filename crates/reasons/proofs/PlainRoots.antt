-- A root that sets no bound: a yes, or a no without a reason.
use Prim.Native.Nat.{ℕ, ◌<◌}
use mathlib.Core.Path.{◌≡◌, refl, sym, ap, ◌∙◌}
use mathlib.Core.Bool.{Bool, true, false, cond}
use mathlib.Core.List.{List, []}
use mathlib.Core.Option.{none}
use lib.Dec.{eqb}
use Rattle.logic.specs.Checked.{refused}
use Rattle.logic.specs.Bound.{one_if}
use Rattle.logic.specs.Formula.{sat}
use Rattle.logic.specs.Verdict.{bound_of, yes}
use Rattle.logic.specs.Reason.{no_reason, reason_by, reason}
use Rattle.logic.specs.promises.Total.{value_of}
use Rattle.blocks.specs.Bytes.{Bytes}
use Rattle.blocks.specs.Splice.{splice}
use Rattle.blocks.proofs.Splice.{splice_none}
use Rattle.prepared_model.specs.promises.Rows.{model_in}
use Rattle.questions.specs.Layout.{node_count, node_of}
use Rattle.questions.specs.promises.Formed.{sets_bound}
use Rattle.questions.proofs.FormulaByOperator.{no_plan_at}
use Rattle.questions.proofs.SetsBound.{sets_neither}
use Rattle.prepared_question.specs.promises.Nodes.{formula}
use Rattle.relevance.specs.promises.Need.{Given}
use Rattle.judging.proofs.SearchDecides.{denies, other_verdict}
use Rattle.reasons.specs.declared.Explanation.{Explanation}
use Rattle.reasons.specs.declared.Explanation.TheVariants.{Yes, NoReason}
use Rattle.reasons.specs.promises.Told.{reason_code, front, back, explained_code, front_by, back_by, TellsOf}
use Rattle.reasons.proofs.LedReason.{tells_reason}

module _ {m q : Bytes} (given : Given m q) (j s : ℕ) (h : j < node_count q) (o : sets_bound (node_of q j).operator ≡ false) where
  plain_reason : reason (model_in m) s (formula q j) ≡ no_reason
  unfolding reason bound_of
  plain_reason = let n = sets_neither (node_of q j).operator o in ap (reason_by (model_in m) s) (no_plan_at q j h n.0 n.1 (refused 22) _ _)

  -- By whether it is true.
  plain_told : (t : Bool) → sat (model_in m) (formula q j) s [] ≡ t → (u z : List ℕ) → TellsOf (model_in m) s (formula q j) (cond t Yes NoReason) u u z z
  unfolding explained_code front_by back_by reason_code front back
  plain_told true e u z =
      let v = other_verdict given j s h o ∙ ap (λ t. cond t yes (denies 0 none)) e in
      record {
        said = ap (λ v. explained_code (model_in m).denominator v (reason (model_in m) s (formula q j))) (sym v);
        beside = sym (splice_none u 0) ∙ ap (λ v. splice u 0 (front_by v (reason (model_in m) s (formula q j)))) (sym v);
        behind = sym (splice_none z 0) ∙ ap (λ v. splice z 0 (back_by v (reason (model_in m) s (formula q j)))) (sym v);
      }
  plain_told false e u z =
      tells_reason (other_verdict given j s h o ∙ ap (λ t. cond t yes (denies 0 none)) e) plain_reason refl (sym (splice_none u 0)) (sym (splice_none z 0))

  -- By its value, 1 or 0.
  pub tells_plain : (u z : List ℕ) {y : ℕ} {t : Bool} {r : Explanation} → y ≡ value_of (model_in m) (formula q j) s [] → eqb y 1 ≡ t → r ≡ cond t Yes NoReason
      → TellsOf (model_in m) s (formula q j) r u u z z
  unfolding one_if
  tells_plain u z {y} {t} {r} e f g =
      let same : t ≡ sat (model_in m) (formula q j) s [] = sym f ∙ ap (λ y. eqb y 1) e ∙ back_again (sat (model_in m) (formula q j) s []) in
      rw g (plain_told t (sym same) u z)
    where
      back_again : (t : Bool) → eqb (one_if t) 1 ≡ t
      back_again true = refl
      back_again false = refl
