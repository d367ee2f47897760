-- What is printed of a verdict: the choices beside it are cut to those of the shown plan, and the line is the definition's.
use Prim.Native.Nat.{ℕ, ◌≤◌}
use native.Mathlib.Omega.{arith}
use mathlib.Core.Path.{◌≡◌, sym, ap, ap₂, subst, ◌∙◌}
use mathlib.Core.Option.{some}
use lib.ListN.{length, take}
use lib.Seq.{length-take-le}
use Rattle.models.proofs.EveryCell.{sizes}
use Rattle.models.specs.Layout.{denominator_of, model_of}
use Rattle.models.proofs.GroundsPassed.{passed_all}
use Rattle.models.proofs.ModelOfBytes.{denominator_held}
use Rattle.blocks.specs.Bytes.{Bytes}
use Rattle.questions.specs.Layout.{question_of}
use Rattle.questions.proofs.AcceptedFacts.{accepted}
use Rattle.verdict_line.specs.promises.Chain.{line_of}
use Rattle.plan_judge.specs.declared.Desk.{Desk}
use Rattle.judging.specs.declared.Verdict.{Verdict}
use Rattle.std.specs.Prelude.{Ok}
use Rattle.plan_judge.specs.declared.Judging.{Judging}
use Rattle.plan_judge.specs.View.{view}
use Rattle.plan_judge.specs.promises.Values.{judged_by}
use Rattle.judging.specs.promises.Announced.{verdict_code}
use Rattle.plan_judge.specs.promises.State.{shown_size}
use Rattle.printing.specs.promises.Printed.{plan_root, judging_line, shown_line, shown_steps, Shown, Asked}
use Rattle.printing.proofs.LineOfVerdict.{root_is, few_steps, few_choices, line_is}
use Rattle.printing.proofs.LineAfterCall.{asked_verdict, Told, judge_told}

-- What is printed of judge's answer r, a verdict v, with so many of the choices beside it.
pub record Printable (m q : Bytes) (r : Judging) (v : Verdict) (count : ℕ) : Type 0 where
  pub inside : count ≤ length r.choices
  pub shown : Shown m q v (take count r.choices)
  pub line : shown_line (denominator_of m) (plan_root q) v (take count r.choices) ≡ line_of (judging_line (model_of m) (question_of q))

module _ (d : Desk) (m q : Bytes) (l : Asked d m q) (r : Judging) (i : r ≡ judged_by d) (v : Verdict) (t : Told d m q l r i v) where
  module _ (count : ℕ) (e : count ≡ shown_size (some (asked_verdict m q))) where
    count_few : length r.choices ≡ 1365 → count ≤ 1365
    count_few w = omega (arith, few_choices (asked_verdict m q) (sym (ap length t.beside) ∙ w))

    told_shown : length r.choices ≡ 1365 → Shown m q v (take count r.choices)
    told_shown w =
        let a = (accepted _ _ _ q l.question).formed in
        record {
          small = (sizes m (passed_all m l.model).sizes).parts;
          some_node = a.some_node;
          few_steps = subst (λ x. shown_steps x ≤ 6) (sym t.code) (few_steps a (model_of m) (question_of q).start);
          few_choices = omega (arith, length-take-le count r.choices (omega (arith, count_few w)), count_few w);
        }

    told_line : shown_line (denominator_of m) (plan_root q) v (take count r.choices) ≡ line_of (judging_line (model_of m) (question_of q))
    unfolding line_of
    told_line =
        ap₂ (λ x k. shown_line (denominator_of m) (plan_root q) x (take k r.choices)) t.code e
        ∙ ap (λ c. shown_line (denominator_of m) (plan_root q) (verdict_code (asked_verdict m q)) (take (shown_size (some (asked_verdict m q))) c)) t.beside
        ∙ line_is (model_of m) (question_of q).root (asked_verdict m q) (denominator_of m) (plan_root q) (denominator_held m)
        (root_is (accepted _ _ _ q l.question).formed (model_of m) (question_of q).start)
        ∙ sym (ap line_of t.line)

    told_printable : length r.choices ≡ 1365 → Printable m q r v count
    told_printable w = record { inside = omega (arith, count_few w); shown = told_shown w; line = told_line }

-- As many choices as the plan has that is held as shown.
pub printable : (d : Desk) (m q : Bytes) → Asked d m q → (r : Judging) → r ≡ judged_by d → (v : Verdict) → r.answer ≡ Ok v
    → length r.choices ≡ 1365 → (count : ℕ) → count ≡ shown_size (view r.desk).verdict → Printable m q r v count
printable d m q l r i v a w count e =
    let t = judge_told d m q l r i v a in
    told_printable d m q l r i v t count (e ∙ ap shown_size t.shown) w
