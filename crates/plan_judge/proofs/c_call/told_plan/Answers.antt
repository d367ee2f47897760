-- The sheet has room in the buffer, and is written there; or it has not.
-- The count is that of the plan with which the choices begin, and not more than there are.
use Prim.Native.Nat.{ℕ, ◌*◌, ◌≤◌}
use native.Mathlib.Omega.{arith}
use mathlib.Core.Path.{◌≡◌, sym, ap, ap₂, subst, ◌∙◌}
use mathlib.Core.List.{◌++◌}
use lib.ListN.{length, take, drop}
use lib.Seq.{length-take-le}
use mir.Syntax.{w64}
use mir.ValLaws.{to_z-of_z}
use Rattle.logic.specs.Checked.{ok}
use Rattle.logic.specs.Choices.{read_plan}
use Rattle.models.specs.Layout.{model_of}
use Rattle.questions.specs.Layout.{question_of}
use Rattle.questions.proofs.AcceptedFacts.{accepted}
use Rattle.sheets.specs.promises.Ends.{end_of}
use Rattle.sheets.specs.Layout.{blocks_for, sheet_bytes}
use Rattle.plan_judge.specs.View.{choices_in}
use Rattle.plan_judge.specs.promises.State.{plan_size, size_in}
use Rattle.plan_judge.specs.promises.CChain.{told_sheet, Tells}
use Rattle.plan_judge.proofs.WriteReturns.{size_choices, choices_read}
use Rattle.plan_judge.proofs.CSteps.{plan_first, short_told, sheet_told_whole}
use Rattle.plan_judge.proofs.c_call.told_plan.Goals as goal

pub plan_size-count-requires : goal.plan_size-count-requires
plan_size-count-requires c =
    let S = c in
    let r = S.requires.0 in
    (r.passed, omega (arith, (accepted _ _ _ S.args.question.now r.asked).formed.starts, c.start-s.ensures))

pub sheet_size-requires : goal.sheet_size-requires
sheet_size-requires c =
    let counted : let A = c.args in
    c.plan_size-count.result ≡ size_in (choices_in (model_of A.model.now) (question_of A.question.now) A.choices.now) = let S = c in
    let cs = S.args.choices.now in
    c.plan_size-count.ensures
    ∙ ap₂ (λ n s. plan_size n (read_plan (model_of S.args.model.now) n s cs)) c.root_steps-n.ensures c.start-s.ensures
    ∙ size_choices S.args.model.now S.args.question.now S.requires.0 cs in
    let few : c.plan_size-count.result ≤ length c.args.choices.now = let S = c in
    omega (arith, counted, (plan_first S.args.model.now S.args.question.now S.requires.0 S.args.choices.now S.requires.1).0) in
    let S = c in omega (arith, few, S.requires.2)

pub returns-then-sheet-sheet_size : goal.returns-then-sheet-sheet_size
returns-then-sheet-sheet_size c =
    let counted : let A = c.args in
    c.plan_size-count.result ≡ size_in (choices_in (model_of A.model.now) (question_of A.question.now) A.choices.now) = let S = c in
    let cs = S.args.choices.now in
    c.plan_size-count.ensures
    ∙ ap₂ (λ n s. plan_size n (read_plan (model_of S.args.model.now) n s cs)) c.root_steps-n.ensures c.start-s.ensures
    ∙ size_choices S.args.model.now S.args.question.now S.requires.0 cs in
    let few : c.plan_size-count.result ≤ length c.args.choices.now = let S = c in
    omega (arith, counted, (plan_first S.args.model.now S.args.question.now S.requires.0 S.args.choices.now S.requires.1).0) in
    let whole : length (take c.plan_size-count.result c.args.choices.now) ≡ c.plan_size-count.result = length-take-le c.plan_size-count.result c.args.choices.now few in
    let P = c in
    let S = P in
    let cs = S.args.choices.now in
    subst (λ (k : ℕ). Tells (told_sheet S.args.question.now (length S.args.sheet.now) S.args.total (take k cs)) S.args.sheet.now S.args.sheet.now 112) counted
    (short_told S.args.question.now S.args.total (take P.plan_size-count.result cs) S.args.sheet.now (omega (arith, c.sheet_size.ensures, ap (λ k. 512 * blocks_for k) whole)))

pub slice_bounds-write_sheet-end : goal.slice_bounds-write_sheet-end
slice_bounds-write_sheet-end c =
    let counted : let A = c.args in
    c.plan_size-count.result ≡ size_in (choices_in (model_of A.model.now) (question_of A.question.now) A.choices.now) = let S = c in
    let cs = S.args.choices.now in
    c.plan_size-count.ensures
    ∙ ap₂ (λ n s. plan_size n (read_plan (model_of S.args.model.now) n s cs)) c.root_steps-n.ensures c.start-s.ensures
    ∙ size_choices S.args.model.now S.args.question.now S.requires.0 cs in
    let few : c.plan_size-count.result ≤ length c.args.choices.now = let S = c in
    omega (arith, counted, (plan_first S.args.model.now S.args.question.now S.requires.0 S.args.choices.now S.requires.1).0) in
    let whole : length (take c.plan_size-count.result c.args.choices.now) ≡ c.plan_size-count.result = length-take-le c.plan_size-count.result c.args.choices.now few in
    sym whole

pub write_sheet-requires : goal.write_sheet-requires
write_sheet-requires c =
    let counted : let A = c.args in
    c.plan_size-count.result ≡ size_in (choices_in (model_of A.model.now) (question_of A.question.now) A.choices.now) = let S = c in
    let cs = S.args.choices.now in
    c.plan_size-count.ensures
    ∙ ap₂ (λ n s. plan_size n (read_plan (model_of S.args.model.now) n s cs)) c.root_steps-n.ensures c.start-s.ensures
    ∙ size_choices S.args.model.now S.args.question.now S.requires.0 cs in
    let few : c.plan_size-count.result ≤ length c.args.choices.now = let S = c in
    omega (arith, counted, (plan_first S.args.model.now S.args.question.now S.requires.0 S.args.choices.now S.requires.1).0) in
    let whole : length (take c.plan_size-count.result c.args.choices.now) ≡ c.plan_size-count.result = length-take-le c.plan_size-count.result c.args.choices.now few in
    let P = c in
    let S = P in
    let m = S.args.model.now in
    let q = S.args.question.now in
    let r = S.requires.0 in
    let l = take P.plan_size-count.result S.args.choices.now in
    let cs = S.args.choices.now in
    let found = (plan_first m q r cs S.requires.1).1 ∙ ap (λ (k : ℕ). ok (take k cs)) (sym counted) in
    let n = P.root_steps-n in
    let s = P.start-s in record {
      m_value = (
        r.passed,
        omega (arith, (accepted _ _ _ q r.asked).formed.starts, s.ensures),
        choices_read m q r cs l found ∙ ap₂ (λ n s. end_of (length l) (read_plan (model_of m) n s l)) (sym n.ensures) (sym s.ensures),
      );
      choices_len_bound = (omega (arith, few, whole, S.requires.2), omega (arith, c.sheet_size.ensures, c.if-sheet-sheet_size.false, ap (λ k. 512 * blocks_for k) whole));
    }

pub returns : goal.returns
returns c =
    let counted : let A = c.args in
    c.plan_size-count.result ≡ size_in (choices_in (model_of A.model.now) (question_of A.question.now) A.choices.now) = let S = c in
    let cs = S.args.choices.now in
    c.plan_size-count.ensures
    ∙ ap₂ (λ n s. plan_size n (read_plan (model_of S.args.model.now) n s cs)) c.root_steps-n.ensures c.start-s.ensures
    ∙ size_choices S.args.model.now S.args.question.now S.requires.0 cs in
    let few : c.plan_size-count.result ≤ length c.args.choices.now = let S = c in
    omega (arith, counted, (plan_first S.args.model.now S.args.question.now S.requires.0 S.args.choices.now S.requires.1).0) in
    let whole : length (take c.plan_size-count.result c.args.choices.now) ≡ c.plan_size-count.result = length-take-le c.plan_size-count.result c.args.choices.now few in
    let P = c in
    let S = P in
    let q = S.args.question.now in
    let cs = S.args.choices.now in
    let l = take P.plan_size-count.result cs in
    let n = P.root_steps-n in
    let s = P.start-s in
    let x = c.write_sheet in
    let rest = drop x.result S.args.sheet.now in
    subst (λ (k : ℕ). Tells (told_sheet q (length S.args.sheet.now) S.args.total (take k cs)) S.args.sheet.now x.new.buf 1) counted
    (sheet_told_whole q S.args.total l S.args.sheet.now
    (omega (arith, c.sheet_size.ensures, c.if-sheet-sheet_size.false, ap (λ k. 512 * blocks_for k) whole)) x.result x.ensures.value x.new.buf
    (x.ensures.effect ∙ ap (λ z. sheet_bytes n.result s.result z l ++ rest) (to_z-of_z w64 S.args.total S.ranges.total) ∙ ap₂ (λ n s. sheet_bytes n s S.args.total l ++ rest) n.ensures s.ensures))
