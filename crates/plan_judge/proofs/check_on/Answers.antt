-- The question of the desk is prepared beside the model.
use Prim.Native.Nat.{◌^◌, ◌<◌}
use mathlib.Core.Path.{◌≡◌, sym, ap, ◌∙◌}
use lib.IntN.{ℤ}
use lib.Signed.{mag}
use mir.Syntax.{w64}
use mir.Val.{to_z, of_z}
use mir.ValLaws.{to_z-of_z}
use Rattle.std.proofs.lemmas.Result.{err_from_is_err_and}
use Rattle.models.specs.Layout.{model_of}
use Rattle.questions.specs.Layout.{start_of}
use Rattle.sheets.specs.Layout.{sheet_of}
use Rattle.prepared_question.proofs.ChildrenBefore.{ordered}
use Rattle.plan_judge.proofs.StateGrounds.{root_node}
use Rattle.plan_judge.proofs.CheckReturns.{on_sheet, check_limited, root_there, limits_there, shared_there, sheet_served, spelled_there, check_sheet, check_differs, check_met}
use Rattle.plan_judge.proofs.check_on.Goals as goal

-- The code compares the totals bit by bit, which is to compare the totals.
same_bits : (a b : ℤ) → mag a < 2 ^ 63 → mag b < 2 ^ 63 → of_z w64 a ≡ of_z w64 b → a ≡ b
same_bits a b h k e = sym (to_z-of_z w64 a (record { sfits = h })) ∙ ap (to_z w64) e ∙ to_z-of_z w64 b (record { sfits = k })

pub prepare_question-query-requires : goal.prepare_question-query-requires
prepare_question-query-requires c = ordered _ _ _ _ c.requires.asked

pub plan_totals-counts-requires : goal.plan_totals-counts-requires
plan_totals-counts-requires c =
    let shared = shared_there c.args.m.now c.args.q.now c.requires c.args.b.now c.prepare_model-model.ensures c.prepare_question-query.ensures in
    (c.prepare_model-model.ensures.prepared, shared.nodes)

pub accept_limits-requires : goal.accept_limits-requires
accept_limits-requires c =
    let shared = shared_there c.args.m.now c.args.q.now c.requires c.args.b.now c.prepare_model-model.ensures c.prepare_question-query.ensures in
    record { prepared = (c.prepare_model-model.ensures.prepared, shared.nodes); counted = c.plan_totals-counts.ensures }

pub returns-in_err-accept_limits : goal.returns-in_err-accept_limits
returns-in_err-accept_limits c =
    let p = err_from_is_err_and c.from_residual.result c.from_residual.ensures.1 in
    let shared = shared_there c.args.m.now c.args.q.now c.requires c.args.b.now c.prepare_model-model.ensures c.prepare_question-query.ensures in
    rw (p.1, p.2)
    (check_limited c.args.m.now c.args.q.now c.requires c.args.b.now c.in_err-accept_limits.field-0.0
    (c.in_err-accept_limits.ensures ∙ limits_there c.args.m.now c.args.q.now c.requires c.args.b.now c.prepare_model-model.ensures shared))

pub returns-in_err-accept_sheet : goal.returns-in_err-accept_sheet
returns-in_err-accept_sheet c =
    let p = err_from_is_err_and c.from_residual-in_err-accept_sheet.result c.from_residual-in_err-accept_sheet.ensures.1 in
    let shared = shared_there c.args.m.now c.args.q.now c.requires c.args.b.now c.prepare_model-model.ensures c.prepare_question-query.ensures in
    let within = sym (limits_there c.args.m.now c.args.q.now c.requires c.args.b.now c.prepare_model-model.ensures shared) ∙ sym c.in_ok-accept_limits.ensures in
    rw (p.1, p.2) (check_sheet c.args.m.now c.args.q.now c.requires c.args.b.now within c.in_err-accept_sheet.field-0.0 c.in_err-accept_sheet.ensures)

pub sheet_weighed-w-requires : goal.sheet_weighed-w-requires
sheet_weighed-w-requires c =
    let m = c.args.m.now in
    let q = c.args.q.now in
    let b = c.args.b.now in
    let p = c.prepare_model-model.ensures in
    let shared = shared_there m q c.requires b p c.prepare_question-query.ensures in
    let within = sym (limits_there m q c.requires b p shared) ∙ sym c.in_ok-accept_limits.ensures in
    let o = on_sheet (model_of m) (root_node q).n (start_of q) b (sym c.in_ok-accept_sheet.ensures) in
    (sheet_served m q c.requires b p shared within, c.plan_totals-counts.ensures, root_there m q c.requires b p shared, o.blocks, spelled_there m q c.requires b p shared (sheet_of b).choices o.plan o.read)

pub returns-then-total_at-w : goal.returns-then-total_at-w
returns-then-total_at-w c =
    let m = c.args.m.now in
    let q = c.args.q.now in
    let b = c.args.b.now in
    let p = c.prepare_model-model.ensures in
    let shared = shared_there m q c.requires b p c.prepare_question-query.ensures in
    let within = sym (limits_there m q c.requires b p shared) ∙ sym c.in_ok-accept_limits.ensures in
    check_differs m q c.requires b within (sym c.in_ok-accept_sheet.ensures) c.sheet_weighed-w.result p shared c.sheet_weighed-w.ensures
    (λ z. c.if-total_at-w.true (ap (of_z w64) (c.total_at.ensures ∙ z)))

pub returns : goal.returns
returns c =
    let m = c.args.m.now in
    let q = c.args.q.now in
    let b = c.args.b.now in
    let p = c.prepare_model-model.ensures in
    let shared = shared_there m q c.requires b p c.prepare_question-query.ensures in
    let within = sym (limits_there m q c.requires b p shared) ∙ sym c.in_ok-accept_limits.ensures in
    check_met m q c.requires b within (sym c.in_ok-accept_sheet.ensures) c.sheet_weighed-w.result p shared c.sheet_weighed-w.ensures
    (sym c.total_at.ensures ∙ same_bits _ c.sheet_weighed-w.result.total c.total_at.type_inv c.struct_told-1.given.0.1 c.if-total_at-w.false)
