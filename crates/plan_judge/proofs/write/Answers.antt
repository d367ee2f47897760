-- Each return by its ground, or by the sheet written.
-- Past the grounds of the state, and past 23.
use Prim.Native.Nat.{◌*◌, ◌-◌, ◌≤◌}
use native.Mathlib.Omega.{arith}
use mathlib.Core.Path.{◌≡◌, sym, ap, ap₂, ◌∙◌}
use mathlib.Core.List.{◌++◌}
use lib.ListN.{length, take, drop}
use lib.Seq.{length-take-le}
use mir.Syntax.{w64}
use mir.ValLaws.{to_z-of_z}
use borrow.Author.Rules.{rules}
use Rattle.std.proofs.lemmas.Result.{err_from_is_err_and}
use Rattle.logic.specs.promises.Refusal.{refusal}
use Rattle.logic.specs.Choices.{read_plan}
use Rattle.models.specs.Layout.{state_count, model_of}
use Rattle.models.specs.Grounds.{read_model}
use Rattle.questions.specs.Layout.{start_of, node_count, node_of}
use Rattle.questions.proofs.AcceptedFacts.{accepted}
use Rattle.sheets.specs.promises.Ends.{end_of}
use Rattle.sheets.specs.Layout.{blocks_for, sheet_bytes}
use Rattle.plan_judge.specs.View.{question_bytes, view}
use Rattle.plan_judge.specs.promises.State.{held_goal}
use Rattle.plan_judge.proofs.LoadPutReturn.{said_bytes, cut_said}
use Rattle.plan_judge.proofs.StateGrounds.{plan_asked}
use Rattle.plan_judge.proofs.WriteReturns.{choices_read, found_shown, write_state, write_none, count_few, count_small, write_short, write_done}
use Rattle.plan_judge.proofs.write.Goals as goal

clauses_value_frame : {A B : Type 0} → A × B → record { value : A; frame : B }
clauses_value_frame p = record { value = p.0; frame = p.1 }

pub returns-in_err-plan_asked : goal.returns-in_err-plan_asked
returns-in_err-plan_asked c =
    let p = err_from_is_err_and c.from_residual.result c.from_residual.ensures.1 in
    rw (p.1, p.2) (clauses_value_frame (write_state c.args.d c.args.buf.now c.in_err-plan_asked.field-0.0 c.in_err-plan_asked.ensures))

pub returns-then-count-eq0 : goal.returns-then-count-eq0
returns-then-count-eq0 c =
    let asked : refusal (held_goal (view c.args.d)) ≡ 0 = sym c.in_ok-plan_asked.ensures in
    clauses_value_frame (write_none c.args.d c.args.buf.now asked c.shown_size-count.result c.shown_size-count.ensures c.if-count-eq0.true)

pub sheet_size-requires : goal.sheet_size-requires
sheet_size-requires c =
    count_small c.args.d c.args.buf.now (sym c.in_ok-plan_asked.ensures) c.shown_size-count.result c.shown_size-count.ensures c.if-count-eq0.false (search rules)

pub returns-then-buf-sheet_size : goal.returns-then-buf-sheet_size
returns-then-buf-sheet_size c =
    let asked : refusal (held_goal (view c.args.d)) ≡ 0 = sym c.in_ok-plan_asked.ensures in
    clauses_value_frame (write_short c.args.d c.args.buf.now asked c.shown_size-count.result c.shown_size-count.ensures c.if-count-eq0.false (omega (arith, c.sheet_size.ensures)))

pub shared_ref_as_front-write_sheet : goal.shared_ref_as_front-write_sheet
shared_ref_as_front-write_sheet c =
    count_small c.args.d c.args.buf.now (sym c.in_ok-plan_asked.ensures) c.shown_size-count.result c.shown_size-count.ensures c.if-count-eq0.false (search rules)

pub write_sheet-requires : goal.write_sheet-requires
write_sheet-requires c =
    let asked : refusal (held_goal (view c.args.d)) ≡ 0 = sym c.in_ok-plan_asked.ensures in
    let few : c.shown_size-count.result ≤ length c.args.d.choices = count_few c.args.d c.args.buf.now asked c.shown_size-count.result c.shown_size-count.ensures c.if-count-eq0.false in
    let small : c.shown_size-count.result ≤ 1365 = count_small c.args.d c.args.buf.now (sym c.in_ok-plan_asked.ensures) c.shown_size-count.result c.shown_size-count.ensures c.if-count-eq0.false (search rules) in
    let whole : length (take c.shown_size-count.result c.args.d.choices) ≡ c.shown_size-count.result = length-take-le c.shown_size-count.result c.args.d.choices few in
    let cut : take c.blocks_end.result c.args.d.model ≡ said_bytes c.args.d = cut_said c.args.d (search rules) c.blocks_end.result c.blocks_end.ensures in
    let d = c.args.d in
    let q = question_bytes d in
    let l = take c.shown_size-count.result d.choices in
    let r = plan_asked d asked in
    let n = c.root_steps-n in
    let s = c.start-s in
    let steps : n.result ≡ (node_of q (node_count q - 1)).n = n.ensures ∙ ap (λ q. (node_of q (node_count q - 1)).n) c.question_bytes-q.ensures in
    let start : s.result ≡ start_of q = s.ensures ∙ ap start_of c.question_bytes-q.ensures in
    let e = cut in
    let found = found_shown d c.args.buf.now asked c.shown_size-count.result c.shown_size-count.ensures c.if-count-eq0.false in record {
      m_value = (
        ap (λ z. refusal (read_model z)) e ∙ r.passed,
        omega (arith, (accepted _ _ _ q r.asked).formed.starts, start, ap state_count e),
        choices_read (said_bytes d) q r d.choices l found
            ∙ ap₂ (λ n s. end_of (length l) (read_plan (model_of (said_bytes d)) n s l)) (sym steps) (sym start)
            ∙ ap (λ z. end_of (length l) (read_plan (model_of z) n.result s.result l)) (sym e),
      );
      choices_len_bound = (omega (arith, small, whole), omega (arith, ap (λ k. 512 * blocks_for k) whole, c.sheet_size.ensures, c.if-buf-sheet_size.false));
    }

pub returns : goal.returns
returns c =
    let asked : refusal (held_goal (view c.args.d)) ≡ 0 = sym c.in_ok-plan_asked.ensures in
    let q = question_bytes c.args.d in
    let cs = take c.shown_size-count.result c.args.d.choices in
    let n = c.root_steps-n in
    let s = c.start-s in
    let w = c.shown_total-w in
    let steps : n.result ≡ (node_of q (node_count q - 1)).n = n.ensures ∙ ap (λ q. (node_of q (node_count q - 1)).n) c.question_bytes-q.ensures in
    let start : s.result ≡ start_of q = s.ensures ∙ ap start_of c.question_bytes-q.ensures in
    let sheet = c.write_sheet in
    let rest = drop sheet.result c.args.buf.now in clauses_value_frame (write_done c.args.d c.args.buf.now asked c.shown_size-count.result c.shown_size-count.ensures c.if-count-eq0.false
    (omega (arith, c.sheet_size.ensures, c.if-buf-sheet_size.false)) sheet.result sheet.ensures.value sheet.new.buf
    (sheet.ensures.effect
    ∙ ap (λ z. sheet_bytes n.result s.result z cs ++ rest) (to_z-of_z w64 w.result (record { sfits = w.type_inv }))
    ∙ ap₂ (λ n s. sheet_bytes n s w.result cs ++ rest) steps start
    ∙ ap (λ w. sheet_bytes (node_of q (node_count q - 1)).n (start_of q) w cs ++ rest) w.ensures))
