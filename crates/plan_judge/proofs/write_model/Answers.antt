-- Each return by its ground, or by the bytes copied.
-- Past ground 20: the desk, the buffer as it was lent, and that the bytes which are cut are so many.
use native.Mathlib.Omega.{arith}
use borrow.Author.Rules.{rules}
use mathlib.Core.Path.{◌≡◌, sym, ◌∙◌}
use lib.ListN.{length, length-take}
use Rattle.plan_judge.proofs.WriteModelReturns.{write_model_none, cut_size, write_model_short, write_model_done}
use Rattle.plan_judge.proofs.write_model.Goals as goal

clauses_value_frame : {A B : Type 0} → A × B → record { value : A; frame : B }
clauses_value_frame p = record { value = p.0; frame = p.1 }

pub returns-then-n-eq0 : goal.returns-then-n-eq0
returns-then-n-eq0 c = let S = c in clauses_value_frame (write_model_none S.args.d S.args.buf.now (sym c.held_bytes-n.ensures ∙ c.if-n-eq0.true))

pub shared_ref_as_front-copy : goal.shared_ref_as_front-copy
shared_ref_as_front-copy c =
    let cut = cut_size c.args.d c.args.buf.now c.held_bytes-n.result c.held_bytes-n.ensures c.if-n-eq0.false in
    let k : length c.args.d.model ≡ 6144 = search rules in
    omega (arith, cut, length-take c.held_bytes-n.result c.args.d.model)

pub returns-then-buf-n : goal.returns-then-buf-n
returns-then-buf-n c = clauses_value_frame (write_model_short c.args.d c.args.buf.now c.held_bytes-n.result c.held_bytes-n.ensures c.if-n-eq0.false c.if-buf-n.true)

pub copy-requires : goal.copy-requires
copy-requires c =
    let cut = cut_size c.args.d c.args.buf.now c.held_bytes-n.result c.held_bytes-n.ensures c.if-n-eq0.false in
    omega (arith, cut, c.if-buf-n.false)

pub returns : goal.returns
returns c =
    clauses_value_frame
    (write_model_done c.args.d c.args.buf.now c.held_bytes-n.result c.held_bytes-n.ensures c.if-n-eq0.false c.if-buf-n.false c.copy.new.dst c.copy.ensures)
