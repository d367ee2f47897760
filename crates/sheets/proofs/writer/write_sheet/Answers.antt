-- The blocks are begun, each becomes full while the plan is stored, and sealed they are the sheet.
-- What the buffer has behind the sheet.
use Prim.Native.Nat.{ℕ, ◌*◌, ◌-◌}
use native.Mathlib.Omega.{arith}
use mathlib.Core.Path.{◌≡◌, sym, ap, ◌∙◌}
use mathlib.Core.List.{List, ◌++◌}
use lib.ListN.{length, drop}
use mir.Syntax.{w64}
use mir.ValLaws.{to_z-of_z}
use Rattle.blocks.specs.Bytes.{twos_complement}
use Rattle.sheets.specs.Layout.{blocks_for, sheet_bytes}
use Rattle.sheets.specs.promises.Writer.{stored, sealed}
use Rattle.sheets.proofs.PiecesInOrder.{pieces}
use Rattle.sheets.proofs.StoredChoices.{full, all_stored, all_sealed}
use Rattle.sheets.proofs.writer.write_sheet.Goals as goal

pub store_plan-requires : goal.store_plan-requires
store_plan-requires c = let S = c in rw (c.from.ensures, c.from-2.ensures) record { m_value = (S.requires.m_value.0, S.requires.m_value.1); ahead = record { end = _; ends = S.requires.m_value.2; inside = omega arith; few = S.requires.choices_len_bound.0; room = omega (arith, S.requires.choices_len_bound.1, c.begin_blocks.auto.buf) } }

pub returns : goal.returns
returns c =
    let beyond : List ℕ = drop (512 * blocks_for (length c.args.choices.now)) c.args.buf.now in
    let bits : ℕ = c.bits_of.result in
    let made : let S = c in
    c.store_plan.new.buf ≡ pieces (full S.args.n S.args.start bits S.args.choices.now) (blocks_for (length S.args.choices.now)) ++ beyond = let S = c in
    let cs = S.args.choices.now in
    let e : c.store_plan.result ≡ length cs = let f = c.store_plan.ensures.ends in let g = S.requires.m_value.2 in cc in
    all_stored S.args.n S.args.start bits cs beyond c.begin_blocks.new.buf c.store_plan.new.buf
    c.begin_blocks.ensures (c.store_plan.ensures.bytes ∙ ap (λ r. stored cs 0 (r - 0) c.begin_blocks.new.buf) e) in
    let S = c in
    let stored-plan = c in
    let e = c.blocks_for-blocks.ensures.value in record {
      effect = c.seal_blocks.ensures
          ∙ ap (λ r. sealed r stored-plan.store_plan.new.buf) e
          ∙ all_sealed S.args.n S.args.start bits S.args.choices.now beyond stored-plan.store_plan.new.buf made S.args.total
          (stored-plan.bits_of.ensures ∙ ap (twos_complement 63) (to_z-of_z w64 S.args.total S.ranges.total))
          ∙ ap (λ r. sheet_bytes S.args.n S.args.start S.args.total S.args.choices.now ++ drop (512 * r) S.args.buf.now) (sym e);
      value = ap (λ r. 512 * r) e;
    }
