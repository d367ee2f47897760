-- A store in the block that is lent is one in the buffer, at the place of the choice.
use Prim.Native.Nat.{◌+◌, ◌-◌, ◌*◌, ◌/◌, ◌%◌}
use native.Mathlib.Omega.{arith}
use mathlib.Core.Path.{ap, ◌∙◌}
use lib.ListN.{length-take, length-drop}
use borrow.Rule.Slice.PartMut.{put_mid, set_mid_at}
use Rattle.sheets.specs.promises.Writer.{place}
use Rattle.sheets.proofs.writer.store_choice.Goals as goal

pub returns : goal.returns
unfolding place
returns c = let S = c in
    let d = S.args.buf.now in
    let from = 512 * (S.args.p / 490) in
    ap (put_mid from (from + 512 - from) d) c.store_in_block.ensures ∙ set_mid_at from (from + 512 - from) (18 + S.args.p % 490) d S.args.a (simp (length-take, length-drop) (omega arith))
