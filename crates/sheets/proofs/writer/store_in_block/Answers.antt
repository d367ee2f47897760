-- A store in the part that is lent is one in the block, 18 bytes on.
use Prim.Native.Nat.{◌-◌}
use native.Mathlib.Omega.{arith}
use mathlib.Core.Path.{ap, ◌∙◌}
use lib.ListN.{length-take, length-drop}
use borrow.Rule.Slice.PartMut.{put_mid, set_mid_at}
use Rattle.sheets.proofs.writer.store_in_block.Goals as goal

pub returns : goal.returns
returns c = let S = c in
    let d = S.args.block.now in
    ap (put_mid 18 (508 - 18) d) c.store.ensures ∙ set_mid_at 18 (508 - 18) S.args.i d S.args.a (simp (length-take, length-drop) (omega arith))
