use borrow.Author.Count.{below_more}
use borrow.Rule.Slice.PartMut.{put_mid, mid_len, same_len_mid}
use Rattle.prepared_model.proofs.RowFilled.{rows_before, row_put, head_before}
use Rattle.prepared_model.proofs.RowsAreModel.{prepares}
use Rattle.models.proofs.GroundsPassed.{passed_all, passed_sized}
use Prim.Native.Nat.{ℕ, ◌+◌, ◌*◌, ◌-◌, ◌≤◌}
use native.Mathlib.Omega.{arith}
use mathlib.Core.Path.{◌≡◌, sym, subst, ◌∙◌}
use lib.ListN.{length}
use Rattle.prepared_model.specs.promises.Filled.{Row}
use Rattle.prepared_model.proofs.RowFilled.{row_at}
use Rattle.prepared_model.proofs.prepare_model.Goals as goal

pub head-m-requires : goal.head-m-requires
head-m-requires c = omega (arith, (passed_sized _ (passed_all _ c.requires)).bytes)

pub slice_bounds-m-end : goal.slice_bounds-m-end
slice_bounds-m-end c = omega (arith, c.loop-s.invariant.long, c.state_count-s-end.ensures.value, (passed_sized _ (passed_all _ c.requires)).states)

pub loop-s-preserved : goal.loop-s-preserved
loop-s-preserved c = let S = c in
    let L = c.loop-s in
    let n = c.state_count-s-end.ensures in
    let few = (passed_sized _ (passed_all _ S.requires)).states in
    let f = c.fill in
    let from : ℕ = 512 + 256 * L.s in
    let k : ℕ = from + 256 - from in
    let e : k ≡ 256 = omega arith in
    let h : from ≤ length L.m = omega (arith, L.invariant.long, n.value, few) in
    let r = f.new.row in
    let m = mid_len from (from + 256) L.m (omega (arith, L.invariant.long, n.value, few)) in
    record {
      long = same_len_mid from k L.m r f.auto.row ∙ L.invariant.long;
      head = λ j l. rw (head_before L.m r L.s k h j l) (L.invariant.head j l);
      rows = below_more (λ t. Row S.args.b.now t (row_at (put_mid from k L.m r) t)) L.s (λ t l. subst (Row S.args.b.now t) (sym (rows_before L.m r L.s k h t l)) (L.invariant.rows t l)) (subst (Row S.args.b.now L.s) (sym (row_put L.m r L.s k h (f.auto.row ∙ m ∙ e))) f.ensures);
    }

pub returns : goal.returns
returns c = let L = c.loop-s in
    prepares c.args.b.now c.requires L.m (λ k h. (L.invariant.head k h).1) (λ k h. (L.invariant.head k h).0) (λ s h. L.invariant.rows s (omega (arith, c.state_count-s-end.ensures.value)))
