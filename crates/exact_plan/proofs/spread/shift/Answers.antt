-- `spread::shift`: after i turns the buffer has the first i sums at `to`, and all else as at the start.
use native.Mathlib.Omega.{arith}
use mathlib.Core.Path.{◌≡◌, sym, ap, ◌∙◌}
use lib.ListN.{length}
use Rattle.blocks.proofs.Splice.{splice_none}
use Rattle.exact_plan.specs.promises.Totals.{part}
use Rattle.exact_plan.proofs.JoinedInPlace.{shifted, shift_whole, shift_one_more}
use Rattle.exact_plan.proofs.spread.shift.Goals as goal

pub loop-i-init : goal.loop-i-init
unfolding part
loop-i-init c = sym (splice_none _ _)

pub overflow_add-buf : goal.overflow_add-buf
overflow_add-buf c = omega (arith, c.requires.source)

pub offset_bounds-buf-from : goal.offset_bounds-buf-from
offset_bounds-buf-from c = omega (arith, c.requires.source)

pub bounds-buf-from : goal.bounds-buf-from
bounds-buf-from c = let L = c.loop-i in let S = c in let t = shift_one_more _ _ _ _ _ _ S.requires L.i L.invariant c.loop-i-test.true in omega (arith, t.whole, S.requires.source)

pub overflow_mul-buf : goal.overflow_mul-buf
overflow_mul-buf c = let L = c.loop-i in let S = c in let t = shift_one_more _ _ _ _ _ _ S.requires L.i L.invariant c.loop-i-test.true in omega (arith, t.fits)

pub overflow_add-buf-in-loop-i : goal.overflow_add-buf-in-loop-i
overflow_add-buf-in-loop-i c = let L = c.loop-i in let S = c in let t = shift_one_more _ _ _ _ _ _ S.requires L.i L.invariant c.loop-i-test.true in omega (arith, t.fits)

pub overflow_add-buf-in-loop-i-2 : goal.overflow_add-buf-in-loop-i-2
overflow_add-buf-in-loop-i-2 c = omega (arith, c.requires.target)

pub offset_bounds-buf-to : goal.offset_bounds-buf-to
offset_bounds-buf-to c = omega (arith, c.requires.target)

pub bounds-buf-to : goal.bounds-buf-to
bounds-buf-to c = let L = c.loop-i in let S = c in let t = shift_one_more _ _ _ _ _ _ S.requires L.i L.invariant c.loop-i-test.true in omega (arith, t.whole, S.requires.target)

pub loop-i-preserved : goal.loop-i-preserved
loop-i-preserved c = let L = c.loop-i in let S = c in let t = shift_one_more _ _ _ _ _ _ S.requires L.i L.invariant c.loop-i-test.true in t.again

pub shape_of-buf : goal.shape_of-buf
shape_of-buf c = let L = c.loop-i in let S = c in ap length L.invariant ∙ shift_whole _ _ _ _ _ _ S.requires L.i (omega arith)

pub returns : goal.returns
returns c = let L = c.loop-i in let S = c in let e : L.i ≡ S.args.count = omega arith in L.invariant ∙ ap (shifted S.args.buf.now S.args.from S.args.to S.args.w S.args.x) e
