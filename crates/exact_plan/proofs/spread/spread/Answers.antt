-- `spread::spread`: with i of the slow numbers left, the sums of the others stand where they belong, and all before them as at the start.
use native.Mathlib.Omega.{arith}
use mathlib.Core.Path.{◌≡◌, ap, ◌∙◌}
use lib.ListN.{length}
use Rattle.exact_plan.proofs.JoinedInPlace.{spreading, spread_start, spread_end, spread_whole, spread_one_row_more}
use Rattle.exact_plan.proofs.spread.spread.Goals as goal

pub loop-i-init : goal.loop-i-init
loop-i-init c = spread_start _ _ _ _ _ _ _ _ c.requires

pub overflow_add-x : goal.overflow_add-x
overflow_add-x c = omega (arith, c.requires.slowly)

pub offset_bounds-buf-slow : goal.offset_bounds-buf-slow
offset_bounds-buf-slow c = omega (arith, c.requires.slowly)

pub bounds-buf-slow : goal.bounds-buf-slow
bounds-buf-slow c = let L = c.loop-i in let S = c in let t = spread_one_row_more _ _ _ _ _ _ _ _ S.requires L.i c.loop-i-test.true (omega arith) L.invariant in omega (arith, t.whole, S.requires.slowly)

pub overflow_mul-x : goal.overflow_mul-x
overflow_mul-x c = let L = c.loop-i in let S = c in let t = spread_one_row_more _ _ _ _ _ _ _ _ S.requires L.i c.loop-i-test.true (omega arith) L.invariant in omega (arith, t.fits)

pub overflow_mul-i : goal.overflow_mul-i
overflow_mul-i c = let L = c.loop-i in let S = c in let t = spread_one_row_more _ _ _ _ _ _ _ _ S.requires L.i c.loop-i-test.true (omega arith) L.invariant in omega (arith, t.whole, t.shifts.target)

pub overflow_add-at : goal.overflow_add-at
overflow_add-at c = let L = c.loop-i in let S = c in let t = spread_one_row_more _ _ _ _ _ _ _ _ S.requires L.i c.loop-i-test.true (omega arith) L.invariant in omega (arith, t.whole, t.shifts.target)

pub shift-requires : goal.shift-requires
shift-requires c = let L = c.loop-i in let S = c in let t = spread_one_row_more _ _ _ _ _ _ _ _ S.requires L.i c.loop-i-test.true (omega arith) L.invariant in t.shifts

pub loop-i-preserved : goal.loop-i-preserved
loop-i-preserved c = let L = c.loop-i in let S = c in let t = spread_one_row_more _ _ _ _ _ _ _ _ S.requires L.i c.loop-i-test.true (omega arith) L.invariant in t.again c.shift.ensures

pub shape_of-buf : goal.shape_of-buf
shape_of-buf c = let L = c.loop-i in let S = c in ap length L.invariant ∙ spread_whole _ _ _ _ _ _ _ _ S.requires L.i (omega arith)

pub returns : goal.returns
returns c = let L = c.loop-i in
    let S = c in
    let A = S.args in
    let z : L.i ≡ 0 = omega arith in
    L.invariant ∙ ap (spreading A.buf.now A.at A.slow A.n A.v A.fast A.c A.w) z ∙ spread_end _ _ _ _ _ _ _ _ S.requires
