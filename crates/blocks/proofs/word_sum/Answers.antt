-- The loop has added the words before j; each is below 65,536, so that the sum fits.
use Prim.Native.Nat.{◌+◌, ◌*◌, ◌%◌}
use native.Mathlib.Omega.{arith}
use native.Mathlib.Numerals.{add-one}
use mathlib.Core.Path.{◌≡◌, refl, ap, ◌∙◌}
use Rattle.blocks.specs.Bytes.{u16}
use Rattle.blocks.specs.Block.{sum_below, word_sum}
use Rattle.blocks.proofs.word_sum.Goals as goal

pub loop-j-init : goal.loop-j-init
unfolding sum_below
loop-j-init c = (omega arith, refl)

pub loop-j-preserved : goal.loop-j-preserved
unfolding sum_below
loop-j-preserved c =
    let L = c.loop-j in
    (omega (arith, c.pair-sum.ensures.range), rw (add-one L.j, L.invariant.1, c.pair-sum.ensures.value) refl)

pub returns : goal.returns
unfolding word_sum
returns c =
    let e : c.loop-j.j ≡ 256 = omega arith in
    ap (λ x. x % 65536) (c.loop-j.invariant.1 ∙ ap (λ n. sum_below n (λ i. u16 c.args.b.now (512 * c.args.k + 2 * i))) e)
