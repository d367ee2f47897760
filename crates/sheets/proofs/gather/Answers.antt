-- The loop has put in the choices of the blocks before k, one after the other, and nothing behind them.
use Prim.Native.Nat.{◌/◌}
use native.Mathlib.Omega.{arith}
use mathlib.Core.Path.{◌≡◌, refl, ap, ◌∙◌}
use mathlib.Core.List.{◌++◌, flat_map}
use lib.ListN.{length, drop, length-take, length-drop}
use Rattle.logic.specs.Lists.{count_from}
use Rattle.blocks.specs.Block.{block_count}
use Rattle.sheets.specs.Layout.{choices_of, sheet_of}
use Rattle.sheets.proofs.PiecesInOrder.{pieces}
use Rattle.sheets.proofs.BlockTests.{whole_says, block_says, gather_more}
use Rattle.sheets.proofs.gather.Goals as goal

pub loop-k-init : goal.loop-k-init
unfolding flat_map count_from
loop-k-init c = record { few = omega arith; long = refl; front = refl }

pub count_at-c-requires : goal.count_at-c-requires
unfolding block_count
count_at-c-requires c = (block_says c.args.b.now c.requires.0 c.loop-k.k c.loop-k-test.true).number

pub slice_bounds-copy-end-in-loop-k : goal.slice_bounds-copy-end-in-loop-k
unfolding block_count
slice_bounds-copy-end-in-loop-k c = let w = block_says c.args.b.now c.requires.0 c.loop-k.k c.loop-k-test.true in
    omega arith

pub copy-requires : goal.copy-requires
unfolding block_count
copy-requires c = let w = block_says c.args.b.now c.requires.0 c.loop-k.k c.loop-k-test.true in
    simp (length-take, length-drop) (omega arith)

pub loop-k-preserved : goal.loop-k-preserved
unfolding block_count
loop-k-preserved c = let L = c.loop-k in
    let w = block_says c.args.b.now c.requires.0 L.k c.loop-k-test.true in
    let more = gather_more c.args.b.now c.args.out.now L.out c.copy.new.dst L.k L.at c.count_at-c.result w c.count_at-c.ensures.value L.invariant.long (omega arith) L.invariant.front c.copy.ensures in
    record { few = omega arith; long = more.1; front = more.0 }

pub returns : goal.returns
unfolding sheet_of block_count
returns c = let L = c.loop-k in
    let b = c.args.b.now in
    let e : L.k ≡ length b / 512 = omega arith in
    record {
      front = L.invariant.front ∙ ap (λ i. pieces (choices_of b) i ++ drop L.at c.args.out.now) e;
      count = L.invariant.long ∙ ap (λ i. length (pieces (choices_of b) i)) e;
      few = omega (arith, L.invariant.few, (whole_says b c.requires.0.whole).few);
    }
