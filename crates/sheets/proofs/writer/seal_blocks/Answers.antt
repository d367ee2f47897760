-- The loop has sealed the blocks before k; those from k on are as they were. The measure is what is left of the blocks.
use Prim.Native.Nat.{ℕ, ◌*◌, ◌<◌}
use native.Mathlib.Omega.{arith}
use mathlib.Core.List.{List, ◌++◌, flat_map}
use mathlib.Core.Path.{◌≡◌, refl, ap, ◌∙◌}
use lib.ListN.{take, drop}
use lib.Seq.{take-take}
use Rattle.logic.specs.Lists.{count_from}
use Rattle.blocks.specs.Block.{with_word_sum}
use Rattle.sheets.specs.promises.Writer.{sealed}
use Rattle.sheets.proofs.PiecesInOrder.{pieces, piece_put}
use Rattle.sheets.proofs.BlockBegun.{sealed_length, block_lent}
use Rattle.sheets.proofs.writer.seal_blocks.Goals as goal

pub loop-k-init : goal.loop-k-init
unfolding flat_map count_from
loop-k-init c = refl

pub loop-k-preserved : goal.loop-k-preserved
loop-k-preserved c = let S = c in
    let L = c.loop-k in
    let lt : L.k < S.args.blocks = c.loop-k-test.true in
    let seal = c.seal in
    let f : ℕ → List ℕ = λ i. with_word_sum (take 510 (drop (512 * i) S.args.buf.now)) in
    let w = block_lent S.args.buf.now L.buf L.k (omega arith) L.invariant in
    piece_put f S.args.buf.now L.buf seal.new.block 512 L.k L.invariant (sealed_length S.args.buf.now L.k (omega arith))
    (seal.ensures ∙ ap (λ l. with_word_sum (take 510 l)) w.1 ∙ ap with_word_sum (take-take 510 512 (drop (512 * L.k) S.args.buf.now) (omega arith)))

pub returns : goal.returns
unfolding sealed
returns c = let S = c in
    let L = c.loop-k in
    let f : ℕ → List ℕ = λ i. with_word_sum (take 510 (drop (512 * i) S.args.buf.now)) in
    let e : L.k ≡ S.args.blocks = omega arith in
    L.invariant ∙ ap (λ i. pieces f i ++ drop (512 * i) S.args.buf.now) e
