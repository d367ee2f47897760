-- The loop has begun the blocks before k, and nothing behind them. The measure is what is left of the blocks.
use Prim.Native.Nat.{ℕ, ◌+◌, ◌*◌, ◌≤◌}
use native.Mathlib.Nat.{mul-div-le}
use native.Mathlib.Omega.{arith}
use mathlib.Core.List.{List, [], ◌++◌, flat_map}
use mathlib.Core.Path.{◌≡◌, refl, ap, ◌∙◌}
use lib.ListN.{drop}
use Rattle.logic.specs.Lists.{count_from}
use Rattle.sheets.specs.Layout.{blocks_for}
use Rattle.sheets.specs.promises.Writer.{unsealed, chunk_size, begun}
use Rattle.sheets.proofs.PiecesInOrder.{pieces, pieces_length, piece_put}
use Rattle.sheets.proofs.BlockBegun.{unsealed_length}
use Rattle.sheets.proofs.writer.begin_blocks.Goals as goal

-- Few enough that each block but the last is full.
few_blocks : (r count : ℕ) → r ≡ blocks_for count → 490 * r ≤ count + 489
unfolding blocks_for
few_blocks r count e = let few = mul-div-le (count + 489) 490 in omega arith

pub loop-k-init : goal.loop-k-init
unfolding flat_map count_from
loop-k-init c = refl

pub loop-k-preserved : goal.loop-k-preserved
loop-k-preserved c = let S = c in
    let e = c.blocks_for-k-end.ensures.value in
    let few = few_blocks _ _ e in
    let L = c.loop-k in
    let begin = c.begin in
    let f : ℕ → List ℕ = λ i. unsealed S.args.n S.args.start S.args.weight i (chunk_size S.args.count i) [] in
    piece_put f S.args.buf.now L.buf begin.new.dst 512 L.k L.invariant
    (pieces_length f 512 L.k (λ i l. unsealed_length S.args.n S.args.start S.args.weight i [] (omega arith) (chunk_size S.args.count i)))
    (begin.ensures ∙ ap (λ z. unsealed S.args.n S.args.start S.args.weight L.k z []) c.chunk_size-here.ensures)

pub returns : goal.returns
unfolding begun
returns c = let S = c in
    let L = c.loop-k in
    let f : ℕ → List ℕ = λ i. unsealed S.args.n S.args.start S.args.weight i (chunk_size S.args.count i) [] in
    let z = c.blocks_for-k-end.ensures.value in
    let e : L.k ≡ blocks_for S.args.count = omega arith in
    L.invariant ∙ ap (λ i. pieces f i ++ drop (512 * i) S.args.buf.now) e
