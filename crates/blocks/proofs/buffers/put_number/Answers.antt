use Rattle.std.proofs.Common.{◌<◌, ◌≤◌, ◌++◌, length, drop, length-take, arith, ap, ◌∙◌}
use Rattle.blocks.proofs.NumberReadBack.{one_byte_more, all_bytes}
use Rattle.blocks.proofs.buffers.put_number.Goals as goal

pub loop-place-preserved : goal.loop-place-preserved
loop-place-preserved c =
    let L = c.loop-place in
    let below : L.place-index < c.args.bytes = omega (arith, length-take c.args.bytes c.args.dst.now) in
    one_byte_more L.place-items L.place-index c.args.bytes L.rest below (omega arith) ∙ L.invariant

pub returns : goal.returns
returns c =
    let L = c.loop-place in
    let all : length L.place-items ≤ L.place-index = omega arith in
    let none : c.args.bytes ≤ L.place-index = omega (arith, length-take c.args.bytes c.args.dst.now) in
    ap (λ l. l ++ drop c.args.bytes c.args.dst.now) (all_bytes L.place-items L.place-index c.args.bytes L.rest all none ∙ L.invariant)
