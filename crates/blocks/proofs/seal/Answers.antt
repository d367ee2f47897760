-- What is put in is told by the sum of all words and by the last word as it was, which may be any.
use Rattle.blocks.proofs.WordSumSealed.{sealed}
use Rattle.blocks.proofs.seal.Goals as goal

pub returns : goal.returns
returns c =
    let sum = c.word_sum-sum in
    let last = c.pair-last in
    let put = c.put_number in
    sealed c.args.block.now put.new.dst sum.result last.result c.requires sum.ensures last.ensures.value last.ensures.range (rw c.from.ensures at put.ensures)
