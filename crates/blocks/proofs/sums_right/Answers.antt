use Rattle.std.proofs.Common.{◌/◌, ◌%◌, length, rules, tests, ◌∙◌, eqb}
use native.Mathlib.Nat.{sub-zero}
use Rattle.std.proofs.lemmas.Iterator.{YieldsList-from_range}
use Rattle.std.proofs.lemmas.Iterator.Search.{all_from_yields_List}
use Rattle.blocks.specs.Block.{word_sum, sums_right, block_count}
use Rattle.blocks.proofs.EachOfMany.{all_range}
use Rattle.blocks.proofs.sums_right.Goals as goal

pub returns : goal.returns
unfolding sums_right block_count
returns c =
    let b = c.args.b.now in
    let n = length b / 512 in
    all_from_yields_List (λ k. eqb (word_sum b k % 65536) 0) _ _ _ c.all.ensures.ran (YieldsList-from_range 0 n n (cc) (sub-zero n)) (λ x b q k. search (rules, tests))
    ∙ all_range (λ k. eqb (word_sum b k % 65536) 0) n
