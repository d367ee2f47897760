use Rattle.std.proofs.Common.{◌≡◌, rules, eqb, ap, ◌∙◌, fold, bit_or, take, drop}
use Rattle.blocks.specs.Bytes.{zeros}
use Rattle.blocks.proofs.EachOfMany.{none_set}
use Rattle.blocks.proofs.zeros.Goals as goal

pub returns : goal.returns
unfolding zeros
returns c =
    let b = c.args.b.now in
    let joined : c.fold.result ≡ fold bit_or 0 (take c.args.n (drop c.args.from b)) = search rules in
    ap (λ x. eqb x 0) joined ∙ none_set b c.args.from c.args.n c.requires.0
