-- The three tests are the definition, at the count that was read.
use Rattle.std.proofs.Common.{rules}
use Rattle.models.specs.Layout.{pre_of, post_of}
use Rattle.models.specs.Grounds.{literals_in_range, action_in_range}
use Rattle.models.proofs.fields.action_in_range.Goals as goal

pub returns : goal.returns
unfolding action_in_range pre_of post_of
returns c =
    let b = c.args.b.now in
    let a = c.args.a in
    let posts = c.all_pass.ensures (λ i. literals_in_range b (post_of b a i)) (λ k r h p. search rules) in
    cc
