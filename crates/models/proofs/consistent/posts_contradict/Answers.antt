use Rattle.std.proofs.Common.{rules}
use Rattle.logic.specs.Lists.{every}
use Rattle.logic.specs.Model.{contradict}
use Rattle.models.specs.Layout.{post_of}
use Rattle.models.specs.Grounds.{posts_contradict}
use Rattle.models.proofs.consistent.posts_contradict.Goals as goal

pub returns : goal.returns
unfolding posts_contradict
returns c =
    let b = c.args.b.now in
    let a = c.args.a in
    rw c.post_count.ensures.value at (c.all_pass.ensures (λ i. every i (λ j. contradict (post_of b a j) (post_of b a i))) (λ k r h p. search rules))
