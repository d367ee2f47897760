use Rattle.std.proofs.Common.{rules}
use Rattle.logic.specs.Model.{contradict}
use Rattle.models.specs.Layout.{post_of}
use Rattle.models.proofs.consistent.post_contradicts.Goals as goal

pub returns : goal.returns
unfolding post_of
returns c =
    let b = c.args.b.now in
    let a = c.args.a in
    c.all_pass.ensures (λ j. contradict (post_of b a j) (post_of b a c.args.i)) (λ k r h p. search rules)
