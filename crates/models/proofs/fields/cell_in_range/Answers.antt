-- The used outcomes are as many as the caller hands in.
use Rattle.std.proofs.Common.{rules}
use Rattle.models.specs.Layout.{outcome_of}
use Rattle.models.specs.Grounds.{outcome_in_range, cell_in_range}
use Rattle.models.proofs.fields.cell_in_range.Goals as goal

pub returns : goal.returns
unfolding cell_in_range
returns c =
    let b = c.args.b.now in
    rw c.requires.3 at (c.all_pass.ensures (λ i. outcome_in_range b (outcome_of b c.args.s c.args.a i)) (λ k r h p. search rules))
