-- A mask of every state has no bit from the number of propositions up.
use Rattle.std.proofs.Common.{rules}
use Rattle.models.specs.Layout.{state_mask}
use Rattle.models.specs.Grounds.{mask_in_range}
use Rattle.models.proofs.fields.masks_in_range.Goals as goal

pub returns : goal.returns
unfolding mask_in_range
returns c =
    let b = c.args.b.now in
    rw c.state_count.ensures.value at (c.all_pass.ensures (λ s. mask_in_range b (state_mask b s)) (λ k r h p. search rules))
