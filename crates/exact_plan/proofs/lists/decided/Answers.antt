-- `lists::decided`: the one total is written as often as the table says.
use mathlib.Core.Path.{ap₂, ◌∙◌}
use lib.ListN.{replicate}
use Rattle.blocks.specs.Splice.{splice}
use Rattle.exact_plan.proofs.lists.decided.Goals as goal

pub returns : goal.returns
returns c = let S = c in
    let n = c.plans_counted-n in record { value = n.ensures; frame = c.fill.ensures ∙ ap₂ (λ i y. splice S.args.buf.now S.args.spot.at (replicate i y)) n.ensures c.alike.ensures }
