-- The two tests are the definition, at the count that the caller hands in.
use Rattle.std.proofs.Common.{rules, ap, ap₂, ◌∙◌, ◌&&◌, ◌||◌, eqb}
use Rattle.logic.specs.Model.{true_of}
use Rattle.blocks.specs.Block.{sum_below}
use Rattle.models.specs.Layout.{post_of, state_mask, outcome_of}
use Rattle.models.specs.Grounds.{cell_consistent}
use Rattle.models.proofs.consistent.cell_consistent.Goals as goal

pub returns : goal.returns
unfolding cell_consistent
returns c =
    let b = c.args.b.now in
    let s = c.args.s in
    let a = c.args.a in
    let e = c.requires.3 in
    let targets = c.all_pass.ensures (λ i. true_of (post_of b a i) (state_mask b (outcome_of b s a i).target)) (λ k r h p. search rules) in
    ap₂ ◌&&◌ (rw e at targets)
    (ap₂ ◌||◌ (ap (λ n. eqb n 0) e) (ap₂ eqb (c.weight_sum.ensures ∙ ap (λ n. sum_below n (λ i. (outcome_of b s a i).weight)) e) c.denominator.ensures.value))
