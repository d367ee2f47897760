-- The three parts are the definition; the cells of no action pass.
use Rattle.std.proofs.Common.{◌≡◌, ◌/◌, ◌%◌, arith, rules, refl, sym, ◌∙◌}
use Rattle.logic.specs.Lists.{every}
use Rattle.models.specs.Layout.{action_count}
use Rattle.models.specs.Grounds.{action_in_range, cell_in_range, fields_right}
use Rattle.models.proofs.EveryCell.{sizes, cell_inside, cells_inside, cells_all, in_range_past}
use Rattle.models.proofs.fields.fields_right.Goals as goal

pub masks_in_range-requires : goal.masks_in_range-requires
masks_in_range-requires c = (sizes c.args.b.now c.requires.0.sizes).props

pub returns-then-not-masks_in_range : goal.returns-then-not-masks_in_range
unfolding fields_right
returns-then-not-masks_in_range c = sym (rw (sym c.masks_in_range.ensures ∙ c.if-not-masks_in_range.true) refl)

pub all_pass-requires : goal.all_pass-requires
all_pass-requires c = λ k h. let z = sizes c.args.b.now c.requires.0.sizes in search rules

pub returns-then-not-all_pass : goal.returns-then-not-all_pass
unfolding fields_right
returns-then-not-all_pass c =
    let b = c.args.b.now in
    let actions : c.all_pass.result ≡ every (action_count b) (action_in_range b) =
    rw c.action_count.ensures.value at (c.all_pass.ensures (action_in_range b) (λ k r h p. search rules)) in
    sym (rw (sym c.masks_in_range.ensures ∙ c.if-not-masks_in_range.false, sym actions ∙ c.if-not-all_pass.true) refl)

pub all_pass-requires-2 : goal.all_pass-requires-2
all_pass-requires-2 c = λ k h.
    let inside = cell_inside c.requires.0 k (omega (arith, cells_inside c.requires.0)) in
    let counted = c.requires.1.count k inside.0 in
    search rules

pub returns : goal.returns
unfolding fields_right
returns c =
    let b = c.args.b.now in
    let n = c.state_count in
    let actions : c.all_pass.result ≡ every (action_count b) (action_in_range b) =
    rw c.action_count.ensures.value at (c.all_pass.ensures (action_in_range b) (λ k r h p. search rules)) in
    let cells = c.all_pass-2.ensures (λ k. cell_in_range b (k / 8) (k % 8)) (λ k r h p. search rules) in
    sym (rw (sym c.masks_in_range.ensures ∙ c.if-not-masks_in_range.false, sym actions ∙ c.if-not-all_pass.false)
    (sym (cells_all c.requires.0 (cell_in_range b) (in_range_past b) n.result n.ensures.value cells)))
