-- The choices are listed and spelled out, the silent move is put where there is none, and then all are summed.
use Rattle.prepared_model.proofs.RowFilled.{ready, row_filled}
use mathlib.Core.Path.{◌∙◌}
use Rattle.prepared_model.proofs.rows.fill.Goals as goal

pub sum_choices-requires : goal.sum_choices-requires
sum_choices-requires c = let S = c in
    let r = c.spell in
    let d = c.denominator.ensures in
    let o = c.or_silent-n.ensures in
    ready S.requires.0 r.ensures.0 r.ensures.1 (r.auto.row ∙ c.choose.auto.row ∙ S.requires.2) d.value d.range o.0 o.1

pub returns : goal.returns
returns c = let S = c in
    let r = c.spell in
    let d = c.denominator.ensures in
    let o = c.or_silent-n.ensures in
    row_filled S.requires.0 r.ensures.0 r.ensures.1 (r.auto.row ∙ c.choose.auto.row ∙ S.requires.2) d.value d.range o.0 o.1 c.sum_choices.ensures
