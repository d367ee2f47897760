-- The record's total, or 0 where there is no record.
use mathlib.Core.Path.{sym, ap, ◌∙◌}
use mir.Syntax.{w64}
use mir.ValLaws.{to_z-of_z}
use Rattle.std.specs.Prelude.{Some}
use Rattle.plan_judge.specs.promises.State.{shown_total}
use Rattle.plan_judge.proofs.shown_total.Goals as goal

pub returns-in_default : goal.returns-in_default
unfolding shown_total
returns-in_default c = sym (ap shown_total c.in_default.is)

pub returns-in-YesPlan : goal.returns-in-YesPlan
unfolding shown_total
returns-in-YesPlan c =
    to_z-of_z w64 c.in-YesPlan.p.total (record { sfits = c.struct_told-1.given.0.1 }) ∙ sym (ap shown_total (c.in-Some.is ∙ ap Some c.in-YesPlan.is))

pub returns-in-Yes : goal.returns-in-Yes
unfolding shown_total
returns-in-Yes c = sym (ap shown_total (c.in-Some.is ∙ ap Some c.in-Yes.is))

pub returns-in-No : goal.returns-in-No
unfolding shown_total
returns-in-No c = sym (ap shown_total (c.in-Some.is ∙ ap Some c.in-No.is))
