-- The line of each case of the verdict.
use mathlib.Core.Path.{sym, subst}
use Prim.Native.Nat.{◌≤◌}
use Rattle.printing.specs.promises.Printed.{shown_line, shown_steps}
use mir.Syntax.{w64}
use mir.ValLaws.{to_z-of_z}
use Rattle.printing.proofs.verdict_line.Goals as goal

pub whole-requires : goal.whole-requires
unfolding shown_steps
whole-requires c = let S = c in
    let few : shown_steps S.args.v ≤ 6 = S.requires.1.few_steps in
    (S.requires.1.small, subst (λ v. shown_steps v ≤ 6) c.in-YesPlan.is few)

pub returns-in-No : goal.returns-in-No
unfolding shown_line
returns-in-No c = rw c.in-No.is c.no_line.ensures

pub returns-in-Yes : goal.returns-in-Yes
unfolding shown_line
returns-in-Yes c = rw c.in-Yes.is c.plain_line.ensures

pub returns-in-YesPlan : goal.returns-in-YesPlan
unfolding shown_line
returns-in-YesPlan c = let p = c.in-YesPlan.p in
    let line = rw (to_z-of_z w64 p.total (record { sfits = c.struct_told-1.given.0.1 })) at c.yes_plan_line.ensures in
    rw (c.in-YesPlan.is, sym c.whole.ensures) line
