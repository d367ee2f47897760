-- The silent move leads back to its state; an action where its cell says.
use native.Mathlib.Omega.{arith}
use mathlib.Core.Path.{◌∙◌}
use Rattle.models.proofs.GroundsPassed.{passed_all, passed_sized}
use Rattle.models.proofs.ChoicesOfBytes.{action_count_is, action_target, silent_target}
use Rattle.models.proofs.OutcomesOfCell.{entries_few}
use Rattle.models.proofs.Readable.{readable}
use Rattle.models.proofs.choices.outcome_target.Goals as goal

pub returns-then-a-eq-SILENT : goal.returns-then-a-eq-SILENT
returns-then-a-eq-SILENT c = let S = c in silent_target S.args.b.now S.requires.0 S.args.s S.requires.1 S.args.a S.args.i c.if-a-eq-SILENT.true S.requires.3

pub target-requires : goal.target-requires
target-requires c = let S = c in
    let b = S.args.b.now in
    (omega (arith, S.requires.1, (passed_sized b (passed_all b S.requires.0)).states), S.requires.2, omega (arith, S.requires.3, action_count_is b S.requires.0 S.args.s S.requires.1 S.args.a c.if-a-eq-SILENT.false, entries_few b (readable b S.requires.0) S.args.s S.args.a))

pub returns : goal.returns
returns c = let S = c in
    c.target.ensures.value ∙ action_target S.args.b.now S.requires.0 S.args.s S.requires.1 S.args.a S.args.i c.if-a-eq-SILENT.false S.requires.3
