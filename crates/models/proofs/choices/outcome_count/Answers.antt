-- An action has the used entries of its cell; the silent move one outcome where no action is enabled.
use native.Mathlib.Omega.{arith}
use mathlib.Core.Path.{sym, ◌∙◌}
use Rattle.models.proofs.GroundsPassed.{passed_all, passed_sized}
use Rattle.models.proofs.ChoicesOfBytes.{action_count_is, silent_none, silent_one}
use Rattle.models.proofs.choices.outcome_count.Goals as goal

pub entries-requires : goal.entries-requires
entries-requires c = let S = c in (omega (arith, S.requires.1, (passed_sized S.args.b.now (passed_all S.args.b.now S.requires.0)).states), S.requires.2)

pub returns-then-a-ne-SILENT : goal.returns-then-a-ne-SILENT
returns-then-a-ne-SILENT c = let S = c in c.entries.ensures.value ∙ action_count_is S.args.b.now S.requires.0 S.args.s S.requires.1 S.args.a c.if-a-ne-SILENT.true

pub has_action-requires : goal.has_action-requires
has_action-requires c = let S = c in omega (arith, S.requires.1, (passed_sized S.args.b.now (passed_all S.args.b.now S.requires.0)).states)

pub returns-then-has_action : goal.returns-then-has_action
returns-then-has_action c = let S = c in
    silent_none S.args.b.now S.requires.0 S.args.s S.requires.1 S.args.a c.if-a-ne-SILENT.false (sym c.has_action.ensures ∙ c.if-has_action.true)

pub returns : goal.returns
returns c = let S = c in
    silent_one S.args.b.now S.requires.0 S.args.s S.requires.1 S.args.a c.if-a-ne-SILENT.false (sym c.has_action.ensures ∙ c.if-has_action.false)
