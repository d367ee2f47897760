-- `nth` meets its contract: it is `nth_from` at the beginning of the buffer, and the plan by division is that of the list.
use native.Mathlib.Omega.{arith}
use Rattle.prepared_model.specs.promises.Rows.{model_in}
use Rattle.logic.proofs.MostChoices.{most_choices_6}
use Rattle.plan_choices.proofs.WrittenBelow.{nth_listed}
use Rattle.plan_choices.proofs.ranking.nth.Goals as goal

clauses_frame_value : {A B : Type 0} → A × B → record { frame : A; value : B }
clauses_frame_value p = record { frame = p.0; value = p.1 }

pub nth_from-requires : goal.nth_from-requires
nth_from-requires c = let S = c in
    let most = most_choices_6 S.args.n S.requires.s_bound.1 in record { prepared = S.requires.prepared; s_bound = (S.requires.s_bound.0, S.requires.s_bound.1, S.requires.s_bound.2, S.requires.s_bound.3, omega (arith, most)) }

pub returns : goal.returns
returns c = let S = c in
    let w = c.nth_from in clauses_frame_value (nth_listed (model_in S.args.m.now) S.args.n S.args.s S.args.i w.result S.args.choices.now w.new.choices
    S.requires.s_bound.3 w.ensures)
