use Rattle.std.proofs.Common.{rules, tests, ◌∙◌}
use Rattle.std.proofs.lemmas.Iterator.{YieldsList-from_range}
use Rattle.std.proofs.lemmas.Iterator.Search.{any_from_yields_List}
use native.Mathlib.Nat.{sub-zero}
use Rattle.logic.specs.Model.{true_of}
use Rattle.blocks.proofs.EachOfMany.{any_range}
use Rattle.models.specs.Layout.{pre_of, state_mask}
use Rattle.models.proofs.choices.has_action.Goals as goal

pub returns : goal.returns
unfolding pre_of
returns c =
    let b = c.args.b.now in
    let n = c.action_count.result in
    rw c.action_count.ensures.value at
    (any_from_yields_List (λ a. true_of (pre_of b a) (state_mask b c.args.s)) _ _ _ c.any.ensures.ran (YieldsList-from_range 0 n n (cc) (sub-zero n)) (λ x r q k. search (rules, tests))
    ∙ any_range (λ a. true_of (pre_of b a) (state_mask b c.args.s)) n)
