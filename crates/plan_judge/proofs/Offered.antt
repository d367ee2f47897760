-- What is offered beside the six calls is what is claimed of it (`Claims.Offered`): the contracts' own values, and of the C call that its
-- chain is the list of calls (`CList`).
use mathlib.Core.Path.{◌≡◌, refl, sym, ap₂, ◌∙◌}
use mathlib.Core.Option.{Option, none, some}
use Rattle.logic.specs.Verdict.{Verdict, no, yes, yes_plan}
use lib.ListN.{length}
use Rattle.plan_judge.specs.View.{view}
use Rattle.plan_judge.specs.promises.State.{shown_size}
use Rattle.plan_judge.specs.promises.CChain.{c_chain, c_number, c_buffer}
use Rattle.plan_judge.proofs.EveryList.{buffer}
use Rattle.plan_judge.proofs.CList.{c_list}
use Rattle.plan_judge.proofs.Claims.Offered.{CCallTold, choices_shown, ShownChoicesTold}

pub c_call_told : CCallTold
c_call_told =
    record {
      answers = λ κ model question found.
          let c = c_chain model.now question.now (length found.now) in
          (buffer (c_buffer found.now c), c_number c, record { number = refl; buffer = refl });
      tells = λ κ model question found left r p.
          ap₂ (λ n b. record { number = n; buffer = b }) (p tt).number (p tt).buffer ∙ sym (c_list model.now question.now found.now);
    }

sized : (o : Option Verdict) → shown_size o ≡ choices_shown o
unfolding shown_size choices_shown
sized none = refl
sized (some (no x)) = refl
sized (some yes) = refl
sized (some (yes_plan x)) = refl

pub shown_choices_told : ShownChoicesTold
shown_choices_told = record { answers = λ d. (shown_size (view d).verdict, refl); tells = λ d r p. p tt ∙ sized (view d).verdict }
