-- The delivery's claims (`Claims.Delivery`), proved. Demands 2 and 3 are proved of every session whose replies are those described by the
-- history (crate `protocol`); the replies of the code are these (`EveryList`).
use mathlib.Core.Path.{sym, ◌∙◌}
use Rattle.protocol.proofs.Demand2.{demand_2_always}
use Rattle.protocol.proofs.SheetsReadBack.{demand_3_always}
use Rattle.plan_judge.specs.promises.Session.{session}
use Rattle.plan_judge.proofs.DesksHoldHistory.{session_yields}
use Rattle.plan_judge.proofs.Claims.Ran.{OfTheCode}
use Rattle.plan_judge.proofs.Claims.Delivery.{Delivery}
use Rattle.plan_judge.proofs.EveryList.{every_answer, every_list, ran_there, code_yields}
use Rattle.plan_judge.proofs.CodeDemand1.{demand_1_of_the_code}
use Rattle.plan_judge.proofs.NodesReached.{held_reached, others_not_held}
use Rattle.plan_judge.proofs.ModelsWrittenBack.{models_written}
use Rattle.plan_judge.proofs.Offered.{c_call_told, shown_choices_told}

session_of_the_code : OfTheCode session
session_of_the_code cs rs d c r e h a = session_yields cs c ∙ sym (every_answer h a)

pub delivered : Delivery
delivered =
    record {
      demand_1 = demand_1_of_the_code;
      every_list_runs = ran_there;
      every_list = every_list;
      some_session = (session, session_of_the_code);
      demand_2 = λ session h. demand_2_always session (code_yields session h);
      demand_3 = λ session h. demand_3_always session (code_yields session h);
      held_reached = held_reached;
      others_not_held = λ d m h n {c} a l. others_not_held d m h n c (demand_1_of_the_code.its_result a) l;
      models_written = models_written;
      c_call = c_call_told;
      shown_choices = shown_choices_told;
    }
