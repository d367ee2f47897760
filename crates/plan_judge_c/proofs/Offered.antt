-- The function that C calls is what is claimed of it (`Claims.Exported`): its contract's own value, whose chain is the list of calls (`CList`).
use mathlib.Core.Path.{refl, sym, ap₂, ◌∙◌}
use lib.ListN.{length}
use Rattle.plan_judge.specs.promises.CChain.{c_chain, c_number, c_buffer}
use Rattle.plan_judge.proofs.EveryList.{buffer}
use Rattle.plan_judge.proofs.CList.{c_list}
use Rattle.plan_judge_c.proofs.Claims.Exported.{ExportTold}

pub export_told : ExportTold
export_told =
    record {
      asks_nothing = λ κ model question sheet. tt;
      answers = λ κ model question found.
          let c = c_chain model.now question.now (length found.now) in
          (buffer (c_buffer found.now c), c_number c, record { number = refl; buffer = refl });
      tells = λ κ model question found left r p.
          ap₂ (λ n b. record { number = n; buffer = b }) (p tt).number (p tt).buffer ∙ sym (c_list model.now question.now found.now);
    }
