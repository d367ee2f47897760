-- What the delivery claims of the code, whole: the three demands of document 00, the claim about every list of calls (document 01, "The
-- desk"), what requests of document 02 add to them, and what is offered beside the six calls. That each function meets its contract and
-- returns is what the checker proves of it; these statements begin at the contracts. (Proved in `Delivered`.)
use mathlib.Core.Path.{◌≡◌}
use mathlib.Core.Bool.{true}
use mathlib.Core.List.{List}
use mathlib.Core.Option.{some}
use lib.Dec.{eqb}
use Rattle.logic.specs.Lists.{any}
use Rattle.logic.specs.Model.{Model}
use Rattle.questions.specs.Layout.{Question}
use Rattle.questions.specs.Children.{AllReached}
use Rattle.protocol.specs.Calls.{Call, refuse, Reply}
use Rattle.protocol.specs.Demand1.{listed}
use Rattle.protocol.specs.Replies.{Session}
use Rattle.protocol.specs.Demand2.{Demand2Always}
use Rattle.protocol.specs.Demand3.{Demand3Always}
use Rattle.plan_judge.specs.declared.Desk.{Desk}
use Rattle.plan_judge.specs.View.{question_bytes, view}
use Rattle.plan_judge.proofs.Claims.Ran.{Answered, Ran, Described, OfTheCode}
use Rattle.plan_judge.proofs.Claims.Demand1.{Demand1}
use Rattle.plan_judge.proofs.Claims.Offered.{CCallTold, ShownChoicesTold}
use Rattle.plan_judge.proofs.Claims.ModelsWritten.{ModelsWritten}

-- What a list of calls leads to.
pub record There (cs : List Call) : Type 0 where
  pub replies : List Reply
  pub desk : Desk
  pub ran : Ran cs replies desk

pub record Delivery : Type 0 where
  pub demand_1 : Demand1
  -- "In every list of calls .. from the empty desk": no list is left out, and each yields what is described
  pub every_list_runs : (cs : List Call) → There cs
  pub every_list : {cs : List Call} {rs : List Reply} {d : Desk} → Ran cs rs d → Described cs rs d
  -- demands 2 and 3 of each session that tells the replies of the code, and there is one
  pub some_session : (session : Session) × OfTheCode session
  pub demand_2 : (session : Session) → OfTheCode session → Demand2Always session
  pub demand_3 : (session : Session) → OfTheCode session → Demand3Always session
  -- document 02, A.6, for any desk value, also one put together by hand: all nodes of the question that it holds are reached from the root;
  -- with another question it holds none, and every call for which 21 is listed gives 21
  pub held_reached : (d : Desk) (q : Question) → (view d).question ≡ some q → AllReached (question_bytes d)
  pub others_not_held : (d : Desk) (m : Model) → (view d).model ≡ some m → (AllReached (question_bytes d) → ⊥)
      → {c : Call} {r : Reply} {e : Desk} → Answered d c r e → any (eqb 21) (listed c) ≡ true → r.answer ≡ refuse 21
  -- document 02, A.7
  pub models_written : ModelsWritten
  pub c_call : CCallTold
  pub shown_choices : ShownChoicesTold
