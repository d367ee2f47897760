-- Request A.2 of the code (`Claims.OneWord`): its replies are those described (demand 1), and these refuse such input with 2.
use mathlib.Core.Path.{◌≡◌, ap, ◌∙◌}
use Rattle.protocol.specs.Calls.{Call, Answer, Reply, yields}
use Rattle.protocol.proofs.OneWordRefused.{load_refused, put_refused, check_refused}
use Rattle.plan_judge.specs.declared.Desk.{Desk}
use Rattle.plan_judge.specs.View.{view}
use Rattle.plan_judge.proofs.Claims.Ran.{Answered}
use Rattle.plan_judge.proofs.Claims.OneWord.{OneWordRefused}
use Rattle.plan_judge.proofs.CodeDemand1.{demand_1_of_the_code}

answer : {d e : Desk} {c : Call} {r : Reply} {a : Answer} → Answered d c r e → (yields (view d) c).answer ≡ a → r.answer ≡ a
answer x y = ap (λ z. z.answer) (demand_1_of_the_code.its_result x) ∙ y

pub one_word_refused : OneWordRefused
one_word_refused =
    record {
      of_load = λ {b} {c} {d} s e a. answer a (load_refused s (view d) e);
      of_put = λ {b} {c} {d} s e i a. answer a (put_refused s (view d) i e);
      of_check = λ {b} {c} {d} s e x a. answer a (check_refused s (view d) x e);
    }
