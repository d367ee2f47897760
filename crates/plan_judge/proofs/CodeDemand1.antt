-- Demand 1 of the code (`Claims.Demand1`). By the exact values of the contracts each call is a step of `Session`; a step that is refused
-- gives the desk back that it got, and its reply is the one described by what the desk holds, whoever put it together.
use Prim.Native.Nat.{ℕ}
use native.Mathlib.Omega.{arith}
use mathlib.Core.Path.{◌≡◌, refl, sym, ap, ◌∙◌}
use mathlib.Core.List.{[]}
use Rattle.logic.specs.Checked.{Checked, ok, refused}
use Rattle.logic.specs.Model.{Model}
use Rattle.logic.specs.Verdict as logic
use Rattle.models.specs.Grounds.{read_model}
use Rattle.questions.specs.Layout.{Question}
use Rattle.protocol.specs.Calls.{Call, load, put, judge, query, done, judged, refuse, Reply, says, yields}
use Rattle.protocol.specs.promises.Chains.{do_put, do_judge, answered, by_chain}
use Rattle.protocol.proofs.FirstGround.{yields_is, refuse_listed}
use Rattle.plan_judge.specs.declared.Desk.{Desk}
use Rattle.plan_judge.specs.View.{view}
use Rattle.plan_judge.specs.promises.Values.{taking, holding, loaded_by, asking, put_by, judging, judged_by}
use Rattle.plan_judge.specs.promises.Session.{step}
use Rattle.plan_judge.proofs.DesksHoldHistory.{replies}
use Rattle.plan_judge.proofs.Claims.Ran.{Answered}
use Rattle.plan_judge.proofs.Claims.Demand1.{AsksNothing, Demand1}
use Rattle.plan_judge.proofs.EveryList.{stepped, answer_there}

-- ---- a refused call gives the desk back as it got it

not_done : {k : ℕ} → done ≡ refuse k → ⊥
not_done e = let z : ◌≡◌ {A = ℕ} 0 1 = cc in omega arith

not_judged : {k : ℕ} {v : logic.Verdict} → judged v ≡ refuse k → ⊥
not_judged e = let z : ◌≡◌ {A = ℕ} 0 1 = cc in omega arith

module _ (d : Desk) (k : ℕ) where
  desk_kept : (c : Call) → (by_chain (view d) c).answer ≡ refuse k → (step d c).desk ≡ d
  unfolding step loaded_by put_by judged_by by_chain
  desk_kept (load b) = by (read_model b)
    where
      by : (c : Checked Model) → (answered [] c (λ m. says done)).answer ≡ refuse k → (taking d c (holding b)).desk ≡ d
      by (ok m) e = absurd (not_done e)
      by (refused j) e = refl
  desk_kept (put b) = by (do_put (view d) b)
    where
      by : (c : Checked Question) → (answered [] c (λ q. says done)).answer ≡ refuse k → (taking d c (asking d b)).desk ≡ d
      by (ok q) e = absurd (not_done e)
      by (refused j) e = refl
  desk_kept judge = by (do_judge (view d))
    where
      by : (c : Checked logic.Verdict) → (answered [] c (λ v. says (judged v))).answer ≡ refuse k → (judging d c).desk ≡ d
      by (ok v) e = absurd (not_judged e)
      by (refused j) e = refl
  desk_kept (query c) = λ e. refl

-- ---- the whole

asks_nothing : AsksNothing
asks_nothing =
    record {
      of_empty = tt;
      of_load = λ κ d b. tt;
      of_put = λ κ d b. tt;
      of_judge = λ d. tt;
      of_write = λ κ d a. tt;
      of_check = λ κ d b. tt;
      of_write_model = λ κ d a. tt;
      of_shown_choices = λ d. tt;
      of_c_call = λ κ model question sheet. tt;
    }

described : {d : Desk} {c : Call} {r : Reply} {e : Desk} → Answered d c r e → r ≡ yields (view d) c
described {d} {c} a = (stepped a).0 ∙ replies d c

pub demand_1_of_the_code : Demand1
demand_1_of_the_code =
    record {
      asks_nothing = asks_nothing;
      answered = answer_there;
      its_result = described;
      refused = λ {d} {c} {r} {e} a k i.
          let y = described a in
          let l = refuse_listed (view d) c k (sym (ap (λ z. z.answer) y) ∙ i) in
          record {
            same_desk = (stepped a).1 ∙ desk_kept d k c (sym (ap (λ z. z.answer) (y ∙ yields_is (view d) c)) ∙ i);
            same_buffer = ap (λ z. z.buffer) y ∙ l.0;
            number = l.1;
          };
    }
