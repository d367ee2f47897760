-- Demand 2 for every session whose replies are those that document 01 describes by the history: refusals are by the first ground that
-- applies (`FirstGround`); the verdict says yes exactly where the formula is true, for a root that sets a bound on plans since there is a shown
-- plan just where it is true, and announces the plan, the count and the lamp of the documents' words (`ShownPlan`).
use Prim.Native.Nat.{ℕ}
use mathlib.Core.Path.{◌≡◌, refl, sym, ap, ◌∙◌}
use mathlib.Core.Logic.{◌↔◌}
use mathlib.Core.Bool.{Bool, true, false}
use mathlib.Core.Option.{Option, none, some}
use mathlib.Core.List.{List, []}
use Rattle.logic.specs.Checked.{Checked, ok, refused, ◌>>=◌, ◌>>◌}
use Rattle.logic.specs.Grounds.{first}
use Rattle.logic.specs.Model.{Model}
use Rattle.logic.specs.Plan.{Plan}
use Rattle.logic.specs.Bound.{Bound}
use Rattle.logic.specs.Formula.{Formula, sat}
use Rattle.logic.specs.Verdict.{Goal, bound_goal, bound_of, goal, shown, announced, verdict_by, verdict}
use Rattle.logic.specs.Limits.{limit_grounds, limits}
use Rattle.logic.proofs.Tests.{not_true, none≢some}
use Rattle.logic.proofs.Shown.{bound_set, sat_shown}
use Rattle.logic.proofs.Policies.{sat_policy, gain_policy}
use Rattle.questions.specs.Layout.{Question}
use Rattle.protocol.specs.Calls.{Call, judge, Held, judged, Reply, says, yields}
use Rattle.protocol.specs.History.{after}
use Rattle.protocol.specs.Replies.{Session}
use Rattle.protocol.specs.Demand2.{says_yes, Demand2, Demand2Always}
use Rattle.protocol.specs.promises.Chains.{do_judge, answered, by_chain}
use Rattle.protocol.proofs.AfterEachCall.{Sound, sound}
use Rattle.protocol.proofs.HeldAccepted.{model_accepted, start_inside}
use Rattle.protocol.proofs.UsedNodes.{used_nodes}
use Rattle.protocol.proofs.Refusals.{decided_none}
use Rattle.protocol.proofs.FirstGround.{yields_is, refuse_first}
use Rattle.protocol.proofs.ShownPlan.{all_plans, verdict_announces}
use Rattle.protocol.proofs.TotalsByRoot.{goal_by_relation}

-- ---- the verdict says yes exactly where the formula is true

says_told : (m : Model) (s k : ℕ) (t : Bool) → says_yes (verdict_by m s t (refused k)) ≡ t
unfolding says_yes
says_told m s k true = refl
says_told m s k false = refl

says_shown : (m : Model) (s : ℕ) (g : Goal) (t : Bool) (o : Option (ℕ × Plan g.steps))
    → (t ≡ true) ↔ ((y : ℕ × Plan g.steps) × (o ≡ some y)) → says_yes (announced m s g o) ≡ t
unfolding says_yes
says_shown m s g t none h = sym (not_true t (λ e. none≢some (h.0 e).1))
says_shown m s g t (some y) h = sym (h.1 (y, refl))

pub says_true : (m : Model) (s : ℕ) (φ : Formula) → says_yes (verdict m s φ) ≡ sat m φ s []
unfolding verdict goal
says_true m s φ = by (bound_of m s φ) refl
  where
    by : (c : Checked Bound) → bound_of m s φ ≡ c → says_yes (verdict_by m s (sat m φ s []) (c >>= λ b. ok (bound_goal m s b))) ≡ sat m φ s []
    by (ok b) e = let g = bound_goal m s b in says_shown m s g (sat m φ s []) (shown m s g) (sat_shown (bound_set m s φ b e) [])
    by (refused k) e = says_told m s k (sat m φ s [])

-- ---- judging by what is held

module _ (h : Held) (m : Model) (q : Question) (e : h.model ≡ some m) (f : h.question ≡ some q) (l : first (limit_grounds m q.nodes) ≡ none) where
  pub judge_is : do_judge h ≡ ok (verdict m q.start q.root)
  unfolding do_judge limits
  judge_is =
      rw (e, f) (ap (λ c. c >> ok (verdict m q.start q.root)) (decided_none tt (limit_grounds m q.nodes) l))

  pub judge_yields : (yields h judge).answer ≡ judged (verdict m q.start q.root)
  unfolding by_chain
  judge_yields = ap (λ r. r.answer) (yields_is h judge ∙ ap (λ c. answered [] c (λ v. says (judged v))) judge_is)

-- ---- the whole

pub demand_2 : (h : Held) → Sound h → (reply : Call → Reply) → ((c : Call) → reply c ≡ yields h c) → Demand2 h reply
unfolding verdict
demand_2 h s reply yielding =
    record {
      refused_by_first = λ c k.
          let w = refuse_first h c k in
          let e : (reply c).answer ≡ (yields h c).answer = ap (λ r. r.answer) (yielding c) in
          (λ i. w.0 (sym e ∙ i), λ i. e ∙ w.1 i);
      model_right = λ m e. model_accepted s m e;
      used_nodes = used_nodes h s reply yielding;
      verdict_right = λ m q e f l.
          record {
            said = verdict m q.start q.root;
            answers = ap (λ r. r.answer) (yielding judge) ∙ judge_yields h m q e f l;
            as_true = says_true m q.start q.root;
            published =
                record {
                  by_measure = λ t i n φ r p d steps. sat_policy (model_accepted s m e) n t i φ r p d steps;
                  by_gain = λ t i n l u r p d steps. gain_policy (model_accepted s m e) n t i l u r p d steps;
                };
            all_plans = all_plans m;
            on_plans = λ g a. verdict_announces m q.start g q.root a (model_accepted s m e) (start_inside s m e q f);
            by_relation = λ g a. goal_by_relation m q.start q.root g a;
            on_others = λ k a. ap (verdict_by m q.start (sat m q.root q.start [])) a;
          };
    }

pub demand_2_always : (session : Session) → ((calls : List Call) (c : Call) → session calls c ≡ yields (after calls) c) → Demand2Always session
demand_2_always session yielding calls = demand_2 (after calls) (sound calls) (session calls) (yielding calls)
