-- Demand 2 speaks of what is held and of the replies to a next call. Document 00:
--   "Verdicts are those of the published definitions: yes if the formula is true in the asked state, no if it is false, refusal only on
--   the listed grounds and on every one of them. On yes to a plan question the shown plan is the one that document 01 singles out, and
--   each count is the one defined there."
-- Document 01: "Demands 2 and 3 speak of desks that such lists, even empty ones, give back". Document 02, A.4: "The verdict on yes carries that
-- [below, at or above] for the shown plan, on no to "less" or "greater" for the least or greatest total". The clauses stand beside the parts.
use Rattle.std.specs.Prelude.{ℕ, suc, ◌-◌, ◌<◌, ◌≡◌, ◌↔◌, Bool, true, false, cond, ℤ, length}
use mathlib.Core.List.{List, [], Memᴰ}
use Rattle.std.proofs.Math.Option.{Option, none, some}
use Rattle.std.specs.Int.Signed.{le_z}
use Rattle.logic.specs.Checked.{ok, refused}
use Rattle.logic.specs.Grounds.{first}
use Rattle.logic.specs.Model.{Model, Step}
use Rattle.logic.specs.Quantity.{Relation, less, equal, greater, naturals, integers}
use Rattle.logic.specs.Plan.{Plan, plans, choices}
use Rattle.logic.specs.Accepted.{Accepted}
use Rattle.logic.specs.Order.{Before, Rising, IsPlan}
use Rattle.logic.specs.Bound.{meets, Lamp}
use Rattle.logic.specs.Formula.{Formula, plan, earns, on_bound, sat}
use Rattle.logic.specs.Policy.{Policy, policy_weight, policy_gain}
use Rattle.logic.specs.Verdict.{Goal, goal, Denial, ShownPlan, Verdict, no, yes, yes_plan}
use Rattle.logic.specs.Limits.{limit_grounds}
use Rattle.blocks.specs.Bytes.{Bytes}
use Rattle.questions.specs.Layout.{Question, node_count, question_of}
use Rattle.questions.specs.Children.{Reaches, AllReached}
use Rattle.protocol.specs.Tested.{grounds}
use Rattle.protocol.specs.Calls.{Call, put, judge, Held, Answer, done, judged, refuse, Reply, question_for, described}
use Rattle.protocol.specs.History.{after}
use Rattle.protocol.specs.Replies.{Session}

unfoldable pub says_yes : Verdict → Bool
says_yes (no x) = false
says_yes yes = true
says_yes (yes_plan x) = true

-- "the published definitions": `sat` is Definition 4 clause by clause, with Definition 13 of the r-PLBP thesis for operator 9. Its clauses for
-- "plan" and for operator 9 speak of plans; the published ones speak of policies (Definition 2; Definition 9 of the thesis). In every state of
-- the model, and for whatever is asked there, the two agree.
pub record AsPublished (m : Model) : Type 0 where
  -- "plan": true exactly if the measure of some policy, over the paths on which the condition is true, meets the bound
  pub by_measure : (s : ℕ) → s < length m.states → (n : ℕ) (φ : Formula) (r : Relation) (p q : ℕ) (steps : List Step)
      → (sat m (plan n φ r p q) s steps ≡ true) ↔ ((π : Policy m n s) × (meets naturals m n r p q (policy_weight m φ n s π) ≡ true))
  -- operator 9, document 02, A.3, "which is Definition 13 of source document 000": true exactly if some policy has such an expected gain
  pub by_gain : (s : ℕ) → s < length m.states → (n l u : ℕ) (r : Relation) (p : ℤ) (q : ℕ) (steps : List Step)
      → (sat m (earns n l u r p q) s steps ≡ true) ↔ ((π : Policy m n s) × (meets integers m n r p q (policy_gain m l u n s π) ≡ true))

-- ---- the shown plan and the count

-- The list has just the plans with this property, in dictionary order of their choices, none twice.
pub record InOrder (n : ℕ) (P : Plan n → Type 0) (l : List (Plan n)) : Type 0 where
  pub those : (π : Plan n) → Memᴰ π l ↔ P π
  pub rising : Rising (λ π ρ. Before (choices n π) (choices n ρ)) l

module _ (m : Model) (s : ℕ) (g : Goal) where
  -- A plan from the start that meets the bound and leads: "for "greater", of the plans of greatest W ..; for "less", the same with least W;
  -- for "equal", the first plan in that order that meets the bound". (Document 02, A.3: for an operator 9 root "its total for W".)
  pub record Candidate (π : Plan g.steps) : Type 0 where
    pub is_plan : IsPlan m g.steps s π
    pub meets_it : g.met π ≡ true
    pub leads : g.lead π ≡ true

  -- "the one first in dictionary order of choices", and "for "equal", the place of the shown plan in that order (from 1) ..; else 0"
  pub record Shows (v : ShownPlan) : Type 0 where
    pub shown_plan : Plan g.steps
    pub candidate : Candidate shown_plan
    pub first_one : (ρ : Plan g.steps) → Candidate ρ → Before (choices g.steps ρ) (choices g.steps shown_plan) → ⊥
    pub earlier : List (Plan g.steps)
    pub all_earlier : InOrder g.steps (λ ρ. IsPlan m g.steps s ρ × Before (choices g.steps ρ) (choices g.steps shown_plan)) earlier
    pub counts : v.count ≡ cond g.counts (suc (length earlier)) 0
    pub its_total : v.total ≡ g.total shown_plan
    pub its_lamp : v.lamp ≡ g.lamp shown_plan
    pub its_steps : v.steps ≡ g.steps
    pub its_choices : v.choices ≡ choices g.steps shown_plan

  -- "for the least or greatest total": that of a plan from the start that leads (what the lamp of a plan is: `lamp_by_W`, `lamp_by_gain` of demand 3)
  pub record Best-lamp (lamp : Option Lamp) : Type 0 where
    pub best_plan : Plan g.steps
    pub is_plan : IsPlan m g.steps s best_plan
    pub leads : g.lead best_plan ≡ true
    pub its_lamp : lamp ≡ some (g.lamp best_plan)

  -- "or on no the number of all plans; else 0"; "A no to "equal" has no lamp."
  pub record Denies (v : Denial) : Type 0 where
    pub none_meets : (π : Plan g.steps) → IsPlan m g.steps s π → g.met π ≡ false
    pub plans : List (Plan g.steps)
    pub all_plans : InOrder g.steps (IsPlan m g.steps s) plans
    pub counts : v.count ≡ cond g.counts (length plans) 0
    pub no_lamp_if_counted : g.counts ≡ true → v.lamp ≡ none
    pub best_lamp : g.counts ≡ false → Best-lamp v.lamp

  -- Which plans lead, and which roots have their plans counted, by the root's relation.
  pub record ByRelation (r : Relation) : Type 0 where
    pub greatest : r ≡ greater → (π : Plan g.steps) → (g.lead π ≡ true) ↔ ((ρ : Plan g.steps) → IsPlan m g.steps s ρ → le_z (g.total ρ) (g.total π) ≡ true)
    pub least : r ≡ less → (π : Plan g.steps) → (g.lead π ≡ true) ↔ ((ρ : Plan g.steps) → IsPlan m g.steps s ρ → le_z (g.total π) (g.total ρ) ≡ true)
    pub counted : (g.counts ≡ true) ↔ (r ≡ equal)

  -- The verdict on a plan question.
  abbrev pub Announces : Verdict → Type 0
  Announces (no v) = Denies v
  Announces yes = ⊥
  Announces (yes_plan v) = Shows v

-- ---- the nodes of a question

-- Document 02, A.6: "each node must be reached from the root by following children".
pub record UsedNodes (h : Held) (reply : Call → Reply) : Type 0 where
  -- put is done only of a question whose nodes are all reached, and refuses with 13 only one that has a node which is not
  pub put_done : (b : Bytes) → (reply (put b)).answer ≡ done → AllReached b
  pub put_13 : (b : Bytes) → (reply (put b)).answer ≡ refuse 13 → (j : ℕ) × (j < node_count b) × (Reaches b (node_count b - 1) j → ⊥)
  -- so a question that is held is that of bytes which were accepted, with all nodes reached: "Both "plan" limits thereby concern used nodes
  -- only", since they look at these nodes
  pub held_reached : (m : Model) (q : Question) → h.model ≡ some m → h.question ≡ some q
      → (b : Bytes) × (question_for m b ≡ ok q) × (q ≡ question_of b) × AllReached b

-- ---- the whole

-- The question q, held with its model m, is answered by a verdict.
pub record Judged (m : Model) (q : Question) (answer : Answer) : Type 0 where
  pub said : Verdict
  pub answers : answer ≡ judged said
  -- "yes if the formula is true in the asked state, no if it is false"
  pub as_true : says_yes said ≡ sat m q.root q.start []
  -- of the definitions alone: `sat` means what is published, and the list over which it asks for "some plan" has every plan, once
  pub published : AsPublished m
  pub all_plans : (n s : ℕ) → InOrder n (IsPlan m n s) (plans m n s)
  -- a plan question, of operator 8 or 9: "no with its count .. or yes with a plan record"
  pub on_plans : (g : Goal) → goal m q.start q.root ≡ ok g → Announces m q.start g said
  pub by_relation : (g : Goal) → goal m q.start q.root ≡ ok g → ByRelation m q.start g (on_bound equal (λ n r. r) q.root)
  -- another: no, with the count 0 and no lamp, or yes
  pub on_others : (k : ℕ) → goal m q.start q.root ≡ refused k → said ≡ cond (sat m q.root q.start []) yes (no (record { count = 0; lamp = none }))

pub record Demand2 (h : Held) (reply : Call → Reply) : Type 0 where
  -- "refusal only on the listed grounds and on every one of them": with k exactly when k is the first of the call's grounds, in document
  -- 01's order, that applies
  pub refused_by_first : (c : Call) (k : ℕ) → ((reply c).answer ≡ refuse k) ↔ (first (grounds (described h c)) ≡ some k)
  -- "the published definitions": a model that is held, so any that load accepts, is one of Definition 1
  pub model_right : (m : Model) → h.model ≡ some m → Accepted m
  pub used_nodes : UsedNodes h reply
  -- where neither 20 nor 21, 24 nor 25 applies
  pub verdict_right : (m : Model) (q : Question) → h.model ≡ some m → h.question ≡ some q → first (limit_grounds m q.nodes) ≡ none
      → Judged m q (reply judge).answer

-- "After every list of calls"
abbrev pub Demand2Always : Session → Type 0
Demand2Always session = (calls : List Call) → Demand2 (after calls) (session calls)
