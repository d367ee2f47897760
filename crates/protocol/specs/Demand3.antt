-- Demand 3 speaks of what is held and of the replies to a next call, and then of every list of calls. Document 00:
--   "After every list of calls (load, put, judge, write, check, refused ones too) on a desk that began empty, and for every plan question
--   that the desk then holds with its accepted model, within the path and plan limits: whoever wrote a sheet, if it has no other ground
--   for refusal, the sheet check accepts it exactly when two weights are equal: the weight claimed on it, and the summed weights of those
--   paths that its plan allows and on which the condition is true. Judging says yes exactly when some accepted sheet meets the bound, and
--   each write that is then not refused writes one of these, that of the shown plan."
-- Document 02, A.3: "The sheet rule now speaks of both totals. All that is said of a "plan" root holds for an operator 9 root, with its total for
-- W." A.4: "the sheet check reports it [below, at or above] for the sheet's." The clauses stand beside the parts.
use Rattle.std.specs.Prelude.{ℕ, ◌≡◌, ◌↔◌, ◌⊎◌, Bool, true, ℤ, pos, length, take, drop}
use mathlib.Core.List.{List, Memᴰ}
use Rattle.std.proofs.Math.Option.{none, some}
use Rattle.logic.specs.Checked.{ok}
use Rattle.logic.specs.Grounds.{first}
use Rattle.logic.specs.Model.{Model}
use Rattle.logic.specs.Quantity.{naturals, integers, Relation, equal}
use Rattle.logic.specs.Plan.{Plan, plans, choices, paths}
use Rattle.logic.specs.Bound.{weighed, meets, Lamp, lamp_relation, gain_between}
use Rattle.logic.specs.Formula.{Formula, plan, earns, on_bound, W}
use Rattle.logic.specs.Verdict.{Goal, goal, shown, ShownPlan, yes_plan}
use Rattle.logic.specs.Limits.{limit_grounds}
use Rattle.blocks.specs.Bytes.{Bytes, AllBytes}
use Rattle.questions.specs.Layout.{Question}
use Rattle.sheets.specs.Layout.{weight_of}
use Rattle.sheets.specs.Grounds.{read_sheet}
use Rattle.protocol.specs.Calls.{Call, judge, query, write, check, Held, Report, judged, written, accepted, refuse, Reply}
use Rattle.protocol.specs.History.{after}
use Rattle.protocol.specs.Replies.{Session}

-- "for every plan question that the desk then holds with its accepted model, within the path and plan limits": its root is "plan" or of
-- operator 9, and asks of plans what the goal says: their steps, the total of each, whether that meets the bound, and its lamp.
pub record PlanQuestion (h : Held) : Type 0 where
  pub model : Model
  pub question : Question
  pub asked : Goal
  pub held_model : h.model ≡ some model
  pub held_question : h.question ≡ some question
  pub plan_root : goal model question.start question.root ≡ ok asked
  pub within_limits : first (limit_grounds model question.nodes) ≡ none

module _ {h : Held} (reply : Call → Reply) (x : PlanQuestion h) where
  abbrev pub start : ℕ
  start = x.question.start

  -- the plans of the steps that are asked for
  abbrev pub AskedPlan : Type 0
  AskedPlan = Plan x.asked.steps

  -- Operator 8, a "plan": "The condition is the root's child, read at the path's start."
  pub record OnCondition (φ : Formula) : Type 0 where
    pub relation : Relation
    pub p : ℕ
    pub q : ℕ
    pub root : x.question.root ≡ plan x.asked.steps φ relation p q

  -- Operator 9: the steps l to u earn.
  pub record OnGain (l u : ℕ) : Type 0 where
    pub relation : Relation
    pub p : ℤ
    pub q : ℕ
    pub root : x.question.root ≡ earns x.asked.steps l u relation p q

  -- "the summed weights of those paths that its plan allows and on which the condition is true", for operator 9 the summed "path weights times
  -- the gains of steps l to u": `total_is_W` and `total_is_gain` below say so
  abbrev pub total : AskedPlan → ℤ
  total π = x.asked.total π

  -- "A sheet meets the bound when its plan's W does."; operator 9, "with its total for W"
  abbrev pub meets_bound : AskedPlan → Bool
  meets_bound π = x.asked.met π

  -- how a plan's total compares with the bound: `lamp_by_W` and `lamp_by_gain` below say so
  abbrev pub lamp : AskedPlan → Lamp
  lamp π = x.asked.lamp π

  -- "if it has no other ground for refusal" than 11: none of 1 to 6, and its choices are those of a plan, so not 10. It claims the total
  -- w for the plan π.
  pub record Claims (sheet : Bytes) (w : ℤ) (π : AskedPlan) : Type 0 where
    pub reads : read_sheet x.asked.steps start sheet ≡ ok (record { weight = w; choices = choices x.asked.steps π })
    pub is_plan : Memᴰ π (plans x.model x.asked.steps start)

  -- "the sheet check accepts it", and reports of it
  abbrev pub Accepts : Bytes → Report → Type 0
  Accepts sheet report = (reply (query (check sheet))).answer ≡ accepted report

  -- ground 11: "the sheet's weight is not its plan's"
  abbrev pub Differs : Bytes → Type 0
  Differs sheet = (reply (query (check sheet))).answer ≡ refuse 11

  -- an accepted sheet that meets the bound, with its plan
  pub record MeetingSheet (sheet : Bytes) (π : AskedPlan) : Type 0 where
    pub bytes : AllBytes sheet
    pub claims : Claims sheet (total π) π
    pub report : Report
    pub accepts : Accepts sheet report
    pub reports_it : report.met ≡ true
    pub meets_it : meets_bound π ≡ true

  -- "Judging says yes"
  pub record SaysYes : Type 0 where
    pub shown : ShownPlan
    pub steps : shown.steps ≡ x.asked.steps
    pub answers : (reply judge).answer ≡ judged (yes_plan shown)

  -- "writes one of these, that of the shown plan": the buffer has the bytes filled, these are such a sheet, and no byte beyond has changed
  pub record WritesShown (buffer left : Bytes) (filled : ℕ) : Type 0 where
    pub place : ℕ
    pub shown_plan : AskedPlan
    pub is_shown : shown x.model start x.asked ≡ some (place, shown_plan)
    pub size : length left ≡ length buffer
    pub whole : length (take filled left) ≡ filled
    pub sheet : MeetingSheet (take filled left) shown_plan
    pub beyond : drop filled left ≡ drop filled buffer

  pub record Demand3 : Type 0 where
    -- Every plan question is of one of the two kinds, and this is what its plans' totals are: W of `Formula`, and the expected gain of
    -- Definition 13 times D to the n.
    pub two_kinds : ((φ : Formula) × OnCondition φ) ⊎ ((l : ℕ) × (u : ℕ) × OnGain l u)
    pub total_is_W : (φ : Formula) → OnCondition φ → (π : AskedPlan) → total π ≡ pos (W x.model φ x.asked.steps start π)
    pub total_is_gain : (l u : ℕ) → OnGain l u → (π : AskedPlan)
        → total π ≡ weighed integers (gain_between l u) (paths x.model x.asked.steps start π)
    -- and this is when they meet the bound
    pub met_by_W : (φ : Formula) (c : OnCondition φ) (π : AskedPlan)
        → meets_bound π ≡ meets naturals x.model x.asked.steps c.relation c.p c.q (W x.model φ x.asked.steps start π)
    pub met_by_gain : (l u : ℕ) (c : OnGain l u) (π : AskedPlan)
        → meets_bound π ≡ meets integers x.model x.asked.steps c.relation c.p c.q (total π)
    -- A.4: "The comparison of a total with its bound shall tell below, at or above": the total is to the bound in the lamp's relation, "less" for
    -- below, "equal" for at, "greater" for above
    pub lamp_by_W : (φ : Formula) (c : OnCondition φ) (π : AskedPlan)
        → meets naturals x.model x.asked.steps (lamp_relation (lamp π)) c.p c.q (W x.model φ x.asked.steps start π) ≡ true
    pub lamp_by_gain : (l u : ℕ) (c : OnGain l u) (π : AskedPlan)
        → meets integers x.model x.asked.steps (lamp_relation (lamp π)) c.p c.q (total π) ≡ true
    -- and whether it meets the bound follows: it does exactly when the lamp's relation is the root's
    pub met_by_lamp : (π : AskedPlan) → (meets_bound π ≡ true) ↔ (lamp_relation (lamp π) ≡ on_bound equal (λ n r. r) x.question.root)
    -- "accepts it exactly when two weights are equal"
    pub check_exact : (sheet : Bytes) (w : ℤ) (π : AskedPlan) → Claims sheet w π → ((report : Report) × Accepts sheet report) ↔ (w ≡ total π)
    -- of operator 8, where the weight claimed is document 01's u64: exactly when the number of the eight bytes, unsigned, is W
    pub check_unsigned : (φ : Formula) → OnCondition φ → (sheet : Bytes) → AllBytes sheet → (w : ℤ) (π : AskedPlan) → Claims sheet w π
        → ((report : Report) × Accepts sheet report) ↔ (weight_of sheet 0 ≡ W x.model φ x.asked.steps start π)
    -- and refuses it with 11 when they differ
    pub check_differs : (sheet : Bytes) (w : ℤ) (π : AskedPlan) → Claims sheet w π → (w ≡ total π → ⊥) → Differs sheet
    -- "no other ground for refusal": the sheets that claim a total for some plan are just those that check accepts or refuses with 11
    pub claims_exact : (sheet : Bytes) → ((w : ℤ) × (π : AskedPlan) × Claims sheet w π) ↔ (((report : Report) × Accepts sheet report) ⊎ Differs sheet)
    -- What it reports on accepting is whether the sheet's total meets the bound, and the lamp of that total.
    pub check_says : (sheet : Bytes) (w : ℤ) (π : AskedPlan) → Claims sheet w π → (report : Report) → Accepts sheet report → report.met ≡ meets_bound π
    pub check_tells : (sheet : Bytes) (w : ℤ) (π : AskedPlan) → Claims sheet w π → (report : Report) → Accepts sheet report → report.lamp ≡ lamp π
    -- "Judging says yes exactly when some accepted sheet meets the bound"
    pub yes_exact : SaysYes ↔ ((sheet : Bytes) × (π : AskedPlan) × MeetingSheet sheet π)
    -- "each write that is then not refused writes one of these, that of the shown plan"
    pub write_exact : (buffer : Bytes) (filled : ℕ) → (reply (query (write buffer))).answer ≡ written filled
        → WritesShown buffer (reply (query (write buffer))).buffer filled

-- "After every list of calls"
abbrev pub Demand3Always : Session → Type 0
Demand3Always session = (calls : List Call) (x : PlanQuestion (after calls)) → Demand3 (session calls) x
