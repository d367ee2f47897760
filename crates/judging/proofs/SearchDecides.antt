-- What a search's result decides. For "less" and "greater" the first plan of the best total leads; it is the shown plan, or none is. The search for
-- "equal" finds the first place of the totals of all plans that has the one number that meets the bound, if there is such a number.
use Prim.Native.Nat.{ℕ, zero, suc, ◌+◌, ◌*◌, ◌≤◌, ◌<◌}
use native.Mathlib.Omega.{arith}
use native.Mathlib.Nat.{min-eq_right}
use mathlib.Core.Path.{◌≡◌, refl, sym, ap, ap₂, subst, ◌∙◌}
use mathlib.Core.Bool.{Bool, true, false, not, cond, ◌||◌}
use mathlib.Core.List.{List, [], ◌∷◌, map, Memᴰ}
use mathlib.Core.Option.{Option, none, some}
use lib.Dec.{eqb, leb, ltb}
use lib.IntN.{ℤ}
use lib.ListN.{get_or, length, length-map, get_or-map}
use borrow.Author.Tests.{eq-eqb, ne_eqb, leb-true, ltb-true, ltb-false}
use Rattle.logic.specs.Lists.{every}
use Rattle.logic.specs.promises.Refusal.{refusal}
use Rattle.logic.specs.Model.{Model, Step}
use Rattle.logic.specs.Quantity.{naturals, integers, equal}
use Rattle.logic.specs.Plan.{Plan, plans, choices}
use Rattle.logic.specs.Bound.{Bound, Lamp, total, meets}
use Rattle.logic.specs.Formula.{Formula, Node, sat, relation}
use Rattle.logic.specs.promises.Extension.{first_plan}
use Rattle.logic.specs.Verdict.{Goal, bound_goal, bound_of, goal, shown, Verdict, announced, verdict, yes, no, yes_plan, is_equal, found_lamp, verdict_by}
use Rattle.logic.specs.Limits.{plan_total, every_plan, limits}
use Rattle.logic.specs.Checked.{ok, refused, ◌>>=◌}
use Rattle.logic.proofs.Tests.{not_true, none≢some, every_at, get_or_member}
use Rattle.logic.proofs.Checked.{guard_passed}
use Rattle.logic.proofs.Search.{Decides, extreme, best_decides, equal_shown, equal_none}
use Rattle.logic.proofs.Shown.{Sets, sat_shown, sets_goal}
use Rattle.logic.proofs.Dictionary.{plan_count}
use Rattle.blocks.specs.Bytes.{Bytes}
use Rattle.models.specs.Layout.{state_count}
use Rattle.prepared_model.specs.promises.Rows.{model_in}
use Rattle.prepared_model.proofs.ReadByPlace.{states_are}
use Rattle.questions.specs.Layout.{node_count, node_of, formulas_of}
use Rattle.questions.specs.promises.Formed.{sets_bound}
use Rattle.questions.proofs.FormulaByOperator.{no_plan_at}
use Rattle.questions.proofs.SetsBound.{sets_neither}
use Rattle.limits.specs.promises.Totals.{fits}
use Rattle.limits.specs.promises.Totals as totals
use Rattle.limits.proofs.NodeByNode.{nodes_all, bounded_plans, done}
use Rattle.prepared_question.specs.promises.Nodes.{formula}
use Rattle.bounds.specs.promises.Bounded.{Bounded, lowered, meets_as, meets_at, lamp_at}
use Rattle.bounds.proofs.ProductsFit.{compares}
use Rattle.relevance.specs.promises.Need.{Given}
use Rattle.judging.specs.promises.Asked.{Asked}
use Rattle.judging.specs.promises.Decided.{worth_at, raised_at, bound_as, best_raised, best_node, plan_at, First}
use Rattle.judging.proofs.NodeBounds.{sets_at, raises_at, inside}

-- ---- verdicts by their parts

abbrev pub shows : (total : ℤ) → Lamp → (steps count : ℕ) → List ℕ → Verdict
shows w l n k cs = yes_plan (record { total = w; lamp = l; steps = n; count = k; choices = cs })

abbrev pub denies : (count : ℕ) → Option Lamp → Verdict
denies k l = no (record { count = k; lamp = l })

-- ---- a bound's shown plan, its formula's truth and verdict

module _ {M : Model} {s : ℕ} {φ : Formula} {b : Bound} (x : Sets M s φ b) where
  -- By a test that says whether there is a shown plan.
  by_shown : (t : Bool) → (t ≡ true → (y : ℕ × Plan b.steps) × (shown M s (bound_goal M s b) ≡ some y))
      → (t ≡ false → shown M s (bound_goal M s b) ≡ none) → sat M φ s [] ≡ t
  by_shown true f g = (sat_shown x []).1 (f refl)
  by_shown false f g = not_true _ (λ h. none≢some (sym (g refl) ∙ ((sat_shown x []).0 h).1))

  verdict_by_bound : verdict M s φ ≡ announced M s (bound_goal M s b) (shown M s (bound_goal M s b))
  unfolding verdict
  verdict_by_bound = ap (verdict_by M s (sat M φ s [])) (sets_goal x)

-- ---- the relation by its number

extreme_counts_not : (least : Bool) → is_equal (extreme least) ≡ false
unfolding is_equal
extreme_counts_not true = refl
extreme_counts_not false = refl

extreme_numbered : (k : ℕ) → 1 ≤ k → k ≤ 3 → (k ≡ 2 → ⊥) → relation k ≡ extreme (eqb k 1)
unfolding relation
extreme_numbered zero h g n = absurd (omega arith)
extreme_numbered (suc zero) h g n = refl
extreme_numbered (suc (suc zero)) h g n = absurd (n refl)
extreme_numbered (suc (suc (suc k))) h g n = ap extreme (sym (ne_eqb (suc (suc (suc k))) 1 (λ e. omega arith)))

-- What stands past the end does not matter inside.
inside_same : {A : Type 0} (l : List A) (i : ℕ) (d e : A) → i < length l → get_or l i d ≡ get_or l i e
inside_same [] i d e h = absurd (omega arith)
inside_same (x ∷ l) zero d e h = refl
inside_same (x ∷ l) (suc i) d e h = inside_same l i d e (omega arith)

module _ {m q : Bytes} {j : ℕ} (b : Bounded m q j) (s : ℕ) (h : s < state_count m) where
  abbrev M : Model
  M = model_in m

  abbrev node : Node
  node = node_of q j

  abbrev f : List Step → ℕ
  f = raised_at m q j s

  -- ---- "less" and "greater"

  module _ (e : node.right ≡ 2 → ⊥) where
    abbrev least : Bool
    least = eqb node.right 1

    pub same_relation : relation node.right ≡ extreme least
    same_relation = let c = compares m q j b in extreme_numbered node.right c.relation_from c.relation_to e

    sets : Sets M s (formula q j) (bound_as (extreme least) m q j s)
    sets = subst (λ r. Sets M s (formula q j) (bound_as r m q j s)) same_relation (sets_at b s)

    -- The best total, and the goal.
    abbrev best_total : ℤ
    best_total = lowered m q j (best_raised m q j s least)

    abbrev goal_here : Goal
    goal_here = bound_goal M s (bound_as (extreme least) m q j s)

    pub decides : Decides M s node.n (worth_at m q j s) node.p node.q (extreme least) best_total (best_node m q j s least)
    decides = best_decides M s node.n (worth_at m q j s) node.p node.q (raises_at b s h) b.prepared.accepted (inside b s h) least

    meets_same : meets_at m q j best_total ≡ meets_as (extreme least) m q j best_total
    meets_same = ap (λ r. meets_as r m q j best_total) same_relation

    -- Whether the best total meets the bound is whether the node is true.
    pub led_truth : meets_at m q j best_total ≡ sat M (formula q j) s []
    led_truth =
        meets_same
        ∙ sym (by_shown sets _ (λ t. let k = decides.met t in ((k.0, best_node m q j s least), k.1)) decides.missed)

    pub led_yes : meets_at m q j best_total ≡ true
        → verdict M s (formula q j) ≡ shows best_total (lamp_at m q j best_total) node.n 0 (choices node.n (best_node m q j s least))
    led_yes t =
        let k = decides.met (sym meets_same ∙ t) in
        verdict_by_bound sets ∙ ap (announced M s goal_here) k.1
        ∙ ap₂ (λ v u. shows v (lamp_at m q j v) node.n (cond u k.0 0) (choices node.n (best_node m q j s least))) decides.weighs (extreme_counts_not least)

    pub led_no : meets_at m q j best_total ≡ false → verdict M s (formula q j) ≡ denies 0 (some (lamp_at m q j best_total))
    led_no t =
        verdict_by_bound sets ∙ ap (announced M s goal_here) (decides.missed (sym meets_same ∙ t))
        ∙ ap₂ (λ u o. denies (cond u (length (plans M node.n s)) 0) (cond u none (found_lamp goal_here o))) (extreme_counts_not least) decides.first.1
        ∙ ap (λ v. denies 0 (some (lamp_at m q j v))) decides.weighs

  -- ---- "equal"

  -- The raised totals of all plans, in dictionary order.
  abbrev pub all_totals : List ℕ
  all_totals = map (λ π. total naturals M node.n s π f) (plans M node.n s)

  pub totals_count : length all_totals ≡ plan_total M node.n s
  totals_count = length-map (plans M node.n s) (λ π. total naturals M node.n s π f) ∙ plan_count M node.n s

  pub listed : (i : ℕ) → i < plan_total M node.n s → Memᴰ (plan_at M node.n s i) (plans M node.n s)
  listed i l = get_or_member (plans M node.n s) i (first_plan M node.n s) (subst (λ k. i < k) (sym (plan_count M node.n s)) l)

  pub total_at : (i : ℕ) → i < plan_total M node.n s → total naturals M node.n s (plan_at M node.n s i) f ≡ get_or all_totals i 0
  total_at i l =
      sym (get_or-map (λ π. total naturals M node.n s π f) (plans M node.n s) i (first_plan M node.n s))
      ∙ inside_same all_totals i _ 0 (subst (λ k. i < k) (sym totals_count) l)

  -- Whether the plan at a place meets the bound, by its raised total.
  met_at : (i : ℕ) → i < plan_total M node.n s
      → meets integers M node.n equal node.p node.q (total integers M node.n s (plan_at M node.n s i) (worth_at m q j s))
      ≡ meets_as equal m q j (lowered m q j (total naturals M node.n s (plan_at M node.n s i) f))
  met_at i l = ap (meets integers M node.n equal node.p node.q) ((raises_at b s h).lowered (plan_at M node.n s i) (listed i l))

  pub first_led : (x : ℕ) → ((w : ℕ) → meets_as equal m q j (lowered m q j w) ≡ eqb w x) → (r : ℕ)
      → ((i : ℕ) → i < r → get_or all_totals i 0 ≡ x → ⊥) → (r < plan_total M node.n s → get_or all_totals r 0 ≡ x) → First m q j s x r
  first_led x same r before here =
      record {
        weighs = λ l. total_at r l ∙ here l;
        found = λ l. equal_shown M s node.n (worth_at m q j s) node.p node.q (first_plan M node.n s) r (subst (λ k. r < k) (sym (plan_count M node.n s)) l)
            (met_at r l ∙ same _ ∙ eq-eqb _ x (total_at r l ∙ here l)) (λ i k. other i (omega arith) k);
        missed = λ l. equal_none M s node.n (worth_at m q j s) node.p node.q (first_plan M node.n s)
            (λ i k. let g = subst (λ k. i < k) (plan_count M node.n s) k in other i g (omega arith));
      }
    where
      other : (i : ℕ) → i < plan_total M node.n s → i < r
          → meets integers M node.n equal node.p node.q (total integers M node.n s (plan_at M node.n s i) (worth_at m q j s)) ≡ false
      other i l k = met_at i l ∙ same _ ∙ ne_eqb _ x (λ e. before i k (sym (total_at i l) ∙ e))

  -- Where no number meets the bound.
  pub never_led : ((w : ℕ) → meets_as equal m q j (lowered m q j w) ≡ false) → (x : ℕ) → First m q j s x (plan_total M node.n s)
  never_led g x =
      record {
        weighs = λ l. absurd (omega arith);
        found = λ l. absurd (omega arith);
        missed = λ l. equal_none M s node.n (worth_at m q j s) node.p node.q (first_plan M node.n s)
            (λ i k. met_at i (subst (λ k. i < k) (plan_count M node.n s) k) ∙ g _);
      }

  module _ (e : node.right ≡ 2) {x r : ℕ} (first : First m q j s x r) where
    equals : Sets M s (formula q j) (bound_as equal m q j s)
    unfolding relation
    equals = subst (λ k. Sets M s (formula q j) (bound_as (relation k) m q j s)) e (sets_at b s)

    pub equal_truth : sat M (formula q j) s [] ≡ ltb r (plan_total M node.n s)
    equal_truth =
        by_shown equals (ltb r (plan_total M node.n s))
        (λ t. ((1 + r, plan_at M node.n s r), first.found (ltb-true r (plan_total M node.n s) t)))
        (λ t. first.missed (ltb-false r (plan_total M node.n s) t))

    pub equal_yes : r < plan_total M node.n s
        → verdict M s (formula q j) ≡ shows (lowered m q j x) (lamp_at m q j (lowered m q j x)) node.n (1 + r) (choices node.n (plan_at M node.n s r))
    unfolding is_equal
    equal_yes l =
        verdict_by_bound equals ∙ ap (announced M s (bound_goal M s (bound_as equal m q j s))) (first.found l)
        ∙ ap (λ v. shows v (lamp_at m q j v) node.n (1 + r) (choices node.n (plan_at M node.n s r)))
        ((raises_at b s h).lowered (plan_at M node.n s r) (listed r l) ∙ ap (lowered m q j) (first.weighs l))

    pub equal_no : plan_total M node.n s ≤ r → verdict M s (formula q j) ≡ denies (plan_total M node.n s) none
    unfolding is_equal
    equal_no l =
        verdict_by_bound equals ∙ ap (announced M s (bound_goal M s (bound_as equal m q j s))) (first.missed l)
        ∙ ap (λ k. denies k none) (plan_count M node.n s)

-- ---- a node that sets no bound

-- It is yes or no.
pub other_verdict : {m q : Bytes} → Given m q → (j s : ℕ) → j < node_count q → sets_bound (node_of q j).operator ≡ false
    → verdict (model_in m) s (formula q j) ≡ cond (sat (model_in m) (formula q j) s []) yes (denies 0 none)
unfolding verdict goal bound_of
other_verdict {m} {q} given j s h e =
    let n = sets_neither (node_of q j).operator e in
    ap (λ c. verdict_by (model_in m) s (sat (model_in m) (formula q j) s []) (c >>= λ b. ok (bound_goal (model_in m) s b))) (no_plan_at q j h n.0 n.1 (refused 22) _ _)

-- ---- the limits

module _ {m q : Bytes} {counts : List ℕ} (asked : Asked m q counts) (j s : ℕ) (h : j < node_count q)
    (o : sets_bound (node_of q j).operator ≡ true) (e : (node_of q j).right ≡ 2) (inside : s < state_count m) where
  inside_model : s < length (model_in m).states
  inside_model = subst (λ k. s < k) (sym (states_are m)) inside

  within_limits : every_plan (fits true (model_in m)) (model_in m) (formulas_of q) ≡ true
  unfolding limits fits
  within_limits =
      let a = guard_passed 23 (every_plan (fits false (model_in m)) (model_in m) (formulas_of q)) (done (every_plan (fits true (model_in m)) (model_in m) (formulas_of q))) asked.within in
      guarded (every_plan (fits true (model_in m)) (model_in m) (formulas_of q)) a.1
    where
      guarded : (t : Bool) → refusal (done t) ≡ 0 → t ≡ true
      guarded true f = refl
      guarded false f = absurd (omega arith)

  -- An "equal" node has few plans in every state, and the table has their number.
  pub few_plans : plan_total (model_in m) (node_of q j).n s ≤ 65536
  unfolding fits is_equal relation
  few_plans =
      let x : Node = node_of q j in
      let here : Bool = every (length (model_in m).states) (fits true (model_in m) x.n (relation x.right)) in
      let a = every_at _ (node_count q) (sym (nodes_all (fits true (model_in m)) (model_in m) q) ∙ within_limits) h in
      let b : here ≡ true = ap (λ t. not t || here) (sym o) ∙ a in
      let c = every_at (fits true (model_in m) x.n (relation x.right)) (length (model_in m).states) b inside_model in
      leb-true (plan_total (model_in m) x.n s) 65536 (ap (λ k. not (is_equal (relation k)) || leb (plan_total (model_in m) x.n s) 65536) (sym e) ∙ c)

  -- Its plans are counted.
  pub all_counted : totals.Totals true (model_in m) 7 counts
  all_counted = asked.counted.all j h (sym (bounded_plans true (node_of q j) o refl) ∙ eq-eqb (node_of q j).right 2 e)

  pub counted_plans : (node_of q j).n ≤ 6 → get_or counts (32 * (node_of q j).n + s) 0 ≡ plan_total (model_in m) (node_of q j).n s
  unfolding totals.total totals.limit
  counted_plans few =
      all_counted.at (node_of q j).n s (omega arith) inside_model
      ∙ min-eq_right {n = plan_total (model_in m) (node_of q j).n s} {m = 65537} (omega (arith, few_plans))
