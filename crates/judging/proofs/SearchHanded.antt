-- What the searches are handed for a node that sets a bound on plans, and that what they give decides it. A "plan": the nodes of its condition, whose
-- depth is at most the steps, and a table that is right where they read it. Operator 9: no node, and the steps that earn.
use Prim.Native.Nat.{ℕ, suc, ◌+◌, ◌*◌, ◌-◌, ◌^◌, ◌≤◌, ◌<◌}
use native.Mathlib.Omega.{arith}
use native.Mathlib.Nat.{le_trans, le_of_eq, le_refl, mul-le-mul_left, mul-zero}
use mathlib.Core.Path.{◌≡◌, refl, sym, ap, ap₂, subst, ◌∙◌}
use mathlib.Core.Bool.{Bool, true, false}
use mathlib.Core.List.{List, [], ◌++◌}
use lib.Dec.{eqb, ltb}
use lib.ListN.{get_or, length, take, drop, replicate, take-append-drop}
use lib.Pow.{pow-add}
use borrow.Author.Tests.{le-ltb, eqb-true, eqb-false}
use Rattle.logic.specs.Formula.{depth, sat}
use Rattle.logic.specs.Plan.{choices}
use Rattle.logic.specs.Order.{IsPlan}
use Rattle.logic.specs.Limits.{plan_total}
use Rattle.logic.specs.Bound.{total}
use Rattle.logic.specs.promises.Orders.{weights, order}
use Rattle.logic.specs.promises.Extension.{first_choice, extended}
use Rattle.logic.specs.promises.Recursion.{greatest, best_plan}
use Rattle.logic.specs.promises.Raised.{raised}
use Rattle.logic.specs.promises.Total.{value_of}
use Rattle.logic.proofs.Best.{best_member}
use Rattle.logic.proofs.Dictionary.{plans_are}
use Rattle.logic.proofs.FirstBest.{ordered, additive}
use Rattle.logic.proofs.Lengthening.{weight_longer, best_longer}
use Rattle.logic.proofs.Recursion.{best_plan_first}
use Rattle.logic.proofs.Tests.{get_or_tabulate}
use Rattle.blocks.specs.Bytes.{Bytes}
use Rattle.models.specs.Layout.{state_count, denominator_of}
use Rattle.prepared_model.specs.promises.Rows.{choices_in, choice_in, model_in}
use Rattle.prepared_model.proofs.ReadByPlace.{states_are, denominator_is, some_choice}
use Rattle.questions.specs.Layout.{node_count, node_of}
use Rattle.questions.specs.promises.Formed.{sets_bound}
use Rattle.prepared_question.specs.promises.Nodes.{formula, depth_in}
use Rattle.evaluation.specs.promises.Reached.{Cone, root_of, Ready}
use Rattle.evaluation.specs.promises.Worth.{worth_of}
use Rattle.evaluation.proofs.PathWorth.{ready_none, worth_condition, worth_gain}
use Rattle.bounds.specs.promises.Bounded.{Bounded, lowered, most_of, meets_at, Exactly}
use Rattle.bounds.proofs.ProductsFit.{small, most_8}
use Rattle.bounds.proofs.Powers.{power_le}
use Rattle.best_gain.proofs.TableRows.{zeros}
use Rattle.best_plan.specs.declared.Found.{Found}
use Rattle.exact_plan.specs.promises.Totals.{totals}
use Rattle.exact_plan.specs.promises.Listing as listing
use Rattle.exact_plan.proofs.CountsBelowCap.{counts_right}
use Rattle.limits.specs.promises.Totals.{Totals}
use Rattle.plan_choices.specs.promises.Extended.{extend, by_place, Placed}
use Rattle.plan_choices.proofs.ExtendedChoices.{extend_choices}
use Rattle.relevance.specs.promises.Need.{Given}
use Rattle.judging.specs.promises.Truth.{Supplied}
use Rattle.judging.specs.promises.Worths.{Looks}
use Rattle.judging.specs.declared.plans.Decision.{Decision}
use Rattle.std.specs.Prelude.{Option, None, Some}
use Rattle.judging.specs.promises.Decided as decided
use Rattle.judging.specs.promises.Decided.{condition, raised_at, best_raised, best_node, best, Posed, Lengthened, Led}
use Rattle.judging.specs.promises.Conditions.{Stands, Same, Peels, best_total, Searched}
use Rattle.judging.proofs.NodeBounds.{Planned, planned, earned, either, raised_8, raised_9, inside}
use Rattle.judging.proofs.SearchDecides.{all_totals, totals_count, first_led, never_led, led_truth, equal_truth}
use Rattle.judging.proofs.BestTotals.{same_best, never_best, best_small}
use Rattle.judging.proofs.BestTotals as remembering

pub bounded_at : {m q truth : Bytes} {j s : ℕ} → Given m q → Posed m q truth j s → Bounded m q j
bounded_at given posed = record { prepared = given.prepared; nodes = given.nodes; node = posed.node; sets = posed.sets }

pub posed_at : {m q truth : Bytes} {j s : ℕ} → j < node_count q → sets_bound (node_of q j).operator ≡ true → s < state_count m → Supplied m q truth j s → Posed m q truth j s
posed_at h o l t = record { node = h; sets = o; state = l; told = t.under_plan }

-- What a test for "equal" says of a node's relation.
pub asked_equal : (q : Bytes) (j : ℕ) {t : Bool} → t ≡ eqb (node_of q j).right 2 → t ≡ true → (node_of q j).right ≡ 2
asked_equal q j e h = eqb-true (node_of q j).right 2 (sym e ∙ h)

pub asked_other : (q : Bytes) (j : ℕ) {t : Bool} → t ≡ eqb (node_of q j).right 2 → t ≡ false → (node_of q j).right ≡ 2 → ⊥
asked_other q j e h = eqb-false (node_of q j).right 2 (sym e ∙ h)

-- ---- a "plan": a total over more steps

module _ {m q : Bytes} {j : ℕ} (b : Bounded m q j) (o : (node_of q j).operator ≡ 8) where
  abbrev P : Planned q j
  P = planned b o

  -- The condition stands before the node, among at most 40.
  pub before : ((node_of q j).left < node_count q) × ((node_of q j).left < 40)
  before =
      let l : (node_of q j).left < j = P.range.child in
      let n : j < node_count q = b.node in
      let f : node_count q ≤ 40 = b.nodes.formed.few_nodes in
      (omega arith, omega arith)

  -- The depth of the condition, as it stands behind the block.
  pub condition_depth : {c d : ℕ} → c ≡ (node_of q j).left → d ≡ depth_in q c → d ≡ depth (condition q j)
  condition_depth e f = f ∙ ap (depth_in q) e ∙ b.nodes.deep (node_of q j).left before.0

  pub power_fits : denominator_of m ^ (node_of q j).n < 2 ^ 64
  power_fits = let p : denominator_of m ^ (node_of q j).n ≤ 100 ^ 6 = power_le (denominator_of m) (node_of q j).n 6 (small m q j b) P.few in omega arith

  pub lengthened : {d k e x v : ℕ} → d ≡ depth (condition q j) → k ≡ (node_of q j).n → e ≡ denominator_of m → x ≡ e ^ (k - d)
      → v ≤ denominator_of m ^ depth (condition q j) → Lengthened m q j v (x * v)
  lengthened {e = e} {v = v} deep steps base power l =
      let z = power ∙ ap₂ (λ k d. e ^ (k - d)) steps deep ∙ ap (λ e. e ^ ((node_of q j).n - depth (condition q j))) base in
      record {
        weighs = ap (λ x. x * v) (z ∙ ap (λ e. e ^ ((node_of q j).n - depth (condition q j))) (sym (denominator_is m)));
        small = subst (λ x. x * v ≤ denominator_of m ^ (node_of q j).n) (sym z)
            (le_trans (mul-le-mul_left (denominator_of m ^ ((node_of q j).n - depth (condition q j))) l) (le_of_eq (power_sum (denominator_of m) P.deep)));
      }
    where
      power_sum : (D : ℕ) {d n : ℕ} → d ≤ n → D ^ (n - d) * D ^ d ≡ D ^ n
      power_sum D {d} {n} l = let f : n - d + d ≡ n = omega arith in sym (pow-add D (n - d) d) ∙ ap (λ i. D ^ i) f

  pub lengthened_most : {v w : ℕ} → Lengthened m q j v w → w ≤ most_of m q j
  lengthened_most l = rw (most_8 m q j b o) l.small

  module _ {s : ℕ} (h : s < state_count m) (least : Bool) where
    -- Over all steps the best total is that of the depth, lengthened, and the best plan is that of the depth, extended.
    pub best_lengthened : {v w : ℕ} → v ≡ best_total m q (node_of q j).left s least → Lengthened m q j v w → w ≡ best_raised m q j s least
    best_lengthened e l =
        l.weighs ∙ ap (λ v. (model_in m).denominator ^ ((node_of q j).n - depth (condition q j)) * v) e
        ∙ sym (weight_longer (model_in m) b.prepared.accepted b.prepared.accepted.divides least (condition q j) (depth (condition q j)) (node_of q j).n s (le_refl _) P.deep (inside b s h))
        ∙ ap (greatest (weights (order least)) (model_in m) (node_of q j).n s) (sym (raised_8 b s o))

    best_extended : best_node m q j s least ≡ extended (model_in m) (depth (condition q j)) (node_of q j).n s (best (model_in m) (condition q j) (depth (condition q j)) s least)
    best_extended =
        ap (best_plan (weights (order least)) (model_in m) (node_of q j).n s) (raised_8 b s o)
        ∙ best_longer (model_in m) b.prepared.accepted b.prepared.accepted.divides least (condition q j) (depth (condition q j)) (node_of q j).n s (le_refl _) P.deep (inside b s h)

    best_is_plan : IsPlan (model_in m) (depth (condition q j)) s (best (model_in m) (condition q j) (depth (condition q j)) s least)
    best_is_plan =
        let d : ℕ = depth (condition q j) in
        (plans_are (model_in m) d s (best (model_in m) (condition q j) d s least)).0
        (best_member (weights (order least)) (ordered least) (λ p. total (weights (order least)) (model_in m) d s p (value_of (model_in m) (condition q j) s))
        (best_plan_first (weights (order least)) (additive (order least)) (ordered least) (model_in m) b.prepared.accepted d s
        (value_of (model_in m) (condition q j) s) (inside b s h)))

    -- A table of zeros has first choices.
    zero_first : (k t : ℕ) → t < length (model_in m).states → by_place m (replicate 224 0) (suc k) t ≡ first_choice (model_in m) t
    unfolding first_choice
    zero_first k t l =
        let h : t < state_count m = subst (λ n. t < n) (states_are m) l in
        ap (choice_in m t) (zeros 224 (32 * suc k + t))
        ∙ sym (ap (λ (e : List ℕ). get_or e 0 0) (b.prepared.choices t h) ∙ get_or_tabulate (choice_in m t) (choices_in m t) 0 (some_choice b.prepared t h))

    pub zero_table : Placed m (replicate 224 0) (node_of q j).n
    zero_table = record { few = P.few; inside = λ k t l g. subst (λ i. i < choices_in m t) (sym (zeros 224 (32 * suc k + t))) (some_choice b.prepared t g) }

    pub extended_choices : (scratch : List ℕ) (count : ℕ) {d : ℕ} → d ≡ depth (condition q j)
        → take count scratch ≡ choices (depth (condition q j)) (best (model_in m) (condition q j) (depth (condition q j)) s least)
        → (extend (model_in m) (by_place m (replicate 224 0)) d (node_of q j).n s scratch).0 ≡ choices (node_of q j).n (best_node m q j s least)
    extended_choices scratch count e f =
        let d : ℕ = depth (condition q j) in
        let n : ℕ = (node_of q j).n in
        let p = best (model_in m) (condition q j) d s least in
        ap (λ d. (extend (model_in m) (by_place m (replicate 224 0)) d n s scratch).0) e
        ∙ ap (λ l. (extend (model_in m) (by_place m (replicate 224 0)) d n s l).0) (sym (take-append-drop count scratch) ∙ ap (λ l. l ++ drop count scratch) f)
        ∙ ap (λ z. z.0) (extend_choices (model_in m) (by_place m (replicate 224 0)) b.prepared.accepted zero_first d n s p (drop count scratch) P.deep (inside b s h) best_is_plan)
        ∙ ap (choices n) (sym best_extended)

-- ---- a "plan" in a state

module _ {m q : Bytes} {truth : List ℕ} {j s : ℕ} (given : Given m q) (posed : Posed m q truth j s) (o : (node_of q j).operator ≡ 8) where
  abbrev b : Bounded m q j
  b = bounded_at given posed

  pub condition_stands : {c : ℕ} → c ≡ (node_of q j).left → Stands m q truth c s
  condition_stands e =
      subst (λ i. Stands m q truth i s) (sym e)
      (record { nodes = given.nodes; node = (before b o).0; state = posed.state; told = posed.told o })

  pub ready : {l : List ℕ} → Cone q l → root_of l ≡ (node_of q j).left → Ready m q s truth l
  ready cone e = remembering.ready given (condition_stands refl) cone e

  pub condition_few_steps : {c : ℕ} → c ≡ (node_of q j).left → depth (formula q c) ≤ 6
  condition_few_steps e = omega (arith, ap (λ i. depth (formula q i)) e, (planned b o).deep, (planned b o).few)

  best_there : (least : Bool) → best_total m q (node_of q j).left s least ≤ denominator_of m ^ depth (condition q j)
  best_there least = best_small given (condition_stands refl) least

  module _ {c : ℕ} {least : Bool} (top : c ≡ (node_of q j).left) (same : least ≡ eqb (node_of q j).right 1) where
    total_there : best_total m q c s least ≡ best_total m q (node_of q j).left s (eqb (node_of q j).right 1)
    total_there = ap₂ (λ c least. best_total m q c s least) top same

    pub found_small : {after : List ℕ} {r : Found} → Searched m q c s least after r → r.value ≤ denominator_of m ^ depth (condition q j)
    found_small f = subst (λ v. v ≤ denominator_of m ^ depth (condition q j)) (sym (f.value ∙ total_there)) (best_there (eqb (node_of q j).right 1))

    pub found_led : {after : List ℕ} {r : Found} {w d : ℕ} {t : Bool} → Searched m q c s least after r → Lengthened m q j r.value w
        → t ≡ meets_at m q j (lowered m q j w) → d ≡ depth (condition q j)
        → Led m q j s after (replicate 224 0) (record { met = t; raised = w; place = 0; given = d })
    found_led {after} {r} f l e g =
        record {
          weighs = best_lengthened b o posed.state (eqb (node_of q j).right 1) (f.value ∙ total_there) l;
          bounds = e;
          unplaced = refl;
          table = zero_table b o posed.state (eqb (node_of q j).right 1);
          chosen = extended_choices b o posed.state (eqb (node_of q j).right 1) after r.count g
              (f.chosen ∙ ap₂ (λ c least. choices (depth (formula q c)) (best (model_in m) (formula q c) (depth (formula q c)) s least)) top same);
        }

  -- What is left of the condition decides.
  module _ (e : (node_of q j).right ≡ 2 → ⊥) {c : ℕ} (top : c ≡ (node_of q j).left) where
    truth_there : {v w : ℕ} {t : Bool} → v ≡ best_total m q (node_of q j).left s (eqb (node_of q j).right 1) → Lengthened m q j v w
        → t ≡ meets_at m q j (lowered m q j w) → t ≡ sat (model_in m) (formula q j) s []
    truth_there f l g =
        g ∙ ap (λ w. meets_at m q j (lowered m q j w)) (best_lengthened b o posed.state (eqb (node_of q j).right 1) f l) ∙ led_truth b s posed.state e

    pub false_condition_truth : {r : Option ℕ} {t : Bool} → Peels q truth c s r → r ≡ None → t ≡ meets_at m q j (lowered m q j 0) → t ≡ sat (model_in m) (formula q j) s []
    false_condition_truth p d f =
        truth_there {v = 0}
        (sym (ap (λ c. best_total m q c s (eqb (node_of q j).right 1)) (sym top)
        ∙ never_best m q c s (eqb (node_of q j).right 1) (p.never m (condition_stands top) d)))
        (record { weighs = sym (mul-zero ((model_in m).denominator ^ ((node_of q j).n - depth (condition q j)))); small = omega arith }) f

    module _ {r : Option ℕ} (p : Peels q truth c s r) {i : ℕ} (d : r ≡ Some i) where
      left_there : Same m q truth c s i
      left_there = p.left m (condition_stands top) i d

      pub peeled_stands : Stands m q truth i s
      peeled_stands = left_there.stands

      pub peeled_few_steps : depth (formula q i) ≤ 6
      peeled_few_steps = omega (arith, left_there.looks, condition_few_steps top)

      module _ {least : Bool} {v : ℕ} (same : least ≡ eqb (node_of q j).right 1) (f : v ≡ best_total m q i s least) where
        left_total : v ≡ best_total m q (node_of q j).left s (eqb (node_of q j).right 1)
        left_total = f ∙ same_best least left_there ∙ total_there top same

        pub peeled_total_small : v ≤ denominator_of m ^ depth (condition q j)
        peeled_total_small = subst (λ v. v ≤ denominator_of m ^ depth (condition q j)) (sym left_total) (best_there (eqb (node_of q j).right 1))

        pub peeled_condition_truth : {w : ℕ} {t : Bool} → Lengthened m q j v w → t ≡ meets_at m q j (lowered m q j w) → t ≡ sat (model_in m) (formula q j) s []
        peeled_condition_truth l g = truth_there left_total l g

-- ---- what is handed for either kind

module _ {m q : Bytes} {truth : List ℕ} {j s : ℕ} (given : Given m q) (posed : Posed m q truth j s)
    {nodes : List ℕ} {count a d : ℕ} (l : Looks q j nodes count a d) where
  abbrev c : Bounded m q j
  c = bounded_at given posed

  pub handed_ready : Ready m q s truth (take count nodes)
  handed_ready =
      either c
      (λ o. let w = l.of_plan o in ready given posed o w.0 w.1)
      (λ o. subst (λ (k : ℕ). Ready m q s truth (take k nodes)) (sym (l.of_earns o).0) (ready_none truth given.prepared given.nodes posed.state))

  pub handed_looks : 0 < length (take count nodes) → d ≡ depth (formula q (root_of (take count nodes)))
  handed_looks some =
      either c
      (λ o. let w = l.of_plan o in w.4 ∙ ap (λ i. depth (formula q i)) (sym w.1))
      (λ o. absurd (omega (arith, subst (λ (k : ℕ). 0 < length (take k nodes)) (l.of_earns o).0 some)))

  pub handed_from : a ≤ d
  handed_from = either c (λ o. omega (arith, (l.of_plan o).3)) (λ o. let r = (earned c o).range in omega (arith, (l.of_earns o).1, (l.of_earns o).2, r.rising))

  pub handed_within : d ≤ (node_of q j).n
  handed_within =
      either c (λ o. omega (arith, (l.of_plan o).4, (planned c o).deep)) (λ o. omega (arith, (l.of_earns o).2, (earned c o).range.within))

  -- What the list of all plans' totals asks for.
  pub handed_listing : {counts : List ℕ} → Totals true (model_in m) 7 counts → listing.Given m q s a d truth (take count nodes) counts
  handed_listing {counts} t = record { ready = handed_ready; counts = counts_right m counts t; looks = handed_looks; from = handed_from }

  -- What a path is worth is what the node says.
  pub handed_worth : worth_of m q s a d (take count nodes) ≡ raised_at m q j s
  handed_worth = either c by_8 by_9
    where
      by_8 : (node_of q j).operator ≡ 8 → worth_of m q s a d (take count nodes) ≡ raised_at m q j s
      by_8 o =
          let w = l.of_plan o in
          worth_condition m q s a d (take count nodes) w.2 ∙ ap (λ i. value_of (model_in m) (formula q i) s) w.1 ∙ sym (raised_8 c s o)

      by_9 : (node_of q j).operator ≡ 9 → worth_of m q s a d (take count nodes) ≡ raised_at m q j s
      by_9 o =
          let w = l.of_earns o in
          worth_gain m q s a d (take count nodes) (ap (λ (k : ℕ). length (take k nodes)) w.0)
          ∙ ap₂ raised w.1 w.2 ∙ sym (raised_9 c s o)

-- ---- what a search for a total found

module _ {m q : Bytes} {truth : List ℕ} {j s : ℕ} (given : Given m q) (posed : Posed m q truth j s) where
  abbrev u : Bounded m q j
  u = bounded_at given posed

  module _ {whole : Bool} {x all : ℕ} (exact : Exactly m q j whole x) (count : all ≡ plan_total (model_in m) (node_of q j).n s) where
    -- No total meets the bound.
    pub placed_never : whole ≡ false → decided.Placed m q j s (record { met = false; raised = x; place = all; given = 0 })
    placed_never e =
        record {
          first = subst (decided.First m q j s x) (sym count) (never_led u s posed.state (exact.none e) x);
          within = le_of_eq count;
          bounds = sym (le-ltb _ _ (le_of_eq (sym count)));
        }

    pub placed_at : {k r : ℕ} {nodes : List ℕ} {n a d : ℕ} → whole ≡ true → k ≡ (node_of q j).n → (l : Looks q j nodes n a d)
        → listing.First (totals (model_in m) k s (worth_of m q s a d (take n nodes))) x r
        → decided.Placed m q j s (record { met = ltb r all; raised = x; place = r; given = 0 })
    unfolding totals
    placed_at {k} {r} e steps l f =
        let g : listing.First (all_totals u s posed.state) x r =
        subst (λ i. listing.First (totals (model_in m) i s (raised_at m q j s)) x r) steps
        (subst (λ w. listing.First (totals (model_in m) k s w) x r) (handed_worth given posed l) f) in
        let z = totals_count u s posed.state in
        record {
          first = first_led u s posed.state x (exact.one e) r g.none_before (λ h. g.there (subst (λ i. r < i) (sym z) h));
          within = subst (λ i. r ≤ i) z g.few;
          bounds = ap (ltb r) count;
        }

  -- ---- the truth of the node

  pub placed_truth : {r : Decision} → (node_of q j).right ≡ 2 → decided.Placed m q j s r → r.met ≡ sat (model_in m) (formula q j) s []
  placed_truth e p = p.bounds ∙ sym (equal_truth u s posed.state e p.first)
