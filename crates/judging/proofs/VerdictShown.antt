-- How the verdict follows from what a search decided, and how the code has it: the plan that a search found, extended or looked up by its place, is
-- the shown plan. And what is told of a sheet's plan.
use Prim.Native.Nat.{ℕ, ◌+◌, ◌*◌, ◌^◌, ◌≤◌, ◌<◌}
use native.Mathlib.Omega.{arith}
use native.Mathlib.Nat.{le_antisymm, le_trans}
use native.Mathlib.Decide.{ℕ_discrete}
use mathlib.Core.Path.{◌≡◌, sym, ap, ap₂, subst, ◌∙◌}
use mathlib.Core.Bool.{Bool, true, false, cond}
use mathlib.Core.List.{List, Memᴰ}
use mathlib.Core.Option.{Option, none, some}
use lib.Dec.{eqb}
use lib.IntN.{ℤ}
use lib.ListN.{take}
use borrow.Author.Tests.{ltb-true, ltb-false, eq-eqb, ne_eqb}
use Rattle.logic.specs.Checked.{ok}
use Rattle.logic.specs.Quantity.{naturals}
use Rattle.logic.specs.Bound.{Bound, Lamp, total, one_if}
use Rattle.logic.specs.Plan.{Plan, plans, choices}
use Rattle.logic.specs.Choices.{plan_of}
use Rattle.logic.specs.Formula.{depth, relation}
use Rattle.logic.specs.promises.Extension.{first_plan}
use Rattle.logic.specs.Limits.{plan_total}
use Rattle.logic.specs.Verdict.{Verdict, verdict}
use Rattle.logic.specs.Verdict as verdicts
use Rattle.logic.proofs.Checked.{ok_same}
use Rattle.logic.proofs.Depth.{state_depth}
use Rattle.logic.proofs.Dictionary.{plan_count}
use Rattle.logic.proofs.Reading.{plan_of_sound}
use Rattle.logic.proofs.Shown.{sets_goal}
use Rattle.logic.proofs.Tests.{get_or_member}
use Rattle.blocks.specs.Bytes.{Bytes}
use Rattle.blocks.specs.Splice.{splice}
use Rattle.blocks.proofs.Splice.{splice_none}
use Rattle.models.specs.Layout.{state_count}
use Rattle.prepared_model.specs.promises.Rows.{model_in}
use Rattle.questions.specs.Layout.{start_of, node_count, node_of, question_of}
use Rattle.questions.specs.promises.Formed.{sets_bound}
use Rattle.limits.specs.promises.Counted.{Counted}
use Rattle.prepared_question.specs.promises.Nodes.{formula}
use Rattle.evaluation.specs.promises.Worth.{worth_of}
use Rattle.bounds.specs.promises.Bounded.{Bounded, lowered, most_of, meets_at, lamp_at}
use Rattle.bounds.proofs.ProductsFit.{most_small}
use Rattle.relevance.specs.promises.Need.{Given}
use Rattle.lamp.specs.declared.Lamp as lamps
use Rattle.lamp.specs.promises.Codes.{lamp_code, optional_code}
use Rattle.judging.specs.declared.Verdict as code
use Rattle.judging.specs.declared.Verdict.TheVariants.{No, Yes, YesPlan}
use Rattle.judging.specs.declared.plans.Decision.{Decision}
use Rattle.judging.specs.promises.Asked.{Asked, Served}
use Rattle.judging.specs.promises.Truth.{Supplied}
use Rattle.judging.specs.promises.Worths.{Looks}
use Rattle.judging.specs.promises.Decided.{raised_at, bound_as, best_node, plan_at, Posed, Decided}
use Rattle.judging.specs.promises.Announced.{root, root_verdict, no_lamp, verdict_code, shown_choices, Announces, Sums, Spelled, Weighs}
use Rattle.judging.proofs.NodeBounds.{sets_at, raises_at, total_most, best_most}
use Rattle.judging.proofs.SearchDecides.{shows, denies, led_yes, led_no, equal_yes, equal_no, few_plans}
use Rattle.judging.proofs.SearchHanded.{handed_worth}

-- ---- telling

pub announces_plan : {v : Verdict} {w : ℤ} {p : Lamp} {u : lamps.Lamp} {n k i : ℕ} {cs l after : List ℕ} {x : code.Verdict} (before : List ℕ) → v ≡ shows w p n k cs
    → i ≡ n → u ≡ lamp_code p → l ≡ cs → x ≡ YesPlan (record { total = w; lamp = u; steps = i; count = k }) → after ≡ splice before 0 l → Announces v x before after
unfolding verdict_code shown_choices
announces_plan {w = w} {k = k} before e f lit same g h = (
  g ∙ ap₂ (λ i u. YesPlan (record { total = w; lamp = u; steps = i; count = k })) f lit ∙ ap verdict_code (sym e),
  h ∙ ap (splice before 0) same ∙ ap (λ u. splice before 0 (shown_choices u)) (sym e),
)

pub announces_no : {v : Verdict} {k : ℕ} {o : Option Lamp} {x : code.Verdict} (before : List ℕ) → v ≡ denies k o
    → x ≡ No (record { count = k; lamp = optional_code o }) → Announces v x before before
unfolding verdict_code shown_choices
announces_no before e f = (f ∙ ap verdict_code (sym e), sym (splice_none before 0) ∙ ap (λ u. splice before 0 (shown_choices u)) (sym e))

pub announces_truth : {v : Verdict} {y : ℕ} {x : code.Verdict} (t : Bool) (before : List ℕ) → v ≡ cond t verdicts.yes (denies 0 none) → y ≡ one_if t
    → x ≡ cond (eqb y 1) Yes (No (record { count = 0; lamp = optional_code none })) → Announces v x before before
unfolding verdict_code shown_choices one_if
announces_truth true before e f g = (
  g ∙ ap (λ y. cond (eqb y 1) Yes (No (record { count = 0; lamp = optional_code none }))) f ∙ ap verdict_code (sym e),
  sym (splice_none before 0) ∙ ap (λ u. splice before 0 (shown_choices u)) (sym e),
)
announces_truth false before e f g =
    announces_no before e (g ∙ ap (λ y. cond (eqb y 1) Yes (No (record { count = 0; lamp = optional_code none }))) f)

-- ---- the verdict on a node that sets a bound

-- The lamp of a no, by the node's relation.
module _ (m q : Bytes) (j x : ℕ) where
  pub no_lamp_equal : (node_of q j).right ≡ 2 → no_lamp m q j x ≡ none
  unfolding no_lamp
  no_lamp_equal e = ap (λ u. cond u none (some (lamp_at m q j (lowered m q j x)))) (eq-eqb (node_of q j).right 2 e)

  pub no_lamp_other : ((node_of q j).right ≡ 2 → ⊥) → no_lamp m q j x ≡ some (lamp_at m q j (lowered m q j x))
  unfolding no_lamp
  no_lamp_other e = ap (λ u. cond u none (some (lamp_at m q j (lowered m q j x)))) (ne_eqb (node_of q j).right 2 e)

module _ {m q : Bytes} {counts : List ℕ} (asked : Asked m q counts) {j : ℕ} (b : Bounded m q j) (s : ℕ) (here : s < state_count m)
    {scratch places : List ℕ} {r : Decision} (x : Decided m q j s scratch places r) where
  -- "equal"
  pub equal_few : (node_of q j).right ≡ 2 → (plan_total (model_in m) (node_of q j).n s ≤ 65536) × (r.place ≤ 65536)
  equal_few e = let f = few_plans asked j s b.node b.sets e here in let w = (x.placed e).within in (f, omega arith)

  pub equal_inside : (node_of q j).right ≡ 2 → r.met ≡ true → r.place < plan_total (model_in m) (node_of q j).n s
  equal_inside e t = ltb-true r.place (plan_total (model_in m) (node_of q j).n s) (sym (x.placed e).bounds ∙ t)

  pub equal_verdict : (node_of q j).right ≡ 2 → r.met ≡ true
      → verdict (model_in m) s (formula q j)
      ≡ shows (lowered m q j r.raised) (lamp_at m q j (lowered m q j r.raised)) (node_of q j).n (1 + r.place) (choices (node_of q j).n (plan_at (model_in m) (node_of q j).n s r.place))
  equal_verdict e t = equal_yes b s here e (x.placed e).first (equal_inside e t)

  pub led_verdict : ((node_of q j).right ≡ 2 → ⊥) → r.met ≡ true
      → verdict (model_in m) s (formula q j)
      ≡ shows (lowered m q j r.raised) (lamp_at m q j (lowered m q j r.raised)) (node_of q j).n 0 (choices (node_of q j).n (best_node m q j s (eqb (node_of q j).right 1)))
  led_verdict e t =
      let p = x.led e in
      led_yes b s here e (sym (ap (λ w. meets_at m q j (lowered m q j w)) p.weighs) ∙ sym p.bounds ∙ t)
      ∙ ap (λ w. shows (lowered m q j w) (lamp_at m q j (lowered m q j w)) (node_of q j).n 0 (choices (node_of q j).n (best_node m q j s (eqb (node_of q j).right 1)))) (sym p.weighs)

  pub no_verdict : r.met ≡ false → verdict (model_in m) s (formula q j) ≡ denies r.place (no_lamp m q j r.raised)
  no_verdict t = go (ℕ_discrete (node_of q j).right 2)
    where
      go : Dec ((node_of q j).right ≡ 2) → verdict (model_in m) s (formula q j) ≡ denies r.place (no_lamp m q j r.raised)
      go (yes e) =
          let p = x.placed e in
          let l = ltb-false r.place (plan_total (model_in m) (node_of q j).n s) (sym p.bounds ∙ t) in
          equal_no b s here e p.first l ∙ ap₂ denies (le_antisymm l p.within) (sym (no_lamp_equal m q j r.raised e))
      go (no e) =
          let p = x.led e in
          led_no b s here e (sym (ap (λ w. meets_at m q j (lowered m q j w)) p.weighs) ∙ sym p.bounds ∙ t)
          ∙ ap₂ (λ k w. denies k (some (lamp_at m q j (lowered m q j w)))) (sym p.unplaced) (sym p.weighs)
          ∙ ap (denies r.place) (sym (no_lamp_other m q j r.raised e))

  pub place_few : r.place ≤ 65536
  place_few = go (ℕ_discrete (node_of q j).right 2)
    where
      go : Dec ((node_of q j).right ≡ 2) → r.place ≤ 65536
      go (yes e) = (equal_few e).1
      go (no e) = omega (arith, (x.led e).unplaced)

  -- The best total is small, and so is the total found for "equal", where it is one.
  pub led_most : ((node_of q j).right ≡ 2 → ⊥) → r.raised ≤ most_of m q j
  led_most e = subst (λ w. w ≤ most_of m q j) (sym (x.led e).weighs) (best_most b s here (eqb (node_of q j).right 1))

  pub met_most : r.met ≡ true → r.raised ≤ most_of m q j
  met_most t = go (ℕ_discrete (node_of q j).right 2)
    where
      go : Dec ((node_of q j).right ≡ 2) → r.raised ≤ most_of m q j
      go (yes e) =
          let n : ℕ = (node_of q j).n in
          let l = equal_inside e t in
          subst (λ w. w ≤ most_of m q j) ((x.placed e).first.weighs l)
          (total_most b s here (plan_at (model_in m) n s r.place)
          (get_or_member (plans (model_in m) n s) r.place (first_plan (model_in m) n s) (subst (λ k. r.place < k) (sym (plan_count (model_in m) n s)) l)))
      go (no e) = led_most e

  pub total_small : r.met ≡ true → r.raised ≤ 12000 * 100 ^ 6
  total_small t = le_trans (met_most t) (most_small m q j b)

-- ---- the root

pub asked_at : {m q : Bytes} {counts : List ℕ} → Served m q → Counted m q counts
    → Asked m q counts
asked_at x c =
    record {
      given = record { prepared = x.prepared; nodes = x.nodes };
      counted = c;
      within = x.within;
    }

-- What is asked of a node that is judged.
abbrev pub JudgedAt : (m q truth : Bytes) → ℕ → ℕ → Type 0
JudgedAt m q truth j s = (j < node_count q) × (s < state_count m) × Supplied m q truth j s × (depth (formula q j) ≡ 0)

module _ {m q : Bytes} (given : Given m q) where
  root_node : root q < node_count q
  root_node = let n : 1 ≤ node_count q = given.nodes.formed.some_node in omega arith

  root_depth : depth (formula q (root q)) ≡ 0
  unfolding question_of
  root_depth = state_depth (formula q (root q)) given.nodes.formed.root_state

  pub root_judged : {truth : Bytes} → Supplied m q truth (root q) (start_of q) → {j s : ℕ} → j ≡ root q → s ≡ start_of q → JudgedAt m q truth j s
  root_judged {truth} x {s = s} e f =
      subst (λ j. JudgedAt m q truth j s) (sym e)
      (subst (λ s. JudgedAt m q truth (root q) s) (sym f) (root_node, given.nodes.formed.starts, x, root_depth))

  pub root_posed : {truth : Bytes} → Supplied m q truth (root q) (start_of q) → sets_bound (node_of q (root q)).operator ≡ true → Posed m q truth (root q) (start_of q)
  root_posed x o = record { node = root_node; sets = o; state = given.nodes.formed.starts; told = x.under_plan }

pub root_announces : (m q : Bytes) {j s : ℕ} {x : code.Verdict} (before after : List ℕ) → j ≡ root q → s ≡ start_of q
    → Announces (verdict (model_in m) s (formula q j)) x before after → Announces (root_verdict (model_in m) q) x before after
root_announces m q {x = x} before after e f =
    subst (λ v. Announces v x before after) (ap₂ (λ s j. verdict (model_in m) s (formula q j)) f e)

-- ---- a sheet's plan

module _ {m q : Bytes} (given : Given m q) (cs : Bytes) where
  pub root_sums : {truth nodes : List ℕ} {r n s count a d : ℕ} → Posed m q truth (root q) (start_of q) → Looks q (root q) nodes count a d
      → n ≡ (node_of q (root q)).n → s ≡ start_of q
      → ((π : Plan n) → plan_of (model_in m) n s cs ≡ ok π → r ≡ total naturals (model_in m) n s π (worth_of m q s a d (take count nodes))) → Sums m q cs r
  root_sums {nodes = nodes} {r} {n} {s} {count} {a} {d} posed l e f g =
      subst (λ n. (π : Plan n) → plan_of (model_in m) n (start_of q) cs ≡ ok π → r ≡ total naturals (model_in m) n (start_of q) π (raised_at m q (root q) (start_of q))) e
      (subst (λ w. (π : Plan n) → plan_of (model_in m) n (start_of q) cs ≡ ok π → r ≡ total naturals (model_in m) n (start_of q) π w) (handed_worth given posed l)
      (subst (λ s. (π : Plan n) → plan_of (model_in m) n s cs ≡ ok π → r ≡ total naturals (model_in m) n s π (worth_of m q s a d (take count nodes))) f g))

  module _ (b : Bounded m q (root q)) where
    here : start_of q < state_count m
    here = given.nodes.formed.starts

    member : (π : Plan (node_of q (root q)).n) → plan_of (model_in m) (node_of q (root q)).n (start_of q) cs ≡ ok π
        → Memᴰ π (plans (model_in m) (node_of q (root q)).n (start_of q))
    member π e = (plan_of_sound (model_in m) (node_of q (root q)).n (start_of q) cs π e).0

    pub spelled_most : {r : ℕ} → Spelled (model_in m) q cs → Sums m q cs r → r ≤ most_of m q (root q)
    spelled_most x f = subst (λ r. r ≤ most_of m q (root q)) (sym (f x.0 x.1)) (total_most b (start_of q) here x.0 (member x.0 x.1))

    -- The total, lowered, whether it meets the bound, and its lamp.
    pub weighs : {r : ℕ} {total : ℤ} {met : Bool} {lamp : lamps.Lamp} → Sums m q cs r → total ≡ lowered m q (root q) r
        → met ≡ meets_at m q (root q) (lowered m q (root q) r) → lamp ≡ lamp_code (lamp_at m q (root q) (lowered m q (root q) r))
        → Weighs (model_in m) q cs (record { total = total; met = met; lamp = lamp })
    weighs {r} {total} {met} {lamp} f e t l g a =
        let B : Bound = bound_as (relation (node_of q (root q)).right) m q (root q) (start_of q) in
        subst (λ g. (π : Plan g.steps) → plan_of (model_in m) g.steps (start_of q) cs ≡ ok π → (total ≡ g.total π) × (met ≡ g.met π) × (lamp ≡ lamp_code (g.lamp π)))
        (ok_same (sym (sets_goal (sets_at b (start_of q))) ∙ a))
        (λ π p.
        let z = ap (lowered m q (root q)) (f π p) ∙ sym ((raises_at b (start_of q) here).lowered π (member π p)) in
        (e ∙ z, t ∙ ap (meets_at m q (root q)) z, l ∙ ap (λ w. lamp_code (lamp_at m q (root q) w)) z))
