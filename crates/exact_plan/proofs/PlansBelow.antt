-- The number of plans below the first outcomes of a choice, and how many numbers the search of a choice stores.
use Prim.Native.Nat.{ℕ, zero, suc, ◌+◌, ◌-◌, ◌*◌, ◌≤◌, ◌<◌, max}
use native.Mathlib.Nat.{le_refl, le_trans, suc-mul, mul-suc}
use native.Mathlib.Numerals.{add-one}
use native.Mathlib.Omega.{arith}
use native.Mathlib.Decide.{ℕ_discrete}
use mathlib.Core.Path.{◌≡◌, refl, sym, ap, ap₂, subst, ◌∙◌}
use mathlib.Core.List.{List, flat_map}
use lib.ListN.{get_or, length}
use Rattle.logic.specs.Lists.{count_from}
use Rattle.logic.specs.Model.{Step, outcomes}
use Rattle.logic.specs.Limits.{multiply, plan_total}
use Rattle.logic.proofs.Naturals.{multiply_positive}
use Rattle.logic.proofs.Tests.{counted_range}
use Rattle.blocks.specs.Bytes.{Bytes}
use Rattle.models.specs.Layout.{state_count}
use Rattle.prepared_model.specs.promises.Rows.{choices_in, choice_in, outcomes_in, step_in, model_in, Prepared}
use Rattle.prepared_model.proofs.ReadByPlace.{some_outcome}
use Rattle.exact_plan.specs.promises.Totals.{combined, weighed}
use Rattle.exact_plan.specs.promises.Listing.{Counts}
use Rattle.exact_plan.specs.promises.Search.{ways_below, Counted, stored_at}
use Rattle.exact_plan.proofs.Spans.{multiply_right, multiply_within, multiply_one, flat_map_within}
use Rattle.exact_plan.proofs.TotalsByFirstStep.{totals_length, totals_step, choice_length}
use Rattle.exact_plan.proofs.PreparedChoices.{some_plan, multiply_outcomes, all_outcomes}

module _ {m : Bytes} {table : List ℕ} {s i k c : ℕ} (C : Counted m table s i k c) where
  abbrev t : ℕ → ℕ
  t o = plan_total (model_in m) k (step_in m s i o).target

  pub way_inside : (o : ℕ) → o < c → (step_in m s i o).target < state_count m
  way_inside o h = C.prepared.inside s i o C.state (C.choice, omega (arith, C.outcomes))

  pub way_some : (o : ℕ) → o < c → 0 < t o
  way_some o h = some_plan C.prepared k (step_in m s i o).target (way_inside o h)

  ways_within : (lo n : ℕ) → lo + n ≤ c → multiply t (count_from lo n) ≤ 65536
  ways_within lo n h = le_trans (multiply_within t c way_some lo n h) C.few

  pub way_few : (o : ℕ) → o < c → t o ≤ 65536
  way_few o h = subst (λ n. n ≤ 65536) (multiply_one t o) (ways_within o 1 (omega arith))

  pub way_counted : (o : ℕ) → o < c → {x y : ℕ} → y ≡ (step_in m s i o).target → x ≡ get_or table (32 * k + y) 0 → x ≡ t o
  way_counted o h e f = f ∙ ap (λ y. get_or table (32 * k + y) 0) e ∙ C.counts.right k (step_in m s i o).target C.steps (way_inside o h) (way_few o h)

  pub fewer_ways : {b : ℕ} → b ≤ c → Counted m table s i k b
  fewer_ways {b} h =
      record {
        prepared = C.prepared;
        counts = C.counts;
        state = C.state;
        choice = C.choice;
        steps = C.steps;
        outcomes = omega (arith, C.outcomes);
        few = ways_within 0 b (omega arith);
      }

  -- One outcome more.
  module _ (o : ℕ) (h : o < c) {n x : ℕ} (e : n ≡ ways_below m s i k o) (f : x ≡ t o) where
    pub next_way : n * x ≡ ways_below m s i k (o + 1)
    next_way = ap₂ ◌*◌ e f ∙ sym (ap (λ n. multiply t (count_from 0 n)) (add-one o) ∙ multiply_right t 0 o ∙ ap (λ z. multiply t (count_from 0 o) * t z) (let z : 0 + o ≡ o = omega arith in z))

    pub next_fits : n * x ≤ 65536
    next_fits = rw next_way (ways_within 0 (o + 1) (omega arith))

-- With no step left there is one way.
pub one_way : (m : Bytes) (s i c : ℕ) {k : ℕ} → k ≡ 0 → ways_below m s i k c ≡ 1
unfolding multiply count_from plan_total
one_way m s i c e = ap (λ k. ways_below m s i k c) e ∙ ones 0 c
  where
    ones : (lo n : ℕ) → multiply (λ o. plan_total (model_in m) 0 (step_in m s i o).target) (count_from lo n) ≡ 1
    ones lo zero = refl
    ones lo (suc n) = let z : 1 * 1 ≡ 1 = omega arith in ap (λ k. 1 * k) (ones (suc lo) n) ∙ z

-- Two numbers that are not 0 are together at most one more than their product.
sum_product : (a b : ℕ) → 0 < a → 0 < b → a + b ≤ a * b + 1
sum_product zero b h g = absurd (omega arith)
sum_product (suc a) zero h g = absurd (omega arith)
sum_product (suc a) (suc b) h g = omega (arith, suc-mul a (suc b), mul-suc a b)

module _ {m : Bytes} (w : Prepared m) {s i : ℕ} (here : s < state_count m) (choice : i < choices_in m s) where
  -- The list below a choice is as long as there are ways.
  pub ways_counted : (j : ℕ) (f : List Step → ℕ) → length (combined (weighed (model_in m) j f) (outcomes (model_in m) s (choice_in m s i))) ≡ ways_below m s i j (outcomes_in m s i)
  ways_counted j f =
      let P : Step → ℕ = λ o. plan_total (model_in m) j o.target in
      choice_length (model_in m) j f (outcomes (model_in m) s (choice_in m s i))
      ∙ ap (multiply P) (sym (all_outcomes w s i here choice refl))
      ∙ multiply_outcomes w s i here choice (outcomes_in m s i) (le_refl _) P

  -- All plans that begin with a choice are among those of its state.
  choice_within : (j : ℕ) → ways_below m s i j (outcomes_in m s i) ≤ plan_total (model_in m) (suc j) s
  choice_within j =
      let f : List Step → ℕ = λ _. 0 in
      let C : ℕ → List ℕ = λ c. combined (weighed (model_in m) j f) (outcomes (model_in m) s c) in
      omega (
        arith,
        flat_map_within C (choice_in m s) i (choices_in m s) choice,
        ap (λ l. length (flat_map C l)) (sym (w.choices s here)) ∙ ap length (sym (totals_step (model_in m) j s f)) ∙ totals_length (model_in m) (suc j) s f,
        ways_counted j f,
      )

  pub all_counted : {table : List ℕ} → Counts m table → (k : ℕ) → k + 1 ≤ 6 → plan_total (model_in m) (k + 1) s ≤ 65536 → Counted m table s i k (outcomes_in m s i)
  all_counted T k steps few =
      record {
        prepared = w;
        counts = T;
        state = here;
        choice = choice;
        steps = omega arith;
        outcomes = le_refl _;
        few = omega (arith, choice_within k, ap (λ n. plan_total (model_in m) n s) (add-one k));
      }

-- ---- the search of a choice: all outcomes but the last, and the last

module _ {m : Bytes} {table : List ℕ} {s i k c : ℕ} (C : Counted m table s i k (outcomes_in m s i)) (all : c ≡ outcomes_in m s i) where
  abbrev final : ℕ
  final = plan_total (model_in m) k (step_in m s i (c - 1)).target

  pub last_inside : c - 1 < outcomes_in m s i
  last_inside = omega (arith, some_outcome C.prepared s C.state i C.choice)

  pub last_product : ways_below m s i k (c - 1) * final ≤ 65536
  last_product = next_fits C (c - 1) last_inside (refl) (refl)

  front_some : 0 < ways_below m s i k (c - 1)
  front_some =
      multiply_positive (λ o. plan_total (model_in m) k (step_in m s i o).target) (count_from 0 (c - 1))
      (λ o u. way_some C o (omega (arith, (counted_range 0 (c - 1) u).1, last_inside)))

  pub stored_is : ways_below m s i k (c - 1) + final ≡ stored_at m s i k
  stored_is = ap (λ n. ways_below m s i k (n - 1) + plan_total (model_in m) k (step_in m s i (n - 1)).target) all

  pub stored_few : stored_at m s i k ≤ 65537
  stored_few = omega (arith, sum_product (ways_below m s i k (c - 1)) final front_some (way_some C (c - 1) last_inside), last_product, stored_is)

-- One number more among which the greatest is sought.
pub most_more : (f : ℕ → ℕ) {i most x new : ℕ} → ((j : ℕ) → j < i → f j ≤ most) → x ≡ f i → new ≡ max most x → (j : ℕ) → j < i + 1 → f j ≤ new
most_more f {i} {new = new} h e g j l = go (ℕ_discrete j i)
  where
    go : Dec (j ≡ i) → f j ≤ new
    go (yes z) = rw z (omega arith)
    go (no z) = omega (arith, h j (omega arith))
