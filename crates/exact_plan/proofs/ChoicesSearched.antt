-- The choices of a state searched one after the other: below each the first sum of one number of two lists that stand one behind the other.
use Prim.Native.Nat.{ℕ, suc, ◌+◌, ◌-◌, ◌*◌, ◌≤◌, ◌<◌}
use native.Mathlib.Nat.{le_refl}
use native.Mathlib.Numerals.{add-one}
use native.Mathlib.Omega.{arith}
use mathlib.Core.Path.{◌≡◌, refl, sym, ap, ap₂, subst, ◌∙◌}
use mathlib.Core.List.{List, [], ◌∷◌, ◌++◌, flat_map}
use lib.IntN.{ℤ}
use lib.ListN.{length, take, replicate, length-append}
use Rattle.logic.specs.Lists.{count_from, tabulate}
use Rattle.logic.specs.Model.{Step, outcomes}
use Rattle.logic.specs.Limits.{multiply, plan_total}
use Rattle.blocks.specs.Bytes.{Bytes}
use Rattle.blocks.specs.Splice.{splice}
use Rattle.blocks.proofs.Splice.{take_written}
use Rattle.prepared_model.specs.promises.Rows.{choices_in, choice_in, outcomes_in, step_in, model_in}
use Rattle.evaluation.specs.promises.Known.{Knows, Back}
use Rattle.evaluation.specs.promises.Worth.{worth_on}
use Rattle.evaluation.proofs.StepUndone.{back_none, back_same, knows_back, state_back}
use Rattle.exact_plan.specs.declared.search.Placed.{Placed}
use Rattle.exact_plan.specs.promises.Totals.{totals, combined, weighed, grid, part}
use Rattle.exact_plan.specs.promises.Room.{Room}
use Rattle.exact_plan.specs.promises.Listing.{Given, Here, Written, First, Found}
use Rattle.exact_plan.specs.promises.Search.{Searched, ways_below, Counted, stored_at}
use Rattle.std.specs.Prelude.{Option, None, Some}
use Rattle.exact_plan.proofs.Grid.{length_grid}
use Rattle.exact_plan.proofs.Spans.{combined_right, flat_map_more, flat_map_split}
use Rattle.exact_plan.proofs.RoomForEach.{room_at}
use Rattle.exact_plan.proofs.TotalsByFirstStep.{totals_length, weighed_length, choice_length}
use Rattle.exact_plan.proofs.PreparedChoices.{multiply_outcomes, combined_outcomes, all_outcomes}
use Rattle.exact_plan.proofs.PlansBelow.{all_counted, last_inside, last_product, stored_is, fewer_ways, way_some, way_few}
use Rattle.exact_plan.proofs.FirstPlace.{first_none, first_kept, first_more}
use Rattle.exact_plan.proofs.OneOutcomeJoined.{held_before, held_part}
use Rattle.exact_plan.proofs.OutcomesJoined.{Place}
use Rattle.exact_plan.proofs.ChoiceByChoice.{chosen, passed, all_chosen}

-- ---- no outcome

none_count : (P : Step → ℕ) (os : List Step) {c : ℕ} → c ≡ 0 → multiply P (take c os) ≡ 1
unfolding multiply
none_count P os e = ap (λ n. multiply P (take n os)) e

pub none_room : (P : Step → ℕ) (os : List Step) {n at size c : ℕ} → c ≡ 0 → Room n (multiply P (take c os)) at size → at + 1 ≤ size
none_room P os e R = omega (arith, R.fits, none_count P os e)

pub none_written : (P : Step → ℕ) (os : List Step) (F : Step → List ℕ) {m q : Bytes} {start : ℕ} {cone : List ℕ} {h at n c : ℕ} {trail : List ℕ} {gains : List ℤ} {v buf buf₁ : List ℕ}
    → c ≡ 0 → Room n (multiply P (take c os)) at (length buf) → Knows m q start cone (take h trail) gains v → buf₁ ≡ splice buf at (replicate 1 0)
    → Written (combined F (take c os)) m q start cone h at trail trail gains v buf buf₁ 1
unfolding combined
none_written P os F {at = at} {c = c} {buf = buf} {buf₁} z R K e =
    let one : 0 ∷ [] ≡ combined F (take c os) = sym (ap (λ n. combined F (take n os)) z) in
    record {
      back = back_none K;
      count = ap length one;
      listed = subst (λ l. take (at + length l) buf₁ ≡ take at buf ++ l) one (ap (take (at + 1)) e ∙ take_written buf at (0 ∷ []) (omega (arith, none_room P os z R)));
    }

-- ---- one choice

module _ {m q : Bytes} {start a d : ℕ} {truth cone table : List ℕ} (G : Given m q start a d truth cone table) {s p k : ℕ} (place : Place m d s p k)
    {c : ℕ} (every : c ≡ outcomes_in m s p) (at size : ℕ) (few : plan_total (model_in m) (k + 1) s ≤ 65536) (fits : at + stored_at m s p k + 282 ≤ size) where
  abbrev last : ℕ
  last = c - 1

  abbrev P : Step → ℕ
  P o = plan_total (model_in m) k o.target

  abbrev os : List Step
  os = outcomes (model_in m) s (choice_in m s p)

  counted : Counted m table s p k (outcomes_in m s p)
  counted = all_counted G.ready.prepared place.state place.choice G.counts k place.few few

  pub last_there : last < outcomes_in m s p
  last_there = last_inside counted every

  stored : at + (ways_below m s p k last + plan_total (model_in m) k (step_in m s p last).target) + 282 ≤ size
  stored = omega (arith, stored_is counted every)

  front_count : multiply P (take last os) ≡ ways_below m s p k last
  front_count = multiply_outcomes G.ready.prepared s p place.state place.choice last (omega (arith, last_there)) P

  pub front_room : Room (k + 1) (multiply P (take last os)) at size
  front_room =
      room_at (k + 1) (multiply P (take last os)) at size place.few
      (omega (arith, front_count, (fewer_ways counted (let z : last ≤ outcomes_in m s p = omega (arith, last_there) in z)).few))
      (omega (arith, front_count, stored))

  -- The first list stands at `at`, the second behind it.
  module _ {h : ℕ} {trail trail₁ : List ℕ} {gains₁ : List ℤ} {v₁ buf buf₁ : List ℕ} {slow : ℕ} (in_buf : length buf ≡ size)
      (W : Written (combined (weighed (model_in m) k (worth_on m q start a d cone (take h trail))) (take last os)) m q start cone h at trail trail₁ gains₁ v₁ buf buf₁ slow) where
    abbrev f : List Step → ℕ
    f = worth_on m q start a d cone (take h trail)

    slow_count : slow ≡ ways_below m s p k last
    slow_count = W.count ∙ choice_length (model_in m) k f (take last os) ∙ front_count

    pub slow_fits : at + slow ≤ size
    slow_fits = omega (arith, slow_count, stored)

    pub last_room : Room k (plan_total (model_in m) k (step_in m s p last).target) (at + slow) size
    last_room =
        room_at k (plan_total (model_in m) k (step_in m s p last).target) (at + slow) size (omega (arith, place.few)) (way_few counted last last_there)
        (omega (arith, slow_count, stored))

    module _ {trail₂ : List ℕ} {gains₂ : List ℤ} {v₂ buf₂ : List ℕ} {fast : ℕ} (whole : length buf₁ ≡ length buf)
        (Y : Written (weighed (model_in m) k (worth_on m q start a d cone (take h trail₁)) (step_in m s p last)) m q start cone h (at + slow) trail₁ trail₂ gains₂ v₂ buf₁ buf₂ fast) where
      xs : List ℕ
      xs = combined (weighed (model_in m) k f) (take last os)

      ys : List ℕ
      ys = weighed (model_in m) k (worth_on m q start a d cone (take h trail₁)) (step_in m s p last)

      fast_count : fast ≡ plan_total (model_in m) k (step_in m s p last).target
      fast_count = Y.count ∙ weighed_length (model_in m) k (worth_on m q start a d cone (take h trail₁)) (step_in m s p last)

      pub fast_some : 0 < fast
      fast_some = rw fast_count (way_some counted last last_there)

      pub sums_inside : at + slow + fast ≤ size
      sums_inside = omega (arith, slow_count, fast_count, stored)

      pub sums_few : slow * fast ≤ 65536
      sums_few = omega (arith, ap₂ ◌*◌ slow_count fast_count, last_product counted every)

      second : part buf₂ (at + slow) fast ≡ ys
      unfolding ys
      second = ap (part buf₂ (at + slow)) Y.count ∙ held_part buf₁ buf₂ (at + slow) ys (omega (arith, slow_fits)) Y.listed

      first : part buf₂ at slow ≡ xs
      unfolding xs ys
      first =
          ap (part buf₂ at) W.count
          ∙ held_part buf buf₂ at xs (omega (arith, slow_fits))
          (ap (λ n. take (at + n) buf₂) (sym W.count)
          ∙ held_before buf₁ buf₂ (at + slow) ys (omega (arith, slow_fits)) Y.listed (at + slow) (le_refl _)
          ∙ ap (λ n. take (at + n) buf₁) W.count
          ∙ W.listed)

      -- Their sums are the totals of all plans that begin with the choice.
      sums : grid (part buf₂ at slow) (part buf₂ (at + slow) fast) ≡ combined (weighed (model_in m) k f) os
      unfolding xs ys
      sums =
          let F : ℕ → List ℕ = λ o. weighed (model_in m) k f (step_in m s p o) in
          let w = G.ready.prepared in
          ap₂ grid first (second ∙ ap (λ T. weighed (model_in m) k (worth_on m q start a d cone T) (step_in m s p last)) W.back.kept)
          ∙ ap (λ l. grid l (F last)) (combined_outcomes w s p place.state place.choice last (omega (arith, last_there)) (weighed (model_in m) k f))
          ∙ ap (λ o. grid (combined F (count_from 0 last)) (F o)) (let z : last ≡ 0 + last = omega arith in z)
          ∙ sym (combined_right F 0 last)
          ∙ ap (λ n. combined F (count_from 0 n)) (let z : suc last ≡ outcomes_in m s p = omega (arith, last_there) in z)
          ∙ sym (combined_outcomes w s p place.state place.choice (outcomes_in m s p) (omega arith) (weighed (model_in m) k f))
          ∙ ap (combined (weighed (model_in m) k f)) (all_outcomes w s p place.state place.choice refl)

      pub sums_asked : {a b : List ℕ} → a ≡ part buf₂ at slow → b ≡ part buf₂ (at + slow) fast → (0 < length b) × (length a * length b ≤ 65536)
      unfolding xs ys
      sums_asked ea eb =
          let la : slow ≡ length _ = W.count ∙ sym (ap length first) ∙ sym (ap length ea) in
          let lb : fast ≡ length _ = Y.count ∙ sym (ap length second) ∙ sym (ap length eb) in
          (omega (arith, fast_some), omega (arith, sums_few, ap₂ ◌*◌ la lb))

      pub choice_searched : {x : ℕ} {place : Option ℕ} {a b : List ℕ} → a ≡ part buf₂ at slow → b ≡ part buf₂ (at + slow) fast → Found (grid a b) x place
          → Searched (combined (weighed (model_in m) k f) os) x (record { place = place; all = slow * fast })
      unfolding xs ys
      choice_searched {x} {place} ea eb F =
          record {
            place = subst (λ l. Found l x place) (ap₂ grid ea eb ∙ sums) F;
            all =
                ap₂ ◌*◌ (W.count ∙ sym (ap length first)) (Y.count ∙ sym (ap length second))
                ∙ sym (length_grid (part buf₂ at slow) (part buf₂ (at + slow) fast)) ∙ ap length sums;
          }

      pub choice_back : Back m q start cone h trail trail₂ gains₂ v₂
      choice_back = back_same W.back.kept Y.back

-- ---- choice after choice

-- The first i choices do not have x; `before` totals were passed.
pub record PassedOver (m q : Bytes) (start a d : ℕ) (cone : List ℕ) (h s k : ℕ) (trail₀ trail : List ℕ) (gains : List ℤ) (v : List ℕ) (x before i : ℕ) : Type 0 where
  pub below : i ≤ choices_in m s
  pub here : Here m q start d cone trail gains v h s (k + 1)
  pub kept : take h trail ≡ take h trail₀
  pub none : First (flat_map (chosen m q start a d cone s k (take h trail₀)) (passed m s i)) x before
  pub count : before ≡ length (flat_map (chosen m q start a d cone s k (take h trail₀)) (passed m s i))

pub passed_none : {m q : Bytes} {start a d : ℕ} {cone : List ℕ} {h s k : ℕ} {trail : List ℕ} {gains : List ℤ} {v : List ℕ} {x : ℕ}
    → Here m q start d cone trail gains v h s (k + 1) → PassedOver m q start a d cone h s k trail trail gains v x 0 0
unfolding tabulate count_from flat_map
passed_none H = record { below = omega arith; here = H; kept = refl; none = first_none; count = refl }

module _ {m q : Bytes} {start a d : ℕ} {truth cone table : List ℕ} (G : Given m q start a d truth cone table)
    {h s k x before i : ℕ} {trail₀ trail : List ℕ} {gains : List ℤ} {v : List ℕ} (few : plan_total (model_in m) (k + 1) s ≤ 65536)
    (O : PassedOver m q start a d cone h s k trail₀ trail gains v x before i) where
  abbrev C : ℕ → List ℕ
  C = chosen m q start a d cone s k (take h trail₀)

  abbrev T : List ℕ
  T = totals (model_in m) (k + 1) s (worth_on m q start a d cone (take h trail₀))

  whole : flat_map C (passed m s (choices_in m s)) ≡ T
  whole = all_chosen G (k + 1) k (add-one k) (take h trail₀) O.here.inside

  size : length T ≡ plan_total (model_in m) (k + 1) s
  size = totals_length (model_in m) (k + 1) s (worth_on m q start a d cone (take h trail₀))

  module _ (g : i < choices_in m s) {r : Placed} (S : Searched (chosen m q start a d cone s k (take h trail) (choice_in m s i)) x r) where
    S₀ : Searched (C (choice_in m s i)) x r
    S₀ = subst (λ t. Searched (chosen m q start a d cone s k t (choice_in m s i)) x r) O.kept S

    next : flat_map C (passed m s i) ++ C (choice_in m s i) ≡ flat_map C (passed m s (i + 1))
    next = sym (ap (λ n. flat_map C (passed m s n)) (add-one i) ∙ flat_map_more C (choice_in m s) i)

    both : {j : ℕ} → First (C (choice_in m s i)) x j → First (flat_map C (passed m s (i + 1))) x (before + j)
    both {j} F =
        subst (λ l. First l x (before + j)) next
        (subst (λ n. First (flat_map C (passed m s i) ++ C (choice_in m s i)) x (n + j)) (sym O.count)
        (first_more (C (choice_in m s i)) (subst (First (flat_map C (passed m s i)) x) O.count O.none) F))

    next_length : length (flat_map C (passed m s (i + 1))) ≡ before + r.all
    next_length = sym (ap length next) ∙ length-append (flat_map C (passed m s i)) (C (choice_in m s i)) ∙ ap₂ ◌+◌ (sym O.count) (sym S₀.all)

    rest : (l : List ℕ) × (flat_map C (passed m s (i + 1)) ++ l ≡ T)
    rest = let u = flat_map_split C (choice_in m s) (i + 1) (choices_in m s) (omega arith) in (u.0, u.1 ∙ whole)

    within : before + r.all ≤ 65536
    within = omega (arith, next_length, length-append (flat_map C (passed m s (i + 1))) rest.0, ap length rest.1, size)

    pub passed_few : before + r.all ≤ 65536
    passed_few = within

    here_found : {o : Option ℕ} → r.place ≡ o → Found (C (choice_in m s i)) x o
    here_found e = subst (Found (C (choice_in m s i)) x) e S₀.place

    pub place_few : {j : ℕ} → r.place ≡ Some j → before + j ≤ 65536
    place_few e = omega (arith, within, (here_found e).0, S₀.all)

    pub choice_found : {j : ℕ} → r.place ≡ Some j → (before + j < length T) × First T x (before + j)
    choice_found {j} e =
        let f = here_found e in
        let inside : before + j < length (flat_map C (passed m s (i + 1))) = omega (arith, next_length, S₀.all, f.0) in
        (omega (arith, inside, length-append (flat_map C (passed m s (i + 1))) rest.0, ap length rest.1), subst (λ l. First l x (before + j)) rest.1 (first_kept rest.0 (both f.1) inside))

    pub choice_passed : r.place ≡ None → {trail₁ : List ℕ} {gains₁ : List ℤ} {v₁ : List ℕ} → Back m q start cone h trail trail₁ gains₁ v₁
        → PassedOver m q start a d cone h s k trail₀ trail₁ gains₁ v₁ x (before + r.all) (i + 1)
    choice_passed e {trail₁} {gains₁} {v₁} B =
        record {
          below = omega arith;
          here = record {
            steps = O.here.steps;
            deep = O.here.deep;
            inside = O.here.inside;
            whole = ap length B.kept ∙ O.here.whole;
            state = state_back B ∙ O.here.state;
            knows = knows_back B;
          };
          kept = B.kept ∙ O.kept;
          none = subst (λ n. First (flat_map C (passed m s (i + 1))) x (before + n)) (sym S₀.all) (both (here_found e));
          count = sym next_length;
        }

  pub all_passed : choices_in m s ≤ i → First T x before
  all_passed g =
      let e : i ≡ choices_in m s = omega (arith, O.below) in
      subst (λ l. First l x before) (ap (λ n. flat_map C (passed m s n)) e ∙ whole) O.none

  pub all_counted_there : choices_in m s ≤ i → before ≡ length T
  all_counted_there g =
      let e : i ≡ choices_in m s = omega (arith, O.below) in
      O.count ∙ ap length (ap (λ n. flat_map C (passed m s n)) e ∙ whole)
