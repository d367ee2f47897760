-- What a prepared model gives to the lists: every state has a plan, and the outcomes of a choice stand in order.
use Prim.Native.Nat.{ℕ, zero, suc, ◌*◌, ◌^◌, ◌≤◌, ◌<◌}
use native.Mathlib.Nat.{mul-le-mul}
use native.Mathlib.Omega.{arith}
use mathlib.Core.Path.{◌≡◌, refl, sym, ap, subst, ◌∙◌}
use mathlib.Core.List.{List, Memᴰ}
use lib.ListN.{length, take}
use Rattle.logic.specs.Lists.{count_from, tabulate}
use Rattle.logic.specs.Model.{Model, Step, outcomes}
use Rattle.logic.specs.Quantity.{naturals, sum}
use Rattle.logic.specs.Limits.{multiply, plan_total}
use Rattle.logic.specs.Accepted.{Accepted, Executable}
use Rattle.models.specs.Layout.{state_count}
use Rattle.prepared_model.specs.promises.Rows.{choices_in, choice_in, outcomes_in, step_in, model_in, Prepared}
use Rattle.prepared_model.proofs.ReadByPlace.{states_are}
use Rattle.bounds.proofs.Powers.{power_le}
use Rattle.exact_plan.specs.promises.Totals.{combined}
use Rattle.exact_plan.proofs.Spans.{take_tabulate, multiply_map, combined_map}
use Rattle.logic.proofs.Naturals.{multiply_positive}

-- A worth times the denominator to the k.
pub worth_fits : {x v y d k : ℕ} → x ≡ v → v ≤ 12000 → y ≡ d ^ k → d ≤ 100 → k ≤ 6 → x * y < 2 ^ 64
worth_fits {x} {v} {y} {d} {k} e h f g i =
    let l : y ≤ 100 ^ 6 = rw f (power_le d k 6 g i) in
    let u : x ≤ 12000 = omega arith in
    omega (arith, mul-le-mul u l)

-- Every state has a plan.
pub plans_some : (m : Model) → Accepted m → (n s : ℕ) → s < length m.states → 0 < plan_total m n s
unfolding plan_total sum
plans_some m A zero s h = omega arith
plans_some m A (suc n) s h =
    let w = A.some_choice s h in
    let a : ℕ = w.0 in
    let x : Executable m s a = record { state = h; choice = subst (Memᴰ a) (sym w.2) (Memᴰ.head refl) } in
    let p : 0 < multiply (λ o. plan_total m n o.target) (outcomes m s a) =
    multiply_positive (λ o. plan_total m n o.target) (outcomes m s a) (λ o i. plans_some m A n o.target (A.inside x o i)) in
    subst (λ l. 0 < sum naturals (λ a. multiply (λ o. plan_total m n o.target) (outcomes m s a)) l) (sym w.2) (omega (arith, p))

-- What the first c outcomes of a choice make, by their numbers.
module _ {m : List ℕ} (w : Prepared m) (s i : ℕ) (h : s < state_count m) (g : i < choices_in m s) where
  pub first_outcomes : (c : ℕ) → c ≤ outcomes_in m s i → take c (outcomes (model_in m) s (choice_in m s i)) ≡ tabulate c (step_in m s i)
  first_outcomes c l = ap (take c) (w.rows s i h g) ∙ take_tabulate (step_in m s i) c (outcomes_in m s i) l

  pub all_outcomes : {c : ℕ} → c ≡ outcomes_in m s i → take c (outcomes (model_in m) s (choice_in m s i)) ≡ outcomes (model_in m) s (choice_in m s i)
  all_outcomes {c} e = first_outcomes c (omega arith) ∙ ap (λ n. tabulate n (step_in m s i)) e ∙ sym (w.rows s i h g)

  module _ (c : ℕ) (l : c ≤ outcomes_in m s i) where
    pub multiply_outcomes : (t : Step → ℕ) → multiply t (take c (outcomes (model_in m) s (choice_in m s i))) ≡ multiply (λ o. t (step_in m s i o)) (count_from 0 c)
    unfolding tabulate
    multiply_outcomes t = ap (multiply t) (first_outcomes c l) ∙ multiply_map t (step_in m s i) (count_from 0 c)

    pub combined_outcomes : (f : Step → List ℕ) → combined f (take c (outcomes (model_in m) s (choice_in m s i))) ≡ combined (λ o. f (step_in m s i o)) (count_from 0 c)
    unfolding tabulate
    combined_outcomes f = ap (combined f) (first_outcomes c l) ∙ combined_map f (step_in m s i) (count_from 0 c)

pub some_plan : {m : List ℕ} → Prepared m → (n s : ℕ) → s < state_count m → 0 < plan_total (model_in m) n s
some_plan {m} w n s h = plans_some (model_in m) w.accepted n s (rw (states_are m) h)
