-- What the code writes. With what is still to be written below the outcomes that are left, the buffer is as it is to be; each outcome_counted writes a part of that,
-- and at the end nothing is left.
use Prim.Native.Nat.{ℕ, zero, suc, ◌+◌, ◌*◌, ◌-◌, ◌/◌, ◌%◌, ◌≤◌, ◌<◌}
use native.Mathlib.Omega.{arith}
use native.Mathlib.Numerals.{add-one}
use native.Mathlib.Nat.{mul-div_right, div-lt_iff_lt-mul, mod-lt, suc-mul, mul-le-mul_right}
use mathlib.Core.Path.{◌≡◌, refl, sym, ap, ap₂, subst, ◌∙◌}
use mathlib.Core.Bool.{true}
use mathlib.Core.List.{List, [], ◌∷◌, ◌++◌, flat_map}
use lib.ListN.{length, get_or, set, length-append}
use Rattle.logic.specs.Model.{Model, Step, outcomes}
use Rattle.logic.specs.Plan.{choices}
use Rattle.logic.specs.Limits.{plan_total}
use Rattle.logic.specs.promises.Extension.{first_plan}
use Rattle.blocks.specs.Splice.{splice}
use Rattle.blocks.proofs.Splice.{splice_none, splice_one, splice_behind}
use Rattle.models.specs.Layout.{state_count}
use Rattle.prepared_model.specs.promises.Rows.{choices_in, outcomes_in, step_in, model_in, Prepared}
use Rattle.limits.specs.promises.Totals.{Totals}
use Rattle.logic.specs.promises.MostChoices.{most_choices}
use Rattle.plan_choices.specs.promises.Numbered.{listed, parts_at, below, plan_at, Found, Wrote}
use Rattle.plan_choices.proofs.PlaceByDivision.{plan_at_is}
use Rattle.plan_choices.proofs.Ways.{factors, left_step, left_end, later, ways_left, OutcomeCounted, outcome_counted}

-- ---- a choice

module _ (m : Model) where
  -- The choices below each outcome of a list, at place k.
  abbrev pub chosen : (n : ℕ) → List Step → ℕ → List ℕ
  chosen n l k = flat_map (choices n) (parts_at (below m n) (λ o. plan_at m n o.target) l k)

  pub from_none : (n s i at : ℕ) (l : List ℕ) → n ≡ 0 → Wrote (choices n (plan_at m n s i)) (most_choices n) l l at at
  unfolding choices
  from_none zero s i at l e = record { wrote = sym (splice_none l at); to = omega arith; size = omega arith }
  from_none (suc n) s i at l e = absurd (omega arith)

  choice_wrote : (n s i a size place at next : ℕ) (old new : List ℕ) → Found m n s i a size place → at < length old
      → Wrote (chosen n (outcomes m s a) place) (4 * most_choices n) (set old at a) new (at + 1) next
      → Wrote (choices (suc n) (plan_at m (suc n) s i)) (most_choices (suc n)) old new at next
  unfolding choices plan_at most_choices
  choice_wrote n s i a size place at next old new f h w =
      let x : List ℕ = chosen n (outcomes m s a) place in
      subst (λ y. Wrote (y.0 ∷ chosen n (outcomes m s y.0) y.1) (1 + 4 * most_choices n) old new at next) f.block
      (record {
        wrote = w.wrote ∙ ap (λ l. splice l (at + 1) x) (splice_one old at a h) ∙ splice_behind old at (a ∷ []) x (omega arith);
        to = omega (arith, w.to);
        size = omega (arith, w.size);
      })

  -- A choice v, and what stands below its outcomes l.
  pub from_choice : {n s i a v size place at next : ℕ} {old new : List ℕ} {l : List Step} → (n ≡ 0 → ⊥) → Found m (n - 1) s i a size place → v ≡ a → l ≡ outcomes m s a
      → at < length old → Wrote (chosen (n - 1) l place) (4 * most_choices (n - 1)) (set old at v) new (at + 1) next → Wrote (choices n (plan_at m n s i)) (most_choices n) old new at next
  from_choice {n} {s} {i} {a} {v} {size} {place} {at} {next} {old} {new} z f e o h w =
      let k : suc (n - 1) ≡ n = omega arith in
      subst (λ n. Wrote (choices n (plan_at m n s i)) (most_choices n) old new at next) k
      (choice_wrote (n - 1) s i a size place at next old new f h
      (subst (λ y. Wrote (chosen (n - 1) (outcomes m s a) place) (4 * most_choices (n - 1)) (set old at y) new (at + 1) next) e
      (subst (λ y. Wrote (chosen (n - 1) y place) (4 * most_choices (n - 1)) (set old at v) new (at + 1) next) o w)))

-- ---- the loop over the outcomes

module _ (m : List ℕ) (n s i place : ℕ) (old : List ℕ) (at : ℕ) where
  -- What is to be written below the outcomes from j on, at what is left of the place.
  abbrev to_write : ℕ → ℕ → List ℕ
  to_write j rest = chosen (model_in m) n (later m s i j) rest

  -- Outcomes before j are done: with what is still to be written, the buffer is as it is to be.
  pub record Underway (j size rest : ℕ) (new : List ℕ) (next : ℕ) : Type 0 where
    pub sized : size ≡ ways_left m s i n j
    pub inside : rest < size
    pub few : size ≤ 65536
    pub write : splice new next (to_write j rest) ≡ splice old at (to_write 0 place)
    pub to : next + length (to_write j rest) ≡ at + length (to_write 0 place)
    pub near : next ≤ at + j * most_choices n
    pub kept : length new ≡ length old

  pub below_start : (size : ℕ) → size ≡ ways_left m s i n 0 → place < size → size ≤ 65536 → Underway 0 size place old at
  below_start size e h f = record { sized = e; inside = h; few = f; write = refl; to = refl; near = omega arith; kept = refl }

  pub below_end : {j size rest next : ℕ} {new : List ℕ} → outcomes_in m s i ≤ 4 → j ≡ outcomes_in m s i → Underway j size rest new next
      → Wrote (to_write 0 place) (4 * most_choices n) old new at next
  unfolding flat_map parts_at
  below_end {j} {size} {rest} {next} {new} f e here =
      let none : to_write j rest ≡ [] = ap (λ l. chosen (model_in m) n l rest) (left_end (step_in m s i) (outcomes_in m s i) j e) in
      let most : j * most_choices n ≤ 4 * most_choices n = mul-le-mul_right (most_choices n) (omega arith) in
      record {
        wrote = sym (splice_none new next) ∙ ap (splice new next) (sym none) ∙ here.write;
        to = omega (arith, here.to, ap length none);
        size = omega (arith, here.to, ap length none, here.near, most);
      }

-- A outcome_counted of the loop, for an outcome that leads to t.
module _ {m : List ℕ} {n s i place : ℕ} {old : List ℕ} {at j size rest next : ℕ} {new : List ℕ}
    (here : Underway m n s i place old at j size rest new next) (l : j < outcomes_in m s i) where
  pub below_turn : {counts : List ℕ} → Prepared m × Totals true (model_in m) 7 counts → s < state_count m → i < choices_in m s → n ≤ 6
      → {t : ℕ} → t ≡ (step_in m s i j).target → OutcomeCounted m counts n s i j t
  below_turn p h g k e = outcome_counted p.0 s h i g p.1 n k e l (omega (arith, here.sized, here.inside)) (omega (arith, here.sized, here.few))

  pub fits : outcomes_in m s i ≤ 4 → at + 4 * most_choices n ≤ length old → next + most_choices n ≤ length new
  fits f h =
      let most : suc j * most_choices n ≤ 4 * most_choices n = mul-le-mul_right (most_choices n) (omega arith) in
      omega (arith, here.near, here.kept, suc-mul j (most_choices n), most)

  module _ {counts : List ℕ} {t : ℕ} (u : OutcomeCounted m counts n s i j t) where
    -- The division is exact, and both parts of the place are in range.
    pub divides : {y : ℕ} → y ≡ get_or counts (32 * n + t) 0 → size / y ≡ ways_left m s i n (j + 1)
    divides e = ap₂ (λ x y. x / y) (here.sized ∙ u.split) (e ∙ u.counted) ∙ mul-div_right (ways_left m s i n (j + 1)) u.some

    module _ {v : ℕ} (e : v ≡ ways_left m s i n (j + 1)) where
      pub quotient : rest / v < plan_total (model_in m) n t
      quotient = rw e ((div-lt_iff_lt-mul u.later).1 (rw (here.sized ∙ u.split) at here.inside))

      write_step : to_write m n s i place old at j rest
          ≡ choices n (plan_at (model_in m) n t (rest / v)) ++ to_write m n s i place old at (j + 1) (rest % v)
      unfolding flat_map parts_at
      write_step =
          ap (λ l. chosen (model_in m) n l rest) (left_step (step_in m s i) (outcomes_in m s i) j l)
          ∙ ap₂ (λ t v. choices n (plan_at (model_in m) n t (rest / v)) ++ to_write m n s i place old at (j + 1) (rest % v)) (sym u.target) (sym e)

      pub below_more : {next' : ℕ} {new' : List ℕ} → next + most_choices n ≤ length new
          → Wrote (choices n (plan_at (model_in m) n t (rest / v))) (most_choices n) new new' next next' → length new' ≡ length new
          → Underway m n s i place old at (j + 1) v (rest % v) new' next'
      below_more h w k =
          let x : List ℕ = choices n (plan_at (model_in m) n t (rest / v)) in
          let y : List ℕ = to_write m n s i place old at (j + 1) (rest % v) in
          let f = factors (plan_total (model_in m) n t) (ways_left m s i n (j + 1)) (sym u.split) (omega (arith, here.sized, here.inside)) in
          record {
            sized = e;
            inside = mod-lt rest (rw e u.later);
            few = omega (arith, here.sized, here.few, f.3);
            write = ap₂ (λ l q. splice l q y) w.wrote w.to
                ∙ splice_behind new next x y (omega (arith, w.size))
                ∙ ap (splice new next) (sym write_step)
                ∙ here.write;
            to = omega (arith, w.to, here.to, ap length write_step, length-append x y);
            near = rw (add-one j) (omega (arith, here.near, w.to, w.size, suc-mul j (most_choices n)));
            kept = k ∙ here.kept;
          }

-- ---- the whole

-- What stands at the beginning of the buffer is the plan of the list.
pub nth_listed : (m : Model) (n s i next : ℕ) (old new : List ℕ) → i < plan_total m n s
    → Wrote (choices n (plan_at m n s i)) (most_choices n) old new 0 next
    → (new ≡ splice old 0 (choices n (listed m n s i))) × (next ≡ length (choices n (listed m n s i)))
nth_listed m n s i next old new h w =
    let here : choices n (plan_at m n s i) ≡ choices n (listed m n s i) = ap (choices n) (sym (plan_at_is m n s i (first_plan m n s) h)) in
    (w.wrote ∙ ap (splice old 0) here, omega (arith, w.to, ap length here))
