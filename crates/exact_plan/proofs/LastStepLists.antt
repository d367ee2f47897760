-- Where one step decides, all plans that begin with a choice have one total: the weights of the outcomes whose lanes are 1, times the denominator to
-- the steps left. So the list of a state is that of its choices' totals, each as often as there are plans below the choice.
use Prim.Native.Nat.{ℕ, zero, suc, ◌+◌, ◌*◌, ◌^◌, ◌≤◌, ◌<◌}
use native.Mathlib.Nat.{add-mul, mul_assoc, suc-mul, mul-le-mul, mul-le-mul_left, mul-one, add-le-add}
use native.Mathlib.Numerals.{add-one}
use native.Mathlib.Omega.{arith}
use mathlib.Core.Path.{◌≡◌, refl, sym, ap, ap₂, subst, ◌∙◌}
use mathlib.Core.Logic.{⊎_elim}
use mathlib.Core.List.{List, [], ◌∷◌, ◌++◌, map, flat_map, append_assoc}
use lib.IntN.{ℤ}
use lib.ListN.{length, take, replicate, length-append, length-replicate, replicate-append-replicate}
use lib.Seq.{take-append-add}
use Rattle.logic.specs.Lists.{count_from, tabulate}
use Rattle.logic.specs.Model.{Step, outcomes}
use Rattle.logic.specs.Bound.{one_if}
use Rattle.logic.specs.Limits.{multiply, plan_total}
use Rattle.logic.proofs.Depth.{sat_same}
use Rattle.blocks.specs.Bytes.{Bytes}
use Rattle.blocks.specs.Block.{sum_below}
use Rattle.blocks.specs.Splice.{splice}
use Rattle.blocks.proofs.Splice.{take_written}
use Rattle.models.specs.Layout.{state_count, denominator_of}
use Rattle.prepared_model.specs.promises.Rows.{choices_in, choice_in, outcomes_in, step_in, Offers, lane, model_in, Prepared}
use Rattle.prepared_model.proofs.ReadByPlace.{states_are, denominator_is, weights_sum}
use Rattle.prepared_model.proofs.BitSums.{lane_bit}
use Rattle.prepared_question.specs.promises.Nodes.{formula}
use Rattle.evaluation.specs.promises.Path.{steps_of}
use Rattle.evaluation.specs.promises.Reached.{root_of, on_path, Cone, Ready}
use Rattle.evaluation.specs.promises.Worth.{worth_on}
use Rattle.evaluation.proofs.Trails.{steps_length}
use Rattle.evaluation.proofs.PathWorth.{worth_condition}
use Rattle.evaluation.proofs.StepUndone.{back_none}
use Rattle.last_step.specs.promises.Late.{Deep}
use Rattle.last_step.specs.promises.Masks.{BeforeLast, Ended}
use Rattle.bounds.proofs.Powers.{power_le}
use Rattle.exact_plan.specs.promises.Totals.{totals, grid, combined, weighed}
use Rattle.exact_plan.specs.promises.Listing.{Given, Here, Written}
use Rattle.exact_plan.specs.promises.Search.{ways_below}
use Rattle.exact_plan.specs.promises.Last.{Marked, lane_total, lane_row, lane_totals}
use Rattle.exact_plan.proofs.Spans.{combined_right, multiply_right, flat_map_more, flat_map_within}
use Rattle.exact_plan.proofs.TotalsBounded.{totals_alike}
use Rattle.exact_plan.proofs.TotalsByFirstStep.{totals_length, totals_step}
use Rattle.exact_plan.proofs.PreparedChoices.{all_outcomes, combined_outcomes}
use Rattle.exact_plan.proofs.PlansBelow.{ways_counted}
use Rattle.exact_plan.proofs.ListsWritten.{reached}
use Rattle.exact_plan.proofs.ChoiceByChoice.{chosen, all_chosen}

-- ---- lists of equal numbers

map-replicate : (g : ℕ → ℕ) (n a : ℕ) → map g (replicate n a) ≡ replicate n (g a)
map-replicate g zero a = refl
map-replicate g (suc n) a = ap (λ l. g a ∷ l) (map-replicate g n a)

grid_replicate : (n k a b : ℕ) → grid (replicate n a) (replicate k b) ≡ replicate (n * k) (a + b)
unfolding grid flat_map
grid_replicate zero k a b = let z : 0 * k ≡ 0 = omega arith in rw z refl
grid_replicate (suc n) k a b =
    ap₂ ◌++◌ (map-replicate (λ y. a + y) k b) (grid_replicate n k a b)
    ∙ replicate-append-replicate k (n * k) (a + b)
    ∙ ap (λ i. replicate i (a + b)) (let z : k + n * k ≡ suc n * k = omega (arith, suc-mul n k) in z)

combined_alike : (F : ℕ → List ℕ) (t y : ℕ → ℕ) (n : ℕ) → ((o : ℕ) → o < n → F o ≡ replicate (t o) (y o)) → combined F (count_from 0 n) ≡ replicate (multiply t (count_from 0 n)) (sum_below n y)
unfolding combined multiply count_from sum_below
combined_alike F t y zero h = refl
combined_alike F t y (suc n) h =
    combined_right F 0 n
    ∙ ap₂ grid (combined_alike F t y n (λ o l. h o (omega arith))) (let z : 0 + n ≡ n = omega arith in rw z (h n (omega arith)))
    ∙ grid_replicate (multiply t (count_from 0 n)) (t n) (sum_below n y) (y n)
    ∙ ap (λ k. replicate k (sum_below n y + y n)) (sym (multiply_right t 0 n ∙ ap (λ o. multiply t (count_from 0 n) * t o) (let z : 0 + n ≡ n = omega arith in z)))

sum_times : (w v : ℕ → ℕ) (d n : ℕ) → sum_below n (λ o. w o * (v o * d)) ≡ sum_below n (λ o. w o * v o) * d
unfolding sum_below
sum_times w v d zero = omega arith
sum_times w v d (suc n) = ap₂ ◌+◌ (sum_times w v d n) (sym (mul_assoc (w n) (v n) d)) ∙ sym (add-mul (sum_below n (λ o. w o * v o)) (w n * v n) d)

-- ---- the total of a choice is small

sum_within : (f g : ℕ → ℕ) (n : ℕ) → ((o : ℕ) → f o ≤ g o) → sum_below n f ≤ sum_below n g
unfolding sum_below
sum_within f g zero h = omega arith
sum_within f g (suc n) h = add-le-add (sum_within f g n h) (h n)

module _ {m : Bytes} (w : Prepared m) {s i : ℕ} (here : s < state_count m) (choice : i < choices_in m s) where
  pub lanes_fit : (x k : ℕ) → k ≤ 6 → {a b : ℕ} → a ≡ sum_below (outcomes_in m s i) (λ o. (step_in m s i o).weight * lane x (4 * i + o)) → b ≡ denominator_of m ^ k → a * b < 2 ^ 64
  lanes_fit x k h {a} {b} e f =
      let l : a ≤ 100 =
      omega (
        arith,
        sum_within (λ o. (step_in m s i o).weight * lane x (4 * i + o)) (λ o. (step_in m s i o).weight) (outcomes_in m s i)
            (λ o.
            let n : ℕ = (step_in m s i o).weight in
            subst (λ z. n * lane x (4 * i + o) ≤ z) (mul-one n) (mul-le-mul_left n (⊎_elim (λ z. omega arith) (λ z. omega arith) (lane_bit x (4 * i + o))))),
        weights_sum w s here i choice,
        w.parts,
      ) in
      omega (arith, mul-le-mul l (let z : b ≤ 100 ^ 6 = rw f (power_le (denominator_of m) k 6 w.parts h) in z))

-- ---- the choices of a state

flat_map_alike : (f e : ℕ → List ℕ) (g : ℕ → ℕ) (n : ℕ) → ((i : ℕ) → i < n → f (g i) ≡ e i) → flat_map f (tabulate n g) ≡ flat_map e (tabulate n (λ i. i))
unfolding tabulate count_from flat_map
flat_map_alike f e g zero h = refl
flat_map_alike f e g (suc n) h =
    flat_map_more f g n ∙ ap₂ ◌++◌ (flat_map_alike f e g n (λ i l. h i (omega arith))) (h n (omega arith)) ∙ sym (flat_map_more e (λ i. i) n)

length_alike : (f e : ℕ → List ℕ) (g : ℕ → ℕ) (n : ℕ) → ((i : ℕ) → i < n → length (f (g i)) ≡ length (e i)) → length (flat_map f (tabulate n g)) ≡ length (flat_map e (tabulate n (λ i. i)))
unfolding tabulate count_from flat_map
length_alike f e g zero h = refl
length_alike f e g (suc n) h =
    omega (
      arith,
      ap length (flat_map_more f g n) ∙ length-append (flat_map f (tabulate n g)) (f (g n)),
      ap length (flat_map_more e (λ i. i) n) ∙ length-append (flat_map e (tabulate n (λ i. i))) (e n),
      length_alike f e g n (λ i l. h i (omega arith)),
      h n (omega arith),
    )

module _ {m : Bytes} (w : Prepared m) {s : ℕ} (here : s < state_count m) (k x : ℕ) where
  row_length : (i : ℕ) → length (lane_row m s k x i) ≡ ways_below m s i k (outcomes_in m s i)
  row_length i = length-replicate (ways_below m s i k (outcomes_in m s i)) (lane_total m s k x i)

  -- There are as many as plans.
  pub lanes_length : length (lane_totals m s k x (choices_in m s)) ≡ plan_total (model_in m) (suc k) s
  lanes_length =
      let f : List Step → ℕ = λ _. 0 in
      let C : ℕ → List ℕ = λ c. combined (weighed (model_in m) k f) (outcomes (model_in m) s c) in
      sym (length_alike C (lane_row m s k x) (choice_in m s) (choices_in m s) (λ i g. ways_counted w here g k f ∙ sym (row_length i)))
      ∙ ap (λ l. length (flat_map C l)) (sym (w.choices s here))
      ∙ ap length (sym (totals_step (model_in m) k s f))
      ∙ totals_length (model_in m) (suc k) s f

  -- One choice more.
  module _ {i : ℕ} (g : i < choices_in m s) where
    pub lanes_more : lane_totals m s k x i ++ lane_row m s k x i ≡ lane_totals m s k x (i + 1)
    lanes_more = sym (ap (lane_totals m s k x) (add-one i) ∙ flat_map_more (lane_row m s k x) (λ i. i) i)

    pub lanes_within : length (lane_totals m s k x i) + ways_below m s i k (outcomes_in m s i) ≤ plan_total (model_in m) (suc k) s
    lanes_within = omega (arith, flat_map_within (lane_row m s k x) (λ i. i) i (choices_in m s) g, row_length i, lanes_length)

    -- Its row, written behind the others.
    pub lanes_again : (at : ℕ) (buf₀ buf : List ℕ) {len c y : ℕ} {buf₁ : List ℕ} → at + len ≤ length buf → len ≡ length (lane_totals m s k x i)
        → take (at + len) buf ≡ take at buf₀ ++ lane_totals m s k x i → c ≡ ways_below m s i k (outcomes_in m s i) → y ≡ lane_total m s k x i
        → buf₁ ≡ splice buf (at + len) (replicate c y)
        → (len + c ≡ length (lane_totals m s k x (i + 1))) × (take (at + (len + c)) buf₁ ≡ take at buf₀ ++ lane_totals m s k x (i + 1))
    lanes_again at buf₀ buf {len} {c} {y} {buf₁} fits n L many worth e =
        let R : List ℕ = lane_row m s k x i in
        let row : replicate c y ≡ R = ap₂ replicate many worth in
        let z : at + (len + c) ≡ at + len + length R = omega (arith, row_length i) in (
          omega (arith, sym (ap length lanes_more) ∙ length-append (lane_totals m s k x i) R, row_length i),
          ap₂ take z (e ∙ ap (splice buf (at + len)) row)
              ∙ take_written buf (at + len) R fits
              ∙ ap (λ l. l ++ R) L
              ∙ append_assoc (take at buf₀) (lane_totals m s k x i) R
              ∙ ap (λ l. take at buf₀ ++ l) lanes_more,
        )

-- ---- the lists are the totals

module _ {m q : Bytes} {start a d : ℕ} {truth cone table : List ℕ} (G : Given m q start a d truth cone table) (some : 0 < length cone)
    {trail : List ℕ} {gains : List ℤ} {v : List ℕ} {h s k : ℕ} (H : Here m q start d cone trail gains v h s k) (one : d ≡ h + 1) where
  pub before_last : {late : List ℕ} → Marked q cone late → BeforeLast m q start truth cone late trail gains v h s
  before_last M =
      record {
        ready = G.ready;
        marked = M some;
        whole = H.whole;
        knows = H.knows;
        state = H.state;
        deep = omega (arith, G.looks some);
        few = omega (arith, H.steps, H.deep);
      }

  abbrev f : List Step → ℕ
  f = worth_on m q start a d cone (take h trail)

  -- What a path is worth is decided with its first step from here.
  path_worth : (o : Step) (r : List Step) → f (o ∷ r) ≡ on_path m q start cone (take h trail) (o ∷ [])
  path_worth o r =
      let S : List Step = steps_of m start (take h trail) in
      let n : length S + 1 ≡ h + 1 = omega (arith, steps_length m start (take h trail), H.whole) in
      ap (λ g. g (S ++ o ∷ r)) (worth_condition m q start a d cone some)
      ∙ ap one_if
      (sat_same (model_in m) (formula q (root_of cone)) (length S + 1) start (S ++ o ∷ r) (S ++ o ∷ []) (omega (arith, G.looks some))
      (take-append-add S (o ∷ r) 1 ∙ sym (take-append-add S (o ∷ []) 1)))

  module _ {x : ℕ} (X : Ended m q start cone (take h trail) s x) (j : ℕ) where
    outcome_alike : (i o : ℕ) → Offers m s i o
        → weighed (model_in m) j f (step_in m s i o) ≡ replicate (plan_total (model_in m) j (step_in m s i o).target) ((step_in m s i o).weight * (lane x (4 * i + o) * denominator_of m ^ j))
    unfolding weighed
    outcome_alike i o u =
        let O : Step = step_in m s i o in
        let n : ℕ = plan_total (model_in m) j O.target in
        ap (map (λ y. O.weight * y))
        (totals_alike (model_in m) G.ready.prepared.accepted j O.target (rw (states_are m) (reached G s i o H.inside u)) (λ r. f (O ∷ r)) (lane x (4 * i + o))
        (λ r. path_worth O r ∙ sym (X.right i o u)))
        ∙ map-replicate (λ y. O.weight * y) n (lane x (4 * i + o) * (model_in m).denominator ^ j)
        ∙ ap (λ z. replicate n (O.weight * (lane x (4 * i + o) * z ^ j))) (denominator_is m)

    choice_alike : (i : ℕ) → i < choices_in m s → chosen m q start a d cone s j (take h trail) (choice_in m s i) ≡ lane_row m s j x i
    choice_alike i g =
        let w = G.ready.prepared in
        let n : ℕ = outcomes_in m s i in
        ap (combined (weighed (model_in m) j f)) (sym (all_outcomes w s i H.inside g refl))
        ∙ combined_outcomes w s i H.inside g n (omega arith) (weighed (model_in m) j f)
        ∙ combined_alike (λ o. weighed (model_in m) j f (step_in m s i o)) (λ o. plan_total (model_in m) j (step_in m s i o).target)
        (λ o. (step_in m s i o).weight * (lane x (4 * i + o) * denominator_of m ^ j)) n (λ o l. outcome_alike i o (g, l))
        ∙ ap (replicate (ways_below m s i j n)) (sum_times (λ o. (step_in m s i o).weight) (λ o. lane x (4 * i + o)) (denominator_of m ^ j) n)

    pub totals_by_lanes : k ≡ suc j → lane_totals m s j x (choices_in m s) ≡ totals (model_in m) k s f
    totals_by_lanes e =
        sym (flat_map_alike (chosen m q start a d cone s j (take h trail)) (lane_row m s j x) (choice_in m s) (choices_in m s) choice_alike)
        ∙ all_chosen G k j e (take h trail) H.inside

    -- The list was written.
    pub lanes_written : k ≡ suc j → {at r : ℕ} {buf buf₁ : List ℕ} → r ≡ length (lane_totals m s j x (choices_in m s))
        → take (at + r) buf₁ ≡ take at buf ++ lane_totals m s j x (choices_in m s)
        → Written (totals (model_in m) k s f) m q start cone h at trail trail gains v buf buf₁ r
    lanes_written e {at} {r} {buf} {buf₁} n l =
        subst (λ t. Written t m q start cone h at trail trail gains v buf buf₁ r) (totals_by_lanes e)
        (record { back = back_none H.knows; count = n; listed = ap (λ i. take (at + i) buf₁) (sym n) ∙ l })

-- What marking asks.
pub marks_asked : {m q : Bytes} {start : ℕ} {truth cone : List ℕ} → Ready m q start truth cone → Deep q × Cone q cone
marks_asked R = (record { few = R.nodes.formed.few_nodes; deep = R.nodes.deep }, R.ordered)
