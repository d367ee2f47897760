-- A step taken: its byte names the outcome, the sum of rewards goes on, and what `learn` adds is all that the step makes known.
use Prim.Native.Nat.{ℕ, suc, ◌+◌, ◌-◌, ◌/◌, ◌%◌, ◌≤◌, ◌<◌}
use native.Mathlib.Omega.{arith}
use native.Mathlib.Numerals.{add-one}
use mathlib.Core.Path.{◌≡◌, refl, sym, ap, ap₂, subst, ◌∙◌, fun_ext}
use mathlib.Core.List.{List, [], ◌∷◌, ◌++◌, append_assoc}
use lib.IntN.{ℤ, pos, ◌+ℤ◌}
use lib.ListN.{length, get_or, set, take, length-append, length-set}
use lib.Seq.{take-suc-set, take-append-le}
use Rattle.logic.specs.Model.{Step}
use Rattle.logic.specs.Formula.{depth}
use Rattle.logic.specs.Quantity.{sum}
use Rattle.logic.specs.Bound.{one_if}
use Rattle.logic.proofs.Depth.{sat_same}
use Rattle.blocks.specs.Bytes.{Bytes}
use Rattle.models.specs.Layout.{state_count}
use Rattle.prepared_model.specs.promises.Rows.{choice_in, step_in, model_in}
use Rattle.prepared_question.specs.promises.Nodes.{formula}
use Rattle.evaluation.specs.promises.Path.{number_of, step_of, steps_of, state_after, Takes, Trail, stop}
use Rattle.evaluation.specs.promises.Reached.{root_of, on_path, itself, Ready}
use Rattle.evaluation.specs.promises.Learnt.{known, learnt}
use Rattle.evaluation.specs.promises.Known.{Known, Gained, Knows, Offered, Stepped}
use Rattle.evaluation.proofs.LearntInOrder.{learnt_length}
use Rattle.evaluation.proofs.Trails.{state_inside, trail_longer, state_append, steps_append, steps_length}
use Rattle.evaluation.proofs.LearnKnows.{known_all, known_none, known_longer, gained_longer}

module _ {m q : Bytes} {start : ℕ} {truth cone : List ℕ} (ready : Ready m q start truth cone) where
  -- A path leads to a state of the model.
  pub state_reached : {t : List ℕ} {gains : List ℤ} {v : List ℕ} {s : ℕ} → Knows m q start cone t gains v → state_after m start t ≡ s → s < state_count m
  state_reached knows e = subst (λ x. x < state_count m) e (state_inside ready.prepared knows.followed ready.state)

  module _ {trail : List ℕ} {gains : List ℤ} {v : List ℕ} {h s i o : ℕ} (offered : Offered m start trail h s i o)
      (knows : Knows m q start cone (take h trail) gains v) where
    pub state_small : s < state_count m
    state_small = state_reached knows offered.state

    pub sizes_small : (s < 32) × (i < 8) × (o < 4)
    sizes_small =
        let w = ready.prepared in
        let f = offered.offers in
        omega (arith, state_small, w.states, f.0, f.1, w.few_choices s state_small, w.few_outcomes s i state_small f.0)

    abbrev b : ℕ
    b = number_of m s i o

    abbrev T : List ℕ
    T = take h trail

    -- Which choice, place and outcome the number of the step stands for.
    read_back : (b / 32 ≡ choice_in m s i) × (b % 32 / 4 ≡ i) × (b % 4 ≡ o)
    read_back = omega (arith, sizes_small)

    takes : Takes m s b
    takes =
        record {
          offers = (rw read_back.1 offered.offers.0, rw (read_back.1, read_back.2) offered.offers.1);
          named = read_back.0 ∙ ap (choice_in m s) (sym read_back.1);
        }

    pub the_step : step_of m (state_after m start T) b ≡ step_in m s i o
    unfolding step_of
    the_step = ap (λ z. step_of m z b) offered.state ∙ ap₂ (step_in m s) read_back.1 read_back.2

    pub state_on : state_after m start (T ++ (b ∷ [])) ≡ (step_in m s i o).target
    unfolding state_after
    state_on = state_append m start T (b ∷ []) ∙ ap (λ z. z.target) the_step

    -- After the step, the state is the one reached, and a path goes on as one from before it does with the step first: both have the same value f.
    module _ {trail' : List ℕ} {gains' : List ℤ} {v' : List ℕ} {t : ℕ} (S : Stepped m q start cone h s i o trail trail' gains' v' t) where
      pub state_stepped : state_after m start (take (h + 1) trail') ≡ t
      state_stepped = ap (state_after m start) S.longer ∙ state_on ∙ sym S.state

      pub whole_stepped : length (take (h + 1) trail') ≡ h + 1
      whole_stepped = ap length S.longer ∙ length-append T (b ∷ []) ∙ omega (arith, S.whole)

      pub path_stepped : (f : List Step → ℕ) → ◌≡◌ {A = List Step → ℕ} (λ r. f (steps_of m start (take (h + 1) trail') ++ r)) (λ r. f (steps_of m start T ++ (step_in m s i o ∷ r)))
      unfolding steps_of
      path_stepped f =
          fun_ext (λ r. ap f
          (ap (λ l. steps_of m start l ++ r) S.longer
          ∙ ap (λ l. l ++ r) (steps_append m start T (b ∷ []))
          ∙ append_assoc (steps_of m start T) (step_of m (state_after m start T) b ∷ []) r
          ∙ ap (λ z. steps_of m start T ++ (z ∷ r)) the_step))

    module _ (whole : length T ≡ h) where
      pub on_length : length (T ++ (b ∷ [])) ≡ h + 1
      on_length = length-append T (b ∷ []) ∙ omega (arith, whole)

      pub followed_on : Trail m start (T ++ (b ∷ []))
      followed_on = trail_longer m knows.followed b (subst (λ z. Takes m z b) (sym offered.state) takes)

      pub gained_on : (gains' : List ℤ) → gains' ≡ set gains (h + 1) (get_or gains h (pos 0) +ℤ (step_in m s i o).reward) → Gained m start (T ++ (b ∷ [])) gains'
      gained_on gains' eg =
          let g : set gains (suc (length T)) (get_or gains (length T) (pos 0) +ℤ (step_of m (state_after m start T) b).reward) ≡ gains' =
          ap₂ (λ n z. set gains n z) (ap suc whole ∙ sym (add-one h)) (ap₂ (λ n z. get_or gains n (pos 0) +ℤ z) whole (ap (λ z. z.reward) the_step)) ∙ sym eg in
          subst (λ x. Gained m start (T ++ (b ∷ [])) x) g (gained_longer m q start cone T b gains (omega (arith, whole, offered.steps, knows.sums)) knows.gained)

      pub stepped : length trail ≡ 6 → (t : ℕ) (trail' : List ℕ) (gains' : List ℤ) (v' : List ℕ) → t ≡ (step_in m s i o).target
          → trail' ≡ set trail h b → gains' ≡ set gains (h + 1) (get_or gains h (pos 0) +ℤ (step_in m s i o).reward)
          → v' ≡ learnt q truth trail' gains' (h + 1) t cone v → Stepped m q start cone h s i o trail trail' gains' v' t
      stepped steps t trail' gains' v' et el eg ev =
          let on = T ++ (b ∷ []) in
          let gained = gained_on gains' eg in
          let longer : take (h + 1) trail' ≡ on =
          ap₂ take (add-one h) el ∙ take-suc-set trail h b (omega (arith, offered.steps)) in
          let p : on ≡ take (length on) trail' = sym (ap (λ n. take n trail') on_length ∙ longer) in
          let K = known_all ready on trail' p (omega (arith, on_length, offered.steps)) gains' followed_on gained v (omega (arith, knows.places)) (known_longer m q start cone T b v knows.values) in
          let e : learnt q truth trail' gains' (length on) (state_after m start on) cone v ≡ v' =
          ap₂ (λ n z. learnt q truth trail' gains' n z cone v) on_length (state_on ∙ sym et) ∙ sym ev in
          let N : Knows m q start cone on gains' v' =
          record {
            followed = followed_on;
            gained = gained;
            values = subst (Known m q start cone on (length cone)) e K;
            sums = ap length eg ∙ length-set gains (h + 1) _ ∙ knows.sums;
            places = ap length ev ∙ learnt_length q truth trail' gains' (h + 1) t cone v ∙ knows.places;
          } in
          record { whole = whole; longer = longer; state = et; knows = subst (λ l. Knows m q start cone l gains' v') (sym longer) N }

  -- At the start, before any step.
  pub begun : (trail : List ℕ) (gains : List ℤ) (v v' : List ℕ) → get_or gains 0 (pos 0) ≡ pos 0 → length gains ≡ 7 → length v ≡ 280
      → v' ≡ learnt q truth trail gains 0 start cone v → Knows m q start cone [] gains v'
  unfolding state_after steps_of sum
  begun trail gains v v' g sums room e =
      let gained : Gained m start [] gains = record { right = λ k h. let z : k ≡ 0 = omega arith in rw z g } in
      record {
        followed = stop;
        gained = gained;
        values = subst (Known m q start cone [] (length cone)) (sym e) (known_all ready [] trail refl (omega arith) gains stop gained v (omega arith) (known_none m q start cone v));
        sums = sums;
        places = ap length e ∙ learnt_length q truth trail gains 0 start cone v ∙ room;
      }

  -- Where as many steps are taken as the condition looks ahead, its value at the first place is its value on the path, however that goes on.
  pub leaf_value : 0 < length cone → (t : List ℕ) (gains : List ℤ) (v : List ℕ) → Knows m q start cone t gains v → depth (formula q (root_of cone)) ≤ length t
      → (r : List Step) → known v (root_of cone) 0 ≡ on_path m q start cone t r
  unfolding state_after
  leaf_value some t gains v K h r =
      let R : List Step = steps_of m start t in
      K.values.right (length cone - 1) 0 (omega arith) (omega arith) (λ e. omega arith) itself
      ∙ ap one_if (sat_same (model_in m) (formula q (root_of cone)) (length t) start R (R ++ r) h (sym (take-append-le (length t) R r (omega (arith, steps_length m start t)))))
