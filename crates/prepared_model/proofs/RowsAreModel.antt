-- THE LAW: an array that begins with the head block of an accepted model and goes on with the filled rows of its states is that model, prepared.
use Prim.Native.Nat.{ℕ, zero, suc, ◌+◌, ◌*◌, ◌/◌, ◌%◌, ◌≤◌, ◌<◌}
use native.Mathlib.Omega.{arith}
use mathlib.Core.Path.{◌≡◌, refl, sym, ap, ap₂, ◌∙◌}
use mathlib.Core.Bool.{Bool, true, false, cond, ◌&&◌}
use mathlib.Core.List.{List, [], ◌∷◌, ◌++◌}
use lib.Dec.{ltb, leb}
use lib.IntN.{ℤ, pos, negsuc}
use lib.Signed.{mag, le_z}
use borrow.Author.Tests.{lt-ltb, ltb-true, leb-true}
use lib.ListN.{get_or, length}
use lib.Seq.{ext_get_or}
use Rattle.logic.specs.promises.Refusal.{refusal}
use Rattle.logic.specs.Lists.{count_from, tabulate}
use Rattle.logic.specs.Model.{Model, Action, Step, true_of, deadlocked}
use Rattle.logic.proofs.Tests.{and_both, length_some, length_tabulate, get_or_tabulate, tabulate_more, counted_range, keep_same}
use Rattle.blocks.specs.Bytes.{Bytes, byte, u16, u32, i16, signed, within}
use Rattle.blocks.specs.Block.{sum_below}
use Rattle.models.specs.Grounds.{outcome_in_range, read_model}
use Rattle.models.specs.Layout.{state_count, action_count, literals, state_mask, pre_of, post_count, post_of, cell_at, outcome_of, entries, model_of}
use Rattle.models.proofs.EveryCell.{sizes, entries_inside, entries_small}
use Rattle.models.proofs.GroundsPassed.{Passed, passed_all, passed_sized, some_post, outcome_passed}
use Rattle.models.proofs.OutcomesOfCell.{stored_are}
use Rattle.models.proofs.ModelOfBytes.{enabled_entries, deadlocked_entries, accepted}
use Rattle.logic.proofs.SilentMove.{choices_are_actions, outcomes_stored}
use Rattle.logic.proofs.WholeTotals.{modest_reward}
use Rattle.prepared_model.specs.promises.Rows.{choices_in, choice_in, outcomes_in, step_in, row_in, sum_in, weighed, lane, enabled_in, place_of, model_in, Prepared, Prepares}
use Rattle.prepared_model.specs.promises.Filled.{listed, source, Acting, Row, acting, silent}
use Rattle.blocks.proofs.Sums.{sum_same}
use Rattle.prepared_model.proofs.UnusedWeighNothing.{used_only}
use Rattle.prepared_model.proofs.RowTold.{Fair, Told, at_row, silent_told}
use Rattle.prepared_model.proofs.RowFilled.{listed_few, listed_below, listed_place, row_at}

tabulate_same : {A : Type 0} (f g : ℕ → A) (n : ℕ) → ((i : ℕ) → i < n → f i ≡ g i) → tabulate n f ≡ tabulate n g
unfolding tabulate count_from
tabulate_same f g zero h = refl
tabulate_same f g (suc n) h =
    tabulate_more f n ∙ ap₂ (λ l x. l ++ (x ∷ [])) (tabulate_same f g n (λ i k. h i (omega arith))) (h n (omega arith)) ∙ sym (tabulate_more g n)

-- As many, each the same.
tabulate_alike : {A : Type 0} (f g : ℕ → A) {n k : ℕ} → n ≡ k → ((i : ℕ) → i < k → f i ≡ g i) → tabulate n f ≡ tabulate k g
tabulate_alike f g {n} {k} e h = ap (λ z. tabulate z f) e ∙ tabulate_same f g k h

model_alike : {p p' d d' : ℕ} {s s' : List ℕ} {a a' : List Action} {r r' : List (List (List Step))} → p ≡ p' → d ≡ d' → s ≡ s' → a ≡ a' → r ≡ r'
    → ◌≡◌ {A = Model} (record { propositions = p; denominator = d; states = s; actions = a; rows = r })
    (record { propositions = p'; denominator = d'; states = s'; actions = a'; rows = r' })
model_alike {p} {p'} {d} {d'} {s} {s'} {a} {a'} {r} {r'} e1 e2 e3 e4 e5 =
    let make : ℕ → ℕ → List ℕ → List Action → List (List (List Step)) → Model = λ p d s a r. record { propositions = p; denominator = d; states = s; actions = a; rows = r } in
    ap₂ (λ x y. make x y s a r) e1 e2 ∙ ap₂ (λ x y. make p' d' x y r) e3 e4 ∙ ap (make p' d' s' a') e5

small_reward : (z : ℤ) → le_z (negsuc 999) z ≡ true → le_z z (pos 1000) ≡ true → mag z ≤ 1000
small_reward (pos k) a b = leb-true k 1000 b
small_reward (negsuc k) a b = omega (arith, leb-true k 999 a)

-- What ground 5 found of an outcome.
fair_range : (b : Bytes) (o : Step) → outcome_in_range b o ≡ true → Fair b o
unfolding outcome_in_range within
fair_range b o e =
    let t : Bool = ltb o.target (state_count b) in
    let w : Bool = leb 1 o.weight && leb o.weight 100 in
    let x = and_both (t && w && le_z (negsuc 999) o.reward) (le_z o.reward (pos 1000)) e in
    let y = and_both (t && w) (le_z (negsuc 999) o.reward) x.0 in
    let z = and_both t w y.0 in
    record {
      reaches = ltb-true o.target (state_count b) z.0;
      light = leb-true o.weight 100 (and_both (leb 1 o.weight) _ z.1).1;
      modest = small_reward o.reward y.1 x.1;
      raisable = modest_reward o.reward y.1 x.1;
    }

module _ (b : Bytes) (e : refusal (read_model b) ≡ 0) (m : List ℕ) (small : (k : ℕ) → k < 512 → get_or m k 0 < 256) (head : (k : ℕ) → k < 512 → get_or m k 0 ≡ get_or b k 0)
    (rows : (s : ℕ) → s < state_count b → Row b s (row_at m s)) where
  passed : Passed b
  passed = passed_all b e

  states : state_count b ≤ 32
  states = (passed_sized b passed).states

  actions : action_count b ≤ 8
  actions = (passed_sized b passed).actions

  -- ---- the head

  u32_same : (k : ℕ) → k + 3 < 512 → u32 m k ≡ u32 b k
  unfolding u32 u16
  u32_same k h = rw (head k (omega arith), head (k + 1) (omega arith), head (k + 2) (omega arith), head (k + 2 + 1) (omega arith)) refl

  literals_same : (k : ℕ) → k + 7 < 512 → literals m k ≡ literals b k
  unfolding literals
  literals_same k h = rw (u32_same k (omega arith), u32_same (k + 4) (omega arith)) refl

  mask_same : (s : ℕ) → s < 32 → state_mask m s ≡ state_mask b s
  unfolding state_mask
  mask_same s h = u32_same (8 + 4 * s) (omega arith)

  pre_same : (a : ℕ) → a < 8 → pre_of m a ≡ pre_of b a
  unfolding pre_of
  pre_same a h = literals_same (136 + 44 * a) (omega arith)

  posts_same : (a : ℕ) → a < action_count b → tabulate (post_count m a) (post_of m a) ≡ tabulate (post_count b a) (post_of b a)
  unfolding post_count post_of
  posts_same a h =
      let few = (passed_sized b passed).posts a h in
      tabulate_alike (post_of m a) (post_of b a) (head (136 + 44 * a + 8) (omega (arith, actions)))
      (λ i l. literals_same (136 + 44 * a + 12 + 8 * i) (omega (arith, actions, few)))

  -- ---- the row of a state in which an action is enabled

  module _ (s : ℕ) (h : s < state_count b) (w : Acting b s (row_at m s)) where
    count_is : choices_in m s ≡ length (listed b s (action_count b))
    count_is = at_row m s 16 (omega arith) ∙ w.chosen.many

    few_choices : choices_in m s ≤ 8
    few_choices = omega (arith, count_is, listed_few b s (action_count b), actions)

    below_count : (i : ℕ) → i < choices_in m s → i < get_or (row_at m s) 16 0
    below_count i g = omega (arith, at_row m s 16 (omega arith))

    choice_is : (i : ℕ) → i < choices_in m s → choice_in m s i ≡ get_or (listed b s (action_count b)) i 0
    choice_is i g = at_row m s i (omega (arith, few_choices)) ∙ w.chosen.bytes i (below_count i g)

    choice_small : (i : ℕ) → i < choices_in m s → choice_in m s i < action_count b
    choice_small i g = rw (choice_is i g) (listed_below b s (action_count b) i (omega (arith, count_is)))

    listed_is : listed b s (action_count b) ≡ tabulate (choices_in m s) (choice_in m s)
    listed_is =
        ext_get_or 0 _ _ (sym count_is ∙ sym (length_tabulate (choice_in m s) (choices_in m s)))
        (λ i g. let l : i < choices_in m s = omega (arith, count_is) in sym (choice_is i l) ∙ sym (get_or_tabulate (choice_in m s) (choices_in m s) 0 l))

    -- Some action is listed, so the work is not over.
    not_over : deadlocked (model_of b) s ≡ false
    not_over = deadlocked_entries b passed s h ∙ length_some (listed b s (action_count b)) (omega (arith, w.some, w.chosen.many))

    module _ (i : ℕ) (g : i < choices_in m s) where
      outcomes_is : outcomes_in m s i ≡ entries b s (choice_in m s i)
      outcomes_is =
          let k : 512 + 256 * s + 8 + i ≡ 512 + 256 * s + (8 + i) = omega arith in
          ap (λ j. get_or m j 0) k ∙ at_row m s (8 + i) (omega (arith, few_choices)) ∙ w.chosen.counts i (below_count i g) ∙ ap (entries b s) (sym (choice_is i g))

      source_is : (o : ℕ) → o < 4 → source b s (4 * i + o) ≡ cell_at s (choice_in m s i) + 4 * o
      source_is o l =
          let p : (4 * i + o) / 4 ≡ i = omega arith in
          let q : (4 * i + o) % 4 ≡ o = omega arith in
          ap₂ (λ j k. cell_at s (get_or (listed b s (action_count b)) j 0) + 4 * k) p q ∙ ap (λ a. cell_at s a + 4 * o) (sym (choice_is i g))

      lane_at : (k o : ℕ) → k ≤ 96 → o < 4 → get_or m (512 + 256 * s + k + 4 * i + o) 0 ≡ get_or (row_at m s) (k + (4 * i + o)) 0
      lane_at k o l n =
          let z : 512 + 256 * s + k + 4 * i + o ≡ 512 + 256 * s + (k + (4 * i + o)) = omega arith in
          ap (λ j. get_or m j 0) z ∙ at_row m s (k + (4 * i + o)) (omega (arith, few_choices))

      step_is : (o : ℕ) → o < 4 → step_in m s i o ≡ outcome_of b s (choice_in m s i) o
      unfolding outcome_of i16
      step_is o l =
          let n : 4 * i + o < 4 * get_or (row_at m s) 16 0 = omega (arith, below_count i g) in
          let at : ℕ = cell_at s (choice_in m s i) + 4 * o in
          let make : ℕ → ℕ → ℕ → Step = λ t v x. record { choice = choice_in m s i; target = t; weight = v; reward = signed 15 x } in
          ap (λ t. make t (step_in m s i o).weight (get_or m (512 + 256 * s + 96 + 4 * i + o) 0)) (lane_at 32 o (omega arith) l ∙ w.spelled.targets (4 * i + o) n ∙ ap (byte b) (source_is o l))
          ∙ ap (λ v. make (byte b at) v (get_or m (512 + 256 * s + 96 + 4 * i + o) 0)) (lane_at 64 o (omega arith) l ∙ w.spelled.weights (4 * i + o) n ∙ ap (λ k. byte b (k + 1)) (source_is o l))
          ∙ ap (make (byte b at) (byte b (at + 1))) (lane_at 96 o (omega arith) l ∙ w.spelled.rewards (4 * i + o) n ∙ ap (λ k. u16 b (k + 2)) (source_is o l))

      few_outcomes : outcomes_in m s i ≤ 4
      few_outcomes = rw outcomes_is (entries_small b (passed_sized b passed) s (choice_in m s i))

      row_is : row_in m s i ≡ tabulate (entries b s (choice_in m s i)) (outcome_of b s (choice_in m s i))
      row_is =
          tabulate_alike (step_in m s i) (outcome_of b s (choice_in m s i)) outcomes_is (λ o l. step_is o (omega (arith, few_outcomes, outcomes_is)))

      weight_is : (o : ℕ) → o < 4 → get_or (row_at m s) (64 + 4 * i + o) 0 ≡ (outcome_of b s (choice_in m s i) o).weight
      weight_is o l =
          let z : 64 + 4 * i + o ≡ 64 + (4 * i + o) = omega arith in
          ap (λ j. get_or (row_at m s) j 0) z ∙ sym (lane_at 64 o (omega arith) l) ∙ ap (λ (x : Step). x.weight) (step_is o l)

      sum_is : (y : ℕ) → y < 16 → sum_in m s i y ≡ weighed m s i y
      sum_is y l =
          let a : ℕ = choice_in m s i in
          let k : 512 + 256 * s + 128 + 16 * i + y ≡ 512 + 256 * s + (128 + 16 * i + y) = omega arith in
          let z : 64 + 4 * i ≡ 64 + 4 * i + 0 = omega arith in
          ap (λ j. get_or m j 0) k
          ∙ at_row m s (128 + 16 * i + y) (omega (arith, few_choices))
          ∙ w.summed i y (below_count i g) l
          ∙ ap (λ j. get_or (row_at m s) j 0 * lane y 0 + get_or (row_at m s) (64 + 4 * i + 1) 0 * lane y 1 + get_or (row_at m s) (64 + 4 * i + 2) 0 * lane y 2 + get_or (row_at m s) (64 + 4 * i + 3) 0 * lane y 3) z
          ∙ rw (weight_is 0 (omega arith), weight_is 1 (omega arith), weight_is 2 (omega arith), weight_is 3 (omega arith)) (used_only b e s a (lane y) h (omega (arith, choice_small i g, actions)))
          ∙ sum_same _ _ (entries b s a) (λ o n. ap (λ (x : Step). x.weight * lane y o) (sym (step_is o (omega (arith, few_outcomes, outcomes_is)))))
          ∙ ap (λ n. sum_below n (λ o. (step_in m s i o).weight * lane y o)) (sym outcomes_is)

      step_fair : (o : ℕ) → o < outcomes_in m s i → Fair b (step_in m s i o)
      step_fair o l =
          fair_range b (step_in m s i o)
          (rw (step_is o (omega (arith, few_outcomes))) (outcome_passed b passed s (choice_in m s i) o h (choice_small i g) (omega (arith, outcomes_is))))

    acting_told : Told b m s
    acting_told =
        record {
          choices = choices_are_actions (model_of b) s not_over ∙ enabled_entries b passed s h ∙ listed_is;
          few_choices = few_choices;
          bytes = λ i g. omega (arith, choice_small i g, actions);
          rows = λ i g. outcomes_stored (model_of b) s not_over (choice_in m s i) ∙ stored_are b s (choice_in m s i) ∙ sym (row_is i g);
          few_outcomes = few_outcomes;
          fair = λ i o (g, l). step_fair i g o l;
          sums = λ i y g. sum_is i g y;
        }

  -- Whichever it is.
  told : (s : ℕ) → s < state_count b → Told b m s
  told s h = by (rows s h)
    where
      by : Row b s (row_at m s) → Told b m s
      by (acting w) = acting_told s h w
      by (silent w) = silent_told b e m s h w

  -- ---- the model

  enabled_same : (s a : ℕ) → s < state_count b → a < action_count b → enabled_in m s a ≡ true_of (pre_of b a) (state_mask b s)
  unfolding enabled_in
  enabled_same s a h g = ap₂ true_of (pre_same a (omega (arith, actions))) (mask_same s (omega (arith, states)))

  used_there : (s a : ℕ) → s < state_count b → a < action_count b → true_of (pre_of b a) (state_mask b s) ≡ ltb 0 (entries b s a)
  used_there s a h g = go (true_of (pre_of b a) (state_mask b s)) ∙ ap (ltb 0) (sym (entries_inside b s a h g))
    where
      go : (t : Bool) → t ≡ ltb 0 (cond t (post_count b a) 0)
      go true = sym (lt-ltb 0 (post_count b a) (some_post b passed a g))
      go false = refl

  place_is : (s a : ℕ) → s < state_count b → a < action_count b → place_of m s a ≡ length (listed b s a)
  unfolding place_of
  place_is s a h g =
      ap length
      (keep_same (enabled_in m s) (λ a. ltb 0 (entries b s a)) (count_from 0 a)
      (λ x i. let l = (counted_range 0 a i).1 in enabled_same s x h (omega arith) ∙ used_there s x h (omega arith)))

  cell_same : (s a : ℕ) → s < state_count b → a < action_count b → cond (enabled_in m s a) (row_in m s (place_of m s a)) [] ≡ tabulate (entries b s a) (outcome_of b s a)
  unfolding tabulate count_from
  cell_same s a h g = ap₂ (λ t l. cond t l []) (enabled_same s a h g) (ap (row_in m s) (place_is s a h g)) ∙ go (true_of (pre_of b a) (state_mask b s)) refl
    where
      by : length (listed b s a) < length (listed b s (action_count b)) → get_or (listed b s (action_count b)) (length (listed b s a)) 0 ≡ a → Row b s (row_at m s)
          → row_in m s (length (listed b s a)) ≡ tabulate (entries b s a) (outcome_of b s a)
      by n q (acting w) =
          let l : length (listed b s a) < choices_in m s = omega (arith, count_is s h w) in
          row_is s h w (length (listed b s a)) l ∙ ap (λ x. tabulate (entries b s x) (outcome_of b s x)) (choice_is s h w (length (listed b s a)) l ∙ q)
      by n q (silent w) = absurd (omega (arith, w.none))

      go : (t : Bool) → true_of (pre_of b a) (state_mask b s) ≡ t → cond t (row_in m s (length (listed b s a))) [] ≡ tabulate (entries b s a) (outcome_of b s a)
      go true q =
          let n : 0 < entries b s a = rw (entries_inside b s a h g, q) (some_post b passed a g) in
          let w = listed_place b s a (action_count b) n g in
          by w.0 w.1 (rows s h)
      go false q = let z : entries b s a ≡ 0 = rw (entries_inside b s a h g, q) refl in ap (λ n. tabulate n (outcome_of b s a)) (sym z)

  pub same : model_in m ≡ model_of b
  unfolding model_in model_of
  same =
      let counts : state_count m ≡ state_count b = head 2 (omega arith) in
      let acts : action_count m ≡ action_count b = head 3 (omega arith) in
      model_alike (head 4 (omega arith)) (head 5 (omega arith)) (tabulate_alike (state_mask m) (state_mask b) counts (λ s l. mask_same s (omega (arith, states))))
      (tabulate_alike _ _ acts (λ a l. ap₂ (λ p q. record { pre = p; posts = q }) (pre_same a (omega (arith, actions))) (posts_same a l)))
      (tabulate_alike _ _ counts (λ s l. tabulate_alike _ _ acts (λ a n. cell_same s a l n)))

  -- ---- the law

  pub prepared : Prepared m
  prepared =
      let counts : state_count m ≡ state_count b = head 2 (omega arith) in
      let acts : action_count m ≡ action_count b = head 3 (omega arith) in
      record {
        accepted = rw same (accepted b passed);
        head = small;
        states = omega (arith, states);
        actions = omega (arith, actions);
        props = rw (head 4 (omega arith)) (sizes b passed.sizes).props;
        parts = rw (head 5 (omega arith)) (sizes b passed.sizes).parts;
        choices = λ s h. rw same (told s (omega arith)).choices;
        few_choices = λ s h. (told s (omega arith)).few_choices;
        bytes = λ s i h. (told s (omega arith)).bytes i;
        rows = λ s i h g. rw same ((told s (omega arith)).rows i g);
        few_outcomes = λ s i h. (told s (omega arith)).few_outcomes i;
        inside = λ s i o h g. rw counts ((told s (omega arith)).fair i o g).reaches;
        light = λ s i o h g. ((told s (omega arith)).fair i o g).light;
        modest = λ s i o h g. ((told s (omega arith)).fair i o g).modest;
        raisable = λ s i o h g. ((told s (omega arith)).fair i o g).raisable;
        sums = λ s i y h. (told s (omega arith)).sums i y;
      }

  pub prepares : Prepares b m
  prepares = record { prepared = prepared; same = same; head = head }
