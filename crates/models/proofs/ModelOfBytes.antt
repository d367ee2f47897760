-- The model that bytes hold, by the readers of the bytes; and what a model that is not refused promises. Each list of the model is tabulated,
-- so that its entries are what the readers give; each promise is a test that was passed.
use Prim.Native.Nat.{ℕ, zero, suc, ◌+◌, ◌<◌, ◌≤◌}
use native.Mathlib.Omega.{arith}
use native.Mathlib.Nat.{zero-add, add-zero}
use mathlib.Core.Path.{◌≡◌, refl, sym, ap, ap₂, subst, ◌∙◌}
use mathlib.Core.Bool.{Bool, true, false, cond, ◌&&◌}
use mathlib.Core.List.{[], ◌∷◌, map, Memᴰ}
use lib.Dec.{eqb, ltb}
use lib.IntN.{negsuc}
use lib.Signed.{le_z}
use lib.ListN.{length, get_or}
use borrow.Author.Tests.{lt-ltb, le-ltb, ltb-false}
use Rattle.logic.specs.Lists.{is_empty, keep, count_from, tabulate, every}
use Rattle.logic.specs.Model.{Literals, Step, Action, always, true_of, contradict, mask, silent, enabled_actions, deadlocked, stored, outcomes, no_action}
use Rattle.logic.specs.Quantity.{naturals, sum}
use Rattle.logic.specs.Order.{Rising, nothing, first}
use Rattle.logic.specs.Plan.{Match, ends, pair}
use Rattle.logic.specs.Accepted.{posts_of, Accepted}
use Rattle.logic.proofs.Members.{map_member}
use Rattle.logic.proofs.Tests.{and_both, eqb_eq, ne_eqb, ltb_lt, every_at, counted_in, counted_range, length_tabulate, get_or_tabulate, count_more, in_keep, keep_member, keep_same}
use Rattle.logic.proofs.Sums.{naturals_additive, sum-append, sum-map}
use Rattle.logic.proofs.Contradiction.{not_both}
use Rattle.logic.proofs.SilentMove.{action_outcomes}
use Rattle.logic.proofs.AcceptedByActions.{Keeps, by_actions}
use Rattle.blocks.specs.Bytes.{Bytes, within}
use Rattle.blocks.specs.Block.{sum_below}
use Rattle.models.specs.Layout.{state_count, action_count, prop_count, denominator_of, state_mask, pre_of, post_count, post_of, outcome_of, entries, model_of}
use Rattle.models.specs.Grounds.{sizes_right, outcome_in_range, posts_contradict, cell_consistent}
use Rattle.models.proofs.EveryCell.{entries_inside, entries_past_actions}
use Rattle.models.proofs.OutcomesOfCell.{stored_are}
use Rattle.models.proofs.GroundsPassed.{Passed, passed_sized, some_post, outcome_passed, action_passed, cell_passed}
use Rattle.blocks.proofs.RangeTests.{at_least}

-- ---- lists

pub tabulate_member : {A : Type 0} (f : ℕ → A) (n : ℕ) {x : A} → Memᴰ x (tabulate n f) → (i : ℕ) × (i < n) × (x ≡ f i)
unfolding tabulate
tabulate_member f n h =
    let w = map_member f (count_from 0 n) h in
    (w.0, omega (arith, (counted_range 0 n w.1).1), w.2)

pub sum_tabulate : (w : Step → ℕ) (f : ℕ → Step) (n : ℕ) → sum naturals w (tabulate n f) ≡ sum_below n (λ i. w (f i))
unfolding tabulate count_from sum sum_below
sum_tabulate w f n = sum-map naturals naturals_additive w f (count_from 0 n) ∙ counted n
  where
    counted : (n : ℕ) → sum naturals (λ i. w (f i)) (count_from 0 n) ≡ sum_below n (λ i. w (f i))
    counted zero = refl
    counted (suc n) =
        ap (sum naturals (λ i. w (f i))) (count_more 0 n) ∙ sum-append naturals naturals_additive (λ i. w (f i)) (count_from 0 n) ((0 + n) ∷ [])
        ∙ ap₂ ◌+◌ (counted n) (ap (λ i. w (f i) + 0) (zero-add n) ∙ add-zero (w (f n)))

module _ {A : Type 0} (R : A → A → Type 0) (f : ℕ → A) where
  rising_counted : (k n : ℕ) → ((i j : ℕ) → i < j → j < k + n → R (f i) (f j)) → Rising R (map f (count_from k n))
  unfolding count_from
  rising_counted k zero h = nothing
  rising_counted k (suc n) h =
      first
      (λ y i.
      let w = map_member f (count_from (suc k) n) i in
      let r = counted_range (suc k) n w.1 in
      subst (R (f k)) (sym w.2) (h k w.0 r.0 (omega (arith, r.1))))
      (rising_counted (suc k) n (λ i j l m. h i j l (omega arith)))

  rising_tabulate : (n : ℕ) → ((i j : ℕ) → i < j → j < n → R (f i) (f j)) → Rising R (tabulate n f)
  unfolding tabulate
  rising_tabulate n h = rising_counted 0 n (λ i j l m. h i j l (omega arith))

matched : {A B : Type 0} (R : A → B → Type 0) (f : ℕ → A) (g : ℕ → B) (n : ℕ) → ((i : ℕ) → i < n → R (f i) (g i)) → Match R (tabulate n f) (tabulate n g)
unfolding tabulate count_from
matched {A} {B} R f g n h = counted 0 n (λ i l m. h i (omega arith))
  where
    counted : (k n : ℕ) → ((i : ℕ) → k ≤ i → i < k + n → R (f i) (g i)) → Match R (map f (count_from k n)) (map g (count_from k n))
    counted k zero h = ends
    counted k (suc n) h = pair (h k (omega arith) (omega arith)) (counted (suc k) n (λ i l m. h i (omega arith) (omega arith)))

-- ---- the model by its readers

module _ (b : Bytes) where
  pub states_held : length (model_of b).states ≡ state_count b
  unfolding model_of
  states_held = length_tabulate (state_mask b) (state_count b)

  pub denominator_held : (model_of b).denominator ≡ denominator_of b
  unfolding model_of
  denominator_held = refl

  pub mask_held : (s : ℕ) → s < state_count b → mask (model_of b) s ≡ state_mask b s
  unfolding model_of mask
  mask_held s h = get_or_tabulate (state_mask b) (state_count b) 0 h

  -- The postconditions of an action.
  posts_held : (a : ℕ) → a < action_count b → (a ≡ silent → ⊥) → posts_of (model_of b) a ≡ tabulate (post_count b a) (post_of b a)
  unfolding model_of
  posts_held a h n =
      ap (λ t. cond t (always ∷ []) (get_or (model_of b).actions a no_action).posts) (ne_eqb a silent n)
      ∙ ap (λ (x : Action). x.posts)
      (get_or_tabulate (λ a. record { pre = pre_of b a; posts = tabulate (post_count b a) (post_of b a) }) (action_count b) no_action h)

  actions_held : length (model_of b).actions ≡ action_count b
  unfolding model_of
  actions_held = length_tabulate _ (action_count b)

  -- The enabled actions of a state: those whose precondition is true there.
  pub enabled_held : (s : ℕ) → s < state_count b
      → enabled_actions (model_of b) s ≡ keep (λ a. true_of (pre_of b a) (state_mask b s)) (count_from 0 (action_count b))
  unfolding model_of enabled_actions
  enabled_held s h =
      let acts : ℕ → Action = λ a. record { pre = pre_of b a; posts = tabulate (post_count b a) (post_of b a) } in
      ap (λ n. keep (λ a. true_of (get_or (tabulate (action_count b) acts) a no_action).pre (mask (model_of b) s)) (count_from 0 n)) (length_tabulate acts (action_count b))
      ∙ keep_same _ _ (count_from 0 (action_count b))
      (λ a i. ap₂ (λ (x : Action) v. true_of x.pre v) (get_or_tabulate acts (action_count b) no_action (omega (arith, (counted_range 0 (action_count b) i).1))) (mask_held s h))

  pub enabled_in : (s a : ℕ) → s < state_count b → a < action_count b → true_of (pre_of b a) (state_mask b s) ≡ true → Memᴰ a (enabled_actions (model_of b) s)
  enabled_in s a h g e =
      subst (Memᴰ a) (sym (enabled_held s h)) (in_keep (λ a. true_of (pre_of b a) (state_mask b s)) (counted_in 0 (action_count b) (omega arith) (omega arith)) e)

  pub enabled_range : (s a : ℕ) → s < state_count b → Memᴰ a (enabled_actions (model_of b) s) → (a < action_count b) × (true_of (pre_of b a) (state_mask b s) ≡ true)
  enabled_range s a h i =
      let w = keep_member (λ a. true_of (pre_of b a) (state_mask b s)) (count_from 0 (action_count b)) (subst (Memᴰ a) (enabled_held s h) i) in
      (omega (arith, (counted_range 0 (action_count b) w.0).1), w.1)

-- ---- what is promised

module _ (b : Bytes) (p : Passed b) where
  -- Of an enabled action every postcondition has an outcome.
  pub entries_enabled : (s a : ℕ) → s < state_count b → a < action_count b → true_of (pre_of b a) (state_mask b s) ≡ true → entries b s a ≡ post_count b a
  entries_enabled s a h g e = entries_inside b s a h g ∙ rw e refl

  -- An action is enabled where it has outcomes.
  pub enabled_entries : (s : ℕ) → s < state_count b → enabled_actions (model_of b) s ≡ keep (λ a. ltb 0 (entries b s a)) (count_from 0 (action_count b))
  enabled_entries s h =
      enabled_held b s h
      ∙ keep_same _ _ (count_from 0 (action_count b)) (λ a i. let l = (counted_range 0 (action_count b) i).1 in used a (omega arith) (true_of (pre_of b a) (state_mask b s)) refl)
    where
      used : (a : ℕ) → a < action_count b → (t : Bool) → true_of (pre_of b a) (state_mask b s) ≡ t → t ≡ ltb 0 (entries b s a)
      used a g true e = sym (lt-ltb 0 (entries b s a) (rw (entries_enabled s a h g e) (some_post b p a g)))
      used a g false e = sym (le-ltb 0 (entries b s a) (rw (entries_inside b s a h g, e) (omega arith)))

  -- A state is deadlocked where no action has outcomes.
  pub deadlocked_entries : (s : ℕ) → s < state_count b
      → deadlocked (model_of b) s ≡ is_empty (keep (λ a. ltb 0 (entries b s a)) (count_from 0 (action_count b)))
  unfolding deadlocked
  deadlocked_entries s h = ap is_empty (enabled_entries s h)

  -- No action has the number of the silent move.
  not_silent : (a : ℕ) → a < action_count b → a ≡ silent → ⊥
  not_silent a h e = omega (arith, (passed_sized b p).actions)

  -- Any two postconditions of an action contradict.
  contrary : (a : ℕ) → a < action_count b → (i j : ℕ) → i < j → j < post_count b a → contradict (post_of b a i) (post_of b a j) ≡ true
  unfolding posts_contradict
  contrary a h i j k l =
      every_at (λ i. contradict (post_of b a i) (post_of b a j)) j
      (every_at (λ i. every i (λ j. contradict (post_of b a j) (post_of b a i))) (post_count b a) (action_passed b p a h) l) k

  posts_rising : (a : ℕ) → a < action_count b → Rising (λ k l. contradict k l ≡ true) (posts_of (model_of b) a)
  posts_rising a l =
      subst (Rising (λ k l. contradict k l ≡ true)) (sym (posts_held b a l (not_silent a l))) (rising_tabulate (λ k l. contradict k l ≡ true) (post_of b a) (post_count b a) (contrary a l))

  -- The denominator is at least 1.
  some_weight : 0 < denominator_of b
  unfolding sizes_right
  some_weight =
      let three : Bool = within 1 32 (state_count b) && within 1 8 (action_count b) && within 1 32 (prop_count b) in
      let w = and_both (three && within 1 100 (denominator_of b)) _ p.sizes in
      at_least 1 100 (denominator_of b) (and_both three (within 1 100 (denominator_of b)) w.0).1

  module _ (s a : ℕ) (state : s < state_count b) (x : Memᴰ a (enabled_actions (model_of b) s)) where
    choice : (a < action_count b) × (true_of (pre_of b a) (state_mask b s) ≡ true)
    choice = enabled_range b s a state x

    count : entries b s a ≡ post_count b a
    count = entries_enabled s a state choice.0 choice.1

    held : outcomes (model_of b) s a ≡ tabulate (entries b s a) (outcome_of b s a)
    held = action_outcomes (model_of b) s a (not_silent a choice.0) ∙ stored_are b s a

    member : (o : Step) → Memᴰ o (outcomes (model_of b) s a) → (i : ℕ) × (i < entries b s a) × (o ≡ outcome_of b s a i)
    member o i = tabulate_member (outcome_of b s a) (entries b s a) (subst (Memᴰ o) held i)

    range : (i : ℕ) → i < entries b s a → ((outcome_of b s a i).target < state_count b) × (1 ≤ (outcome_of b s a i).weight)
    unfolding outcome_in_range
    range i l =
        let o = outcome_of b s a i in
        let u = and_both (ltb o.target (state_count b) && within 1 100 o.weight && le_z (negsuc 999) o.reward) _ (outcome_passed b p s a i state choice.0 l) in
        let v = and_both (ltb o.target (state_count b) && within 1 100 o.weight) _ u.0 in
        let w = and_both (ltb o.target (state_count b)) _ v.0 in
        (ltb_lt _ _ w.0, at_least 1 100 o.weight w.1)

    summed : sum naturals (λ o. o.weight) (outcomes (model_of b) s a) ≡ denominator_of b
    unfolding cell_consistent
    summed =
        let n = entries b s a in
        let f : ℕ → Bool = λ i. true_of (post_of b a i) (state_mask b (outcome_of b s a i).target) in
        let e = (and_both (every n f) _ (cell_passed b p s a state choice.0)).1 in
        let z : eqb n 0 ≡ false = ne_eqb n 0 (λ q. let l = some_post b p a choice.0 in let c = count in omega arith) in
        ap (sum naturals (λ o. o.weight)) held ∙ sum_tabulate (λ o. o.weight) (outcome_of b s a) n ∙ eqb_eq _ _ (rw z at e)

    true_there : (i : ℕ) → i < entries b s a → true_of (post_of b a i) (state_mask b (outcome_of b s a i).target) ≡ true
    unfolding cell_consistent
    true_there i l =
        every_at (λ i. true_of (post_of b a i) (state_mask b (outcome_of b s a i).target)) (entries b s a) (and_both _ _ (cell_passed b p s a state choice.0)).0 l

    differ : (i j : ℕ) → i < j → j < entries b s a → (outcome_of b s a i).target ≡ (outcome_of b s a j).target → ⊥
    differ i j k l e =
        not_both (post_of b a i) (post_of b a j) (state_mask b (outcome_of b s a i).target) (contrary a choice.0 i j k (subst (λ n. j < n) count l))
        (true_there i (omega arith)) (subst (λ t. true_of (post_of b a j) (state_mask b t) ≡ true) (sym e) (true_there j l))

    -- Each outcome's target makes the postcondition of its place true.
    fulfilled : Match (λ k o. true_of k (mask (model_of b) o.target) ≡ true) (posts_of (model_of b) a) (outcomes (model_of b) s a)
    fulfilled =
        let R : Literals → Step → Type 0 = λ k o. true_of k (mask (model_of b) o.target) ≡ true in
        subst (λ l. Match R l (outcomes (model_of b) s a)) (sym (posts_held b a choice.0 (not_silent a choice.0)))
        (subst (Match R (tabulate (post_count b a) (post_of b a))) (sym held)
        (subst (λ n. Match R (tabulate n (post_of b a)) (tabulate (entries b s a) (outcome_of b s a))) count
        (matched R (post_of b a) (outcome_of b s a) (entries b s a) (λ i l. ap (true_of (post_of b a i)) (mask_held b _ (range i l).0) ∙ true_there i l))))

    keeps : Keeps (model_of b) s a
    unfolding outcome_of
    keeps =
        record {
          fulfils = fulfilled;
          contrary = posts_rising a choice.0;
          apart = subst (Rising (λ x y. x.target ≡ y.target → ⊥)) (sym held) (rising_tabulate (λ x y. x.target ≡ y.target → ⊥) (outcome_of b s a) (entries b s a) differ);
          sums = summed ∙ sym (denominator_held b);
          weighs = λ o i. let w = member o i in subst (λ z. 0 < z.weight) (sym w.2) (range w.0 w.1).1;
          inside = λ o i. let w = member o i in rw (states_held b) (subst (λ z. z.target < state_count b) (sym w.2) (range w.0 w.1).0);
          named = λ o i. let w = member o i in ap (λ z. z.choice) w.2;
        }

  -- The cell of an action that is not enabled has no used entries.
  pub no_entries : (s a : ℕ) → s < state_count b → (Memᴰ a (enabled_actions (model_of b) s) → ⊥) → entries b s a ≡ 0
  no_entries s a h e = by (ltb a (action_count b)) refl
    where
      inside : a < action_count b → (t : Bool) → true_of (pre_of b a) (state_mask b s) ≡ t → entries b s a ≡ 0
      inside l true i = absurd (e (enabled_in b s a h l i))
      inside l false i = rw (entries_inside b s a h l, i) refl

      by : (t : Bool) → ltb a (action_count b) ≡ t → entries b s a ≡ 0
      by true i = inside (ltb_lt a (action_count b) i) (true_of (pre_of b a) (state_mask b s)) refl
      by false i = entries_past_actions b s a (ltb-false a (action_count b) i)

  unused : (s a : ℕ) → s < state_count b → (Memᴰ a (enabled_actions (model_of b) s) → ⊥) → stored (model_of b) s a ≡ []
  unfolding tabulate count_from
  unused s a h e = stored_are b s a ∙ ap (λ n. tabulate n (outcome_of b s a)) (no_entries s a h e)

  pub accepted : Accepted (model_of b)
  accepted =
      by_actions (model_of b)
      (record {
        divides = rw (denominator_held b) some_weight;
        numbered = omega (arith, actions_held b, (passed_sized b p).actions);
        contradicts = λ a h. posts_rising a (subst (λ n. a < n) (actions_held b) h);
        unused = λ s a h. unused s a (subst (λ n. s < n) (states_held b) h);
        keeps = λ s a h. keeps s a (subst (λ n. s < n) (states_held b) h);
      })
