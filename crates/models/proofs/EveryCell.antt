-- What the tests of cells share: the cells of a table as a grid, the used outcomes of a cell, and what the first grounds say of sizes.
use Prim.Native.Nat.{ℕ, zero, suc, ◌+◌, ◌*◌, ◌/◌, ◌%◌, ◌^◌, ◌-◌, ◌≤◌, ◌<◌}
use native.Mathlib.Omega.{arith}
use native.Mathlib.Decide.{dec_lt}
use mathlib.Core.Path.{◌≡◌, refl, sym, ap, ap₂, ◌∙◌}
use mathlib.Core.Bool.{Bool, true, false, ◌&&◌}
use native.Mathlib.Nat.{div-lt_iff_lt-mul, eq-zero-or-pos}
use mathlib.Core.Logic.{⊎_elim}
use mathlib.Core.List.{List}
use lib.ListN.{length, get_or, set, replicate}
use lib.Seq.{get_or-set_same, get_or-set_other}
use lib.Pow.{pow_pos}
use borrow.Author.Count.{below_more}
use mathlib.Core.Bool.{cond}
use lib.Dec.{eqb, ltb}
use borrow.Author.Tests.{lt-ltb, le-ltb, eq-eqb, eqb-true, ltb-true}
use Rattle.logic.specs.Lists.{every}
use Rattle.logic.specs.Model.{true_of}
use Rattle.logic.proofs.Tests.{same_test, every_at, every_intro, and_left, and_right}
use Rattle.blocks.specs.Bytes.{Bytes, within}
use Rattle.blocks.specs.Block.{block_count, whole_blocks}
use Rattle.models.specs.Layout.{state_count, action_count, prop_count, denominator_of, state_mask, pre_of, post_count, cell_at, entries}
use Rattle.models.specs.Grounds.{sizes_right, mask_in_range, literals_in_range, action_in_range, fields_right, cell_in_range, cell_consistent}
use Rattle.models.specs.promises.Used.{Sized}
use Rattle.models.specs.promises.Earlier.{Earlier}
use Rattle.blocks.proofs.RangeTests.{blocks_within, at_least, at_most}

-- A mask shifted down by n bits is 0 where it has no bit from n up.
pub shift_zero : (v n : ℕ) → eqb (v / 2 ^ n) 0 ≡ ltb v (2 ^ n)
shift_zero v n =
    same_test _ _
    (λ e. lt-ltb v (2 ^ n) (div_lt_one.0 (eqb-true (v / 2 ^ n) 0 e)))
    (λ e. eq-eqb (v / 2 ^ n) 0 (div_lt_one.1 (ltb-true v (2 ^ n) e)))
  where
    div_lt_one : (v / 2 ^ n ≡ 0 → v < 2 ^ n) × (v < 2 ^ n → v / 2 ^ n ≡ 0)
    div_lt_one = (
      λ e. let h : v < 1 * 2 ^ n = (div-lt_iff_lt-mul (pow_pos n)).0 (omega arith) in omega arith,
      λ h. let g : v < 1 * 2 ^ n = omega arith in let l : v / 2 ^ n < 1 = (div-lt_iff_lt-mul (pow_pos n)).1 g in omega arith,
    )

-- A table's cells, 8 to a row, are a grid; those from column A up pass.
pub grid : (f : ℕ → ℕ → Bool) (m A : ℕ) → A ≤ 8 → ((s a : ℕ) → A ≤ a → a < 8 → f s a ≡ true)
    → every (8 * m) (λ k. f (k / 8) (k % 8)) ≡ every m (λ s. every A (f s))
grid f m A h g =
    same_test _ _
    (λ e. every_intro _ m (λ s l. every_intro (f s) A (λ a k. inside s a (omega arith) (every_at (λ k. f (k / 8) (k % 8)) (8 * m) e (omega arith)))))
    (λ e. every_intro _ (8 * m) (λ k l. ⊎_elim (λ z. g (k / 8) (k % 8) (omega arith) (omega arith)) (λ i. every_at (f (k / 8)) A (every_at (λ s. every A (f s)) m e (omega arith)) (omega arith)) (eq-zero-or-pos (A - k % 8))))
  where
    inside : (s a : ℕ) → a < 8 → f ((8 * s + a) / 8) ((8 * s + a) % 8) ≡ true → f s a ≡ true
    inside s a l e =
        let p : (8 * s + a) / 8 ≡ s = omega arith in
        let q : (8 * s + a) % 8 ≡ a = omega arith in
        sym (ap₂ f p q) ∙ e

-- One entry more of a table that is filled from the front.
pub filled_more : (f : ℕ → ℕ) (l : List ℕ) (k v : ℕ) → k < length l → ((j : ℕ) → j < k → get_or l j 0 ≡ f j) → v ≡ f k
    → (j : ℕ) → j < k + 1 → get_or (set l k v) j 0 ≡ f j
filled_more f l k v h g e =
    below_more (λ j. get_or (set l k v) j 0 ≡ f j) k (λ j i. get_or-set_other l k j v 0 (omega arith) ∙ g j i) (get_or-set_same l k v 0 h ∙ e)

-- A table is right before a place and behind it.
pub filled_whole : (f : ℕ → ℕ) (l : List ℕ) (k j : ℕ) → ((i : ℕ) → i < k → get_or l i 0 ≡ f i) → (k ≤ j → get_or l j 0 ≡ f j) → get_or l j 0 ≡ f j
filled_whole f l k j g h = go (dec_lt j k)
  where
    go : Dec (j < k) → get_or l j 0 ≡ f j
    go (yes i) = g j i
    go (no i) = h (omega arith)

pub zeros_read : (n j : ℕ) → ◌≡◌ {A = ℕ} (get_or (replicate n 0) j 0) 0
zeros_read zero j = refl
zeros_read (suc n) zero = refl
zeros_read (suc n) (suc j) = zeros_read n j

-- ---- what is used of a cell

module _ (b : Bytes) where
  pub entries_past_states : (s a : ℕ) → state_count b ≤ s → entries b s a ≡ 0
  unfolding entries
  entries_past_states s a h = rw (le-ltb s (state_count b) h) refl

  pub entries_past_actions : (s a : ℕ) → action_count b ≤ a → entries b s a ≡ 0
  unfolding entries
  entries_past_actions s a h = rw (le-ltb a (action_count b) h) (go (ltb s (state_count b)))
    where
      go : (t : Bool) → cond (t && false && true_of (pre_of b a) (state_mask b s)) (post_count b a) 0 ≡ 0
      go true = refl
      go false = refl

  -- A cell of no action passes every test.
  pub in_range_past : (s a : ℕ) → action_count b ≤ a → cell_in_range b s a ≡ true
  unfolding cell_in_range every
  in_range_past s a h = rw (entries_past_actions s a h) refl

  pub consistent_past : (s a : ℕ) → action_count b ≤ a → cell_consistent b s a ≡ true
  unfolding cell_consistent every
  consistent_past s a h = rw (entries_past_actions s a h) refl

  pub entries_inside : (s a : ℕ) → s < state_count b → a < action_count b → entries b s a ≡ cond (true_of (pre_of b a) (state_mask b s)) (post_count b a) 0
  unfolding entries
  entries_inside s a h g = rw (lt-ltb s (state_count b) h, lt-ltb a (action_count b) g) refl

module _ (b : Bytes) (sized : Sized b) where
  pub entries_small : (s a : ℕ) → entries b s a ≤ 4
  entries_small s a =
      ⊎_elim (λ z. rw (entries_past_states b s a (omega arith)) (omega arith))
      (λ h. ⊎_elim (λ z. rw (entries_past_actions b s a (omega arith)) (omega arith))
      (λ g. rw (entries_inside b s a (omega arith) (omega arith)) (go (true_of (pre_of b a) (state_mask b s)) (sized.posts a (omega arith)))) (eq-zero-or-pos (action_count b - a)))
      (eq-zero-or-pos (state_count b - s))
    where
      go : (t : Bool) → post_count b a ≤ 4 → cond t (post_count b a) 0 ≤ 4
      go true h = h
      go false h = omega arith

-- ---- what the first grounds say

pub record Sizes (b : Bytes) : Type 0 where
  pub some : 1 ≤ state_count b
  pub states : state_count b ≤ 32
  pub actions : action_count b ≤ 8
  pub props : prop_count b ≤ 32
  pub parts : denominator_of b ≤ 100
  pub blocks : length b / 512 ≡ 1 + (state_count b + 2) / 3

pub sizes : (b : Bytes) → sizes_right b ≡ true → Sizes b
unfolding sizes_right block_count
sizes b e =
    let e4 = and_left _ _ e in
    let e3 = and_left _ _ e4 in
    let e2 = and_left _ _ e3 in
    let s = and_left _ _ e2 in
    let a = and_right (within 1 32 (state_count b)) _ e2 in
    let p = and_right (within 1 32 (state_count b) && within 1 8 (action_count b)) _ e3 in
    let d = and_right (within 1 32 (state_count b) && within 1 8 (action_count b) && within 1 32 (prop_count b)) _ e4 in
    let r = and_right (within 1 32 (state_count b) && within 1 8 (action_count b) && within 1 32 (prop_count b) && within 1 100 (denominator_of b)) _ e in
    record {
      some = at_least 1 32 (state_count b) s;
      states = at_most 1 32 (state_count b) s;
      actions = at_most 1 8 (action_count b) a;
      props = at_most 1 32 (prop_count b) p;
      parts = at_most 1 100 (denominator_of b) d;
      blocks = eqb-true _ _ r;
    }

pub sized : (b : Bytes) → whole_blocks 2 12 b ≡ true → sizes_right b ≡ true → fields_right b ≡ true → Sized b
unfolding fields_right action_in_range
sized b w z e =
    let n = sizes b z in
    let l = (blocks_within b 2 12 w).0 in
    let k = n.blocks in
    record {
      some = n.some;
      states = n.states;
      actions = n.actions;
      posts = λ a h. at_most 1 4 (post_count b a) (and_right (literals_in_range b (pre_of b a)) _ (and_left _ _ (every_at (action_in_range b) (action_count b) (and_right (every (state_count b) (λ s. mask_in_range b (state_mask b s))) _ (and_left _ _ e)) h)));
      bytes = omega arith;
    }

-- What follows from the grounds before one, of the cells in the row blocks: they stand inside the bytes, those of the model's states among them.
module _ {b : Bytes} (e : Earlier b) where
  pub cell_inside : (k : ℕ) → k < 24 * (block_count b - 1) → (k < 264) × (cell_at (k / 8) (k % 8) + 16 ≤ length b)
  unfolding cell_at block_count
  cell_inside k h =
      let z = sizes b e.sizes in
      let l = (blocks_within b 2 12 e.whole).0 in
      let n = z.blocks in
      (omega arith, omega arith)

  pub cells_inside : 8 * state_count b ≤ 24 * (block_count b - 1)
  unfolding block_count
  cells_inside = let n = (sizes b e.sizes).blocks in omega arith

  -- A test of the cells of all states, 8 to a state, which those of no action pass.
  pub cells_all : (f : ℕ → ℕ → Bool) → ((s a : ℕ) → action_count b ≤ a → f s a ≡ true) → (n : ℕ) {r : Bool}
      → n ≡ state_count b → r ≡ every (8 * n) (λ k. f (k / 8) (k % 8)) → r ≡ every (state_count b) (λ s. every (action_count b) (f s))
  cells_all f past n h g =
      g ∙ ap (λ m. every (8 * m) (λ k. f (k / 8) (k % 8))) h ∙ grid f (state_count b) (action_count b) (sizes b e.sizes).actions (λ s a l _. past s a l)
