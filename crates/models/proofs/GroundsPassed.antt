-- A model that is not refused has passed the test of each ground: a chain of tests whose refusal is 0 has no test that fails.
use Prim.Native.Nat.{ℕ, ◌<◌, ◌≤◌}
use mathlib.Core.Path.{◌≡◌, refl}
use mathlib.Core.Bool.{true, ◌&&◌}
use Rattle.logic.specs.Lists.{every}
use Rattle.logic.specs.Checked.{ok}
use Rattle.logic.specs.promises.Refusal.{refusal}
use Rattle.logic.proofs.Checked.{guard_passed}
use Rattle.logic.proofs.Tests.{and_both, every_at}
use Rattle.blocks.specs.Bytes.{Bytes, within}
use Rattle.blocks.specs.Block.{whole_blocks, sums_right}
use Rattle.models.specs.Layout.{state_count, action_count, pre_of, state_mask, post_count, outcome_of, entries, model_of}
use Rattle.models.specs.Grounds.{kinds_right, sizes_right, mask_in_range, literals_in_range, action_in_range, outcome_in_range, cell_in_range, fields_right, head_spare, rows_spare, cells_spare, posts_contradict, cell_consistent, consistent, read_model}
use Rattle.models.specs.promises.Used.{Sized}
use Rattle.models.proofs.EveryCell.{sized}
use Rattle.blocks.proofs.RangeTests.{at_least}

pub record Passed (b : Bytes) : Type 0 where
  pub whole : whole_blocks 2 12 b ≡ true
  pub sums : sums_right b ≡ true
  pub kinds : kinds_right b ≡ true
  pub sizes : sizes_right b ≡ true
  pub fields : fields_right b ≡ true
  pub spare : (head_spare b && rows_spare b && cells_spare b) ≡ true
  pub agrees : consistent b ≡ true

module _ (b : Bytes) (e : refusal (read_model b) ≡ 0) where
  pub passed_all : Passed b
  unfolding read_model
  passed_all =
      let t1 = guard_passed 0 (whole_blocks 2 12 b) _ e in
      let t2 = guard_passed 1 (sums_right b) _ t1.1 in
      let t3 = guard_passed 2 (kinds_right b) _ t2.1 in
      let t4 = guard_passed 3 (sizes_right b) _ t3.1 in
      let t5 = guard_passed 4 (fields_right b) _ t4.1 in
      let t6 = guard_passed 5 (head_spare b && rows_spare b && cells_spare b) _ t5.1 in
      let t7 = guard_passed 6 (consistent b) _ t6.1 in
      record {
        whole = t1.0;
        sums = t2.0;
        kinds = t3.0;
        sizes = t4.0;
        fields = t5.0;
        spare = t6.0;
        agrees = t7.0;
      }

pub read_passed : (b : Bytes) → Passed b → read_model b ≡ ok (model_of b)
unfolding read_model
read_passed b p = rw (p.whole, p.sums, p.kinds, p.sizes, p.fields, p.spare, p.agrees) refl

module _ (b : Bytes) (p : Passed b) where
  pub passed_sized : Sized b
  passed_sized = sized b p.whole p.sizes p.fields

  pub some_post : (a : ℕ) → a < action_count b → 1 ≤ post_count b a
  unfolding fields_right action_in_range
  some_post a h =
      let f = and_both (every (state_count b) (λ s. mask_in_range b (state_mask b s)) && every (action_count b) (action_in_range b)) _ p.fields in
      let g = and_both (every (state_count b) (λ s. mask_in_range b (state_mask b s))) _ f.0 in
      let i = and_both (literals_in_range b (pre_of b a) && within 1 4 (post_count b a)) _ (every_at (action_in_range b) (action_count b) g.1 h) in
      at_least 1 4 (post_count b a) (and_both (literals_in_range b (pre_of b a)) _ i.0).1

  pub outcome_passed : (s a i : ℕ) → s < state_count b → a < action_count b → i < entries b s a → outcome_in_range b (outcome_of b s a i) ≡ true
  unfolding fields_right cell_in_range
  outcome_passed s a i h g l =
      let f = and_both (every (state_count b) (λ s. mask_in_range b (state_mask b s)) && every (action_count b) (action_in_range b)) _ p.fields in
      every_at (λ i. outcome_in_range b (outcome_of b s a i)) (entries b s a)
      (every_at (cell_in_range b s) (action_count b) (every_at (λ s. every (action_count b) (cell_in_range b s)) (state_count b) f.1 h) g) l

  pub action_passed : (a : ℕ) → a < action_count b → posts_contradict b a ≡ true
  unfolding consistent
  action_passed a h = every_at (posts_contradict b) (action_count b) (and_both (every (action_count b) (posts_contradict b)) _ p.agrees).0 h

  pub cell_passed : (s a : ℕ) → s < state_count b → a < action_count b → cell_consistent b s a ≡ true
  unfolding consistent
  cell_passed s a h g =
      every_at (cell_consistent b s) (action_count b)
      (every_at (λ s. every (action_count b) (cell_consistent b s)) (state_count b) (and_both (every (action_count b) (posts_contradict b)) _ p.agrees).1 h) g
