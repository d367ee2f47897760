-- What the tests on a sheet's blocks say, as the readers use it.
use Prim.Native.Nat.{ℕ, ◌+◌, ◌*◌, ◌-◌, ◌≤◌, ◌<◌}
use native.Mathlib.Omega.{arith}
use native.Mathlib.Numerals.{add-one}
use mathlib.Core.Path.{◌≡◌, refl, sym, ap, ap₂, ◌∙◌}
use mathlib.Core.Bool.{Bool, true, false, cond, ◌&&◌}
use mathlib.Core.List.{List, ◌++◌}
use lib.Dec.{eqb, ltb}
use lib.ListN.{length, take, drop, length-append, length-drop}
use lib.Seq.{length-take-le}
use borrow.Rule.Slice.PartMut.{mid_of, put_mid}
use borrow.Author.Tests.{eqb-true, ltb-false}
use Rattle.logic.specs.Lists.{every}
use Rattle.logic.specs.Checked.{ok}
use Rattle.logic.specs.promises.Refusal.{refusal}
use Rattle.logic.proofs.Checked.{guard_passed}
use Rattle.logic.proofs.Tests.{and_left, every_at, every_intro}
use Rattle.blocks.specs.Bytes.{within}
use Rattle.blocks.specs.Block.{block_count, whole_blocks, sums_right, headed}
use Rattle.sheets.specs.Layout.{count_of, choices_of, sheet_of}
use Rattle.sheets.specs.Grounds.{head_right, count_right, weight_right, spare_right, read_sheet}
use Rattle.sheets.specs.promises.Reader.{Blocks}
use Rattle.blocks.proofs.PartPutBack.{put_front}
use Rattle.sheets.proofs.PiecesInOrder.{pieces, pieces_more}
use Rattle.blocks.proofs.RangeTests.{blocks_within, at_least, at_most}

pub record Whole (b : List ℕ) : Type 0 where
  pub length_is : length b ≡ 512 * block_count b
  pub some : 1 ≤ block_count b
  pub few : block_count b ≤ 3

pub whole_says : (b : List ℕ) → whole_blocks 1 3 b ≡ true → Whole b
unfolding block_count
whole_says b e = let w = blocks_within b 1 3 e in record { length_is = w.0; some = w.1; few = w.2 }

-- What ground 5 says of block k's count.
pub record Count (b : List ℕ) (k : ℕ) : Type 0 where
  pub full : k + 1 < block_count b → count_of b k ≡ 490
  pub some : 1 ≤ count_of b k
  pub few : count_of b k ≤ 490

pub count_says : (b : List ℕ) (k : ℕ) → count_right b k ≡ true → Count b k
unfolding count_right
count_says b k e = by (ltb (k + 1) (block_count b)) refl e
  where
    by : (t : Bool) → ltb (k + 1) (block_count b) ≡ t → cond t (eqb (count_of b k) 490) (within 1 490 (count_of b k)) ≡ true → Count b k
    by true q h = let z : count_of b k ≡ 490 = eqb-true (count_of b k) 490 h in record { full = λ l. z; some = omega arith; few = omega arith }
    by false q h =
        record {
          full = λ l. absurd (omega (arith, ltb-false (k + 1) (block_count b) q));
          some = at_least 1 490 (count_of b k) h;
          few = at_most 1 490 (count_of b k) h;
        }

module _ (b : List ℕ) where
  -- What passes ground 5 has its counts right.
  pub counts_of : every (block_count b) (λ k. count_right b k && weight_right b k) ≡ true → every (block_count b) (count_right b) ≡ true
  counts_of e =
      every_intro (count_right b) (block_count b)
      (λ k l. and_left (count_right b k) (weight_right b k) (every_at (λ k. count_right b k && weight_right b k) (block_count b) e l))

-- A sheet that is not refused has passed every ground.
module _ (n start : ℕ) (b : List ℕ) (e : refusal (read_sheet n start b) ≡ 0) where
  pub sheet_passed : Blocks 6 b × (read_sheet n start b ≡ ok (sheet_of b))
  unfolding read_sheet
  sheet_passed =
      let t₁ = guard_passed 0 (whole_blocks 1 3 b) _ e in
      let t₂ = guard_passed 1 (sums_right b) _ t₁.1 in
      let t₃ = guard_passed 2 (every (block_count b) (λ k. headed b k 4 k)) _ t₂.1 in
      let t₄ = guard_passed 3 (every (block_count b) (head_right n start b)) _ t₃.1 in
      let t₅ = guard_passed 4 (every (block_count b) (λ k. count_right b k && weight_right b k)) _ t₄.1 in
      let t₆ = guard_passed 5 (every (block_count b) (spare_right b)) _ t₅.1 in (
        record { from = omega arith; whole = t₁.0; counted = λ l. counts_of b t₅.0 },
        rw (t₁.0, t₂.0, t₃.0, t₄.0, t₅.0, t₆.0) refl,
      )

-- What is known of block k of a sheet that passed ground 5.
pub record Block (b : List ℕ) (k : ℕ) : Type 0 where
  pub number : k < 3
  pub inside : 512 * k + 512 ≤ length b
  pub few : count_of b k ≤ 490

pub block_says : (b : List ℕ) → Blocks 6 b → (k : ℕ) → k < block_count b → Block b k
block_says b B k l =
    let w = whole_says b B.whole in
    record {
      number = omega arith;
      inside = omega arith;
      few = (count_says b k (every_at (count_right b) (block_count b) (B.counted (omega arith)) l)).few;
    }

-- The choices of one block more, put in behind those before it.
pub gather_more : (b d₀ d p : List ℕ) (k at c : ℕ) → Block b k → c ≡ count_of b k → at ≡ length (pieces (choices_of b) k) → at + c ≤ length d → d ≡ pieces (choices_of b) k ++ drop at d₀
    → (let s = take (512 * k + 18 + c - (512 * k + 18)) (drop (512 * k + 18) b) in
    p ≡ s ++ drop (length s) (mid_of at (length d - at) d)
    → (put_mid at (length d - at) d p ≡ pieces (choices_of b) (k + 1) ++ drop (at + c) d₀) × (at + c ≡ length (pieces (choices_of b) (k + 1))))
unfolding choices_of
gather_more b d₀ d p k at c B ec ea le e g =
    let s : List ℕ = take (512 * k + 18 + c - (512 * k + 18)) (drop (512 * k + 18) b) in
    let j : 512 * k + 18 + c - (512 * k + 18) ≡ c = omega arith in
    let n : length s ≡ c = length-take-le _ (drop (512 * k + 18) b) (omega (arith, length-drop (512 * k + 18) b, B.inside, B.few)) ∙ j in
    let m : pieces (choices_of b) k ++ s ≡ pieces (choices_of b) (k + 1) =
    ap (λ i. pieces (choices_of b) k ++ take i (drop (512 * k + 18) b)) (j ∙ ec) ∙ sym (pieces_more (choices_of b) k) ∙ ap (pieces (choices_of b)) (sym (add-one k)) in (
      put_front (pieces (choices_of b) k) d₀ d at e (sym ea) s p (omega arith) g ∙ ap₂ (λ x y. x ++ drop (at + y) d₀) m n,
      ap₂ ◌+◌ ea (sym n) ∙ sym (length-append (pieces (choices_of b) k) s) ∙ ap length m,
    )
