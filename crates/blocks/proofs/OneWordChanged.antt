-- A word that is changed in blocks that pass the sum test makes them fail it: the other words of its block and the sum tell what it was.
use Prim.Native.Nat.{ℕ, ◌+◌, ◌*◌, ◌/◌, ◌%◌, ◌<◌}
use native.Mathlib.Omega.{arith}
use mathlib.Core.Path.{◌≡◌, refl, sym, ap, subst, ◌∙◌}
use mathlib.Core.Bool.{Bool, true, false}
use lib.Dec.{eqb}
use lib.ListN.{length, set, length-set}
use lib.Seq.{get_or-set_same, get_or-set_other}
use borrow.Author.Tests.{eqb-false}
use Rattle.logic.proofs.Tests.{eqb_eq, every_at}
use Rattle.blocks.specs.Bytes.{Bytes, AllBytes, byte, u16}
use Rattle.blocks.specs.Block.{block_count, word_sum, sums_right}
use Rattle.blocks.specs.OneWord.{Corrupted}
use Rattle.blocks.proofs.NumberReadBack.{same_16, word_small}
use Rattle.blocks.proofs.Sums.{told_word}

-- The sum of a block's words, where all blocks pass.
sum_zero : (b : Bytes) (k : ℕ) → sums_right b ≡ true → k < block_count b → word_sum b k % 65536 ≡ 0
unfolding sums_right
sum_zero b k e l = eqb_eq _ _ (every_at (λ i. eqb (word_sum b i % 65536) 0) (block_count b) e l)

module _ {b c : Bytes} (s : Corrupted b c) where
  abbrev word : ℕ
  word = s.one_word.w

  unchanged : sums_right c ≡ true → u16 c (2 * word) ≡ u16 b (2 * word)
  unfolding word_sum block_count
  unchanged e =
      let o = s.one_word in
      let k : ℕ = word / 256 in
      let j : ℕ = word % 256 in
      let at : 512 * k + 2 * j ≡ 2 * word = omega arith in
      let same_count : length c / 512 ≡ length b / 512 = ap (λ n. n / 512) o.same_length in
      let inside : k < length b / 512 = omega (arith, o.in_a_block) in
      subst (λ i. u16 c i ≡ u16 b i) at
      (told_word (λ i. u16 c (512 * k + 2 * i)) (λ i. u16 b (512 * k + 2 * i)) j 256 (omega arith) others
      (word_small c s.bytes_after _) (word_small b s.bytes_before _)
      (sum_zero c k e (omega arith) ∙ sym (sum_zero b k s.right_before inside)))
    where
      others : (i : ℕ) → i < 256 → (i ≡ word % 256 → ⊥) → u16 c (512 * (word / 256) + 2 * i) ≡ u16 b (512 * (word / 256) + 2 * i)
      others i l n =
          let at : 2 * (256 * (word / 256) + i) ≡ 512 * (word / 256) + 2 * i = omega arith in
          subst (λ x. u16 c x ≡ u16 b x) at (s.one_word.others_same (256 * (word / 256) + i) (λ z. n (omega arith)))

  -- The sum test fails.
  pub corrupted_fails : sums_right c ≡ false
  corrupted_fails = by (sums_right c) refl
    where
      by : (t : Bool) → sums_right c ≡ t → t ≡ false
      by true e = absurd (s.one_word.changed (unchanged e))
      by false e = refl

-- One byte changed is one word changed: so there is such input for every byte of every block.
module _ (b : Bytes) (i x : ℕ) (inside : i < 512 * block_count b) where
  abbrev after : Bytes
  after = set b i x

  there : byte after i ≡ x
  unfolding block_count
  there = get_or-set_same b i x 0 (omega arith)

  elsewhere : (k : ℕ) → (k ≡ i → ⊥) → byte after k ≡ byte b k
  elsewhere k n = get_or-set_other b i k x 0 n

  still_bytes : AllBytes b → x < 256 → AllBytes after
  still_bytes h l k = by (eqb k i) refl
    where
      by : (t : Bool) → eqb k i ≡ t → byte after k < 256
      by true e = subst (λ z. z < 256) (sym (ap (byte after) (eqb_eq k i e) ∙ there)) l
      by false e = subst (λ z. z < 256) (sym (elsewhere k (eqb-false k i e))) (h k)

  other_words : (v : ℕ) → (v ≡ i / 2 → ⊥) → u16 after (2 * v) ≡ u16 b (2 * v)
  other_words v n = same_16 after b (2 * v) (2 * v) (elsewhere (2 * v) (λ e. n (omega arith))) (elsewhere (2 * v + 1) (λ e. n (omega arith)))

  same_byte : u16 after (2 * (i / 2)) ≡ u16 b (2 * (i / 2)) → x ≡ byte b i
  unfolding u16
  same_byte e = by (eqb (i % 2) 0) refl
    where
      by : (t : Bool) → eqb (i % 2) 0 ≡ t → x ≡ byte b i
      by true q =
          let at : 2 * (i / 2) ≡ i = omega (arith, eqb_eq (i % 2) 0 q) in
          let z = elsewhere (2 * (i / 2) + 1) (λ y. omega arith) in
          let y : byte after (2 * (i / 2)) ≡ byte b (2 * (i / 2)) = omega arith in
          sym there ∙ subst (λ k. byte after k ≡ byte b k) at y
      by false q =
          let at : 2 * (i / 2) + 1 ≡ i = omega (arith, eqb-false (i % 2) 0 q) in
          let z = elsewhere (2 * (i / 2)) (λ y. omega arith) in
          let y : byte after (2 * (i / 2) + 1) ≡ byte b (2 * (i / 2) + 1) = omega arith in
          sym there ∙ subst (λ k. byte after k ≡ byte b k) at y

  pub byte_changed : AllBytes b → sums_right b ≡ true → x < 256 → (x ≡ byte b i → ⊥) → Corrupted b after
  byte_changed h r l n =
      record {
        bytes_before = h;
        bytes_after = still_bytes h l;
        right_before = r;
        one_word = record { w = i / 2; in_a_block = omega arith; same_length = length-set b i x; changed = λ e. n (same_byte e); others_same = other_words };
      }
