-- The last word of a block: the sum of all words less the last one is that of the others, and the word that is put in makes the sum 0 modulo
-- 65,536.
use Prim.Native.Nat.{ℕ, suc, ◌+◌, ◌*◌, ◌-◌, ◌%◌, ◌<◌}
use native.Mathlib.Nat.{mod-lt}
use native.Mathlib.Omega.{arith}
use mathlib.Core.Path.{◌≡◌, refl, sym, ap, ap₂, ◌∙◌}
use mathlib.Core.List.{List, [], ◌∷◌, ◌++◌, append_assoc, append-nil}
use lib.ListN.{length, take, drop, get_or, take-append-drop, drop_of_length-le, get_or-append}
use lib.Seq.{get_or-drop, get_or-take, length-take-le, drop-drop, drop_at}
use borrow.Rule.Slice.PartMut.{mid_of, put_mid}
use Rattle.blocks.specs.Bytes.{u16, little_endian}
use Rattle.blocks.specs.Block.{sum_below, word_sum, with_word_sum}
use Rattle.blocks.proofs.PartPutBack.{put_front}
use Rattle.blocks.proofs.Sums.{sum_same}
use Rattle.blocks.proofs.NumberReadBack.{same_16, two_bytes, reads_16}

sum_last : (n : ℕ) (f : ℕ → ℕ) → sum_below (suc n) f ≡ sum_below n f + f n
unfolding sum_below
sum_last n f = refl

-- The sum of the words but the last.
abbrev others_sum : List ℕ → ℕ
others_sum l = sum_below 255 (λ j. u16 l (2 * j))

-- All words: the others, and the last.
with_last : (d : List ℕ) → word_sum d 0 ≡ others_sum (take 510 d) + u16 d 510
unfolding word_sum
with_last d =
    sum_last 255 (λ j. u16 d (512 * 0 + 2 * j))
    ∙ ap (λ x. x + u16 d 510) (sum_same (λ j. u16 d (512 * 0 + 2 * j)) (λ j. u16 (take 510 d) (2 * j)) 255 same)
  where
    same : (j : ℕ) → j < 255 → u16 d (512 * 0 + 2 * j) ≡ u16 (take 510 d) (2 * j)
    same j h =
        let e : 512 * 0 + 2 * j ≡ 2 * j = omega arith in
        ap (u16 d) e ∙ same_16 d (take 510 d) (2 * j) (2 * j) (sym (get_or-take 510 d (2 * j) 0 (omega arith))) (sym (get_or-take 510 d (2 * j + 1) 0 (omega arith)))

-- Two bytes hold a number modulo 65,536.
same_two : (x y : ℕ) → x % 65536 ≡ y % 65536 → little_endian 2 x ≡ little_endian 2 y
unfolding little_endian
same_two x y e =
    let low : x % 256 ≡ y % 256 = omega arith in
    ap₂ (λ u v. u ∷ v ∷ []) low (high _ _ _ _ low (two_bytes x ∙ e ∙ sym (two_bytes y)))
  where
    high : (l m h k : ℕ) → l ≡ m → l + 256 * h ≡ m + 256 * k → h ≡ k
    high l m h k p q = omega arith

-- The word that is put in, by the sum of all words and the last one, is the one by the sum of the others.
word_by_others : (s last : ℕ) → last < 65536 → (65536 + last - (s + last) % 65536) % 65536 ≡ (65536 - s % 65536) % 65536 % 65536
word_by_others s last h = omega arith

-- d is a block, of which `sum` and `last` were read; p is its last word's place after the word was put in.
pub sealed : (d p : List ℕ) (sum last : ℕ) → length d ≡ 512 → sum ≡ word_sum d 0 % 65536 → last ≡ u16 d 510 → last < 65536
    → p ≡ little_endian 2 (65536 + last - sum) ++ drop 2 (mid_of 510 (length d - 510) d)
    → put_mid 510 (length d - 510) d p ≡ with_word_sum (take 510 d)
unfolding with_word_sum little_endian
sealed d p sum last n e f h g =
    let word : ℕ = 65536 + last - sum in
    let s : sum ≡ (others_sum (take 510 d) + last) % 65536 = e ∙ ap (λ x. x % 65536) (with_last d ∙ ap (λ x. others_sum (take 510 d) + x) (sym f)) in
    put_front (take 510 d) d d 510 (sym (take-append-drop 510 d)) (length-take-le 510 d (omega arith)) (little_endian 2 word) p (omega arith) g
    ∙ ap (λ l. (take 510 d ++ little_endian 2 word) ++ l) (drop_of_length-le d {i = 512} (omega arith))
    ∙ append-nil (take 510 d ++ little_endian 2 word)
    ∙ ap (λ l. take 510 d ++ l) (same_two word _ (ap (λ x. (65536 + last - x) % 65536) s ∙ word_by_others (others_sum (take 510 d)) last h))

-- With that word, the sum is 0 modulo 65,536.
zero_sum : (s : ℕ) → (s + (65536 - s % 65536) % 65536) % 65536 ≡ 0
zero_sum s = omega arith

pub sealed_sum : (l t b : List ℕ) (k : ℕ) → length l ≡ 510 → drop (512 * k) b ≡ with_word_sum l ++ t → word_sum b k % 65536 ≡ 0
unfolding word_sum with_word_sum
sealed_sum l t b k n e =
    let s : ℕ = others_sum l in
    let word : ℕ = (65536 - s % 65536) % 65536 in
    let e' : drop (512 * k) b ≡ l ++ (little_endian 2 word ++ t) = e ∙ append_assoc l (little_endian 2 word) t in
    let d : drop (512 * k + 510) b ≡ little_endian 2 word ++ t = sym (drop-drop 510 (512 * k) b) ∙ ap (drop 510) e' ∙ drop_at l (little_endian 2 word ++ t) 510 n in
    ap (λ z. z % 65536)
    (sum_last 255 (λ j. u16 b (512 * k + 2 * j))
    ∙ ap₂ ◌+◌ (sum_same (λ j. u16 b (512 * k + 2 * j)) (λ j. u16 l (2 * j)) 255 (same (little_endian 2 word ++ t) e')) (reads_16 b t (512 * k + 510) word (mod-lt (65536 - s % 65536) {m = 65536} (omega arith)) d))
    ∙ zero_sum s
  where
    same : (u : List ℕ) → drop (512 * k) b ≡ l ++ u → (j : ℕ) → j < 255 → u16 b (512 * k + 2 * j) ≡ u16 l (2 * j)
    same u q j h =
        let at : (i : ℕ) → i < 510 → get_or b (512 * k + i) 0 ≡ get_or l i 0 =
        λ i g. sym (get_or-drop (512 * k) b i 0) ∙ ap (λ x. get_or x i 0) q ∙ get_or-append l u 0 i (omega arith) in
        let z : 512 * k + 2 * j + 1 ≡ 512 * k + (2 * j + 1) = omega arith in
        same_16 b l (512 * k + 2 * j) (2 * j) (at (2 * j) (omega arith)) (ap (λ i. get_or b i 0) z ∙ at (2 * j + 1) (omega arith))
