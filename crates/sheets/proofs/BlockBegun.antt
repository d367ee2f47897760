-- A block in the making, field after field: what is written so far stands in front, and the rest is zero.
use Prim.Native.Nat.{ℕ, ◌+◌, ◌*◌, ◌-◌, ◌≤◌}
use native.Mathlib.Omega.{arith}
use mathlib.Core.Path.{◌≡◌, refl, sym, ap, ◌∙◌}
use mathlib.Core.List.{List, [], ◌∷◌, ◌++◌, append_assoc}
use lib.ListN.{length, take, drop, replicate, length-append, length-take, length-drop, length-replicate, replicate-append-replicate}
use lib.Seq.{take_at, length-take-le}
use borrow.Rule.Slice.PartMut.{mid_of, put_mid}
use Rattle.blocks.specs.Bytes.{little_endian}
use Rattle.blocks.specs.Block.{with_word_sum}
use Rattle.sheets.specs.Layout.{sheet_block}
use Rattle.sheets.specs.promises.Writer.{started, unsealed}
use Rattle.blocks.proofs.PartPutBack.{mid_is, put_front}
use Rattle.sheets.proofs.PiecesInOrder.{pieces, pieces_length}

unfoldable zero_block : List ℕ
zero_block = replicate 512 0

length_zero_block : length zero_block ≡ 512
unfolding zero_block
length_zero_block = length-replicate {A = ℕ} 512 0

-- x is written, a bytes.
record Written (x : List ℕ) (a : ℕ) (d : List ℕ) : Type 0 where
  is : d ≡ x ++ drop a zero_block
  front : length x ≡ a
  inside : a ≤ 512

written_length : (x : List ℕ) (a : ℕ) (d : List ℕ) → Written x a d → length d ≡ 512
written_length x a d w =
    ap length w.is ∙ length-append x (drop a zero_block) ∙ omega (arith, w.front, w.inside, length-drop a zero_block, length_zero_block)

write_on : (x : List ℕ) (a : ℕ) (d s p : List ℕ) → Written x a d → a + length s ≤ 512 → p ≡ s ++ drop (length s) (mid_of a (length d - a) d)
    → Written (x ++ s) (a + length s) (put_mid a (length d - a) d p)
write_on x a d s p w h g =
    let n : length d ≡ 512 = written_length x a d w in
    record {
      is = put_front x zero_block d a w.is w.front s p (omega arith) g;
      front = length-append x s ∙ ap (λ k. k + length s) w.front;
      inside = h;
    }

first : (n start k : ℕ) → List ℕ
first n start k = 4 ∷ k ∷ n ∷ start ∷ 0 ∷ 0 ∷ 0 ∷ 0 ∷ []

-- The bytes of block k before its choices.
module _ (n start w k count : ℕ) where
  pub fields : List ℕ
  fields = (first n start k ++ little_endian 8 w) ++ little_endian 2 count

  pub fields_length : length fields ≡ 18
  unfolding fields first little_endian
  fields_length = refl

  pub fields_first : (cs : List ℕ) → unsealed n start w k count cs ≡ fields ++ (cs ++ replicate (494 - length cs) 0)
  unfolding fields first little_endian unsealed
  fields_first cs = refl

  -- The weight and the count go in one after the other.
  pub begun_fields : (d₀ p₁ p₂ : List ℕ) → d₀ ≡ started n start k
      → (let d₁ = put_mid 8 (length d₀ - 8) d₀ p₁ in
      p₁ ≡ little_endian 8 w ++ drop 8 (mid_of 8 (length d₀ - 8) d₀)
      → p₂ ≡ little_endian 2 count ++ drop 2 (mid_of 16 (length d₁ - 16) d₁)
      → put_mid 16 (length d₁ - 16) d₁ p₂ ≡ unsealed n start w k count [])
  unfolding little_endian started zero_block first unsealed
  begun_fields d₀ p₁ p₂ e g₁ g₂ =
      let w₀ : Written (first n start k) 8 d₀ = record { is = e; front = refl; inside = omega arith } in
      let d₁ = put_mid 8 (length d₀ - 8) d₀ p₁ in
      let w₁ : Written (first n start k ++ little_endian 8 w) 16 d₁ = write_on _ 8 d₀ (little_endian 8 w) p₁ w₀ (omega arith) g₁ in
      (write_on _ 16 d₁ (little_endian 2 count) p₂ w₁ (omega arith) g₂).is

-- A block with all its choices: sealed it is the sheet's.
module _ (n start w k : ℕ) (cs : List ℕ) (few : length cs ≤ 490) where
  pub unsealed_length : (count : ℕ) → length (unsealed n start w k count cs) ≡ 512
  unfolding unsealed little_endian
  unsealed_length count = simp (length-append, length-replicate) (omega arith)

  front : List ℕ
  front = fields n start w k (length cs) ++ (cs ++ replicate (492 - length cs) 0)

  front_length : length front ≡ 510
  unfolding front
  front_length = simp (length-append, length-replicate, fields_length) (omega arith)

  front_first : unsealed n start w k (length cs) cs ≡ front ++ replicate 2 0
  unfolding front
  front_first =
      let tail : List ℕ = replicate (492 - length cs) 0 in
      let j : 494 - length cs ≡ 492 - length cs + 2 = omega arith in
      fields_first n start w k (length cs) cs
      ∙ ap (λ i. fields n start w k (length cs) ++ (cs ++ replicate i 0)) j
      ∙ ap (λ l. fields n start w k (length cs) ++ (cs ++ l)) (sym (replicate-append-replicate (492 - length cs) 2 0))
      ∙ regroup (fields n start w k (length cs)) cs tail (replicate 2 0)
    where
      regroup : (a b c d : List ℕ) → a ++ (b ++ (c ++ d)) ≡ (a ++ (b ++ c)) ++ d
      regroup a b c d = simp append_assoc

  pub sealed_block : with_word_sum (take 510 (unsealed n start w k (length cs) cs)) ≡ sheet_block n start w k cs
  unfolding front fields first little_endian sheet_block
  sealed_block = ap (λ l. with_word_sum (take 510 l)) front_first ∙ ap with_word_sum (take_at front (replicate 2 0) 510 front_length)

pub block_length : (n start w k : ℕ) (cs : List ℕ) → length cs ≤ 490 → length (sheet_block n start w k cs) ≡ 512
unfolding sheet_block with_word_sum little_endian
block_length n start w k cs h = simp (length-append, length-replicate) (omega arith)

pub blocks_length : (n start w : ℕ) (cs : List ℕ) (k : ℕ) → length (pieces (λ i. sheet_block n start w i (take 490 (drop (490 * i) cs))) k) ≡ 512 * k
blocks_length n start w cs k =
    pieces_length (λ i. sheet_block n start w i (take 490 (drop (490 * i) cs))) 512 k
    (λ i l. block_length n start w i (take 490 (drop (490 * i) cs)) (simp length-take (omega arith)))

-- ---- blocks sealed one after the other

module _ (b : List ℕ) where
  abbrev done : ℕ → List ℕ
  done k = with_word_sum (take 510 (drop (512 * k) b))

  pub sealed_length : (k : ℕ) → 512 * k ≤ length b → length (pieces done k) ≡ 512 * k
  unfolding with_word_sum little_endian
  sealed_length k h = pieces_length done 512 k (λ i l. simp (length-append, length-take, length-drop) (omega arith))

  -- The block that is lent is as it was.
  pub block_lent : (d : List ℕ) (k : ℕ) → 512 * k + 512 ≤ length b → d ≡ pieces done k ++ drop (512 * k) b
      → (let p = mid_of (512 * k) (512 * k + 512 - 512 * k) d in (length p ≡ 512) × (p ≡ take 512 (drop (512 * k) b)))
  block_lent d k h e =
      let j : 512 * k + 512 - 512 * k ≡ 512 = omega arith in
      let p : mid_of (512 * k) (512 * k + 512 - 512 * k) d ≡ take 512 (drop (512 * k) b) =
      mid_is (pieces done k) b d (512 * k) e (sealed_length k (omega arith)) (512 * k + 512 - 512 * k) ∙ ap (λ i. take i (drop (512 * k) b)) j in
      (ap length p ∙ length-take-le 512 (drop (512 * k) b) (omega (arith, length-drop (512 * k) b)), p)
