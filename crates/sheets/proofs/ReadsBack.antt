-- What is written is read back: block k of the sheet's bytes holds its number, the head fields, the weight and its part of the choices;
-- every test passes, and the parts are the choices again.
use Prim.Native.Nat.{ℕ, ◌+◌, ◌*◌, ◌-◌, ◌/◌, ◌%◌, ◌^◌, ◌≤◌, ◌<◌, min}
use native.Mathlib.Nat.{mul-div_right, mul-mod_right}
use native.Mathlib.Omega.{arith}
use mathlib.Core.Path.{◌≡◌, refl, sym, ap, ap₂, ◌∙◌}
use mathlib.Core.Bool.{Bool, true, false, cond, ◌&&◌}
use mathlib.Core.List.{List, ◌++◌, append_assoc}
use lib.Dec.{eqb, ltb}
use lib.IntN.{ℤ}
use lib.ListN.{length, take, drop, get_or, replicate, length-append, length-take, length-drop, length-replicate, get_or-replicate, get_or-append}
use lib.Signed.{mag}
use lib.Seq.{get_or-drop, drop-drop, drop_at, take_at, take_all}
use borrow.Author.Tests.{eq-eqb, le-leb, ltb-true}
use Rattle.logic.specs.Lists.{every}
use Rattle.logic.specs.Checked.{ok}
use Rattle.logic.proofs.Tests.{every_intro}
use Rattle.blocks.specs.Bytes.{Bytes, zeros, within, signed, twos_complement, little_endian}
use Rattle.blocks.specs.Block.{block_count, whole_blocks, sums_right, word_sum, headed, with_word_sum}
use Rattle.sheets.specs.Layout.{weight_of, count_of, choices_of, claimed_total, sheet_of, sheet_block, blocks_for, sheet_bytes}
use Rattle.sheets.specs.Grounds.{head_right, count_right, weight_right, spare_right, read_sheet}
use Rattle.blocks.proofs.TwosComplement.{signed_twos, twos_small}
use Rattle.blocks.proofs.NumberReadBack.{reads_16, reads_64}
use Rattle.blocks.proofs.WordSumSealed.{sealed_sum}
use Rattle.sheets.proofs.PiecesInOrder.{pieces, pieces_same, piece_at, parts}
use Rattle.sheets.proofs.BlockBegun.{block_length, blocks_length}

-- The tests, from what they ask.
within_test : (l m x : ℕ) → l ≤ x → x ≤ m → within l m x ≡ true
unfolding within
within_test l m x h g = ap₂ ◌&&◌ (le-leb l x h) (le-leb x m g)

count_test : (b : Bytes) (k : ℕ) → (k + 1 < block_count b → count_of b k ≡ 490) → 1 ≤ count_of b k → count_of b k ≤ 490 → count_right b k ≡ true
unfolding count_right
count_test b k f h g = by (ltb (k + 1) (block_count b)) refl
  where
    by : (t : Bool) → ltb (k + 1) (block_count b) ≡ t → cond t (eqb (count_of b k) 490) (within 1 490 (count_of b k)) ≡ true
    by true q = eq-eqb (count_of b k) 490 (f (ltb-true (k + 1) (block_count b) q))
    by false q = within_test 1 490 (count_of b k) h g

zeros_test : (b u : Bytes) (i m : ℕ) → drop i b ≡ replicate m 0 ++ u → zeros b i m ≡ true
unfolding zeros
zeros_test b u i m e =
    every_intro (λ j. eqb (get_or b (i + j) 0) 0) m
    (λ j h. eq-eqb (get_or b (i + j) 0) 0 (sym (get_or-drop i b j 0) ∙ ap (λ l. get_or l j 0) e ∙ get_or-append (replicate m 0) u 0 j (omega (arith, length-replicate {A = ℕ} m 0)) ∙ get_or-replicate m j 0 0 h))

regroup : (a b c d : List ℕ) → ((a ++ b) ++ c) ++ d ≡ a ++ (b ++ (c ++ d))
regroup a b c d = simp append_assoc

module _ (n start : ℕ) (z : ℤ) (cs : List ℕ) where
  -- the total's eight bytes
  abbrev w : ℕ
  w = twos_complement 63 z

  abbrev chunk : ℕ → List ℕ
  chunk k = take 490 (drop (490 * k) cs)

  abbrev block : ℕ → List ℕ
  block k = sheet_block n start w k (chunk k)

  abbrev bytes : Bytes
  bytes = sheet_bytes n start z cs

  chunk_few : (k : ℕ) → length (chunk k) ≤ 490
  chunk_few k = simp length-take (omega arith)

  pub sheet_length : length (sheet_bytes n start z cs) ≡ 512 * blocks_for (length cs)
  unfolding sheet_bytes
  sheet_length = blocks_length n start w cs (blocks_for (length cs))

  pub sheet_few : length cs ≤ 1365 → length (sheet_bytes n start z cs) ≤ 1536
  unfolding blocks_for
  sheet_few few = let e = sheet_length in omega arith

  counted : block_count bytes ≡ blocks_for (length cs)
  unfolding block_count
  counted = ap (λ z. z / 512) sheet_length ∙ mul-div_right (blocks_for (length cs)) {m = 512} (omega arith)

  module _ (small : mag z < 2 ^ 63) (some : 1 ≤ length cs) (few : length cs ≤ 1365) where
    module _ (k : ℕ) (l : k < block_count bytes) where
      spare : List ℕ
      spare = replicate (492 - length (chunk k)) 0

      block_at : (t : List ℕ) × (drop (512 * k) bytes ≡ block k ++ t)
      unfolding sheet_bytes
      block_at = piece_at block 512 k (blocks_for (length cs)) (omega (arith, counted)) (λ i h. block_length n start w i (chunk i) (chunk_few i))

      at : (i : ℕ) → drop (512 * k + i) bytes ≡ drop i (block k ++ block_at.0)
      at i = sym (drop-drop i (512 * k) bytes) ∙ ap (drop i) block_at.1

      first_byte : (i : ℕ) → i < 512 → get_or bytes (512 * k + i) 0 ≡ get_or (block k) i 0
      first_byte i h =
          sym (get_or-drop (512 * k) bytes i 0) ∙ ap (λ x. get_or x i 0) block_at.1 ∙ get_or-append (block k) block_at.0 0 i (omega (arith, block_length n start w k (chunk k) (chunk_few k)))

      sum_at : word_sum bytes k % 65536 ≡ 0
      unfolding sheet_block little_endian
      sum_at = sealed_sum _ block_at.0 bytes k (simp (length-append, length-replicate) (omega (arith, chunk_few k))) block_at.1

      count_at : count_of bytes k ≡ length (chunk k)
      unfolding count_of sheet_block with_word_sum little_endian
      count_at = reads_16 bytes _ (512 * k + 16) (length (chunk k)) (omega (arith, chunk_few k)) (at 16)

      weight_at : weight_of bytes k ≡ w
      unfolding weight_of sheet_block with_word_sum little_endian
      weight_at = reads_64 bytes _ (512 * k + 8) w (twos_small 63 z small) (at 8)

      kind_test : headed bytes k 4 k ≡ true
      unfolding headed sheet_block with_word_sum
      kind_test =
          let z : 512 * k ≡ 512 * k + 0 = omega arith in
          ap₂ ◌&&◌ (eq-eqb _ 4 (ap (λ i. get_or bytes i 0) z ∙ first_byte 0 (omega arith))) (eq-eqb _ k (first_byte 1 (omega arith)))

      head_test : head_right n start bytes k ≡ true
      unfolding head_right sheet_block with_word_sum
      head_test = ap₂ ◌&&◌ (eq-eqb _ n (first_byte 2 (omega arith))) (eq-eqb _ start (first_byte 3 (omega arith)))

      choices_at : (t : List ℕ) × (drop (512 * k + 18) bytes ≡ chunk k ++ (spare ++ t))
      unfolding spare sheet_block with_word_sum little_endian
      choices_at = (_, at 18 ∙ regroup (chunk k) spare _ block_at.0)

      count_passes : count_right bytes k ≡ true
      unfolding blocks_for
      count_passes =
          let c : length (chunk k) ≡ min 490 (length cs - 490 * k) = simp (length-take, length-drop) in
          count_test bytes k (λ h. omega (arith, count_at, counted)) (omega (arith, count_at, counted)) (omega (arith, count_at))

      spare_test : spare_right bytes k ≡ true
      unfolding spare_right spare sheet_block with_word_sum little_endian
      spare_test =
          let e : drop (512 * k + 18 + count_of bytes k) bytes ≡ replicate (492 - count_of bytes k) 0 ++ choices_at.0 =
          ap (λ c. drop (512 * k + 18 + c) bytes) count_at
          ∙ sym (drop-drop (length (chunk k)) (512 * k + 18) bytes)
          ∙ ap (drop (length (chunk k))) choices_at.1
          ∙ drop_at (chunk k) (spare ++ choices_at.0) (length (chunk k)) refl
          ∙ ap (λ c. replicate (492 - c) 0 ++ choices_at.0) (sym count_at) in
          ap₂ ◌&&◌ (zeros_test bytes _ (512 * k + 4) 4 (at 4)) (zeros_test bytes choices_at.0 (512 * k + 18 + count_of bytes k) (492 - count_of bytes k) e)

      part_at : choices_of bytes k ≡ chunk k
      unfolding choices_of
      part_at = ap₂ take count_at choices_at.1 ∙ take_at (chunk k) (spare ++ choices_at.0) (length (chunk k)) refl

    whole_test : whole_blocks 1 3 bytes ≡ true
    unfolding whole_blocks blocks_for
    whole_test =
        ap₂ ◌&&◌ (eq-eqb (length bytes % 512) 0 (ap (λ z. z % 512) sheet_length ∙ mul-mod_right 512 (blocks_for (length cs))))
        (within_test 1 3 (block_count bytes) (omega (arith, counted)) (omega (arith, counted)))

    sums_test : sums_right bytes ≡ true
    unfolding sums_right
    sums_test = every_intro _ (block_count bytes) (λ k l. eq-eqb (word_sum bytes k % 65536) 0 (sum_at k l))

    weight_test : (k : ℕ) → k < block_count bytes → weight_right bytes k ≡ true
    unfolding weight_right blocks_for
    weight_test k l = eq-eqb _ _ (weight_at k l ∙ sym (weight_at 0 (omega (arith, counted))))

    choices_back : (sheet_of bytes).choices ≡ cs
    unfolding sheet_of blocks_for
    choices_back =
        pieces_same (choices_of bytes) chunk (block_count bytes) part_at ∙ ap (pieces chunk) counted ∙ parts cs 490 (blocks_for (length cs))
        ∙ take_all (490 * blocks_for (length cs)) cs (omega arith)

    total_back : claimed_total bytes ≡ z
    unfolding claimed_total blocks_for
    total_back = ap (signed 63) (weight_at 0 (omega (arith, counted))) ∙ signed_twos 63 z small

    pub reads_back : read_sheet n start (sheet_bytes n start z cs) ≡ ok (record { weight = z; choices = cs })
    unfolding read_sheet sheet_of
    reads_back =
        let kinds : every (block_count bytes) (λ k. headed bytes k 4 k) ≡ true = every_intro (λ k. headed bytes k 4 k) (block_count bytes) kind_test in
        let heads : every (block_count bytes) (head_right n start bytes) ≡ true = every_intro (head_right n start bytes) (block_count bytes) head_test in
        let counts : every (block_count bytes) (λ k. count_right bytes k && weight_right bytes k) ≡ true =
        every_intro (λ k. count_right bytes k && weight_right bytes k) (block_count bytes) (λ k l. ap₂ ◌&&◌ (count_passes k l) (weight_test k l)) in
        let spares : every (block_count bytes) (spare_right bytes) ≡ true = every_intro (spare_right bytes) (block_count bytes) spare_test in
        rw (whole_test, sums_test, kinds, heads, counts, spares) (ap₂ (λ x y. ok (record { weight = x; choices = y })) total_back choices_back)
