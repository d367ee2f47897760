-- Choices stored one by one. Those of one block are pasted behind its first 18 bytes, so that block after block becomes full; the full
-- blocks, sealed, are the sheet.
use Prim.Native.Nat.{ℕ, zero, suc, ◌+◌, ◌*◌, ◌-◌, ◌≤◌, ◌<◌, min}
use native.Mathlib.Omega.{arith}
use native.Mathlib.Nat.{add-zero, add-suc, add_assoc}
use native.Mathlib.Numerals.{add-one}
use mathlib.Core.Path.{◌≡◌, refl, sym, ap, ap₂, ◌∙◌}
use mathlib.Core.List.{List, [], ◌++◌, append_assoc}
use lib.IntN.{ℤ}
use lib.ListN.{length, take, drop, set, get_or, replicate, length-append, length-take, length-drop, length-set, length-replicate, take-append-drop}
use lib.Seq.{paste, paste-zero, paste-suc, take_at, drop_at, drop-drop, drop-append-le, take-append-le, take-append_seam, get_or-drop}
use Rattle.blocks.specs.Bytes.{Bytes, twos_complement}
use Rattle.blocks.specs.Block.{with_word_sum}
use Rattle.sheets.specs.Layout.{sheet_block, blocks_for, sheet_bytes}
use Rattle.sheets.specs.promises.Writer.{unsealed, chunk_size, begun, sealed, place, stored}
use Rattle.std.proofs.lemmas.List.{drop-replicate}
use Rattle.sheets.proofs.PiecesInOrder.{pieces, pieces_none, pieces_more, pieces_same, pieces_length, next_piece}
use Rattle.sheets.proofs.BlockBegun.{fields, fields_length, fields_first, unsealed_length, sealed_block}

module _ (cs : List ℕ) where
  pub stored_length : (p j : ℕ) (b : Bytes) → length (stored cs p j b) ≡ length b
  unfolding stored
  stored_length p zero b = refl
  stored_length p (suc j) b = length-set (stored cs p j b) (place (p + j)) (get_or cs (p + j) 0) ∙ stored_length p j b

  pub stored_none : (p : ℕ) (b : Bytes) → b ≡ stored cs p (p - p) b
  unfolding stored
  stored_none p b = let z : p - p ≡ 0 = omega arith in sym (ap (λ k. stored cs p k b) z)

  pub stored_one : (p : ℕ) (b : Bytes) → set b (place p) (get_or cs p 0) ≡ stored cs p 1 b
  unfolding stored
  stored_one p b = ap (λ k. set b (place k) (get_or cs k 0)) (sym (add-zero p))

  -- So many choices, and then those behind them.
  adds : (p i j : ℕ) (b : Bytes) → stored cs (p + i) j (stored cs p i b) ≡ stored cs p (i + j) b
  unfolding stored
  adds p i zero b = ap (λ k. stored cs p k b) (sym (add-zero i))
  adds p i (suc j) b =
      ap (λ x. set x (place (p + i + j)) (get_or cs (p + i + j) 0)) (adds p i j b)
      ∙ ap (λ k. set (stored cs p (i + j) b) (place k) (get_or cs k 0)) (add_assoc p i j)
      ∙ ap (λ k. stored cs p k b) (sym (add-suc i j))

  pub stored_on : (p q r : ℕ) (b b' b'' : Bytes) → p ≤ q → q ≤ r → b' ≡ stored cs p (q - p) b → b'' ≡ stored cs q (r - q) b' → b'' ≡ stored cs p (r - p) b
  stored_on p q r b b' b'' h g e f =
      let z : q ≡ p + (q - p) = omega arith in
      let y : q - p + (r - q) ≡ r - p = omega arith in
      f ∙ ap₂ (λ k x. stored cs k (r - q) x) z e ∙ adds p (q - p) (r - q) b ∙ ap (λ k. stored cs p k b) y

  -- The choices of block k.
  place_in : (k j : ℕ) → j < 490 → place (490 * k + j) ≡ 512 * k + 18 + j
  unfolding place
  place_in k j h = omega arith

  pastes : (k j : ℕ) (b : Bytes) → j ≤ 490 → 490 * k + j ≤ length cs → 512 * k + 18 + j ≤ length b → stored cs (490 * k) j b ≡ paste b (512 * k + 18) (drop (490 * k) cs) j
  unfolding stored
  pastes k zero b h g l = paste-zero b (512 * k + 18) (drop (490 * k) cs)
  pastes k (suc j) b h g l =
      let at : ℕ = 512 * k + 18 in
      ap₂ (λ x i. set x i (get_or cs (490 * k + j) 0)) (pastes k j b (omega arith) (omega arith) (omega arith)) (place_in k j (omega arith))
      ∙ ap (set (paste b at (drop (490 * k) cs) j) (at + j)) (sym (get_or-drop (490 * k) cs j 0))
      ∙ paste-suc b at (drop (490 * k) cs) j 0 (omega arith) (omega (arith, length-drop (490 * k) cs))

  -- Into a block that is h, 18 bytes, and z.
  into_block : (k j : ℕ) (x h z y : List ℕ) → j ≤ 490 → 490 * k + j ≤ length cs → length x ≡ 512 * k → length h ≡ 18 → j ≤ length z
      → stored cs (490 * k) j (x ++ ((h ++ z) ++ y)) ≡ x ++ ((h ++ (take j (drop (490 * k) cs) ++ drop j z)) ++ y)
  into_block k j x h z y few g lx lh lz =
      let b : List ℕ = (x ++ h) ++ (z ++ y) in
      let at : ℕ = 512 * k + 18 in
      let s : List ℕ = take j (drop (490 * k) cs) in
      let n : length (x ++ h) ≡ at = length-append x h ∙ ap₂ ◌+◌ lx lh in
      let e : x ++ ((h ++ z) ++ y) ≡ b = simp append_assoc in
      let l : at + j ≤ length b = omega (arith, length-append (x ++ h) (z ++ y), length-append z y) in
      let d : drop (at + j) b ≡ drop j z ++ y = sym (drop-drop j at b) ∙ ap (drop j) (drop_at (x ++ h) (z ++ y) at n) ∙ drop-append-le j z y lz in
      ap (stored cs (490 * k) j) e
      ∙ pastes k j b few g l
      ∙ ap₂ (λ u v. (u ++ s) ++ v) (take_at (x ++ h) (z ++ y) at n) d
      ∙ regroup x h s (drop j z) y
    where
      regroup : (x h s z y : List ℕ) → ((x ++ h) ++ s) ++ (z ++ y) ≡ x ++ ((h ++ (s ++ z)) ++ y)
      regroup x h s z y = simp append_assoc

-- ---- a sheet's blocks

module _ (n start w : ℕ) (cs : List ℕ) where
  abbrev count : ℕ
  count = length cs

  abbrev chunk : ℕ → List ℕ
  chunk k = take 490 (drop (490 * k) cs)

  -- Block k with none of its choices, and with all.
  abbrev empty : ℕ → Bytes
  empty k = unsealed n start w k (chunk_size count k) []

  abbrev pub full : ℕ → Bytes
  full k = unsealed n start w k (length (chunk k)) (chunk k)

  few : (k : ℕ) → length (chunk k) ≤ 490
  few k = simp length-take (omega arith)

  chunk_length : (k : ℕ) → chunk_size count k ≡ length (chunk k)
  chunk_length k = simp (length-take, length-drop)

  full_length : (k : ℕ) → length (full k) ≡ 512
  full_length k = unsealed_length n start w k (chunk k) (few k) (length (chunk k))

  empty_length : (k : ℕ) → length (empty k) ≡ 512
  empty_length k = unsealed_length n start w k [] (omega arith) (chunk_size count k)

  fill_block : (k : ℕ) (x y : List ℕ) → 490 * k ≤ count → length x ≡ 512 * k → stored cs (490 * k) (length (chunk k)) (x ++ (empty k ++ y)) ≡ x ++ (full k ++ y)
  fill_block k x y h lx =
      let c : ℕ = length (chunk k) in
      let rest : List ℕ = drop (490 * k) cs in
      let zeros : List ℕ = replicate 494 0 in
      let front : take c rest ≡ chunk k = ap (λ l. take c l) (sym (take-append-drop 490 rest)) ∙ take-append_seam (chunk k) (drop 490 rest) in
      let inside : 490 * k + c ≤ count = omega (arith, length-take 490 rest, length-drop (490 * k) cs) in
      ap (λ i. stored cs (490 * k) c (x ++ (unsealed n start w k i [] ++ y))) (chunk_length k)
      ∙ ap (λ l. stored cs (490 * k) c (x ++ (l ++ y))) (fields_first n start w k c [])
      ∙ into_block cs k c x (fields n start w k c) zeros y (few k) inside lx (fields_length n start w k c) (omega (arith, few k, length-replicate {A = ℕ} 494 0))
      ∙ ap₂ (λ s r. x ++ ((fields n start w k c ++ (s ++ r)) ++ y)) front (drop-replicate c 494 0)
      ∙ ap (λ l. x ++ (l ++ y)) (sym (fields_first n start w k c (chunk k)))

  -- Block after block, in a buffer that goes on with t.
  module _ (t : List ℕ) where
    abbrev b₀ : Bytes
    b₀ = begun n start w count ++ t

    fills : (k : ℕ) → k ≤ blocks_for count → stored cs 0 (min (490 * k) count) b₀ ≡ pieces full k ++ drop (512 * k) b₀
    unfolding stored blocks_for begun
    fills zero h =
        let z : min (490 * 0) count ≡ 0 = omega arith in
        let y : 512 * 0 ≡ 0 = omega arith in
        ap (λ i. stored cs 0 i b₀) z ∙ sym (ap₂ (λ u i. u ++ drop i b₀) (pieces_none full) y)
    fills (suc k) h =
        let c : ℕ = length (chunk k) in
        let z : min (490 * suc k) count ≡ 490 * k + c = omega (arith, chunk_length k) in
        let y : min (490 * k) count ≡ 490 * k = omega arith in
        let x : 0 + 490 * k ≡ 490 * k = omega arith in
        let rest : List ℕ = drop (512 * (k + 1)) b₀ in
        let d : drop (512 * k) b₀ ≡ empty k ++ rest = next_piece empty 512 k (blocks_for count) t (omega arith) (λ i g. empty_length i) in
        ap (λ i. stored cs 0 i b₀) z
        ∙ sym (adds cs 0 (490 * k) c b₀)
        ∙ ap₂ (λ i l. stored cs i c l) x (ap (λ i. stored cs 0 i b₀) (sym y) ∙ fills k (omega arith) ∙ ap (λ l. pieces full k ++ l) d)
        ∙ fill_block k (pieces full k) rest (omega arith) (pieces_length full 512 k (λ i g. full_length i))
        ∙ sym (append_assoc (pieces full k) (full k) rest)
        ∙ ap₂ (λ u i. u ++ drop (512 * i) b₀) (sym (pieces_more full k)) (add-one k)

    pub all_stored : (b b' : Bytes) → b ≡ b₀ → b' ≡ stored cs 0 (count - 0) b → b' ≡ pieces full (blocks_for count) ++ t
    unfolding blocks_for begun
    all_stored b b' e f =
        let B : ℕ = blocks_for count in
        let z : count - 0 ≡ min (490 * B) count = omega arith in
        f ∙ ap₂ (λ i l. stored cs 0 i l) z e
        ∙ fills B (omega arith)
        ∙ ap (λ l. pieces full B ++ l) (drop_at (pieces empty B) t (512 * B) (pieces_length empty 512 B (λ i g. empty_length i)))

    -- The full blocks, sealed, are the sheet.
    module _ (b : Bytes) (e : b ≡ pieces full (blocks_for count) ++ t) where
      block_is : (k : ℕ) → k < blocks_for count → (u : List ℕ) × (drop (512 * k) b ≡ full k ++ u)
      block_is k l = (_, ap (drop (512 * k)) e ∙ next_piece full 512 k (blocks_for count) t l (λ i g. full_length i))

      pub all_sealed : (z : ℤ) → w ≡ twos_complement 63 z → sealed (blocks_for count) b ≡ sheet_bytes n start z cs ++ t
      unfolding sealed sheet_bytes
      all_sealed z bits =
          let B : ℕ = blocks_for count in
          ap₂ ◌++◌ (pieces_same (λ k. with_word_sum (take 510 (drop (512 * k) b))) (λ k. sheet_block n start w k (chunk k)) B one)
          (ap (drop (512 * B)) e ∙ drop_at (pieces full B) t (512 * B) (pieces_length full 512 B (λ i g. full_length i)))
          ∙ ap (λ w. pieces (λ k. sheet_block n start w k (chunk k)) B ++ t) bits
        where
          one : (k : ℕ) → k < blocks_for count → with_word_sum (take 510 (drop (512 * k) b)) ≡ sheet_block n start w k (chunk k)
          one k l =
              let u = block_is k l in
              ap (λ x. with_word_sum (take 510 x)) u.1
              ∙ ap with_word_sum (take-append-le 510 (full k) u.0 (omega (arith, full_length k)))
              ∙ sealed_block n start w k (chunk k) (few k)
