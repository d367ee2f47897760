-- Two accepted inputs that hold the same model are the same bytes. Each region of a block is either a field, which the model tells, or
-- spare and zero; the last word of a block is told by the others, since the words sum to 0.
use Prim.Native.Nat.{ℕ, zero, suc, ◌+◌, ◌*◌, ◌-◌, ◌/◌, ◌%◌, ◌<◌, ◌≤◌}
use native.Mathlib.Omega.{arith}
use native.Mathlib.Nat.{mul-zero, mul-suc}
use mathlib.Core.Path.{◌≡◌, refl, sym, ap, subst, ◌∙◌}
use mathlib.Core.Bool.{Bool, true, false, cond, ◌&&◌}
use lib.Dec.{eqb, ltb}
use lib.IntN.{pos, negsuc}
use lib.ListN.{length, get_or}
use lib.Seq.{ext_get_or}
use borrow.Author.Tests.{ltb-true, ltb-false}
use Rattle.logic.specs.Lists.{tabulate, every}
use Rattle.logic.specs.Model.{Step, Literals, Action, no_action, mask, stored}
use Rattle.logic.proofs.Tests.{and_left, and_right, eqb_eq, every_at, length_tabulate, get_or_tabulate}
use Rattle.blocks.specs.Bytes.{Bytes, AllBytes, byte, u16, u32, i16, signed, zeros}
use Rattle.blocks.specs.Block.{block_count, word_sum, sums_right, headed}
use Rattle.blocks.proofs.NumberReadBack.{same_16, word_small}
use Rattle.blocks.proofs.Sums.{told_word}
use Rattle.models.specs.Layout.{state_count, action_count, literals, state_mask, action_at, pre_of, post_count, post_of, cell_at, outcome_of, entries, model_of}
use Rattle.models.specs.Grounds.{kinds_right, action_spare, head_spare, row_spare, rows_spare, cell_spare, cells_spare}
use Rattle.models.proofs.GroundsPassed.{Passed, passed_sized}
use Rattle.models.proofs.EveryCell.{entries_small}
use Rattle.models.proofs.OutcomesOfCell.{stored_are}
use Rattle.models.proofs.ModelOfBytes.{states_held, mask_held}

signed_same : (x y : ℕ) → x < 65536 → y < 65536 → signed 15 x ≡ signed 15 y → x ≡ y
unfolding signed
signed_same x y h g e = by (ltb x 32768) (ltb y 32768) refl refl e
  where
    by : (t u : Bool) → ltb x 32768 ≡ t → ltb y 32768 ≡ u → cond t (pos x) (negsuc (65535 - x)) ≡ cond u (pos y) (negsuc (65535 - y)) → x ≡ y
    by true true p q e = cc
    by true false p q e = let z : ◌≡◌ {A = ℕ} 0 1 = cc in absurd (omega arith)
    by false true p q e = let z : ◌≡◌ {A = ℕ} 0 1 = cc in absurd (omega arith)
    by false false p q e = let z : 65535 - x ≡ 65535 - y = cc in omega arith

-- What an accepted input's bytes have beside their fields.
record Rest (l : Bytes) : Type 0 where
  six : zeros l 6 2 ≡ true
  masks : zeros l (8 + 4 * state_count l) (128 - 4 * state_count l) ≡ true
  action : (a : ℕ) → a < action_count l → action_spare l a ≡ true
  end : zeros l (action_at (action_count l)) (510 - action_at (action_count l)) ≡ true
  row : (k : ℕ) → k < block_count l - 1 → row_spare l (k + 1) ≡ true
  cell : (s a : ℕ) → s < 3 * (block_count l - 1) → a < 8 → cell_spare l s a ≡ true
  head_kind : headed l 0 1 0 ≡ true
  row_kind : (k : ℕ) → k < block_count l - 1 → headed l (k + 1) 2 (k + 1) ≡ true
  sum : (k : ℕ) → k < block_count l → eqb (word_sum l k % 65536) 0 ≡ true

rest : (l : Bytes) → Passed l → Rest l
unfolding head_spare rows_spare cells_spare kinds_right sums_right
rest l p =
    let h = and_left (head_spare l) (rows_spare l) (and_left (head_spare l && rows_spare l) (cells_spare l) p.spare) in
    let r = and_right (head_spare l) (rows_spare l) (and_left (head_spare l && rows_spare l) (cells_spare l) p.spare) in
    let t = and_right (head_spare l && rows_spare l) (cells_spare l) p.spare in
    let six : Bool = zeros l 6 2 in
    let masks : Bool = zeros l (8 + 4 * state_count l) (128 - 4 * state_count l) in
    let actions : Bool = every (action_count l) (action_spare l) in
    let end : Bool = zeros l (action_at (action_count l)) (510 - action_at (action_count l)) in
    let three = and_left (six && masks && actions) end h in
    let two = and_left (six && masks) actions three in
    record {
      six = and_left six masks two;
      masks = and_right six masks two;
      action = λ a i. every_at (action_spare l) (action_count l) (and_right (six && masks) actions three) i;
      end = and_right (six && masks && actions) end h;
      row = λ k i. every_at (λ j. row_spare l (j + 1)) (block_count l - 1) r i;
      cell = λ s a i j. every_at (cell_spare l s) 8 (every_at (λ u. every 8 (cell_spare l u)) (3 * (block_count l - 1)) t i) j;
      head_kind = and_left (headed l 0 1 0) _ p.kinds;
      row_kind = λ k i. every_at (λ j. headed l (j + 1) 2 (j + 1)) (block_count l - 1) (and_right (headed l 0 1 0) _ p.kinds) i;
      sum = λ k i. every_at (λ j. eqb (word_sum l j % 65536) 0) (block_count l) p.sums i;
    }

module _ (b c : Bytes) where
  -- The same bytes at n places.
  abbrev Agree : ℕ → ℕ → Type 0
  Agree from n = (i : ℕ) → i < n → byte b (from + i) ≡ byte c (from + i)

  agree_at : {from at n : ℕ} → from ≡ at → Agree from n → Agree at n
  agree_at {n = n} e h = subst (λ k. Agree k n) e h

  agree_length : (from : ℕ) {m n : ℕ} → m ≡ n → Agree from m → Agree from n
  agree_length from e h = subst (λ k. Agree from k) e h

  agree_join : (from m n : ℕ) → Agree from m → Agree (from + m) n → Agree from (m + n)
  agree_join from m n h g i l = by (ltb i m) refl
    where
      by : (t : Bool) → ltb i m ≡ t → byte b (from + i) ≡ byte c (from + i)
      by true e = h i (ltb-true i m e)
      by false e =
          let j = ltb-false i m e in
          let z : from + m + (i - m) ≡ from + i = omega arith in
          subst (λ k. byte b k ≡ byte c k) z (g (i - m) (omega arith))

  agree_many : (k base n : ℕ) → ((j : ℕ) → j < n → Agree (base + k * j) k) → Agree base (k * n)
  agree_many k base zero h = λ i l. absurd (omega (arith, mul-zero k))
  agree_many k base (suc n) h =
      agree_length base (sym (mul-suc k n)) (agree_join base (k * n) k (agree_many k base n (λ j l. h j (omega arith))) (h n (omega arith)))

  agree_zeros : (from n : ℕ) → zeros b from n ≡ true → zeros c from n ≡ true → Agree from n
  unfolding zeros
  agree_zeros from n e f i l =
      eqb_eq _ _ (every_at (λ k. eqb (byte b (from + k)) 0) n e l) ∙ sym (eqb_eq _ _ (every_at (λ k. eqb (byte c (from + k)) 0) n f l))

  agree_one : (at : ℕ) → byte b at ≡ byte c at → Agree at 1
  agree_one at e i l = let z : at ≡ at + i = omega arith in subst (λ k. byte b k ≡ byte c k) z e

  agree_headed : (k kind number : ℕ) → headed b k kind number ≡ true → headed c k kind number ≡ true → Agree (512 * k) 2
  unfolding headed
  agree_headed k kind number e f =
      let first : (l : Bytes) → headed l k kind number ≡ true → byte l (512 * k) ≡ kind = λ l h. eqb_eq _ _ (and_left (eqb (byte l (512 * k)) kind) _ h) in
      let second : (l : Bytes) → headed l k kind number ≡ true → byte l (512 * k + 1) ≡ number = λ l h. eqb_eq _ _ (and_right (eqb (byte l (512 * k)) kind) _ h) in
      agree_join (512 * k) 1 1 (agree_one (512 * k) (first b e ∙ sym (first c f))) (agree_one (512 * k + 1) (second b e ∙ sym (second c f)))

  module _ (small_b : AllBytes b) (small_c : AllBytes c) where
    agree_16 : (at : ℕ) → u16 b at ≡ u16 c at → Agree at 2
    unfolding u16
    agree_16 at e =
        let x : byte b at ≡ byte c at = omega (arith, small_b at, small_b (at + 1), small_c at, small_c (at + 1)) in
        let y : byte b (at + 1) ≡ byte c (at + 1) = omega (arith, small_b at, small_b (at + 1), small_c at, small_c (at + 1)) in
        agree_join at 1 1 (agree_one at x) (agree_one (at + 1) y)

    agree_32 : (at : ℕ) → u32 b at ≡ u32 c at → Agree at 4
    unfolding u32
    agree_32 at e =
        let p = word_small b small_b at in
        let q = word_small c small_c at in
        let x : u16 b at ≡ u16 c at = omega arith in
        let y : u16 b (at + 2) ≡ u16 c (at + 2) = omega arith in
        agree_join at 2 2 (agree_16 at x) (agree_16 (at + 2) y)

    agree_literals : (at : ℕ) → literals b at ≡ literals c at → Agree at 8
    unfolding literals
    agree_literals at e = agree_join at 4 4 (agree_32 at (ap (λ l. l.positive) e)) (agree_32 (at + 4) (ap (λ l. l.negative) e))

    -- The last word of a block is told by the others.
    same_word : (at j : ℕ) → j < 255 → Agree at 510 → u16 b (at + 2 * j) ≡ u16 c (at + 2 * j)
    same_word at j l h =
        let z : at + (2 * j + 1) ≡ at + 2 * j + 1 = omega arith in
        same_16 b c (at + 2 * j) (at + 2 * j) (h (2 * j) (omega arith)) (subst (λ k. byte b k ≡ byte c k) z (h (2 * j + 1) (omega arith)))

    agree_block : (k : ℕ) → eqb (word_sum b k % 65536) 0 ≡ true → eqb (word_sum c k % 65536) 0 ≡ true → Agree (512 * k) 510 → Agree (512 * k) 512
    unfolding word_sum
    agree_block k e f h =
        agree_join (512 * k) 510 2 h
        (agree_16 (512 * k + 510)
        (told_word (λ j. u16 b (512 * k + 2 * j)) (λ j. u16 c (512 * k + 2 * j)) 255 256 (omega arith) (λ j l n. same_word (512 * k) j (omega arith) h)
        (word_small b small_b (512 * k + 510)) (word_small c small_c (512 * k + 510)) (eqb_eq _ _ e ∙ sym (eqb_eq _ _ f))))

    module _ (p : Passed b) (q : Passed c) (e : model_of b ≡ model_of c) where
      same_states : state_count b ≡ state_count c
      same_states = sym (states_held b) ∙ ap (λ m. length m.states) e ∙ states_held c

      same_actions : action_count b ≡ action_count c
      unfolding model_of
      same_actions = sym (length_tabulate _ (action_count b)) ∙ ap (λ m. length m.actions) e ∙ length_tabulate _ (action_count c)

      -- ---- an action

      abbrev action_in : Bytes → ℕ → Action
      action_in l a = record { pre = pre_of l a; posts = tabulate (post_count l a) (post_of l a) }

      action_held : (l : Bytes) (a : ℕ) → a < action_count l → get_or (model_of l).actions a no_action ≡ action_in l a
      unfolding model_of
      action_held l a h = get_or_tabulate (action_in l) (action_count l) no_action h

      same_action : (a : ℕ) → a < action_count b → action_in b a ≡ action_in c a
      same_action a h = sym (action_held b a h) ∙ ap (λ m. get_or m.actions a no_action) e ∙ action_held c a (subst (λ n. a < n) same_actions h)

      module _ (a : ℕ) (h : a < action_count b) where
        same_count : post_count b a ≡ post_count c a
        same_count = sym (length_tabulate (post_of b a) (post_count b a)) ∙ ap (λ x. length x.posts) (same_action a h) ∙ length_tabulate (post_of c a) (post_count c a)

        same_post : (i : ℕ) → i < post_count b a → post_of b a i ≡ post_of c a i
        same_post i l =
            let d : Literals = post_of b a i in
            sym (get_or_tabulate (post_of b a) (post_count b a) d l) ∙ ap (λ x. get_or x.posts i d) (same_action a h)
            ∙ get_or_tabulate (post_of c a) (post_count c a) d (subst (λ n. i < n) same_count l)

        agree_action : Agree (action_at a) 44
        unfolding action_spare pre_of post_of post_count
        agree_action =
            let at : ℕ = action_at a in
            let n : ℕ = post_count b a in
            let few : n ≤ 4 = (passed_sized b p).posts a h in
            let sb = (rest b p).action a h in
            let sc : (zeros c (at + 9) 3 && zeros c (at + 12 + 8 * n) (32 - 8 * n)) ≡ true =
            subst (λ m. (zeros c (at + 9) 3 && zeros c (at + 12 + 8 * m) (32 - 8 * m)) ≡ true) (sym same_count) ((rest c q).action a (subst (λ m. a < m) same_actions h)) in
            let posts : Agree (at + 12) (8 * n) =
            agree_many 8 (at + 12) n (λ i l. agree_literals (at + 12 + 8 * i) (same_post i l)) in
            let z : 8 * n + (32 - 8 * n) ≡ 32 = omega arith in
            let after : Agree (at + 12) 32 =
            agree_length (at + 12) z
            (agree_join (at + 12) (8 * n) (32 - 8 * n) posts
            (agree_zeros (at + 12 + 8 * n) (32 - 8 * n) (and_right (zeros b (at + 9) 3) _ sb) (and_right (zeros c (at + 9) 3) _ sc))) in
            let spare : Agree (at + 9) 3 = agree_zeros (at + 9) 3 (and_left (zeros b (at + 9) 3) _ sb) (and_left (zeros c (at + 9) 3) _ sc) in
            agree_join at 8 36 (agree_literals at (ap (λ x. x.pre) (same_action a h)))
            (agree_join (at + 8) 1 35 (agree_one (at + 8) same_count) (agree_at (two at 8 1) (agree_join (at + 9) 3 32 spare (agree_at (two at 9 3) after))))
          where
            two : (at m n : ℕ) → at + (m + n) ≡ at + m + n
            two at m n = omega arith

      -- ---- the head

      same_mask : (s : ℕ) → s < state_count b → state_mask b s ≡ state_mask c s
      same_mask s h = sym (mask_held b s h) ∙ ap (λ m. mask m s) e ∙ mask_held c s (subst (λ n. s < n) same_states h)

      agree_sizes : Agree 0 8
      unfolding model_of
      agree_sizes =
          agree_join 0 6 2
          (agree_join 0 5 1
          (agree_join 0 4 1
          (agree_join 0 3 1
          (agree_join 0 2 1 (agree_headed 0 1 0 (rest b p).head_kind (rest c q).head_kind) (agree_one 2 same_states))
          (agree_one 3 same_actions))
          (agree_one 4 (ap (λ m. m.propositions) e)))
          (agree_one 5 (ap (λ m. m.denominator) e)))
          (agree_zeros 6 2 (rest b p).six (rest c q).six)

      agree_masks : Agree 8 128
      unfolding state_mask
      agree_masks =
          let S : ℕ = state_count b in
          let few : S ≤ 32 = (passed_sized b p).states in
          let z : 4 * S + (128 - 4 * S) ≡ 128 = omega arith in
          agree_length 8 z
          (agree_join 8 (4 * S) (128 - 4 * S) (agree_many 4 8 S (λ s h. agree_32 (8 + 4 * s) (same_mask s h)))
          (agree_zeros (8 + 4 * S) (128 - 4 * S) (rest b p).masks (subst (λ n. zeros c (8 + 4 * n) (128 - 4 * n) ≡ true) (sym same_states) (rest c q).masks)))

      agree_actions : Agree 136 374
      agree_actions =
          let A : ℕ = action_count b in
          let few : A ≤ 8 = (passed_sized b p).actions in
          let z : 44 * A + (510 - action_at A) ≡ 374 = omega arith in
          agree_length 136 z
          (agree_join 136 (44 * A) (510 - action_at A) (agree_many 44 136 A (λ a h. agree_action a h))
          (agree_zeros (action_at A) (510 - action_at A) (rest b p).end (subst (λ n. zeros c (action_at n) (510 - action_at n) ≡ true) (sym same_actions) (rest c q).end)))

      agree_head : Agree 0 510
      agree_head = agree_join 0 136 374 (agree_join 0 8 128 agree_sizes agree_masks) agree_actions

      -- ---- a cell

      module _ (s a : ℕ) where
        same_cell : tabulate (entries b s a) (outcome_of b s a) ≡ tabulate (entries c s a) (outcome_of c s a)
        same_cell = sym (stored_are b s a) ∙ ap (λ m. stored m s a) e ∙ stored_are c s a

        same_entries : entries b s a ≡ entries c s a
        same_entries = sym (length_tabulate (outcome_of b s a) (entries b s a)) ∙ ap length same_cell ∙ length_tabulate (outcome_of c s a) (entries c s a)

        same_outcome : (i : ℕ) → i < entries b s a → outcome_of b s a i ≡ outcome_of c s a i
        same_outcome i l =
            let d : Step = outcome_of b s a i in
            sym (get_or_tabulate (outcome_of b s a) (entries b s a) d l) ∙ ap (λ x. get_or x i d) same_cell
            ∙ get_or_tabulate (outcome_of c s a) (entries c s a) d (subst (λ n. i < n) same_entries l)

        agree_outcome : (i : ℕ) → i < entries b s a → Agree (cell_at s a + 4 * i) 4
        unfolding outcome_of i16
        agree_outcome i l =
            let at : ℕ = cell_at s a + 4 * i in
            let o = same_outcome i l in
            let r : u16 b (at + 2) ≡ u16 c (at + 2) =
            signed_same _ _ (word_small b small_b (at + 2)) (word_small c small_c (at + 2)) (ap (λ x. x.reward) o) in
            agree_join at 2 2 (agree_join at 1 1 (agree_one at (ap (λ x. x.target) o)) (agree_one (at + 1) (ap (λ x. x.weight) o))) (agree_16 (at + 2) r)

        agree_cell : cell_spare b s a ≡ true → cell_spare c s a ≡ true → Agree (cell_at s a) 16
        unfolding cell_spare
        agree_cell sb sc =
            let at : ℕ = cell_at s a in
            let n : ℕ = entries b s a in
            let few : n ≤ 4 = entries_small b (passed_sized b p) s a in
            let z : 4 * n + (16 - 4 * n) ≡ 16 = omega arith in
            agree_length at z
            (agree_join at (4 * n) (16 - 4 * n) (agree_many 4 at n agree_outcome)
            (agree_zeros (at + 4 * n) (16 - 4 * n) sb (subst (λ m. zeros c (at + 4 * m) (16 - 4 * m) ≡ true) (sym same_entries) sc)))

      -- ---- a row block

      same_blocks : block_count b ≡ block_count c
      unfolding block_count
      same_blocks =
          let x = (passed_sized b p).bytes in
          let y = (passed_sized c q).bytes in
          ap (λ n. n / 512) (x ∙ ap (λ S. 512 * (1 + (S + 2) / 3)) same_states ∙ sym y)

      module _ (k : ℕ) (h : k < block_count b - 1) where
        inside : k < block_count c - 1
        inside = subst (λ n. k < n - 1) same_blocks h

        agree_state : (j : ℕ) → j < 3 → Agree (512 * (k + 1) + 4 + 128 * j) 128
        unfolding cell_at
        agree_state j l =
            let s : ℕ = 3 * k + j in
            let i : s < 3 * (block_count b - 1) = omega arith in
            let z : (a : ℕ) → 512 * (1 + s / 3) + 4 + 128 * (s % 3) + 16 * a ≡ 512 * (k + 1) + 4 + 128 * j + 16 * a = λ a. omega arith in
            agree_many 16 (512 * (k + 1) + 4 + 128 * j) 8
            (λ a g. agree_at (z a) (agree_cell s a ((rest b p).cell s a i g) ((rest c q).cell s a (subst (λ n. s < 3 * (n - 1)) same_blocks i) g)))

        agree_row : Agree (512 * (k + 1)) 510
        unfolding row_spare
        agree_row =
            let at : ℕ = 512 * (k + 1) in
            let rb = (rest b p).row k h in
            let rc = (rest c q).row k inside in
            agree_join at 388 122
            (agree_join at 4 384
            (agree_join at 2 2 (agree_headed (k + 1) 2 (k + 1) ((rest b p).row_kind k h) ((rest c q).row_kind k inside))
            (agree_zeros (at + 2) 2 (and_left (zeros b (at + 2) 2) _ rb) (and_left (zeros c (at + 2) 2) _ rc)))
            (agree_many 128 (at + 4) 3 agree_state))
            (agree_zeros (at + 388) 122 (and_right (zeros b (at + 2) 2) _ rb) (and_right (zeros c (at + 2) 2) _ rc))

      -- ---- all blocks

      agree_sealed : (k : ℕ) → k < block_count b → Agree (512 * k) 510 → Agree (512 * k) 512
      agree_sealed k h g = agree_block k ((rest b p).sum k h) ((rest c q).sum k (subst (λ n. k < n) same_blocks h)) g

      agree_blocks : (k : ℕ) → k < block_count b → Agree (512 * k) 512
      agree_blocks zero h = agree_sealed 0 h agree_head
      agree_blocks (suc k) h =
          let z : k + 1 ≡ suc k = omega arith in
          agree_sealed (suc k) h (subst (λ n. Agree (512 * n) 510) z (agree_row k (omega arith)))

      agree_all : Agree 0 (512 * block_count b)
      agree_all = agree_many 512 0 (block_count b) (λ k h. agree_at (from_zero (512 * k)) (agree_blocks k h))
        where
          from_zero : (n : ℕ) → n ≡ 0 + n
          from_zero n = omega arith

      pub same_bytes : b ≡ c
      unfolding block_count
      same_bytes =
          let x = (passed_sized b p).bytes in
          let y = (passed_sized c q).bytes in
          let n : length b ≡ length c = x ∙ ap (λ S. 512 * (1 + (S + 2) / 3)) same_states ∙ sym y in
          let z : length b ≡ 512 * (length b / 512) = omega arith in
          ext_get_or 0 b c n (λ i h. subst (λ k. byte b k ≡ byte c k) (plain i) (agree_all i (omega arith)))
        where
          plain : (i : ℕ) → 0 + i ≡ i
          plain i = omega arith
