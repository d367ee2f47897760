-- One turn of each loop that combines lists in place: what is read still stands as at the start, and what is written continues the piece.
use Prim.Native.Nat.{ℕ, zero, suc, ◌+◌, ◌-◌, ◌*◌, ◌^◌, ◌≤◌, ◌<◌}
use native.Mathlib.Nat.{suc-mul, add-mul, le-mul_of_pos_right, one-mul, mul_comm}
use native.Mathlib.Omega.{arith}
use mathlib.Core.Path.{◌≡◌, refl, sym, ap, ap₂, subst, ◌∙◌, fun_ext}
use mathlib.Core.Logic.{◌⊎◌, inl, inr, ⊎_elim}
use mathlib.Core.Bool.{Bool, true, false}
use mathlib.Core.List.{List, [], ◌∷◌, ◌++◌, map, flat_map, map-append, map-map, map-id, Memᴰ}
use lib.ListN.{length, drop, get_or, set, replicate, length-map, length-drop, length-replicate, replicate-append-replicate}
use lib.Seq.{drop-cons, drop-length}
use Rattle.logic.proofs.Tests.{get_or_member}
use Rattle.blocks.specs.Splice.{splice}
use Rattle.blocks.proofs.Splice
use Rattle.exact_plan.specs.promises.Totals.{part, grid, joined}
use Rattle.exact_plan.specs.promises.Spread.{Shifts, Spreads, Joins}
use Rattle.exact_plan.proofs.Parts
use Rattle.exact_plan.proofs.Grid.{length_grid}

pub part_member : (l : List ℕ) (p n i : ℕ) → p + n ≤ length l → i < n → Memᴰ (get_or l (p + i) 0) (part l p n)
part_member l p n i k h =
    subst (λ v. Memᴰ v (part l p n)) (Parts.get_d_part l p n i h)
    (get_or_member (part l p n) i 0 (omega (arith, Parts.part_length l p n k)))

-- The buffer after i turns of `shift`.
abbrev pub shifted : List ℕ → (from to w x i : ℕ) → List ℕ
shifted buf from to w x i = splice buf to (map (λ y. x + w * y) (part buf from i))

-- A turn: what it reads and writes lies within the buffer and fits, and the next buffer is the one after i + 1 turns.
pub record NextShift (buf b : List ℕ) (from to w x i : ℕ) : Type 0 where
  pub whole : length b ≡ length buf
  pub fits : x + w * get_or b (from + i) 0 < 2 ^ 64
  pub again : set b (to + i) (x + w * get_or b (from + i) 0) ≡ shifted buf from to w x (i + 1)

module _ (buf : List ℕ) (from to count w x : ℕ) (S : Shifts buf from to count w x) (i : ℕ) where
  shift_length : i ≤ count → length (map (λ y. x + w * y) (part buf from i)) ≡ i
  shift_length h = length-map (part buf from i) (λ y. x + w * y) ∙ Parts.part_length buf from i (omega (arith, S.source))

  pub shift_whole : i ≤ count → length (shifted buf from to w x i) ≡ length buf
  shift_whole h = Splice.splice_length buf to (map (λ y. x + w * y) (part buf from i)) (omega (arith, S.target, shift_length h))

  shift_reads : i < count → get_or (shifted buf from to w x i) (from + i) 0 ≡ get_or buf (from + i) 0
  shift_reads h =
      let X : List ℕ = map (λ y. x + w * y) (part buf from i) in
      ⊎_elim
      (λ e. Splice.get_d_after buf to X (from + i) (omega (arith, shift_length (omega arith))) (omega (arith, S.target)))
      (λ e. Splice.get_or_before buf to X (from + i) (omega arith) (omega (arith, S.target)))
      S.clear

  shift_again : i < count → set (shifted buf from to w x i) (to + i) (x + w * get_or buf (from + i) 0) ≡ shifted buf from to w x (i + 1)
  shift_again h =
      let X : List ℕ = map (λ y. x + w * y) (part buf from i) in
      let n : length X ≡ i = shift_length (omega arith) in
      ap (λ k. set (splice buf to X) (to + k) (x + w * get_or buf (from + i) 0)) (sym n)
      ∙ Splice.splice_set buf to X (x + w * get_or buf (from + i) 0) (omega (arith, S.target))
      ∙ ap (splice buf to)
      (sym (map-append (λ y. x + w * y) (part buf from i) (get_or buf (from + i) 0 ∷ []))
      ∙ ap (map (λ y. x + w * y)) (sym (Parts.part_more buf from i (omega (arith, S.source)))))

  pub shift_one_more : {b : List ℕ} → b ≡ shifted buf from to w x i → i < count → NextShift buf b from to w x i
  shift_one_more {b} e h =
      let r : get_or b (from + i) 0 ≡ get_or buf (from + i) 0 = ap (λ l. get_or l (from + i) 0) e ∙ shift_reads h in
      record {
        whole = ap length e ∙ shift_whole (omega arith);
        fits = rw r (S.fits (get_or buf (from + i) 0) (part_member buf from count i S.source h));
        again = ap₂ (λ l v. set l (to + i) (x + w * v)) e r ∙ shift_again h;
      }

-- The buffer when `spread` has i of the slow numbers left.
abbrev pub spreading : List ℕ → (at slow n v fast c w i : ℕ) → List ℕ
spreading buf at slow n v fast c w i =
    splice buf (at + i * c) (grid (map (λ x. v * x) (drop i (part buf slow n))) (map (λ y. w * y) (part buf fast c)))

pub record NextRow (buf b : List ℕ) (at slow n v fast c w j : ℕ) : Type 0 where
  pub whole : length b ≡ length buf
  pub fits : v * get_or b (slow + j) 0 < 2 ^ 64
  pub shifts : Shifts b fast (at + j * c) c w (v * get_or b (slow + j) 0)
  pub again : {d : List ℕ} → d ≡ splice b (at + j * c) (map (λ y. v * get_or b (slow + j) 0 + w * y) (part b fast c)) → d ≡ spreading buf at slow n v fast c w j

module _ (buf : List ℕ) (at slow n v fast c w : ℕ) (S : Spreads buf at slow n v fast c w) where
  zs : List ℕ
  zs = map (λ y. w * y) (part buf fast c)

  zs_length : length zs ≡ c
  unfolding zs
  zs_length = length-map (part buf fast c) (λ y. w * y) ∙ Parts.part_length buf fast c S.quickly

  -- The sums lie within the buffer.
  room : at + n * c ≤ length buf
  room = ⊎_elim (λ e. omega (arith, S.quickly, e.1)) (λ e. omega (arith, S.slowly, e.1)) S.beside

  pub spread_start : buf ≡ spreading buf at slow n v fast c w n
  unfolding grid flat_map
  spread_start =
      let xs : List ℕ = part buf slow n in
      let e : drop n xs ≡ [] = ap (λ k. drop k xs) (sym (Parts.part_length buf slow n S.slowly)) ∙ drop-length xs in
      sym (Splice.splice_none buf (at + n * c)) ∙ ap (λ l. splice buf (at + n * c) (grid (map (λ x. v * x) l) (map (λ y. w * y) (part buf fast c)))) (sym e)

  pub spread_end : spreading buf at slow n v fast c w 0 ≡ splice buf at (grid (map (λ x. v * x) (part buf slow n)) (map (λ y. w * y) (part buf fast c)))
  spread_end =
      let e : at + 0 * c ≡ at = omega arith in
      rw e refl

  module _ (i : ℕ) (le : i ≤ n) where
    later : List ℕ
    later = grid (map (λ x. v * x) (drop i (part buf slow n))) zs

    later_length : length later ≡ (n - i) * c
    unfolding later
    later_length =
        length_grid (map (λ x. v * x) (drop i (part buf slow n))) zs
        ∙ ap₂ ◌*◌ (length-map (drop i (part buf slow n)) (λ x. v * x) ∙ length-drop i (part buf slow n) ∙ ap (λ k. k - i) (Parts.part_length buf slow n S.slowly)) zs_length

    later_end : at + i * c + length later ≡ at + n * c
    later_end =
        let e : i + (n - i) ≡ n = omega arith in
        omega (arith, later_length, sym (add-mul i (n - i) c) ∙ ap (λ k. k * c) e)

    pub spread_whole : length (spreading buf at slow n v fast c w i) ≡ length buf
    unfolding later zs
    spread_whole = Splice.splice_length buf (at + i * c) later (omega (arith, later_end, room))

  module _ (j : ℕ) (lt : j < n) where
    b : List ℕ
    b = splice buf (at + suc j * c) (later (suc j) lt)

    more : suc j * c ≡ j * c + c
    more = suc-mul j c

    far : at + suc j * c ≤ length buf
    far = omega (arith, later_end (suc j) lt, room)

    reads : get_or b (slow + j) 0 ≡ get_or buf (slow + j) 0
    unfolding b
    reads =
        ⊎_elim
        (λ e. Splice.get_or_before buf (at + suc j * c) (later (suc j) lt) (slow + j) (omega (arith, e.0, le-mul_of_pos_right (suc j) S.some)) far)
        (λ e. Splice.get_d_after buf (at + suc j * c) (later (suc j) lt) (slow + j) (omega (arith, e.1, later_end (suc j) lt)) far)
        S.beside

    fast_same : part b fast c ≡ part buf fast c
    unfolding b
    fast_same =
        ⊎_elim
        (λ e. Parts.part_after buf (at + suc j * c) (later (suc j) lt) fast c (omega (arith, e.1, later_end (suc j) lt)) far)
        (λ e. Parts.part_before buf (at + suc j * c) (later (suc j) lt) fast c (omega (arith, e.0, more)) far)
        S.beside

    clear : (at + j * c ≤ fast) ⊎ (fast + c ≤ at + j * c)
    clear =
        ⊎_elim
        (λ e. inl (omega (arith, e.1, later_end (suc j) lt, more)))
        (λ e. left j e.0)
        S.beside
      where
        left : (k : ℕ) → fast ≡ at → (at + k * c ≤ fast) ⊎ (fast + c ≤ at + k * c)
        left zero e = inl (omega (arith, e))
        left (suc k) e = inr (omega (arith, e, suc-mul k c))

    slow_member : Memᴰ (get_or buf (slow + j) 0) (part buf slow n)
    slow_member = part_member buf slow n j S.slowly lt

    sums_fit : (y : ℕ) → Memᴰ y (part buf fast c) → v * get_or buf (slow + j) 0 + w * y < 2 ^ 64
    sums_fit y h = S.fits (get_or buf (slow + j) 0) y slow_member h

    again_at : splice b (at + j * c) (map (λ y. v * get_or buf (slow + j) 0 + w * y) (part buf fast c)) ≡ spreading buf at slow n v fast c w j
    unfolding b later zs grid flat_map
    again_at =
        let x : ℕ = get_or buf (slow + j) 0 in
        let xs : List ℕ = part buf slow n in
        let R : List ℕ = map (λ y. v * x + w * y) (part buf fast c) in
        let lr : length R ≡ c = length-map (part buf fast c) (λ y. v * x + w * y) ∙ Parts.part_length buf fast c S.quickly in
        let q : at + suc j * c ≡ at + j * c + length R = omega (arith, more) in
        let d : get_or xs j 0 ∷ drop (suc j) xs ≡ drop j xs = sym (drop-cons xs j 0 (omega (arith, Parts.part_length buf slow n S.slowly))) in
        let r : R ≡ map (λ z. v * x + z) zs = sym (map-map (λ z. v * x + z) (λ y. w * y) (part buf fast c)) in
        ap (λ k. splice (splice buf k (later (suc j) lt)) (at + j * c) R) q
        ∙ Splice.splice_front buf (at + j * c) R (later (suc j) lt) (omega (arith, far))
        ∙ ap (splice buf (at + j * c))
        (ap (λ l. l ++ later (suc j) lt) r
        ∙ ap (λ a. grid (v * a ∷ map (λ x. v * x) (drop (suc j) xs)) zs) (sym (Parts.get_d_part buf slow n j lt))
        ∙ ap (λ l. grid (map (λ x. v * x) l) zs) d)

    turn_at : {b' : List ℕ} → b' ≡ spreading buf at slow n v fast c w (suc j) → NextRow buf b' at slow n v fast c w j
    unfolding b later zs
    turn_at {b'} e =
        let r : get_or b' (slow + j) 0 ≡ get_or buf (slow + j) 0 = ap (λ l. get_or l (slow + j) 0) e ∙ reads in
        let f : part b' fast c ≡ part buf fast c = ap (λ l. part l fast c) e ∙ fast_same in
        let k : length b' ≡ length buf = ap length e ∙ spread_whole (suc j) lt in
        record {
          whole = k;
          fits = rw r (omega (arith, sums_fit (get_or buf (fast + 0) 0) (part_member buf fast c 0 S.quickly S.some)));
          shifts = record {
            clear = clear;
            source = omega (arith, S.quickly);
            target = omega (arith, far, more);
            fits = λ y h. rw r (sums_fit y (subst (λ l. Memᴰ y l) f h));
          };
          again = λ d. d ∙ ap₂ (λ l (z : List ℕ × ℕ). splice l (at + j * c) (map (λ y. v * z.1 + w * y) z.0)) e (λ i. (f i, r i)) ∙ again_at;
        }

  pub spread_one_row_more : (i : ℕ) → 0 < i → i ≤ n → {b : List ℕ} → b ≡ spreading buf at slow n v fast c w i → NextRow buf b at slow n v fast c w (i - 1)
  spread_one_row_more zero h le e = absurd (omega arith)
  spread_one_row_more (suc j) h le e = let k : suc j - 1 ≡ j = omega arith in rw k (turn_at j le e)

-- ---- `join`: two ways to spread

one_times : (l : List ℕ) → map (λ x. 1 * x) l ≡ l
one_times l = ap (λ f. map f l) (fun_ext one-mul) ∙ map-id l

module _ (buf : List ℕ) (at len n w : ℕ) (J : Joins buf at len n w) where
  long : len ≤ len * n
  long = le-mul_of_pos_right len J.others

  pub join_right : Spreads buf at at len 1 (at + len * n) n w
  join_right =
      record {
        beside = inl (refl, refl);
        some = J.others;
        slowly = omega (arith, J.room, long);
        quickly = J.room;
        fits = λ x y h k. let e : 1 * x ≡ x = one-mul x in rw e (J.fits x y h k);
      }

  pub join_left : Spreads buf at (at + len * n) n w at len 1
  join_left =
      record {
        beside = inr (refl, ap (λ k. at + k) (mul_comm len n));
        some = J.some;
        slowly = J.room;
        quickly = omega (arith, J.room, long);
        fits = λ y x k h. let e : 1 * x ≡ x = one-mul x in rw e (omega (arith, J.fits x y h k));
      }

  pub right_joined : {right : Bool} {b : List ℕ} → right ≡ true → b ≡ splice buf at (grid (map (λ x. 1 * x) (part buf at len)) (map (λ y. w * y) (part buf (at + len * n) n)))
      → b ≡ splice buf at (joined right (part buf at len) (map (λ y. w * y) (part buf (at + len * n) n)))
  unfolding joined
  right_joined t e = rw t (e ∙ ap (λ l. splice buf at (grid l (map (λ y. w * y) (part buf (at + len * n) n)))) (one_times (part buf at len)))

  pub left_joined : {right : Bool} {b : List ℕ} → right ≡ false → b ≡ splice buf at (grid (map (λ y. w * y) (part buf (at + len * n) n)) (map (λ x. 1 * x) (part buf at len)))
      → b ≡ splice buf at (joined right (part buf at len) (map (λ y. w * y) (part buf (at + len * n) n)))
  unfolding joined
  left_joined t e = rw t (e ∙ ap (λ l. splice buf at (grid (map (λ y. w * y) (part buf (at + len * n) n)) l)) (one_times (part buf at len)))

-- ---- `fill`

module _ (buf : List ℕ) (at n x : ℕ) (fits : at + n ≤ length buf) (i : ℕ) where
  pub fill_whole : i ≤ n → length (splice buf at (replicate i x)) ≡ length buf
  fill_whole h = Splice.splice_length buf at (replicate i x) (omega (arith, length-replicate i x))

  pub fill_one_more : i < n → {b : List ℕ} → b ≡ splice buf at (replicate i x) → set b (at + i) x ≡ splice buf at (replicate (i + 1) x)
  fill_one_more h e =
      ap₂ (λ l k. set l (at + k) x) e (sym (length-replicate i x))
      ∙ Splice.splice_set buf at (replicate i x) x (omega (arith, length-replicate i x))
      ∙ ap (splice buf at) (replicate-append-replicate i 1 x)
