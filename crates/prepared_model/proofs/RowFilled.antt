-- How a row is filled: one choice more is listed, one outcome more is put, the silent move is put, the sums of one choice more.
use Prim.Native.Nat.{ℕ, zero, suc, ◌+◌, ◌*◌, ◌≤◌, ◌<◌}
use native.Mathlib.Omega.{arith}
use native.Mathlib.Numerals.{add-one}
use native.Mathlib.Decide.{dec_lt}
use native.Mathlib.Nat.{le_of_suc-le-suc, eq-or-lt_of_le}
use mathlib.Core.Path.{◌≡◌, refl, sym, ap, ap₂, subst, ◌∙◌}
use mathlib.Core.Logic.{◌⊎◌, inl, inr}
use mathlib.Core.Bool.{Bool, true, false, cond, false≢true}
use mathlib.Core.List.{List, [], ◌∷◌, ◌++◌, append-nil, append_assoc}
use lib.Dec.{eqb, ltb}
use lib.ListN.{length, get_or, set, take, drop, length-append, length-set, length-drop, take-append-drop, get_or-append}
use lib.Seq.{length-take-le, get_or-append_seam, get_or-set_same, get_or-set_other, get_or-take, take-append-le, drop-append-le, take_at, drop_at}
use borrow.Rule.Slice.PartMut.{put_mid, post_of, take_put}
use borrow.Author.Count.{below_more}
use borrow.Author.Tests.{lt-ltb, eq-eqb, eqb-true}
use Rattle.logic.specs.promises.Refusal.{refusal}
use Rattle.logic.specs.Lists.{keep, count_from}
use Rattle.logic.proofs.Tests.{count_more, keep_append, keep_member, counted_range, get_or_member}
use Rattle.blocks.specs.Bytes.{Bytes}
use Rattle.models.specs.Layout.{state_count, action_count, denominator_of, entries}
use Rattle.models.specs.Grounds.{read_model}
use Rattle.models.proofs.GroundsPassed.{passed_all, passed_sized}
use Rattle.prepared_model.specs.promises.Filled.{listed, Listed, Chosen, Spelled, pattern_sum, Summed, silent_at, Acting, Silent, Row, acting, silent}

-- ---- lists

module _ (f : ℕ → Bool) where
  kept_next : (n : ℕ) → keep f (count_from 0 (suc n)) ≡ keep f (count_from 0 n) ++ cond (f n) (n ∷ []) []
  unfolding keep
  kept_next n =
      let z : 0 + n ≡ n = omega arith in
      ap (keep f) (count_more 0 n) ∙ keep_append f (count_from 0 n) ((0 + n) ∷ []) ∙ ap (λ i. keep f (count_from 0 n) ++ cond (f i) (i ∷ []) []) z

  kept_one : (n : ℕ) → keep f (count_from 0 (n + 1)) ≡ keep f (count_from 0 n) ++ cond (f n) (n ∷ []) []
  kept_one n = rw (add-one n) (kept_next n)

  kept_few : (n : ℕ) → length (keep f (count_from 0 n)) ≤ n
  unfolding keep count_from
  kept_few zero = omega arith
  kept_few (suc n) = go (f n) (kept_few n) (ap length (kept_next n) ∙ length-append (keep f (count_from 0 n)) (cond (f n) (n ∷ []) []))
    where
      go : (t : Bool) → length (keep f (count_from 0 n)) ≤ n → length (keep f (count_from 0 (suc n))) ≡ length (keep f (count_from 0 n)) + length (cond t (n ∷ []) []) → length (keep f (count_from 0 (suc n))) ≤ suc n
      go true h e = omega arith
      go false h e = omega arith

  -- A number that is kept stands behind those kept before it.
  kept_behind : (a n : ℕ) → f a ≡ true → a < n → (l : List ℕ) × (keep f (count_from 0 n) ≡ keep f (count_from 0 a) ++ (a ∷ l))
  kept_behind a zero h g = absurd (omega arith)
  kept_behind a (suc n) h g = pick (kept_behind a n h) (eq-or-lt_of_le (le_of_suc-le-suc g))
    where
      pick : (a < n → (l : List ℕ) × (keep f (count_from 0 n) ≡ keep f (count_from 0 a) ++ (a ∷ l))) → (a ≡ n) ⊎ (a < n)
          → (l : List ℕ) × (keep f (count_from 0 (suc n)) ≡ keep f (count_from 0 a) ++ (a ∷ l))
      pick k (inl q) = ([], ap (λ i. keep f (count_from 0 (suc i))) (sym q) ∙ kept_next a ∙ ap (λ t. keep f (count_from 0 a) ++ cond t (a ∷ []) []) h)
      pick k (inr l) =
          let w = k l in
          let r : List ℕ = cond (f n) (n ∷ []) [] in
          (w.0 ++ r, kept_next n ∙ ap (λ z. z ++ r) w.1 ∙ append_assoc (keep f (count_from 0 a)) (a ∷ w.0) r)

-- The actions listed are among the first n.
pub listed_few : (b : Bytes) (s n : ℕ) → length (listed b s n) ≤ n
listed_few b s n = kept_few (λ a. ltb 0 (entries b s a)) n

pub listed_below : (b : Bytes) (s n i : ℕ) → i < length (listed b s n) → get_or (listed b s n) i 0 < n
listed_below b s n i h =
    let w = keep_member (λ a. ltb 0 (entries b s a)) (count_from 0 n) (get_or_member (listed b s n) i 0 h) in
    omega (arith, (counted_range 0 n w.0).1)

-- An action with outcomes stands at the place that the number of those before it tells.
pub listed_place : (b : Bytes) (s a n : ℕ) → 0 < entries b s a → a < n → (length (listed b s a) < length (listed b s n)) × (get_or (listed b s n) (length (listed b s a)) 0 ≡ a)
listed_place b s a n h g =
    let w = kept_behind (λ a. ltb 0 (entries b s a)) a n (lt-ltb 0 (entries b s a) h) g in
    (rw (w.1, length-append (listed b s a) (a ∷ w.0)) (omega arith), rw w.1 (get_or-append_seam (listed b s a) a w.0 0))

module _ (b : Bytes) (e : refusal (read_model b) ≡ 0) where
  pub actions_few : action_count b ≤ 8
  actions_few = (passed_sized b (passed_all b e)).actions

  pub states_few : state_count b ≤ 32
  states_few = (passed_sized b (passed_all b e)).states

-- ---- the choices

module _ {b : Bytes} {s a i : ℕ} {row : List ℕ} (w : Listed b s a i row) where
  -- An action without outcomes is passed over.
  pub listed_same : entries b s a ≡ 0 → Listed b s (a + 1) i row
  listed_same e =
      let k : listed b s (a + 1) ≡ listed b s a = kept_one (λ a. ltb 0 (entries b s a)) a ∙ rw e (append-nil (listed b s a)) in
      record { many = rw k w.many; bytes = rw k w.bytes; counts = rw k w.counts }

  -- An action with outcomes is listed behind the others.
  pub listed_more : 0 < entries b s a → i < 8 → length row ≡ 256 → Listed b s (a + 1) (i + 1) (set (set row i a) (8 + i) (entries b s a))
  listed_more h g n =
      record { many = ap (λ j. j + 1) w.many ∙ sym (ap length more ∙ length-append (listed b s a) (a ∷ [])); bytes = below_more _ i old_byte new_byte; counts = below_more _ i old_count new_count }
    where
      more : listed b s (a + 1) ≡ listed b s a ++ (a ∷ [])
      more = kept_one (λ a. ltb 0 (entries b s a)) a ∙ ap (λ t. listed b s a ++ cond t (a ∷ []) []) (lt-ltb 0 (entries b s a) h)

      old : (j : ℕ) → j < i → get_or (listed b s a) j 0 ≡ get_or (listed b s (a + 1)) j 0
      old j l = sym (ap (λ r. get_or r j 0) more ∙ get_or-append (listed b s a) (a ∷ []) 0 j (omega (arith, w.many)))

      new : a ≡ get_or (listed b s (a + 1)) i 0
      new = sym (ap₂ (λ r j. get_or r j 0) more w.many ∙ get_or-append_seam (listed b s a) a [] 0)

      old_byte : (j : ℕ) → j < i → get_or (set (set row i a) (8 + i) (entries b s a)) j 0 ≡ get_or (listed b s (a + 1)) j 0
      old_byte j l = get_or-set_other (set row i a) (8 + i) j _ 0 (omega arith) ∙ get_or-set_other row i j a 0 (omega arith) ∙ w.bytes j l ∙ old j l

      new_byte : get_or (set (set row i a) (8 + i) (entries b s a)) i 0 ≡ get_or (listed b s (a + 1)) i 0
      new_byte = get_or-set_other (set row i a) (8 + i) i _ 0 (omega arith) ∙ get_or-set_same row i a 0 (omega arith) ∙ new

      old_count : (j : ℕ) → j < i → get_or (set (set row i a) (8 + i) (entries b s a)) (8 + j) 0 ≡ entries b s (get_or (listed b s (a + 1)) j 0)
      old_count j l =
          get_or-set_other (set row i a) (8 + i) (8 + j) _ 0 (omega arith) ∙ get_or-set_other row i (8 + j) a 0 (omega arith) ∙ w.counts j l ∙ ap (entries b s) (old j l)

      new_count : get_or (set (set row i a) (8 + i) (entries b s a)) (8 + i) 0 ≡ entries b s (get_or (listed b s (a + 1)) i 0)
      new_count = get_or-set_same (set row i a) (8 + i) _ 0 (omega (arith, length-set row i a)) ∙ ap (entries b s) new

  -- Whichever it is.
  pub listed_next : {c r : ℕ} {after : List ℕ} → c ≡ entries b s a → i ≤ a → i < 8 → length row ≡ 256 → (c ≡ 0 → (r ≡ i) × (after ≡ row))
      → (0 < c → (r ≡ i + 1) × (after ≡ set (set row i a) (8 + i) c)) → (r ≤ a + 1) × (length after ≡ 256) × Listed b s (a + 1) r after
  listed_next {c} {r} {after} e l g n none some = go (dec_lt 0 c)
    where
      go : Dec (0 < c) → (r ≤ a + 1) × (length after ≡ 256) × Listed b s (a + 1) r after
      go (yes h) =
          let x = some h in
          (omega (arith, x.0), rw x.1 (length-set (set row i a) (8 + i) c ∙ length-set row i a ∙ n), rw (x.0, x.1, e) (listed_more (omega arith) g n))
      go (no h) = let x = none (omega arith) in (omega (arith, x.0), rw x.1 n, rw (x.0, x.1) (listed_same (omega arith)))

pub listed_none : (b : Bytes) (s : ℕ) (row : List ℕ) → Listed b s 0 0 row
unfolding keep count_from
listed_none b s row = record { many = refl; bytes = λ j h. absurd (omega arith); counts = λ j h. absurd (omega arith) }

-- The number of the choices, written behind them.
pub chosen : {b : Bytes} {s i : ℕ} {row : List ℕ} → Listed b s (action_count b) i row → i ≤ 8 → length row ≡ 256 → Chosen b s (set row 16 i)
chosen {b} {s} {i} {row} w h n =
    let e : get_or (set row 16 i) 16 0 ≡ i = get_or-set_same row 16 i 0 (omega arith) in
    rw e
    (record {
      many = w.many;
      bytes = λ j l. get_or-set_other row 16 j i 0 (omega arith) ∙ w.bytes j l;
      counts = λ j l. get_or-set_other row 16 (8 + j) i 0 (omega arith) ∙ w.counts j l;
    })

-- ---- the outcomes

module _ {b : Bytes} {s : ℕ} {row : List ℕ} (e : refusal (read_model b) ≡ 0) (w : Chosen b s row) where
  pub chosen_few : get_or row 16 0 ≤ 8
  chosen_few = omega (arith, w.many, listed_few b s (action_count b), actions_few b e)

  pub chosen_byte : (i : ℕ) → i < get_or row 16 0 → get_or row i 0 < 8
  chosen_byte i h = rw (w.bytes i h) (omega (arith, listed_below b s (action_count b) i (omega (arith, w.many)), actions_few b e))

pub spelled_none : (b : Bytes) (s : ℕ) (row : List ℕ) → Spelled b s 0 row
spelled_none b s row =
    record { targets = λ j h. absurd (omega arith); weights = λ j h. absurd (omega arith); light = λ j h. absurd (omega arith); rewards = λ j h. absurd (omega arith) }

-- ---- the silent move

set_read : (l : List ℕ) (k v j : ℕ) → k < length l → get_or (set l k v) j 0 ≡ cond (eqb j k) v (get_or l j 0)
set_read l k v j h = by (eqb j k) refl
  where
    by : (t : Bool) → eqb j k ≡ t → get_or (set l k v) j 0 ≡ cond t v (get_or l j 0)
    by true e = ap (λ i. get_or (set l k v) i 0) (eqb-true j k e) ∙ get_or-set_same l k v 0 h
    by false e = get_or-set_other l k j v 0 (λ q. false≢true (sym e ∙ eq-eqb j k q))

module _ (row : List ℕ) (s d : ℕ) (n : length row ≡ 256) where
  pub silent_length : length (silent_at row s d) ≡ 256
  silent_length = simp length-set n

  -- What stands in the row with the silent move: by the last of the nine places written.
  pub silent_read : (j : ℕ) → get_or (silent_at row s d) j 0
      ≡ cond (eqb j 96) 0 (cond (eqb j 67) 0 (cond (eqb j 66) 0 (cond (eqb j 65) 0 (cond (eqb j 64) d (cond (eqb j 32) s (cond (eqb j 16) 1 (cond (eqb j 8) 1 (cond (eqb j 0) 255 (get_or row j 0)))))))))
  silent_read j =
      let r₁ = set row 0 255 in
      let r₂ = set r₁ 8 1 in
      let r₃ = set r₂ 16 1 in
      let r₄ = set r₃ 32 s in
      let r₅ = set r₄ 64 d in
      let r₆ = set r₅ 65 0 in
      let r₇ = set r₆ 66 0 in
      let r₈ = set r₇ 67 0 in
      set_read r₈ 96 0 j (simp length-set (omega arith))
      ∙ ap (cond (eqb j 96) 0) (set_read r₇ 67 0 j (simp length-set (omega arith))
      ∙ ap (cond (eqb j 67) 0) (set_read r₆ 66 0 j (simp length-set (omega arith))
      ∙ ap (cond (eqb j 66) 0) (set_read r₅ 65 0 j (simp length-set (omega arith))
      ∙ ap (cond (eqb j 65) 0) (set_read r₄ 64 d j (simp length-set (omega arith))
      ∙ ap (cond (eqb j 64) d) (set_read r₃ 32 s j (simp length-set (omega arith))
      ∙ ap (cond (eqb j 32) s) (set_read r₂ 16 1 j (simp length-set (omega arith))
      ∙ ap (cond (eqb j 16) 1) (set_read r₁ 8 1 j (simp length-set (omega arith))
      ∙ ap (cond (eqb j 8) 1) (set_read row 0 255 j (omega arith)))))))))

  -- The four weights are a byte and zeros.
  pub silent_light : d < 256 → (j : ℕ) → j < 4 → get_or (silent_at row s d) (64 + j) 0 < 256
  silent_light h zero g = rw (silent_read 64) h
  silent_light h (suc zero) g = rw (silent_read 65) (omega arith)
  silent_light h (suc (suc zero)) g = rw (silent_read 66) (omega arith)
  silent_light h (suc (suc (suc zero))) g = rw (silent_read 67) (omega arith)
  silent_light h (suc (suc (suc (suc j)))) g = absurd (omega arith)

  -- With its sums it is the row of a state in which the work is over.
  pub silent_filled : {b : Bytes} {after : List ℕ} → d ≡ denominator_of b → length (listed b s (action_count b)) ≡ 0 → Summed 1 (silent_at row s d) after → Silent b s after
  silent_filled {b} {after} e z p =
      record {
        none = z;
        count = p.kept 16 (omega arith) ∙ silent_read 16;
        choice = p.kept 0 (omega arith) ∙ silent_read 0;
        outcomes = p.kept 8 (omega arith) ∙ silent_read 8;
        target = p.kept 32 (omega arith) ∙ silent_read 32;
        weight = p.kept 64 (omega arith) ∙ silent_read 64 ∙ e;
        reward = p.kept 96 (omega arith) ∙ silent_read 96;
        summed = λ y l. p.at 0 y (omega arith) l ∙ rw (silent_read 64, silent_read 65, silent_read 66, silent_read 67, e) (omega arith);
      }

-- ---- the row

pub acting_filled : {b : Bytes} {s n : ℕ} {row after : List ℕ} → n ≡ get_or row 16 0 → 0 < n → Chosen b s row → Spelled b s (4 * get_or row 16 0) row → n ≤ 8
    → Summed n row after → Acting b s after
acting_filled {b} {s} {n} {row} {after} e o c w h p =
    record {
      some = rw (p.kept 16 (omega arith)) (omega arith);
      chosen =
          rw (p.kept 16 (omega arith))
          (record { many = c.many; bytes = λ j l. p.kept j (omega arith) ∙ c.bytes j l; counts = λ j l. p.kept (8 + j) (omega arith) ∙ c.counts j l });
      spelled =
          rw (p.kept 16 (omega arith))
          (record {
            targets = λ j l. p.kept (32 + j) (omega arith) ∙ w.targets j l;
            weights = λ j l. p.kept (64 + j) (omega arith) ∙ w.weights j l;
            light = λ j l. rw (p.kept (64 + j) (omega arith)) (w.light j l);
            rewards = λ j l. p.kept (96 + j) (omega arith) ∙ w.rewards j l;
          });
      summed = λ i y l g. let k = p.kept 16 (omega arith) in p.at i y (omega arith) g ∙ sym (same i y (omega arith));
    }
  where
    same : (i y : ℕ) → i < 8 → pattern_sum after i y ≡ pattern_sum row i y
    same i y l =
        rw (p.kept (64 + 4 * i) (omega arith), p.kept (64 + 4 * i + 1) (omega arith), p.kept (64 + 4 * i + 2) (omega arith), p.kept (64 + 4 * i + 3) (omega arith)) refl

-- What is listed and spelled out, or else the silent move: ready to be summed, and with its sums the row of s.
module _ {b : Bytes} {s d r : ℕ} {row row' : List ℕ} (e : refusal (read_model b) ≡ 0) (c : Chosen b s row) (w : Spelled b s (4 * get_or row 16 0) row)
    (n : length row ≡ 256) (g : d ≡ denominator_of b) (h : d < 256) (some : 0 < get_or row 16 0 → (r ≡ get_or row 16 0) × (row' ≡ row))
    (none : get_or row 16 0 ≡ 0 → (r ≡ 1) × (row' ≡ silent_at row s d)) where
  pub ready : (r ≤ 8) × (length row' ≡ 256) × ((j : ℕ) → j < 4 * r → get_or row' (64 + j) 0 < 256)
  ready = by (dec_lt 0 (get_or row 16 0))
    where
      by : Dec (0 < get_or row 16 0) → (r ≤ 8) × (length row' ≡ 256) × ((j : ℕ) → j < 4 * r → get_or row' (64 + j) 0 < 256)
      by (yes l) = let x = some l in (omega (arith, x.0, chosen_few e c), rw x.1 n, λ j k. rw x.1 (w.light j (omega (arith, x.0))))
      by (no l) = let x = none (omega arith) in (omega (arith, x.0), rw x.1 (silent_length row s d n), λ j k. rw x.1 (silent_light row s d n h j (omega (arith, x.0))))

  pub row_filled : {after : List ℕ} → Summed r row' after → Row b s after
  row_filled {after} p = by (dec_lt 0 (get_or row 16 0))
    where
      by : Dec (0 < get_or row 16 0) → Row b s after
      by (yes l) =
          let x = some l in
          acting (acting_filled x.0 (omega (arith, x.0)) c w (omega (arith, x.0, chosen_few e c)) (subst (λ z. Summed r z after) x.1 p))
      by (no l) =
          let x = none (omega arith) in
          silent (silent_filled row s d n g (omega (arith, c.many)) (subst (λ k. Summed k (silent_at row s d) after) x.0 (subst (λ z. Summed r z after) x.1 p)))

-- ---- the rows in the array

-- The row of s, as it stands in the array.
abbrev pub row_at : List ℕ → ℕ → List ℕ
row_at m s = take 256 (drop (512 + 256 * s) m)

front_part : (x r : List ℕ) (a n : ℕ) → a + n ≤ length x → take n (drop a (x ++ r)) ≡ take n (drop a x)
front_part x r a n h =
    ap (take n) (drop-append-le a x r (omega arith)) ∙ take-append-le n (drop a x) r (rw (length-drop a x) (omega arith))

module _ (m row : List ℕ) (s k : ℕ) (h : 512 + 256 * s ≤ length m) where
  pub rows_before : (t : ℕ) → t < s → row_at (put_mid (512 + 256 * s) k m row) t ≡ row_at m t
  rows_before t l =
      let f : ℕ = 512 + 256 * s in
      let n : 512 + 256 * t + 256 ≤ length (take f m) = rw (length-take-le f m h) (omega arith) in
      front_part (take f m) _ (512 + 256 * t) 256 n
      ∙ sym (front_part (take f m) (drop f m) (512 + 256 * t) 256 n)
      ∙ ap (λ l. row_at l t) (take-append-drop f m)

  pub row_put : length row ≡ 256 → row_at (put_mid (512 + 256 * s) k m row) s ≡ row
  row_put l =
      ap (take 256) (drop_at (take (512 + 256 * s) m) (row ++ post_of (512 + 256 * s) k m) (512 + 256 * s) (length-take-le (512 + 256 * s) m h)) ∙ take_at row (post_of (512 + 256 * s) k m) 256 l

  pub head_before : (j : ℕ) → j < 512 → get_or (put_mid (512 + 256 * s) k m row) j 0 ≡ get_or m j 0
  head_before j l =
      sym (get_or-take (512 + 256 * s) (put_mid (512 + 256 * s) k m row) j 0 (omega arith)) ∙ ap (λ x. get_or x j 0) (take_put (512 + 256 * s) k m row h) ∙ get_or-take (512 + 256 * s) m j 0 (omega arith)
