-- Lists made of pieces, one for each number from 0 on: the sheet's blocks, and the choices in them.
use Prim.Native.Nat.{ℕ, zero, suc, ◌+◌, ◌*◌, ◌-◌, ◌≤◌, ◌<◌}
use native.Mathlib.Omega.{arith}
use native.Mathlib.Nat.{add-zero, mul-suc, mul-le-mul_left}
use native.Mathlib.Numerals.{add-one}
use mathlib.Core.Path.{◌≡◌, refl, sym, ap, ap₂, ◌∙◌}
use mathlib.Core.List.{List, [], ◌++◌, flat_map, append_assoc, append-nil}
use lib.ListN.{length, take, drop, length-append}
use lib.Seq.{take-add, drop_at, drop-drop, drop-append-le}
use borrow.Rule.Slice.PartMut.{put_mid}
use Rattle.logic.specs.Lists.{count_from}
use Rattle.blocks.proofs.PartPutBack.{put_mid-tail}

-- The first k pieces.
abbrev pub pieces : {A : Type 0} → (ℕ → List A) → ℕ → List A
pieces f k = flat_map f (count_from 0 k)

module _ {A : Type 0} (f : ℕ → List A) where
  from_more : (i k : ℕ) → flat_map f (count_from i (suc k)) ≡ flat_map f (count_from i k) ++ f (i + k)
  unfolding flat_map count_from
  from_more i zero = append-nil (f i) ∙ ap f (sym (add-zero i))
  from_more i (suc k) =
      let j : suc i + k ≡ i + suc k = omega arith in
      ap (λ l. f i ++ l) (from_more (suc i) k) ∙ sym (append_assoc (f i) (flat_map f (count_from (suc i) k)) (f (suc i + k)))
      ∙ ap (λ z. (f i ++ flat_map f (count_from (suc i) k)) ++ f z) j

  pub pieces_none : pieces f 0 ≡ []
  unfolding flat_map count_from
  pieces_none = refl

  pub pieces_more : (k : ℕ) → pieces f (suc k) ≡ pieces f k ++ f k
  pieces_more k = let j : 0 + k ≡ k = omega arith in from_more 0 k ∙ ap (λ z. pieces f k ++ f z) j

  pub pieces_length : (m n : ℕ) → ((k : ℕ) → k < n → length (f k) ≡ m) → length (pieces f n) ≡ m * n
  pieces_length m zero h = ap length pieces_none ∙ omega arith
  pieces_length m (suc n) h =
      ap length (pieces_more n) ∙ length-append (pieces f n) (f n)
      ∙ ap₂ ◌+◌ (pieces_length m n (λ k l. h k (omega arith))) (h n (omega arith)) ∙ omega (arith, mul-suc m n)

  from_split : (i k j : ℕ) → flat_map f (count_from i (k + suc j)) ≡ flat_map f (count_from i k) ++ (f (i + k) ++ flat_map f (count_from (suc (i + k)) j))
  unfolding flat_map count_from
  from_split i zero j =
      let z : zero + suc j ≡ suc j = omega arith in
      ap (λ x. flat_map f (count_from i x)) z ∙ ap (λ x. f x ++ flat_map f (count_from (suc x) j)) (sym (add-zero i))
  from_split i (suc k) j =
      let z : suc k + suc j ≡ suc (k + suc j) = omega arith in
      let y : suc i + k ≡ i + suc k = omega arith in
      ap (λ x. flat_map f (count_from i x)) z ∙ ap (λ l. f i ++ l) (from_split (suc i) k j)
      ∙ sym (append_assoc (f i) (flat_map f (count_from (suc i) k)) (f (suc i + k) ++ flat_map f (count_from (suc (suc i + k)) j)))
      ∙ ap (λ x. (f i ++ flat_map f (count_from (suc i) k)) ++ (f x ++ flat_map f (count_from (suc x) j))) y

  -- Where piece k of n stands, if each has m elements.
  pub piece_at : (m k n : ℕ) → k < n → ((i : ℕ) → i < n → length (f i) ≡ m) → (t : List A) × (drop (m * k) (pieces f n) ≡ f k ++ t)
  piece_at m k n l h =
      let j : ℕ = n - suc k in
      let z : n ≡ k + suc j = omega arith in
      let y : 0 + k ≡ k = omega arith in
      let t : List A = flat_map f (count_from (suc (0 + k)) j) in
      let e : pieces f n ≡ pieces f k ++ (f (0 + k) ++ t) = ap (pieces f) z ∙ from_split 0 k j in
      (t, ap (drop (m * k)) e ∙ drop_at (pieces f k) (f (0 + k) ++ t) (m * k) (pieces_length m k (λ i g. h i (omega arith))) ∙ ap (λ x. f x ++ t) y)

  -- Piece k of n, and behind it the piece after it.
  pub next_piece : (m k n : ℕ) (t : List A) → k < n → ((i : ℕ) → i < n → length (f i) ≡ m)
      → drop (m * k) (pieces f n ++ t) ≡ f k ++ drop (m * (k + 1)) (pieces f n ++ t)
  next_piece m k n t l h =
      let all : List A = pieces f n ++ t in
      let w = piece_at m k n l h in
      let e : drop (m * k) all ≡ f k ++ (w.0 ++ t) =
      drop-append-le (m * k) (pieces f n) t (let g : k ≤ n = omega arith in omega (arith, pieces_length m n h, mul-le-mul_left m g))
      ∙ ap (λ x. x ++ t) w.1 ∙ append_assoc (f k) w.0 t in
      let j : m * k + m ≡ m * (k + 1) = omega (arith, mul-suc m k, ap (λ z. m * z) (add-one k)) in
      e ∙ ap (λ x. f k ++ x) (sym (ap (λ i. drop i all) (sym j) ∙ sym (drop-drop m (m * k) all) ∙ ap (drop m) e ∙ drop_at (f k) (w.0 ++ t) m (h k l)))

pub pieces_same : {A : Type 0} (f g : ℕ → List A) (n : ℕ) → ((k : ℕ) → k < n → f k ≡ g k) → pieces f n ≡ pieces g n
pieces_same f g zero h = pieces_none f ∙ sym (pieces_none g)
pieces_same f g (suc n) h = pieces_more f n ∙ ap₂ ◌++◌ (pieces_same f g n (λ k l. h k (omega arith))) (h n (omega arith)) ∙ sym (pieces_more g n)

-- A list cut into parts of m.
pub parts : (l : List ℕ) (m n : ℕ) → pieces (λ k. take m (drop (m * k) l)) n ≡ take (m * n) l
parts l m zero = let z : m * zero ≡ zero = omega arith in pieces_none (λ k. take m (drop (m * k) l)) ∙ ap (λ i. take i l) (sym z)
parts l m (suc n) =
    pieces_more (λ k. take m (drop (m * k) l)) n
    ∙ ap (λ x. x ++ take m (drop (m * n) l)) (parts l m n)
    ∙ sym (take-add (m * n) m l)
    ∙ ap (λ i. take i l) (sym (mul-suc m n))

-- One piece more, put in the middle of d₀.
pub piece_put : (f : ℕ → List ℕ) (d₀ d p : List ℕ) (m k : ℕ) → d ≡ pieces f k ++ drop (m * k) d₀ → length (pieces f k) ≡ m * k → p ≡ f k
    → put_mid (m * k) (m * k + m - m * k) d p ≡ pieces f (k + 1) ++ drop (m * (k + 1)) d₀
piece_put f d₀ d p m k e n g =
    let j : m * k + (m * k + m - m * k) ≡ m * (k + 1) = omega (arith, mul-suc m k, ap (λ z. m * z) (add-one k)) in
    put_mid-tail (pieces f k) d₀ d (m * k) e n (m * k + m - m * k) p
    ∙ ap₂ (λ x y. (pieces f k ++ x) ++ drop y d₀) g j
    ∙ ap (λ l. l ++ drop (m * (k + 1)) d₀) (sym (pieces_more f k) ∙ ap (pieces f) (sym (add-one k)))
