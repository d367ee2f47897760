-- What the proofs of the reading of questions share: the formulas of the first k nodes are the first k formulas, so a table filled node
-- by node holds what is asked of each.
use Prim.Native.Nat.{ℕ, zero, suc, ◌+◌, ◌/◌, ◌%◌, ◌≤◌, ◌<◌, min, zero-le}
use native.Mathlib.Nat.{le_of_suc-le-suc, eq-or-lt_of_le, add-zero, add-suc, div-add-mod'}
use native.Mathlib.Decide.{dec_lt, ℕ_discrete}
use native.Mathlib.Omega.{arith}
use mathlib.Core.Path.{◌≡◌, refl, sym, ap, ap₂, ◌∙◌}
use mathlib.Core.Logic.{◌⊎◌, inl, inr, ⊎_elim}
use mathlib.Core.Bool.{Bool, true, false, ◌&&◌, and-true, and_assoc}
use mathlib.Core.List.{List, [], ◌∷◌, ◌++◌}
use lib.Dec.{eqb}
use lib.ListN.{length, get_or, take, set, length-append, length-set, length-take, get_or-eq_default}
use lib.Seq.{get_or_at, get_or-take, take_all, take-append-le, ext_get_or, get_or-set_same, get_or-set_other}
use borrow.Author.Tests.{eqb-true}
use Rattle.logic.specs.Lists.{all, every, count_from, tabulate}
use Rattle.logic.specs.Formula.{Formula, never, Node, formula_of, formulas}
use Rattle.logic.proofs.Tests.{length_tabulate, get_or_tabulate, all_tabulate, and_left, and_right, tabulate_more}
use Rattle.blocks.specs.Bytes.{Bytes, byte, zeros, within}
use Rattle.blocks.specs.Block.{whole_blocks, block_count}
use Rattle.questions.specs.Layout.{node_at, node_of, node_count, formulas_of}
use Rattle.questions.specs.Grounds.{node_in_range, node_spare}
use Rattle.questions.specs.promises.Tables.{formulas_before, table}
use Rattle.blocks.proofs.RangeTests.{at_least, at_most}

-- ---- tests

every_join : (f : ℕ → Bool) (m n : ℕ) → every (m + n) f ≡ (every m f && every n (λ i. f (m + i)))
unfolding every
every_join f m zero = rw (add-zero m) (sym (and-true (every m f)))
every_join f m (suc n) = rw (add-suc m n) (ap (λ t. t && f (m + n)) (every_join f m n) ∙ and_assoc (every m f) (every n (λ i. f (m + i))) (f (m + n)))

pub every_same : {f g : ℕ → Bool} (n : ℕ) → ((i : ℕ) → i < n → f i ≡ g i) → every n f ≡ every n g
unfolding every
every_same zero h = refl
every_same (suc n) h = ap₂ ◌&&◌ (every_same n (λ i l. h i (omega arith))) (h n (omega arith))

-- Two runs of bytes are zero exactly when the one made of both is.
pub zeros_join : (b : Bytes) (from m n : ℕ) → zeros b from (m + n) ≡ (zeros b from m && zeros b (from + m) n)
unfolding zeros
zeros_join b from m n =
    every_join (λ i. eqb (byte b (from + i)) 0) m n
    ∙ ap (λ t. every m (λ i. eqb (byte b (from + i)) 0) && t) (every_same n (λ i l. ap (λ k. eqb (byte b k) 0) (omega arith)))

-- The cells of a node from byte 3 on, and from byte 1 on.
pub spare_right : (b : Bytes) (k : ℕ) → zeros b (k + 3) 9 ≡ (zeros b (k + 3) 1 && zeros b (k + 4) 8)
spare_right b k = let e : k + 3 + 1 ≡ k + 4 = omega arith in zeros_join b (k + 3) 1 8 ∙ ap (λ j. zeros b (k + 3) 1 && zeros b j 8) e

pub spare_all : (b : Bytes) (k : ℕ) → zeros b (k + 1) 11 ≡ (zeros b (k + 1) 1 && zeros b (k + 2) 1 && zeros b (k + 3) 1 && zeros b (k + 4) 8)
spare_all b k =
    let e2 : k + 1 + 1 ≡ k + 2 = omega arith in
    let e3 : k + 1 + 2 ≡ k + 3 = omega arith in
    let e4 : k + 1 + 3 ≡ k + 4 = omega arith in
    zeros_join b (k + 1) 3 8
    ∙ ap₂ ◌&&◌
    (zeros_join b (k + 1) 2 1 ∙ ap₂ ◌&&◌ (zeros_join b (k + 1) 1 1 ∙ ap (λ j. zeros b (k + 1) 1 && zeros b j 1) e2) (ap (λ j. zeros b j 1) e3))
    (ap (λ j. zeros b j 8) e4)

-- A test of all of a list is a test of every place.
pub all_every : {A : Type 0} (t : A → Bool) (d : A) (l : List A) → all t l ≡ every (length l) (λ i. t (get_or l i d))
unfolding all
all_every t d l = ap (all t) (ext_get_or d l (tabulate (length l) (λ i. get_or l i d)) (sym (length_tabulate (λ i. get_or l i d) (length l))) (λ i h. sym (get_or_tabulate (λ i. get_or l i d) (length l) d h))) ∙ all_tabulate (λ i. get_or l i d) t (length l)

-- A question that passes ground 1 is one block.
pub one_block : (b : Bytes) → whole_blocks 1 1 b ≡ true → length b ≡ 512
unfolding whole_blocks block_count
one_block b e =
    let m : length b % 512 ≡ 0 = eqb-true (length b % 512) 0 (and_left (eqb (length b % 512) 0) (within 1 1 (length b / 512)) e) in
    let d : within 1 1 (length b / 512) ≡ true = and_right (eqb (length b % 512) 0) (within 1 1 (length b / 512)) e in
    omega (arith, div-add-mod' (length b) 512, at_least 1 1 (length b / 512) d, at_most 1 1 (length b / 512) d)

-- ---- by an operator's number

-- A claim of every number, from the rows of the table of operators and the numbers above them.
pub by_operator : (P : ℕ → Type 0) → P 0 → P 1 → P 2 → P 3 → P 4 → P 5 → P 6 → P 7 → P 8 → P 9
    → ((k : ℕ) → P (suc (suc (suc (suc (suc (suc (suc (suc (suc (suc k))))))))))) → (n : ℕ) → P n
by_operator P p0 p1 p2 p3 p4 p5 p6 p7 p8 p9 p10 zero = p0
by_operator P p0 p1 p2 p3 p4 p5 p6 p7 p8 p9 p10 (suc zero) = p1
by_operator P p0 p1 p2 p3 p4 p5 p6 p7 p8 p9 p10 (suc (suc zero)) = p2
by_operator P p0 p1 p2 p3 p4 p5 p6 p7 p8 p9 p10 (suc (suc (suc zero))) = p3
by_operator P p0 p1 p2 p3 p4 p5 p6 p7 p8 p9 p10 (suc (suc (suc (suc zero)))) = p4
by_operator P p0 p1 p2 p3 p4 p5 p6 p7 p8 p9 p10 (suc (suc (suc (suc (suc zero))))) = p5
by_operator P p0 p1 p2 p3 p4 p5 p6 p7 p8 p9 p10 (suc (suc (suc (suc (suc (suc zero)))))) = p6
by_operator P p0 p1 p2 p3 p4 p5 p6 p7 p8 p9 p10 (suc (suc (suc (suc (suc (suc (suc zero))))))) = p7
by_operator P p0 p1 p2 p3 p4 p5 p6 p7 p8 p9 p10 (suc (suc (suc (suc (suc (suc (suc (suc zero)))))))) = p8
by_operator P p0 p1 p2 p3 p4 p5 p6 p7 p8 p9 p10 (suc (suc (suc (suc (suc (suc (suc (suc (suc zero))))))))) = p9
by_operator P p0 p1 p2 p3 p4 p5 p6 p7 p8 p9 p10 (suc (suc (suc (suc (suc (suc (suc (suc (suc (suc k)))))))))) = p10 k

-- The numbers that are no operator are out of range.
pub other_in_range : (A N i n : ℕ) (x : Node) → x.operator ≡ n → (n ≡ 1 → ⊥) → (n ≡ 2 → ⊥) → ((n ≡ 3) ⊎ (n ≡ 6) → ⊥) → (n ≡ 4 → ⊥) → (n ≡ 5 → ⊥) → (n ≡ 7 → ⊥) → (n ≡ 8 → ⊥)
    → (n ≡ 9 → ⊥) → false ≡ node_in_range A N i x
unfolding node_in_range
other_in_range A N i n x =
    by_operator
    (λ n. x.operator ≡ n → (n ≡ 1 → ⊥) → (n ≡ 2 → ⊥) → ((n ≡ 3) ⊎ (n ≡ 6) → ⊥) → (n ≡ 4 → ⊥) → (n ≡ 5 → ⊥) → (n ≡ 7 → ⊥) → (n ≡ 8 → ⊥) → (n ≡ 9 → ⊥) → false ≡ node_in_range A N i x)
    (λ o _ _ _ _ _ _ _ _. rw o refl)
    (λ o h _ _ _ _ _ _ _. absurd (h refl))
    (λ o _ h _ _ _ _ _ _. absurd (h refl))
    (λ o _ _ h _ _ _ _ _. absurd (h (inl refl)))
    (λ o _ _ _ h _ _ _ _. absurd (h refl))
    (λ o _ _ _ _ h _ _ _. absurd (h refl))
    (λ o _ _ h _ _ _ _ _. absurd (h (inr refl)))
    (λ o _ _ _ _ _ h _ _. absurd (h refl))
    (λ o _ _ _ _ _ _ h _. absurd (h refl))
    (λ o _ _ _ _ _ _ _ h. absurd (h refl))
    (λ k o _ _ _ _ _ _ _ _. rw o refl)
    n

-- They have no spare cell, nor have "plan" and operator 9.
pub other_spare : (b : Bytes) (i n : ℕ) → byte b (node_at i) ≡ n → (n ≡ 1 → ⊥) → ((n ≡ 2) ⊎ (n ≡ 5) → ⊥) → ((n ≡ 3) ⊎ (n ≡ 6) → ⊥) → (n ≡ 4 → ⊥) → (n ≡ 7 → ⊥) → true ≡ node_spare b i
unfolding node_spare
other_spare b i n =
    by_operator
    (λ n. byte b (node_at i) ≡ n → (n ≡ 1 → ⊥) → ((n ≡ 2) ⊎ (n ≡ 5) → ⊥) → ((n ≡ 3) ⊎ (n ≡ 6) → ⊥) → (n ≡ 4 → ⊥) → (n ≡ 7 → ⊥) → true ≡ node_spare b i)
    (λ o _ _ _ _ _. rw o refl)
    (λ o h _ _ _ _. absurd (h refl))
    (λ o _ h _ _ _. absurd (h (inl refl)))
    (λ o _ _ h _ _. absurd (h (inl refl)))
    (λ o _ _ _ h _. absurd (h refl))
    (λ o _ h _ _ _. absurd (h (inr refl)))
    (λ o _ _ h _ _. absurd (h (inr refl)))
    (λ o _ _ _ _ h. absurd (h refl))
    (λ o _ _ _ _ _. rw o refl)
    (λ o _ _ _ _ _. rw o refl)
    (λ k o _ _ _ _ _. rw o refl)
    n

-- ---- the formulas of the first k nodes

formulas_append : (fs : List Formula) (xs ys : List Node) → formulas fs (xs ++ ys) ≡ formulas (formulas fs xs) ys
unfolding formulas
formulas_append fs [] ys = refl
formulas_append fs (x ∷ xs) ys = formulas_append (fs ++ (formula_of fs x ∷ [])) xs ys

module _ (b : Bytes) where
  -- The formula of node k, from those before it.
  abbrev pub formula_at : ℕ → Formula
  formula_at k = formula_of (formulas_before b k) (node_of b k)

  pub before_more : (k : ℕ) → formulas_before b (suc k) ≡ formulas_before b k ++ (formula_at k ∷ [])
  unfolding formulas_before formulas
  before_more k = ap (formulas []) (tabulate_more (node_of b) k) ∙ formulas_append [] (tabulate k (node_of b)) (node_of b k ∷ [])

  pub before_length : (k : ℕ) → length (formulas_before b k) ≡ k
  unfolding formulas_before tabulate count_from formulas
  before_length zero = refl
  before_length (suc k) = ap length (before_more k) ∙ length-append (formulas_before b k) (formula_at k ∷ []) ∙ omega (arith, before_length k)

  pub before_take : (i k : ℕ) → i ≤ k → take i (formulas_before b k) ≡ formulas_before b i
  before_take i zero h = take_all i (formulas_before b zero) (rw (before_length zero) zero-le) ∙ ap (formulas_before b) (omega arith)
  before_take i (suc k) h =
      ⊎_elim
      (λ (e : i ≡ suc k). take_all i (formulas_before b (suc k)) (rw (before_length (suc k)) (omega arith)) ∙ ap (formulas_before b) (sym e))
      (λ (l : i < suc k). rw (before_more k) (take-append-le i (formulas_before b k) (formula_at k ∷ []) (rw (before_length k) (le_of_suc-le-suc l)) ∙ before_take i k (le_of_suc-le-suc l)))
      (eq-or-lt_of_le h)

  -- The formula at a node is the one that its operator makes of those before it.
  pub before_at : (i k : ℕ) → i < k → get_or (formulas_before b k) i never ≡ formula_at i
  before_at i k h =
      sym (get_or-take (suc i) (formulas_before b k) i never (omega arith))
      ∙ ap (λ fs. get_or fs i never) (before_take (suc i) k h ∙ before_more i)
      ∙ get_or_at (formulas_before b i) (formula_at i) [] never i (before_length i)

  -- Node i changes no other place.
  pub before_other : (i j : ℕ) → (j ≡ i → ⊥) → get_or (formulas_before b i) j never ≡ get_or (formulas_before b (suc i)) j never
  before_other i j n = go (dec_lt j i)
    where
      go : Dec (j < i) → get_or (formulas_before b i) j never ≡ get_or (formulas_before b (suc i)) j never
      go (yes l) = before_at j i l ∙ sym (before_at j (suc i) (omega arith))
      go (no g) =
          get_or-eq_default (formulas_before b i) never (rw (before_length i) (omega arith))
          ∙ sym (get_or-eq_default (formulas_before b (suc i)) never (rw (before_length (suc i)) (omega arith)))

-- A question's formulas are those of the nodes before its count.
pub all_before : (b : Bytes) → formulas_before b (node_count b) ≡ formulas_of b
unfolding formulas_before formulas_of
all_before b = refl

-- The formula at node i of a question, from those before it.
pub formula_here : (b : Bytes) (i : ℕ) → i < node_count b → get_or (formulas_of b) i never ≡ formula_at b i
formula_here b i h = ap (λ fs. get_or fs i never) (sym (all_before b)) ∙ before_at b i (node_count b) h

-- ---- tables

module _ {A : Type 0} (f : Formula → A) (b : Bytes) where
  pub table_length : (fs : List Formula) → length (table f fs) ≡ 40
  unfolding table
  table_length fs = length_tabulate (λ i. f (get_or fs i never)) 40

  pub table_at : (fs : List Formula) (i : ℕ) → i < 40 → get_or (table f fs) i (f never) ≡ f (get_or fs i never)
  unfolding table
  table_at fs i h = get_or_tabulate (λ i. f (get_or fs i never)) 40 (f never) h

  -- What a table says of a child: the first i places are those of the formulas before node i.
  pub child_at : (i j k : ℕ) → i ≤ k → i ≤ 40 → get_or (take i (table f (formulas_before b k))) j (f never) ≡ f (get_or (formulas_before b i) j never)
  child_at i j k h g = go (dec_lt j i)
    where
      go : Dec (j < i) → get_or (take i (table f (formulas_before b k))) j (f never) ≡ f (get_or (formulas_before b i) j never)
      go (yes l) =
          get_or-take i (table f (formulas_before b k)) j (f never) l
          ∙ table_at (formulas_before b k) j (omega arith)
          ∙ ap f (before_at b j k (omega arith) ∙ sym (before_at b j i l))
      go (no l) =
          get_or-eq_default (take i (table f (formulas_before b k))) (f never) (simp (length-take, table_length) (omega arith))
          ∙ ap f (sym (get_or-eq_default (formulas_before b i) never (rw (before_length b i) (omega arith))))

  table_same : (fs gs : List Formula) → ((i : ℕ) → i < 40 → get_or fs i never ≡ get_or gs i never) → table f fs ≡ table f gs
  table_same fs gs h =
      ext_get_or (f never) (table f fs) (table f gs) (table_length fs ∙ sym (table_length gs))
      (λ i l. let g : i < 40 = rw (table_length fs) at l in table_at fs i g ∙ ap f (h i g) ∙ sym (table_at gs i g))

  pub child_value : {l : List A} {j j' : ℕ} (i k : ℕ) → i ≤ k → i ≤ 40 → l ≡ table f (formulas_before b k) → j ≡ j' → get_or (take i l) j (f never) ≡ f (get_or (formulas_before b i) j' never)
  child_value {j' = j'} i k h g t e = ap₂ (λ (l : List A) (j : ℕ). get_or (take i l) j (f never)) t e ∙ child_at i j' k h g

  -- The table after one node more.
  pub table_more : (i : ℕ) → i < 40 → set (table f (formulas_before b i)) i (f (formula_at b i)) ≡ table f (formulas_before b (suc i))
  table_more i h =
      ext_get_or (f never) (set (table f (formulas_before b i)) i (f (formula_at b i))) (table f (formulas_before b (suc i)))
      (length-set (table f (formulas_before b i)) i (f (formula_at b i)) ∙ table_length (formulas_before b i) ∙ sym (table_length (formulas_before b (suc i))))
      (λ j l. go j (rw (length-set (table f (formulas_before b i)) i (f (formula_at b i)) ∙ table_length (formulas_before b i)) at l) (ℕ_discrete j i))
    where
      go : (j : ℕ) → j < 40 → Dec (j ≡ i) → get_or (set (table f (formulas_before b i)) i (f (formula_at b i))) j (f never) ≡ get_or (table f (formulas_before b (suc i))) j (f never)
      go j l (yes e) =
          rw e (get_or-set_same (table f (formulas_before b i)) i (f (formula_at b i)) (f never) (rw (table_length (formulas_before b i)) h)
          ∙ ap f (sym (before_at b i (suc i) (omega arith)))
          ∙ sym (table_at (formulas_before b (suc i)) i h))
      go j l (no n) =
          get_or-set_other (table f (formulas_before b i)) i j (f (formula_at b i)) (f never) n
          ∙ table_at (formulas_before b i) j l ∙ ap f (before_other b i j n) ∙ sym (table_at (formulas_before b (suc i)) j l)

  -- Only the first 40 nodes stand in a table.
  pub table_full : (k : ℕ) → 40 ≤ k → table f (formulas_before b 40) ≡ table f (formulas_before b k)
  table_full k h = table_same (formulas_before b 40) (formulas_before b k) (λ i l. before_at b i 40 l ∙ sym (before_at b i k (omega arith)))

  -- So the table of the nodes held, the node count or 40, is the table of all.
  pub table_held : (i : ℕ) → i ≡ min (node_count b) 40 → table f (formulas_before b i) ≡ table f (formulas_of b)
  table_held i e = go (dec_lt (node_count b) 40) ∙ ap (table f) (all_before b)
    where
      go : Dec (node_count b < 40) → table f (formulas_before b i) ≡ table f (formulas_before b (node_count b))
      go (yes h) = let g : i ≡ node_count b = omega arith in ap (λ k. table f (formulas_before b k)) g
      go (no h) = let g : i ≡ 40 = omega arith in ap (λ k. table f (formulas_before b k)) g ∙ table_full (node_count b) (omega arith)
