-- The first sum x of one number of each of two lists: the rows, one for each number of the first list, are searched one after the other.
use Prim.Native.Nat.{ℕ, zero, suc, ◌+◌, ◌-◌, ◌*◌, ◌≤◌, ◌<◌, min, max}
use native.Mathlib.Nat.{suc-mul}
use native.Mathlib.Numerals.{add-one}
use native.Mathlib.Omega.{arith}
use native.Mathlib.Decide.{ℕ_discrete}
use mathlib.Core.Path.{◌≡◌, refl, sym, ap, subst, ◌∙◌}
use mathlib.Core.List.{List, [], ◌∷◌, ◌++◌, map, flat_map, append-nil, Memᴰ}
use lib.ListN.{length, take, drop, get_or, length-map, take-append-drop}
use lib.Seq.{take-suc, length-take-le}
use Rattle.logic.proofs.Tests.{get_or_member, member_place}
use Rattle.exact_plan.specs.promises.Totals.{grid}
use Rattle.std.specs.Prelude.{Option, None, Some}
use Rattle.exact_plan.specs.promises.Listing.{First, Found}
use Rattle.exact_plan.specs.promises.Search.{Between}
use Rattle.exact_plan.proofs.Grid.{grid_append, length_grid}
use Rattle.exact_plan.proofs.FirstPlace.{first_none, first_kept, first_more}

-- ---- the bounds of some numbers

module _ (buf : List ℕ) where
  -- The first i numbers lie between these.
  abbrev pub Bounded : (low high i : ℕ) → Type 0
  Bounded low high i = (j : ℕ) → j < i → (low ≤ get_or buf j 0) × (get_or buf j 0 ≤ high)

  pub bounded_more : {low high i low₁ high₁ : ℕ} → Bounded low high i → low₁ ≡ min low (get_or buf i 0) → high₁ ≡ max high (get_or buf i 0) → Bounded low₁ high₁ (i + 1)
  bounded_more {i = i} {low₁} {high₁} B e f j l = go (ℕ_discrete j i)
    where
      go : Dec (j ≡ i) → (low₁ ≤ get_or buf j 0) × (get_or buf j 0 ≤ high₁)
      go (yes z) = rw z (omega arith, omega arith)
      go (no z) = let b = B j (omega arith) in (omega (arith, b.0), omega (arith, b.1))

  pub bounded_between : {low high : ℕ} → Bounded low high (length buf) → Between buf (record { low = low; high = high })
  bounded_between {low} {high} B =
      record {
        low = λ z u. let p = place z u in subst (λ y. low ≤ y) p.2 (B p.0 p.1).0;
        high = λ z u. let p = place z u in subst (λ y. y ≤ high) p.2 (B p.0 p.1).1;
      }
    where
      place : (z : ℕ) → Memᴰ z buf → (i : ℕ) × (i < length buf) × (get_or buf i 0 ≡ z)
      place z u = let p = member_place u 0 in (p.0, p.1, p.2)

-- ---- one row

get_or_map : (f : ℕ → ℕ) (l : List ℕ) (j : ℕ) → j < length l → get_or (map f l) j 0 ≡ f (get_or l j 0)
get_or_map f [] j h = absurd (omega arith)
get_or_map f (z ∷ l) zero h = refl
get_or_map f (z ∷ l) (suc j) h = get_or_map f l j (omega arith)

module _ (y x : ℕ) (l : List ℕ) where
  row_length : length (map (λ z. y + z) l) ≡ length l
  row_length = length-map l (λ z. y + z)

  pub row_nowhere : ((z : ℕ) → Memᴰ z l → (y + z ≡ x → ⊥)) → Found (map (λ z. y + z) l) x None
  row_nowhere h =
      record {
        few = omega arith;
        none_before = λ j k p.
            let i : j < length l = omega (arith, row_length) in
            h (get_or l j 0) (get_or_member l j 0 i) (sym (get_or_map (λ z. y + z) l j i) ∙ p);
        there = λ k. absurd (omega arith);
      }

  row_rest : {r : ℕ} → y ≤ x → First l (x - y) r → First (map (λ z. y + z) l) x r
  row_rest {r} h F =
      record {
        few = omega (arith, F.few, row_length);
        none_before = λ j k p. F.none_before j k (omega (arith, sym (get_or_map (λ z. y + z) l j (omega (arith, F.few))) ∙ p));
        there = λ k. omega (arith, get_or_map (λ z. y + z) l r (omega (arith, row_length)), F.there (omega (arith, row_length)));
      }

  -- Where the rest is found among the numbers, or nowhere.
  pub row_of_rest : (o : Option ℕ) → y ≤ x → Found l (x - y) o → Found (map (λ z. y + z) l) x o
  row_of_rest None h F = subst (First (map (λ z. y + z) l) x) (sym row_length) (row_rest h F)
  row_of_rest (Some r) h F = (omega (arith, F.0, row_length), row_rest h F.1)

-- ---- row after row

grid_one : (a : ℕ) (ys : List ℕ) → grid (a ∷ []) ys ≡ map (λ z. a + z) ys
unfolding grid flat_map
grid_one a ys = append-nil (map (λ z. a + z) ys)

-- No row.
pub rows_none : (xs ys : List ℕ) (x n : ℕ) → First (grid (take 0 xs) ys) x (0 * n)
unfolding grid flat_map
rows_none xs ys x n = let z : 0 * n ≡ 0 = omega arith in rw z first_none

module _ (xs ys : List ℕ) (x : ℕ) {i j : ℕ} (h : i < length xs) (F : First (grid (take i xs) ys) x (i * length ys)) (J : First (map (λ z. get_or xs i 0 + z) ys) x j) where
  rows : List ℕ
  rows = grid (take i xs) ys

  row : List ℕ
  row = map (λ z. get_or xs i 0 + z) ys

  rows_length : length rows ≡ i * length ys
  unfolding rows
  rows_length = length_grid (take i xs) ys ∙ ap (λ n. n * length ys) (length-take-le i xs (omega arith))

  row_size : length row ≡ length ys
  unfolding row
  row_size = length-map ys (λ z. get_or xs i 0 + z)

  next_rows : rows ++ row ≡ grid (take (i + 1) xs) ys
  unfolding rows row
  next_rows =
      sym
      (ap (λ n. grid (take n xs) ys) (add-one i)
      ∙ ap (λ l. grid l ys) (take-suc xs i 0 h)
      ∙ grid_append (take i xs) (get_or xs i 0 ∷ []) ys
      ∙ ap (λ l. grid (take i xs) ys ++ l) (grid_one (get_or xs i 0) ys))

  both : First (grid (take (i + 1) xs) ys) x (i * length ys + j)
  unfolding rows row
  both =
      subst (λ l. First l x (i * length ys + j)) next_rows
      (subst (λ n. First (rows ++ row) x (n + j)) rows_length (first_more row (subst (First rows x) (sym rows_length) F) J))

  next_length : length (grid (take (i + 1) xs) ys) ≡ i * length ys + length ys
  next_length = length_grid (take (i + 1) xs) ys ∙ ap (λ n. n * length ys) (length-take-le (i + 1) xs (omega arith) ∙ add-one i) ∙ suc-mul i (length ys)

  pub row_found : j < length ys → First (grid xs ys) x (i * length ys + j)
  row_found l =
      subst (λ l. First l x (i * length ys + j))
      (sym (grid_append (take (i + 1) xs) (drop (i + 1) xs) ys) ∙ ap (λ l. grid l ys) (take-append-drop (i + 1) xs))
      (first_kept (grid (drop (i + 1) xs) ys) both (omega (arith, next_length)))

  pub row_passed : length ys ≤ j → First (grid (take (i + 1) xs) ys) x ((i + 1) * length ys)
  unfolding row
  row_passed l =
      let e : i * length ys + j ≡ (i + 1) * length ys =
      omega (arith, J.few, row_size, ap (λ n. n * length ys) (add-one i) ∙ suc-mul i (length ys)) in
      subst (First (grid (take (i + 1) xs) ys) x) e both
