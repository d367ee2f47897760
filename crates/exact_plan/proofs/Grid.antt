-- Laws of `grid` and `combined`: combining is associative with 0 alone as its unit, so that the lists of a choice's outcomes may be
-- combined from any outcome on, to the left and to the right.
use Prim.Native.Nat.{ℕ, ◌+◌, ◌*◌}
use native.Mathlib.Nat.{add_assoc, zero-add, add-zero, suc-mul, zero-mul}
use native.Mathlib.Omega.{arith}
use mathlib.Core.Path.{◌≡◌, refl, sym, ap, ap₂, ◌∙◌, fun_ext}
use mathlib.Core.List.{List, [], ◌∷◌, ◌++◌, map, flat_map, map-map, map-append, map-id, append_assoc, append-nil}
use lib.ListN.{length, length-append, length-map}
use Rattle.logic.specs.Limits.{multiply}
use Rattle.exact_plan.specs.promises.Totals.{grid, combined}

pub grid_append : (xs ys zs : List ℕ) → grid (xs ++ ys) zs ≡ grid xs zs ++ grid ys zs
unfolding grid flat_map
grid_append [] ys zs = refl
grid_append (x ∷ xs) ys zs = ap (λ l. map (λ z. x + z) zs ++ l) (grid_append xs ys zs) ∙ sym (append_assoc (map (λ z. x + z) zs) (grid xs zs) (grid ys zs))

shift_grid : (x : ℕ) (ys zs : List ℕ) → map (λ z. x + z) (grid ys zs) ≡ grid (map (λ y. x + y) ys) zs
unfolding grid flat_map
shift_grid x [] zs = refl
shift_grid x (y ∷ ys) zs =
    map-append (λ z. x + z) (map (λ z. y + z) zs) (grid ys zs)
    ∙ ap₂ ◌++◌ (map-map (λ z. x + z) (λ z. y + z) zs ∙ ap (λ f. map f zs) (fun_ext (λ z. sym (add_assoc x y z)))) (shift_grid x ys zs)

pub grid_assoc : (xs ys zs : List ℕ) → grid (grid xs ys) zs ≡ grid xs (grid ys zs)
unfolding grid flat_map
grid_assoc [] ys zs = refl
grid_assoc (x ∷ xs) ys zs = grid_append (map (λ y. x + y) ys) (grid xs ys) zs ∙ ap₂ ◌++◌ (sym (shift_grid x ys zs)) (grid_assoc xs ys zs)

pub grid_zero : (ys : List ℕ) → grid (0 ∷ []) ys ≡ ys
unfolding grid flat_map
grid_zero ys = append-nil (map (λ y. 0 + y) ys) ∙ ap (λ f. map f ys) (fun_ext zero-add) ∙ map-id ys

pub zero_grid : (xs : List ℕ) → grid xs (0 ∷ []) ≡ xs
unfolding grid flat_map
zero_grid [] = refl
zero_grid (x ∷ xs) = ap₂ {C = List ℕ} ◌∷◌ (add-zero x) (zero_grid xs)

pub length_grid : (xs ys : List ℕ) → length (grid xs ys) ≡ length xs * length ys
unfolding grid flat_map
length_grid [] ys = sym (zero-mul (length ys))
length_grid (x ∷ xs) ys =
    length-append (map (λ y. x + y) ys) (grid xs ys)
    ∙ omega (arith, length-map ys (λ y. x + y), length_grid xs ys, suc-mul (length xs) (length ys))

module _ {A : Type 0} (f : A → List ℕ) where
  pub combined_append : (l r : List A) → combined f (l ++ r) ≡ grid (combined f l) (combined f r)
  unfolding combined
  combined_append [] r = sym (grid_zero (combined f r))
  combined_append (o ∷ l) r = ap (grid (f o)) (combined_append l r) ∙ sym (grid_assoc (f o) (combined f l) (combined f r))

  pub combined_one : (o : A) → combined f (o ∷ []) ≡ f o
  unfolding combined
  combined_one o = zero_grid (f o)

  pub combined_length : (t : A → ℕ) → ((o : A) → length (f o) ≡ t o) → (l : List A) → length (combined f l) ≡ multiply t l
  unfolding combined multiply
  combined_length t h [] = refl
  combined_length t h (o ∷ l) = length_grid (f o) (combined f l) ∙ ap₂ ◌*◌ (h o) (combined_length t h l)
