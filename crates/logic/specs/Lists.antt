-- Functions on lists that the definitions use.
use Rattle.std.specs.Prelude.{ℕ, zero, suc, Bool, true, false, cond, ◌&&◌, ◌||◌}
use mathlib.Core.List.{List, [], ◌∷◌, ◌++◌, map, flat_map}
use Rattle.std.proofs.Math.Option.{Option, none, some}

module _ {A : Type 0} where
  -- The elements that pass the test, in order.
  unfoldable pub keep : (A → Bool) → List A → List A
  keep f [] = []
  keep f (x ∷ xs) = cond (f x) (x ∷ keep f xs) (keep f xs)

  unfoldable pub is_empty : List A → Bool
  is_empty [] = true
  is_empty (x ∷ xs) = false

  unfoldable pub any : (A → Bool) → List A → Bool
  any f [] = false
  any f (x ∷ xs) = f x || any f xs

  unfoldable pub all : (A → Bool) → List A → Bool
  all f [] = true
  all f (x ∷ xs) = f x && all f xs

  -- The first element that passes the test, with its place, counted from k.
  unfoldable pub find : (A → Bool) → ℕ → List A → Option (ℕ × A)
  find f k [] = none
  find f k (x ∷ xs) = cond (f x) (some (k, x)) (find f (suc k) xs)

  -- One element of each list, in dictionary order of places.
  unfoldable pub product : List (List A) → List (List A)
  product [] = [] ∷ []
  product (l ∷ ls) = flat_map (λ x. map (λ r. x ∷ r) (product ls)) l

-- k, k + 1, .., n of them.
unfoldable pub count_from : ℕ → ℕ → List ℕ
count_from k zero = []
count_from k (suc n) = k ∷ count_from (suc k) n

-- The list of f 0, f 1, .., f (n - 1).
unfoldable pub tabulate : {A : Type 0} → ℕ → (ℕ → A) → List A
tabulate n f = map f (count_from 0 n)

-- f is true of 0, 1, .., n - 1.
unfoldable pub every : ℕ → (ℕ → Bool) → Bool
every zero f = true
every (suc n) f = every n f && f n

-- f is true of one of 0, 1, .., n - 1.
unfoldable pub some_below : ℕ → (ℕ → Bool) → Bool
some_below zero f = false
some_below (suc n) f = some_below n f || f n

-- The lists that f makes of the first elements, the second ones and so on, one after the other.
unfoldable pub join : {A B C : Type 0} → (A → B → List C) → List A → List B → List C
join f [] ys = []
join f (x ∷ xs) [] = []
join f (x ∷ xs) (y ∷ ys) = f x y ++ join f xs ys
