-- The totals of all plans, in dictionary order of the plans, and how those over one step more are combined from those below.
use Rattle.std.specs.Prelude.{ℕ, ◌+◌, ◌*◌, Bool, true, false, take, drop}
use mathlib.Core.List.{List, [], ◌∷◌, map, flat_map}
use Rattle.logic.specs.Model.{Model, Step}
use Rattle.logic.specs.Quantity.{naturals}
use Rattle.logic.specs.Plan.{plans}
use Rattle.logic.specs.Bound.{total}

-- f is the value of the steps still to come; those taken stand in it.
unfoldable pub totals : Model → (n s : ℕ) → (List Step → ℕ) → List ℕ
totals m n s f = map (λ π. total naturals m n s π f) (plans m n s)

-- Every number of xs plus every one of ys, those of xs varying slowest.
unfoldable pub grid : List ℕ → List ℕ → List ℕ
grid xs ys = flat_map (λ x. map (λ y. x + y) ys) xs

-- A list combined with another on its right, or on its left.
unfoldable pub joined : Bool → List ℕ → List ℕ → List ℕ
joined true xs ys = grid xs ys
joined false xs ys = grid ys xs

-- Every sum of one number from each list, those of the first list varying slowest.
unfoldable pub combined : {A : Type 0} → (A → List ℕ) → List A → List ℕ
combined f [] = 0 ∷ []
combined f (o ∷ l) = grid (f o) (combined f l)

-- The totals below an outcome, weighed.
unfoldable pub weighed : Model → ℕ → (List Step → ℕ) → Step → List ℕ
weighed m n f o = map (λ y. o.weight * y) (totals m n o.target (λ r. f (o ∷ r)))

-- The n numbers of a list from a place on.
unfoldable pub part : List ℕ → ℕ → ℕ → List ℕ
part l at n = take n (drop at l)
