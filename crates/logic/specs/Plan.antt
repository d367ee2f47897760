-- Plans and the paths that they allow. Document 01, "The model". A plan is document 01's word for a bounded policy (Definition 2 of
-- the PLBP paper) on the histories that it can meet; `Policy` has the published functions on histories.
use Rattle.std.specs.Prelude.{ℕ, zero, suc, ◌*◌}
use mathlib.Core.List.{List, [], ◌∷◌, map, flat_map}
use Rattle.logic.specs.Lists.{product, join}
use Rattle.logic.specs.Model.{Model, Step, enabled, outcomes}

-- An n-step plan: nothing more to do, or a choice with an (n - 1)-step plan for each of its outcomes, in their order.
abbrev pub Plan : ℕ → Type 0
Plan zero = Unit {0}
Plan (suc n) = ℕ × List (Plan n)

-- The choices of a plan, depth first, as a sheet has them.
unfoldable pub choices : (n : ℕ) → Plan n → List ℕ
choices zero p = []
choices (suc n) p = p.0 ∷ flat_map (choices n) p.1

-- Two lists of one length whose elements are related pairwise.
pub data Match {A B : Type 0} (R : A → B → Type 0) : List A → List B → Type 0 where
  ends : Match R [] []
  pair : {x : A} {y : B} {xs : List A} {ys : List B} → R x y → Match R xs ys → Match R (x ∷ xs) (y ∷ ys)

-- All n-step plans from a state: an enabled choice first, with every plan below each of its outcomes. That this is every plan, once, in
-- dictionary order, is proved (`Dictionary`).
unfoldable pub plans : Model → (n : ℕ) → ℕ → List (Plan n)
plans m zero s = tt ∷ []
plans m (suc n) s = flat_map (λ a. map (λ qs. (a, qs)) (product (map (λ o. plans m n o.target) (outcomes m s a)))) (enabled m s)

-- The paths that a plan allows from a state: each takes one outcome of the choice made after each history. A path is the list of its
-- steps (Definition 10 of the r-PLBP thesis, without its first state).
unfoldable pub paths : Model → (n : ℕ) → ℕ → Plan n → List (List Step)
paths m zero s p = [] ∷ []
paths m (suc n) s p = join (λ o q. map (λ r. o ∷ r) (paths m n o.target q)) (outcomes m s p.0) p.1

-- A path's weight: the product of its weights (Definition 11 of the r-PLBP thesis, times the denominator to the n).
unfoldable pub weight : List Step → ℕ
weight [] = 1
weight (o ∷ r) = o.weight * weight r
