-- The numbers of a list nearest to x on either side of it: the greatest below it, and the least of those that are not below it; each at its first
-- place.
use Rattle.std.specs.Prelude.{ℕ, ◌<◌, ◌≡◌, Bool, true, false, not, cond, ◌&&◌, ◌||◌, List, T, eqb, leb, ltb, get_or, length}
use Rattle.logic.specs.promises.Orders.{order}
use Rattle.exact_plan.specs.declared.nearest.Near.{Near}
use Rattle.exact_plan.specs.declared.nearest.Neighbours.{Neighbours}

-- y is not below x, or it is below x.
unfoldable pub on_side : (above : Bool) → (x y : ℕ) → Bool
on_side above x y = cond above (leb x y) (ltb y x)

-- y is on this side of x, and there is no best so far or y is better: less above x, greater below it.
unfoldable pub wins : (above : Bool) → (x past : ℕ) → Near → ℕ → Bool
wins above x past best y = on_side above x y && (eqb best.place past || not (order above y best.total))

-- Of the first n numbers of a list, the nearest to x on this side; `past` is its place where there is none.
pub record NearestIn (l : List ℕ) (n past : ℕ) (above : Bool) (x : ℕ) (r : Near) : Type 0 where
  pub few : (r.place ≡ past → ⊥) → r.place < n
  pub its_total : (r.place ≡ past → ⊥) → get_or l r.place 0 ≡ r.total
  pub there : (r.place ≡ past → ⊥) → on_side above x r.total ≡ true
  pub nowhere : r.place ≡ past → (j : ℕ) → j < n → on_side above x (get_or l j 0) ≡ false
  pub best : (r.place ≡ past → ⊥) → (j : ℕ) → j < n → on_side above x (get_or l j 0) ≡ true → T (order above (get_or l j 0) r.total)
  pub first : (r.place ≡ past → ⊥) → (j : ℕ) → j < r.place → on_side above x (get_or l j 0) ≡ true → T (not (order above r.total (get_or l j 0)))

-- Of a whole list, on either side.
pub record Around (l : List ℕ) (x : ℕ) (r : Neighbours) : Type 0 where
  pub lower : NearestIn l (length l) (length l) false x r.below
  pub upper : NearestIn l (length l) (length l) true x r.above
