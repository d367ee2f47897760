-- Plan number k in dictionary order, by division, without the list of plans. That it stands at place k of the list is proved (`Places`).
use Rattle.std.specs.Prelude.{ℕ, zero, suc, ◌+◌, ◌-◌, ◌/◌, ◌%◌, ◌≤◌, ◌<◌, ◌≡◌, cond, List, [], ◌∷◌, ltb, get_or, length}
use Rattle.logic.specs.Model.{Model, Step, enabled, outcomes}
use Rattle.logic.specs.Plan.{Plan, plans}
use Rattle.logic.specs.Limits.{multiply, plan_total}
use Rattle.logic.specs.promises.Extension.{first_plan}
use Rattle.blocks.specs.Splice.{splice}

-- Plan number k, from 0, of the list of plans.
abbrev pub listed : Model → (n s k : ℕ) → Plan n
listed m n s k = get_or (plans m n s) k (first_plan m n s)

-- The block that holds place k, of blocks of these sizes one after the other, and the place within the block.
unfoldable pub block_of : (ℕ → ℕ) → List ℕ → ℕ → ℕ × ℕ
block_of size [] k = (0, k)
block_of size (a ∷ l) k = cond (ltb k (size a)) (a, k) (block_of size l (k - size a))

-- Place k split into a place for each element, the first element's the most significant.
unfoldable pub parts_at : {A B : Type 0} → (A → ℕ) → (A → ℕ → B) → List A → ℕ → List B
parts_at size f [] k = []
parts_at size f (x ∷ l) k = f x (k / multiply size l) ∷ parts_at size f l (k % multiply size l)

-- How many plans of n steps lead on from an outcome, and how many ways there are to continue after a choice.
abbrev pub below : Model → ℕ → Step → ℕ
below m n o = plan_total m n o.target

abbrev pub ways : Model → (n s a : ℕ) → ℕ
ways m n s a = multiply (below m n) (outcomes m s a)

-- Plan number k: the choice whose block holds k, and below each outcome the plan at its part of the place.
unfoldable pub plan_at : Model → (n s k : ℕ) → Plan n
plan_at m zero s k = tt
plan_at m (suc n) s k =
    let x : ℕ × ℕ = block_of (ways m n s) (enabled m s) k in
    (x.0, parts_at (below m n) (λ o. plan_at m n o.target) (outcomes m s x.0) x.1)

-- ---- what the code finds and writes

-- The choice a and a place below it, among `size` ways to go on, belong to plan number k of n + 1 steps.
pub record Found (m : Model) (n s k a size place : ℕ) : Type 0 where
  pub block : (a, place) ≡ block_of (ways m n s) (enabled m s) k
  pub sized : size ≡ ways m n s a
  pub inside : place < size
  pub few : size ≤ 65536

-- The choices x, at most `most`, are written at `at`, and nothing else.
pub record Wrote (x : List ℕ) (most : ℕ) (old new : List ℕ) (at next : ℕ) : Type 0 where
  pub wrote : new ≡ splice old at x
  pub to : next ≡ at + length x
  pub size : length x ≤ most
