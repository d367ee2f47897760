-- The room that a list of totals takes in the buffer while it is made. Below a choice the longest list is made first, in its place, and
-- each other one behind the product that it makes; its square is at most that product, so that room for roots is enough.
use Rattle.std.specs.Prelude.{ℕ, zero, suc, ◌+◌, ◌*◌, ◌≤◌}

-- What lists of up to root * root numbers over n steps take besides themselves.
pub data Spare : ℕ → ℕ → ℕ → Type 0 where
  nothing : {root : ℕ} → Spare zero root 0
  roots : {n root next spare : ℕ} → root ≤ next * next → Spare n next spare → Spare (suc n) root (root + spare)

-- A buffer of `size` has room for a list of `count` totals over n steps at a place; and there are at most 65,536 of them.
pub record Room (n count at size : ℕ) : Type 0 where
  pub root : ℕ
  pub spare : ℕ
  pub few : count ≤ 65536
  pub small : count ≤ root * root
  pub chain : Spare n root spare
  pub fits : at + count + spare ≤ size
