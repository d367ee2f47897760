-- What combining lists in place is handed: where they stand in the buffer, and that the sums fit.
use Rattle.std.specs.Prelude.{ℕ, ◌+◌, ◌*◌, ◌^◌, ◌≤◌, ◌<◌, ◌≡◌, ◌⊎◌, length}
use mathlib.Core.List.{List, Memᴰ}
use Rattle.exact_plan.specs.promises.Totals.{part}

-- Writing x + w * y at `to` for the `count` numbers y from `from` on: the target lies at or before them, or behind them.
pub record Shifts (buf : List ℕ) (from to count w x : ℕ) : Type 0 where
  pub clear : (to ≤ from) ⊎ (from + count ≤ to)
  pub source : from + count ≤ length buf
  pub target : to + count ≤ length buf
  pub fits : (y : ℕ) → Memᴰ y (part buf from count) → x + w * y < 2 ^ 64

-- Writing all sums of v * x and w * y at `at`, for the n numbers x at `slow` and the c numbers y at `fast`: one of the lists stands at
-- `at` itself, the other behind the sums.
pub record Spreads (buf : List ℕ) (at slow n v fast c w : ℕ) : Type 0 where
  pub beside : ((slow ≡ at) × (fast ≡ at + n * c)) ⊎ ((fast ≡ at) × (slow ≡ at + n * c))
  pub some : 0 < c
  pub slowly : slow + n ≤ length buf
  pub quickly : fast + c ≤ length buf
  pub fits : (x y : ℕ) → Memᴰ x (part buf slow n) → Memᴰ y (part buf fast c) → v * x + w * y < 2 ^ 64

-- Combining the `len` numbers at `at` with w times the n numbers behind the product.
pub record Joins (buf : List ℕ) (at len n w : ℕ) : Type 0 where
  pub some : 0 < len
  pub others : 0 < n
  pub room : at + len * n + n ≤ length buf
  pub fits : (x y : ℕ) → Memᴰ x (part buf at len) → Memᴰ y (part buf (at + len * n) n) → x + w * y < 2 ^ 64
