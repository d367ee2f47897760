-- How many choices a plan has at most: a choice has at most four outcomes.
use Rattle.std.specs.Prelude.{ℕ, zero, suc, ◌+◌, ◌*◌}

-- The most choices that a plan of n steps has: 1365 for 6.
unfoldable pub most_choices : ℕ → ℕ
most_choices zero = 0
most_choices (suc n) = 1 + 4 * most_choices n
