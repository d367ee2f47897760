-- A list written over another from a place on.
use Rattle.std.specs.Prelude.{ℕ, ◌+◌, List, ◌++◌, length, take, drop}

unfoldable pub splice : List ℕ → ℕ → List ℕ → List ℕ
splice l p x = take p l ++ (x ++ drop (p + length x) l)
