-- The value of a condition on the paths from a state: 1 where it is true, else 0. W is its total (proved: `W-total`).
use Rattle.std.specs.Prelude.{ℕ, List}
use Rattle.logic.specs.Model.{Model, Step}
use Rattle.logic.specs.Bound.{one_if}
use Rattle.logic.specs.Formula.{Formula, sat}

abbrev pub value_of : Model → Formula → ℕ → List Step → ℕ
value_of m φ s r = one_if (sat m φ s r)
