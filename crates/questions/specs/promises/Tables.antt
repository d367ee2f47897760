-- Tables over the nodes of a question, kept by the code: f of each node's formula by the node's number, and of `never` beyond them.
use Rattle.std.specs.Prelude.{ℕ, List, [], get_or}
use Rattle.logic.specs.Lists.{tabulate}
use Rattle.logic.specs.Formula.{Formula, never, formulas}
use Rattle.blocks.specs.Bytes.{Bytes}
use Rattle.questions.specs.Layout.{node_of}

-- The formulas of the first k nodes.
unfoldable pub formulas_before : Bytes → ℕ → List Formula
formulas_before b k = formulas [] (tabulate k (node_of b))

unfoldable pub table : {A : Type 0} → (Formula → A) → List Formula → List A
table f fs = tabulate 40 (λ i. f (get_or fs i never))
