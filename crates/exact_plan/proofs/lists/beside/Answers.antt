-- `lists::beside`: where no outcome is left on the right, one is on the left.
use native.Mathlib.Omega.{arith}
use mathlib.Core.Logic.{inl, inr}
use borrow.Author.Rules.{rules}
use Rattle.exact_plan.proofs.lists.beside.Goals as goal

pub returns-then-hi-c : goal.returns-then-hi-c
returns-then-hi-c c = inl (search rules, search rules)

pub returns-else-hi-c : goal.returns-else-hi-c
returns-else-hi-c c = inr (omega arith, omega arith)
