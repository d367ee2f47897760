-- The invariant: the marked nodes from j on have been entered.
use Prim.Native.Nat.{ℕ, ◌+◌}
use native.Mathlib.Omega.{arith}
use mathlib.Core.Path.{◌≡◌, sym, subst}
use lib.ListN.{set}
use Rattle.prepared_question.proofs.Marks.{blank}
use Rattle.relevance.proofs.ConeListed.{Choosing, choosing_start}
use Rattle.relevance.proofs.chosen.Goals as goal

pub loop-j-init : goal.loop-j-init
loop-j-init c =
    let top : c.from-top.result ≡ c.args.c = c.from-top.ensures in
    subst (λ (k : ℕ). Choosing c.args.q.now c.args.c (set (blank 40) k 1) (c.args.c + 1)) (sym top) (choosing_start c.args.q.now c.args.c (omega (arith, c.requires.0.3.formed.few_nodes)))
