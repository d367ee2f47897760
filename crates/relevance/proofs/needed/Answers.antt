-- The invariant: the pairs from place k on have passed their marks on.
use Prim.Native.Nat.{ℕ, ◌+◌, ◌*◌, ◌-◌}
use native.Mathlib.Omega.{arith}
use mathlib.Core.Path.{◌≡◌, sym, subst}
use lib.ListN.{set}
use Rattle.questions.specs.Layout.{start_of, node_count}
use Rattle.prepared_question.proofs.Marks.{blank}
use Rattle.relevance.proofs.MarksPassedOn.{Passing, passing_start}
use Rattle.relevance.proofs.needed.Goals as goal

pub loop-k-init : goal.loop-k-init
loop-k-init c =
    let G = c.requires in
    let m = c.args.m.now in
    let q = c.args.q.now in
    let n = G.nodes.formed.some_node in
    let p : c.place-first.result ≡ 32 * (node_count q - 1) + start_of q = omega (arith, c.place-first.ensures, c.start.ensures, c.count-root.ensures) in
    let r : c.place-k.result + 32 ≡ 32 * node_count q = omega (arith, c.place-k.ensures, c.count-root.ensures) in
    subst (λ (x : ℕ). Passing m q (set (blank 1280) x 1) (c.place-k.result + 32)) (sym p)
    (subst (λ (y : ℕ). Passing m q (set (blank 1280) (32 * (node_count q - 1) + start_of q) 1) y) (sym r) (passing_start G))
