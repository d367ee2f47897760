-- `node_fits` meets its contract: a node with no limit passes, and one with a limit passes where its row of the table is within it.
use Prim.Native.Nat.{◌+◌, ◌*◌}
use native.Mathlib.Omega.{arith}
use mathlib.Core.Path.{◌≡◌, sym, ap₂, ◌∙◌}
use lib.Dec.{leb}
use lib.ListN.{get_or}
use borrow.Author.Rules.{rules}
use mathlib.Core.Bool.{true, false}
use Rattle.logic.specs.Lists.{every}
use Rattle.prepared_model.proofs.ReadByPlace.{states_are}
use Rattle.limits.specs.promises.Totals.{limit}
use Rattle.limits.proofs.NodeByNode.{unbounded_fits, bounded_fits, bounded_operator}
use Rattle.limits.proofs.node_fits.Goals as goal

pub returns-then-not-bounded : goal.returns-then-not-bounded
returns-then-not-bounded g c =
    let free : c.bounded.result ≡ false = search rules in
    unbounded_fits _ _ c.requires.3 _ (sym c.bounded.ensures ∙ free)

pub row_fits-requires : goal.row_fits-requires
row_fits-requires g c =
    let S = c in
    let limited : c.bounded.result ≡ true = search rules in
    (omega (arith, (S.requires.3 (bounded_operator g.K.Kind.plans _ (sym c.bounded.ensures ∙ limited))).few_steps, c.steps.ensures), omega (arith, S.requires.0.states, c.states.ensures))

pub returns : goal.returns
returns g c =
    let S = c in
    let limited : c.bounded.result ≡ true = search rules in
    let b = sym c.bounded.ensures ∙ limited in
    c.row_fits.ensures ∙ ap₂ (λ k n. every k (λ s. leb (get_or S.args.table.now (32 * n + s) 0) (limit g.K.Kind.plans))) (c.states.ensures ∙ sym (states_are S.args.m.now)) (c.from.ensures ∙ c.steps.ensures) ∙ bounded_fits _ _ S.requires.3 g.K.Kind.plans S.args.table.now b (S.requires.1 b)
