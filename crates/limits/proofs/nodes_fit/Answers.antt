-- `nodes_fit` meets its contract. The loop's invariant: the first i nodes pass.
use native.Mathlib.Omega.{arith}
use borrow.Author.Rules.{rules}
use mathlib.Core.Bool.{true, false}
use mathlib.Core.Path.{◌≡◌, refl, sym, ap, ◌∙◌}
use Rattle.questions.proofs.SetsBound.{bound_compares}
use Rattle.logic.specs.Lists.{every}
use Rattle.logic.proofs.Tests.{every_more}
use Rattle.prepared_model.specs.promises.Rows.{model_in}
use Rattle.questions.specs.Layout.{node_of}
use Rattle.limits.specs.promises.Totals.{fits, node_fits}
use Rattle.limits.proofs.NodeByNode.{nodes_all}
use Rattle.limits.proofs.RowTested.{every_stopped}
use Rattle.limits.proofs.nodes_fit.Goals as goal

pub loop-i-init : goal.loop-i-init
unfolding every
loop-i-init g c = refl

pub node_fits-requires : goal.node_fits-requires
node_fits-requires g c =
    let S = c in
    let i = c.loop-i.i in
    let f = S.requires.1.formed in
    (S.requires.0, S.requires.2.up_to i (omega arith), omega (arith, f.few_nodes), bound_compares (f.in_range i (omega arith)))

pub returns-then-not-node_fits : goal.returns-then-not-node_fits
unfolding node_fits
returns-then-not-node_fits g c =
    let S = c in
    let m = model_in S.args.m.now in
    let fails : c.node_fits.result ≡ false = search rules in
    sym (every_stopped _ _ c.loop-i.i (omega arith) (sym c.node_fits.ensures ∙ fails)) ∙ sym (nodes_all (fits g.K.Kind.plans m) m S.args.q.now)

pub returns : goal.returns
unfolding node_fits
returns g c =
    let S = c in
    let m = model_in S.args.m.now in
    sym c.loop-i.invariant
    ∙ ap (λ k. every k (λ i. node_fits g.K.Kind.plans m (node_of S.args.q.now i))) (omega arith)
    ∙ sym (nodes_all (fits g.K.Kind.plans m) m S.args.q.now)

pub loop-i-preserved : goal.loop-i-preserved
loop-i-preserved g c =
    let L = c.loop-i in
    let passes : c.node_fits.result ≡ true = search rules in
    sym (every_more _ L.i (sym L.invariant) c.node_fits.ensures) ∙ passes
