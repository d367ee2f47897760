-- The invariant: the node's row is right in the states passed; the table of best gains decides each.
use Prim.Native.Nat.{ℕ, ◌+◌, ◌*◌, ◌≤◌, ◌<◌}
use native.Mathlib.Omega.{arith}
use mathlib.Core.Path.{◌≡◌, refl, sym, ap, subst, ◌∙◌}
use lib.ListN.{get_or, length}
use Rattle.logic.specs.Bound.{one_if}
use Rattle.models.specs.Layout.{state_count}
use Rattle.questions.specs.Layout.{node_of}
use Rattle.questions.specs.promises.Formed.{sets_bound}
use Rattle.bounds.specs.promises.Bounded.{Bounded, most_of}
use Rattle.bounds.proofs.ProductsFit.{few, compares}
use Rattle.best_gain.specs.promises.Tabled.{Tabled}
use Rattle.judging.specs.promises.Rows.{RowTold}
use Rattle.judging.proofs.TruthByOperator.{row_none, row_more}
use Rattle.judging.proofs.TableHanded.{window_of, table_small, table_truth}
use Rattle.judging.proofs.truth.by_table.Goals as goal

pub window-requires : goal.window-requires
unfolding sets_bound
window-requires c =
    let bounded : Bounded c.args.m.now c.args.q.now c.args.j = let P = c.requires in record { prepared = P.0.prepared; nodes = P.0.nodes; node = P.1; sets = ap sets_bound P.2.0 } in
    (bounded, c.requires.2.0)

pub asks_less-requires : goal.asks_less-requires
unfolding sets_bound
asks_less-requires c =
    let bounded : Bounded c.args.m.now c.args.q.now c.args.j = let P = c.requires in record { prepared = P.0.prepared; nodes = P.0.nodes; node = P.1; sets = ap sets_bound P.2.0 } in
    let S = c in few S.args.m.now S.args.q.now S.args.j bounded

pub best_gains-best-requires : goal.best_gains-best-requires
best_gains-best-requires c = (c.requires.0.prepared, c.window.ensures.1, refl)

pub steps-requires : goal.steps-requires
unfolding sets_bound
steps-requires c =
    let bounded : Bounded c.args.m.now c.args.q.now c.args.j = let P = c.requires in record { prepared = P.0.prepared; nodes = P.0.nodes; node = P.1; sets = ap sets_bound P.2.0 } in
    let S = c in few S.args.m.now S.args.q.now S.args.j bounded

pub states-count-requires : goal.states-count-requires
states-count-requires c = tt

pub loop-s-init : goal.loop-s-init
loop-s-init c = let S = c in row_none S.args.m.now S.args.q.now S.args.j S.args.truth.now

pub bounds-best-at : goal.bounds-best-at
unfolding sets_bound
bounds-best-at c =
    let bounded : Bounded c.args.m.now c.args.q.now c.args.j = let P = c.requires in record { prepared = P.0.prepared; nodes = P.0.nodes; node = P.1; sets = ap sets_bound P.2.0 } in
    let few_steps : (node_of c.args.q.now c.args.j).n ≤ 6 = (compares c.args.m.now c.args.q.now c.args.j bounded).few_steps in
    let S = c in
    omega (arith, few_steps, c.steps.ensures, c.states-count.ensures, S.requires.0.prepared.states)

pub meets-requires : goal.meets-requires
unfolding sets_bound
meets-requires c =
    let bounded : Bounded c.args.m.now c.args.q.now c.args.j = let P = c.requires in record { prepared = P.0.prepared; nodes = P.0.nodes; node = P.1; sets = ap sets_bound P.2.0 } in
    let tabled : (let S = c in
    Tabled c.asks_less.result S.args.m.now (window_of S.args.q.now S.args.j) c.best_gains-best.result c.best_gains-best.new.places) = let S = c in
    subst (λ w. Tabled c.asks_less.result S.args.m.now w c.best_gains-best.result c.best_gains-best.new.places) c.window.ensures.0 c.best_gains-best.ensures in
    let inside : c.loop-s.s < state_count c.args.m.now = omega (arith, c.states-count.ensures) in
    let S = c in record {
      bounded = bounded;
      x_bound = subst (λ (n : ℕ). get_or c.best_gains-best.result (32 * n + c.loop-s.s) 0 ≤ most_of S.args.m.now S.args.q.now S.args.j) (sym c.steps.ensures)
          (table_small bounded S.requires.2.0 c.asks_less.result tabled c.loop-s.s inside);
    }

pub bit-requires : goal.bit-requires
bit-requires c = tt

pub bounds-truth-j : goal.bounds-truth-j
bounds-truth-j c =
    let inside : c.loop-s.s < state_count c.args.m.now = omega (arith, c.states-count.ensures) in
    let place_in : 32 * c.args.j + c.loop-s.s < length c.loop-s.truth = let S = c in
    let l = inside in
    omega (arith, S.requires.1, S.requires.3, S.requires.0.nodes.formed.few_nodes, S.requires.0.prepared.states, c.loop-s.invariant.size) in
    let S = c in omega (arith, place_in, S.requires.3, c.loop-s.invariant.size)

pub loop-s-preserved : goal.loop-s-preserved
unfolding sets_bound
loop-s-preserved c =
    let bounded : Bounded c.args.m.now c.args.q.now c.args.j = let P = c.requires in record { prepared = P.0.prepared; nodes = P.0.nodes; node = P.1; sets = ap sets_bound P.2.0 } in
    let tabled : (let S = c in
    Tabled c.asks_less.result S.args.m.now (window_of S.args.q.now S.args.j) c.best_gains-best.result c.best_gains-best.new.places) = let S = c in
    subst (λ w. Tabled c.asks_less.result S.args.m.now w c.best_gains-best.result c.best_gains-best.new.places) c.window.ensures.0 c.best_gains-best.ensures in
    let inside : c.loop-s.s < state_count c.args.m.now = omega (arith, c.states-count.ensures) in
    let place_in : 32 * c.args.j + c.loop-s.s < length c.loop-s.truth = let S = c in
    let l = inside in
    omega (arith, S.requires.1, S.requires.3, S.requires.0.nodes.formed.few_nodes, S.requires.0.prepared.states, c.loop-s.invariant.size) in
    let S = c in
    let L = c.loop-s in
    row_more c.bit.result L.invariant place_in
    (c.bit.ensures
    ∙ ap one_if (table_truth bounded S.requires.2.0 c.asks_less.result tabled S.requires.2.1 L.s inside c.asks_less.ensures
    (ap (λ (n : ℕ). get_or c.best_gains-best.result (32 * n + L.s) 0) c.steps.ensures) c.meets.ensures))

pub returns : goal.returns
returns c = let S = c in
    let L = c.loop-s in
    let e : L.s ≡ state_count S.args.m.now = omega (arith, c.states-count.ensures) in
    subst (λ (n : ℕ). RowTold S.args.m.now S.args.q.now S.args.j S.args.truth.now L.truth n) e L.invariant
