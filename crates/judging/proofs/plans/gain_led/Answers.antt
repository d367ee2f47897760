-- `gain_led`: the table's total of all steps is the node's best, and its places spell the first plan that has it (`TableHanded`).
use Prim.Native.Nat.{ℕ, ◌+◌, ◌*◌, ◌≤◌}
use native.Mathlib.Omega.{arith}
use mathlib.Core.Path.{sym, ap, subst}
use lib.ListN.{get_or}
use Rattle.bounds.specs.promises.Bounded.{most_of}
use Rattle.bounds.proofs.ProductsFit.{few, compares}
use Rattle.best_gain.specs.promises.Tabled.{Tabled}
use Rattle.judging.proofs.TableHanded.{window_of, table_small, table_led}
use Rattle.judging.proofs.plans.gain_led.Goals as goal

pub window-w-requires : goal.window-w-requires
window-w-requires c = (c.requires.bounded.0, c.requires.bounded.1)

pub asks_less-requires : goal.asks_less-requires
asks_less-requires c = let S = c in few S.args.m.now S.args.q.now S.args.j S.requires.bounded.0

pub best_gains-best-requires : goal.best_gains-best-requires
best_gains-best-requires c = let S = c in (S.requires.bounded.0.prepared, c.window-w.ensures.1, S.requires.fact.1)

pub steps-requires : goal.steps-requires
steps-requires c = let S = c in few S.args.m.now S.args.q.now S.args.j S.requires.bounded.0

pub bounds-best-steps : goal.bounds-best-steps
bounds-best-steps c = let S = c in
    let l = (compares S.args.m.now S.args.q.now S.args.j S.requires.bounded.0).few_steps in
    omega (arith, c.steps.ensures, l, S.requires.bounded.2, S.requires.bounded.0.prepared.states)

pub meets-requires : goal.meets-requires
meets-requires c =
    let tabled : (let S = c in
    Tabled c.asks_less.result S.args.m.now (window_of S.args.q.now S.args.j) c.best_gains-best.result c.best_gains-best.new.places) = let S = c in
    subst (λ w. Tabled c.asks_less.result S.args.m.now w c.best_gains-best.result c.best_gains-best.new.places) c.window-w.ensures.0 c.best_gains-best.ensures in
    let S = c in record {
      bounded = S.requires.bounded.0;
      x_bound = subst (λ (n : ℕ). get_or c.best_gains-best.result (32 * n + S.args.s) 0 ≤ most_of S.args.m.now S.args.q.now S.args.j) (sym c.steps.ensures)
          (table_small S.requires.bounded.0 S.requires.bounded.1 c.asks_less.result tabled S.args.s S.requires.bounded.2);
    }

pub returns : goal.returns
returns c =
    let tabled : (let S = c in
    Tabled c.asks_less.result S.args.m.now (window_of S.args.q.now S.args.j) c.best_gains-best.result c.best_gains-best.new.places) = let S = c in
    subst (λ w. Tabled c.asks_less.result S.args.m.now w c.best_gains-best.result c.best_gains-best.new.places) c.window-w.ensures.0 c.best_gains-best.ensures in
    let S = c in
    table_led S.requires.bounded.0 S.requires.bounded.1 c.asks_less.result tabled S.args.s S.requires.bounded.2 c.asks_less.ensures
    (ap (λ (n : ℕ). get_or c.best_gains-best.result (32 * n + S.args.s) 0) c.steps.ensures) c.meets.ensures
