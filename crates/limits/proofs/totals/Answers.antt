-- `totals` meets its contract. The loop's invariant: the table holds the totals of all places before k (`Filled`); a place of no state stays.
use Prim.Native.Nat.{◌+◌}
use native.Mathlib.Omega.{arith}
use mathlib.Core.Path.{sym, subst}
use Rattle.limits.proofs.CappedTotals.{Filled, filled_start, filled_past, filled_more, filled_rows}
use Rattle.limits.proofs.totals.Goals as goal
use Rattle.limits.proofs.totals.Goals.{then-k-states, else-k-states}

pub loop-k-init : goal.loop-k-init
loop-k-init g c =
    let S = c in
    filled_start g.K.Kind.plans S.args.m.now S.requires.0

pub loop-k-preserved : goal.loop-k-preserved
loop-k-preserved g c =
    let S = c in
    let L = c.loop-k in
    elim c.if-k-states.branch [
      | then-k-states w ↦ subst (λ t. Filled g.K.Kind.plans S.args.m.now t (L.k + 1)) (sym w.table-is)
          (filled_more g.K.Kind.plans S.args.m.now S.requires.0 L.table L.k L.invariant w.state_total.result (omega arith) (omega arith) (omega arith) w.state_total.ensures)
      | else-k-states w ↦ subst (λ t. Filled g.K.Kind.plans S.args.m.now t (L.k + 1)) (sym w.table-is)
          (filled_past g.K.Kind.plans S.args.m.now S.requires.0 L.table L.k L.invariant (omega arith))
    ]

pub returns : goal.returns
returns g c =
    let S = c in
    let L = c.loop-k in
    filled_rows g.K.Kind.plans S.args.m.now S.requires.0 S.args.rows L.table L.k L.invariant (omega arith)
