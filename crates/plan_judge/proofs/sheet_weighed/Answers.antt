-- The choices that were gathered are the sheet's.
use Prim.Native.Nat.{◌≤◌}
use mathlib.Core.Path.{sym, subst}
use lib.ListN.{length}
use lib.Seq.{length-take-le}
use Rattle.sheets.specs.Layout.{sheet_of}
use Rattle.prepared_model.specs.promises.Rows.{model_in}
use Rattle.judging.specs.promises.Announced.{Spelled, Weighs}
use Rattle.plan_judge.proofs.CheckReturns.{gathered_are}
use borrow.Author.Rules.{rules}
use Rattle.plan_judge.proofs.sheet_weighed.Goals as goal

pub slice_bounds-sheet_total-end : goal.slice_bounds-sheet_total-end
slice_bounds-sheet_total-end c = let l : c.gather-count.result ≤ length c.gather-count.new.out = search rules in
    sym (length-take-le c.gather-count.result c.gather-count.new.out l)

pub sheet_total-requires : goal.sheet_total-requires
sheet_total-requires c = let S = c in
    let e = gathered_are (sheet_of S.args.b.now).choices _ c.gather-count.new.out c.gather-count.result c.gather-count.ensures in record { served = (S.requires.0, S.requires.1, S.requires.2); spelled = subst (Spelled (model_in S.args.m.now) S.args.q.now) (sym e) S.requires.4 }

pub returns : goal.returns
returns c = let S = c in
    subst (λ l. Weighs (model_in S.args.m.now) S.args.q.now l c.sheet_total.result)
    (gathered_are (sheet_of S.args.b.now).choices _ c.gather-count.new.out c.gather-count.result c.gather-count.ensures) c.sheet_total.ensures
