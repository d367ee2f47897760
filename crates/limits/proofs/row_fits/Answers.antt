-- `row_fits` meets its contract: `all` asks each of the totals of the row.
use Prim.Native.Nat.{ℕ, ◌*◌, ◌+◌, ◌-◌}
use Rattle.std.proofs.Common.{arith, rules, ◌≡◌, take, drop, ◌∙◌, ap, get_or}
use Rattle.std.proofs.lemmas.Iterator.{YieldsList-from_slice}
use Rattle.std.proofs.lemmas.Iterator.Search.{all_from_yields_List}
use lib.Dec.{leb}
use mathlib.Core.Bool.{Bool}
use Rattle.logic.specs.Lists.{every}
use Rattle.limits.proofs.RowTested.{every_listed}
use Rattle.limits.proofs.row_fits.Goals as goal

pub returns : goal.returns
returns g c =
    let S = c in
    let passes : ℕ → Bool = λ x. leb x c.limit-most.result in
    let row : 32 * S.args.n + S.args.states - 32 * S.args.n ≡ S.args.states = omega arith in
    all_from_yields_List passes _ _ _ c.all.ensures.ran (YieldsList-from_slice (take S.args.states (drop (32 * S.args.n) S.args.table.now)) (c.iter.ensures.rest ∙ ap (λ k. take k (drop (32 * S.args.n) S.args.table.now)) row)) (λ x b q k. search rules)
    ∙ every_listed passes S.args.table.now (32 * S.args.n) S.args.states (omega arith)
    ∙ ap (λ most. every S.args.states (λ s. leb (get_or S.args.table.now (32 * S.args.n + s) 0) most)) c.limit-most.ensures
