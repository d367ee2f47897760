-- `lists::alike`: the worth times the denominator to the k fits.
use Prim.Native.Nat.{◌*◌, ◌^◌}
use mathlib.Core.Path.{ap, ap₂, ◌∙◌}
use Rattle.exact_plan.proofs.PreparedChoices.{worth_fits}
use Rattle.exact_plan.proofs.lists.alike.Goals as goal

pub worth-requires : goal.worth-requires
worth-requires c = c.requires.readable

pub overflow_mul-result : goal.overflow_mul-result
overflow_mul-result c = let S = c in
    let D = S.requires in
    record { fits = worth_fits c.worth.ensures D.small (c.power.ensures ∙ ap (λ z. z ^ S.args.spot.k) c.denominator.ensures) D.part_of D.steps }

pub returns : goal.returns
returns c = let S = c in
    ap₂ ◌*◌ c.worth.ensures (c.power.ensures ∙ ap (λ z. z ^ S.args.spot.k) c.denominator.ensures)
