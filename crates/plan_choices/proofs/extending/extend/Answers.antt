-- `extend` meets its contract: it is `extend_from` at the beginning of both buffers.
use native.Mathlib.Omega.{arith}
use Rattle.logic.proofs.MostChoices.{most_choices_6}
use Rattle.plan_choices.proofs.extending.extend.Goals as goal

pub extend_from-r-requires : goal.extend_from-r-requires
extend_from-r-requires c = let S = c in
    let most = most_choices_6 S.args.n S.requires.placed.0.few in record { prepared = S.requires.prepared; placed = (S.requires.placed.0, omega arith, omega arith) }
