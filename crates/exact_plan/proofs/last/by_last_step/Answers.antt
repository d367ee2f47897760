-- `last::by_last_step`: the lanes have the values of the last step that decides.
use Prim.Native.Nat.{◌-◌}
use native.Mathlib.Omega.{arith}
use Rattle.exact_plan.proofs.LastStepLists.{before_last, lanes_written}
use Rattle.exact_plan.proofs.last.by_last_step.Goals as goal

pub mask-x-requires : goal.mask-x-requires
mask-x-requires c = let S = c in
    let P = S.requires.here in
    before_last S.requires.given P.3 P.0 P.2 P.1

pub by_lanes-requires : goal.by_lanes-requires
by_lanes-requires c = let S = c in
    let G = S.requires.given in
    let H = S.requires.here.0 in
    let R = S.requires.room in record { prepared = (G.ready.prepared, G.counts, H.inside); k_nonzero = (omega (arith, H.deep, S.requires.here.2), omega (arith, H.steps), R.few, omega (arith, R.fits)) }

pub returns : goal.returns
returns c = let S = c in
    let P = S.requires.here in
    let k = S.args.spot.k in
    let x = c.by_lanes.ensures in
    lanes_written S.requires.given P.3 P.0 P.2 c.mask-x.ensures (k - 1) (omega (arith, P.0.deep, P.2)) x.value x.frame
