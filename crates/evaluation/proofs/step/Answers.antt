-- What the contract asks, by name.
use mathlib.Core.Path.{◌≡◌, ap, ap₂, ◌∙◌}
use Prim.Native.Nat.{◌+◌, ◌*◌, ◌^◌, ◌<◌}
use native.Mathlib.Omega.{arith}
use lib.IntN.{ℤ, pos, ◌+ℤ◌}
use lib.ListN.{length, get_or, set, take}
use lib.Seq.{length-take-le}
use lib.Signed.{mag}
use Rattle.prepared_model.specs.promises.Rows.{step_in}
use Rattle.evaluation.specs.promises.Reached.{Ready}
use mir.Syntax.{w16, w32}
use Rattle.evaluation.proofs.Integers.{fits32, sum16, wide_is, mag_add}
use Rattle.evaluation.proofs.Trails.{gain_small}
use Rattle.evaluation.proofs.LearnKnows.{cone_node}
use Rattle.evaluation.proofs.StepTaken.{state_small, sizes_small, stepped}
use Rattle.evaluation.proofs.step.Goals as goal

pub choice-requires : goal.choice-requires
choice-requires c =
    let P : Ready c.args.m.now c.args.q.now c.args.at.start c.args.truth.now c.args.cone.now = c.requires.ready in
    let S = c in (P.prepared, state_small P S.requires.offered S.requires.knows, S.requires.offered.offers.0)

pub reward-requires : goal.reward-requires
reward-requires c =
    let P : Ready c.args.m.now c.args.q.now c.args.at.start c.args.truth.now c.args.cone.now = c.requires.ready in
    let sizes : (c.args.at.s < 32) × (c.args.i < 8) × (c.args.o < 4) = sizes_small P c.requires.offered c.requires.knows in
    sizes

pub overflow_add-gains : goal.overflow_add-gains
overflow_add-gains c =
    let P : Ready c.args.m.now c.args.q.now c.args.at.start c.args.truth.now c.args.cone.now = c.requires.ready in
    let reward-of : ℤ = (step_in c.args.m.now c.args.at.s c.args.i c.args.o).reward in
    let whole : length c.args.trail.now ≡ 6 → length (take c.args.at.h c.args.trail.now) ≡ c.args.at.h = λ e. length-take-le c.args.at.h c.args.trail.now (omega (arith, c.requires.offered.steps)) in
    let sum_fits : length c.args.trail.now ≡ 6 → mag (get_or c.args.gains.now c.args.at.h (pos 0) +ℤ reward-of) < 2 ^ 31 = λ e. let K = c.requires.knows in
    let O = c.requires.offered in
    let h = c.args.at.h in
    let so_far = get_or c.args.gains.now h (pos 0) in
    let n = whole e in
    let g = gain_small P.prepared K.followed P.state h in
    let r = P.prepared.modest c.args.at.s c.args.i c.args.o (state_small P O K) O.offers in
    omega (arith, mag_add so_far reward-of, ap mag (K.gained.right h (omega arith)), O.steps) in
    let S = c in
    let g = c.gain_at in
    rw (fits32 g.result g.type_inv, wide_is w16 w32 c.reward.result (record { sfits = c.reward.type_inv }) (record { sfits = omega (arith, c.reward.type_inv) })) (record { sfits = rw (g.ensures, c.reward.ensures) (sum_fits c.told-trail) })

pub target-t-requires : goal.target-t-requires
target-t-requires c =
    let P : Ready c.args.m.now c.args.q.now c.args.at.start c.args.truth.now c.args.cone.now = c.requires.ready in
    let sizes : (c.args.at.s < 32) × (c.args.i < 8) × (c.args.o < 4) = sizes_small P c.requires.offered c.requires.knows in
    sizes

pub overflow_cast-t : goal.overflow_cast-t
overflow_cast-t c =
    let P : Ready c.args.m.now c.args.q.now c.args.at.start c.args.truth.now c.args.cone.now = c.requires.ready in
    let reached : (step_in c.args.m.now c.args.at.s c.args.i c.args.o).target < 32 = let w = P.prepared in
    let O = c.requires.offered in
    omega (arith, w.inside c.args.at.s c.args.i c.args.o (state_small P O c.requires.knows) O.offers, w.states) in
    record { fits = omega (arith, c.target-t.ensures, reached) }

pub learn-requires : goal.learn-requires
learn-requires c =
    let P : Ready c.args.m.now c.args.q.now c.args.at.start c.args.truth.now c.args.cone.now = c.requires.ready in
    let reached : (step_in c.args.m.now c.args.at.s c.args.i c.args.o).target < 32 = let w = P.prepared in
    let O = c.requires.offered in
    omega (arith, w.inside c.args.at.s c.args.i c.args.o (state_small P O c.requires.knows) O.offers, w.states) in
    let S = c in (cone_node P, omega (arith, c.target-t.ensures, reached), omega (arith, S.requires.offered.steps))

pub returns : goal.returns
returns c =
    let P : Ready c.args.m.now c.args.q.now c.args.at.start c.args.truth.now c.args.cone.now = c.requires.ready in
    let whole : length c.args.trail.now ≡ 6 → length (take c.args.at.h c.args.trail.now) ≡ c.args.at.h = λ e. length-take-le c.args.at.h c.args.trail.now (omega (arith, c.requires.offered.steps)) in
    let reward-of : ℤ = (step_in c.args.m.now c.args.at.s c.args.i c.args.o).reward in
    let sum_fits : length c.args.trail.now ≡ 6 → mag (get_or c.args.gains.now c.args.at.h (pos 0) +ℤ reward-of) < 2 ^ 31 = λ e. let K = c.requires.knows in
    let O = c.requires.offered in
    let h = c.args.at.h in
    let so_far = get_or c.args.gains.now h (pos 0) in
    let n = whole e in
    let g = gain_small P.prepared K.followed P.state h in
    let r = P.prepared.modest c.args.at.s c.args.i c.args.o (state_small P O K) O.offers in
    omega (arith, mag_add so_far reward-of, ap mag (K.gained.right h (omega arith)), O.steps) in
    let S = c in
    let n = c.told-trail in
    let g = c.gain_at in
    let r = c.reward in
    stepped P S.requires.offered S.requires.knows (whole n) n _ _ _ _
    c.target-t.ensures
    (ap (λ a. set S.args.trail.now S.args.at.h (32 * a + 4 * S.args.i + S.args.o)) c.choice.ensures)
    (ap (set S.args.gains.now (S.args.at.h + 1)) (sum16 g.result r.result g.type_inv r.type_inv (rw (g.ensures, r.ensures) (sum_fits n)) ∙ ap₂ ◌+ℤ◌ g.ensures r.ensures))
    c.learn.ensures
