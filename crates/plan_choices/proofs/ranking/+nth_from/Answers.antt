-- `nth_from` meets its contract: the steps left fall with each call of itself. The loop's invariant: with what is still to be written, the buffer is as
-- it is to be (`Underway`).
use Prim.Native.Nat.{◌+◌, ◌-◌, ◌<◌}
use native.Mathlib.Omega.{arith}
use mathlib.Core.Path.{◌≡◌, sym, ◌∙◌}
use lib.ListN.{length-set}
use Rattle.prepared_model.specs.promises.Rows.{outcomes_in, model_in}
use Rattle.prepared_model.proofs.PlacesInRange.{place_range, read_range}
use Rattle.logic.proofs.MostChoices.{most_choices_step}
use Rattle.plan_choices.proofs.Ways.{outcomes_left, ways_all}
use Rattle.plan_choices.proofs.WrittenBelow.{below_start, below_turn, below_more, below_end, divides, quotient, fits, from_none, from_choice}
use Rattle.plan_choices.proofs.ranking.+nth_from.Goals as goal

pub returns-then-n-eq0 : goal.returns-then-n-eq0
returns-then-n-eq0 t c =
    let S = c in
    from_none (model_in S.args.m.now) S.args.n S.args.s S.args.i S.args.at S.args.choices.now c.if-n-eq0.true

pub block_of-b-requires : goal.block_of-b-requires
block_of-b-requires t c =
    let S = c in
    let e : S.args.n - 1 + 1 ≡ S.args.n = omega arith in record { prepared = S.requires.prepared; s_bound = (S.requires.s_bound.0, omega arith, rw e S.requires.s_bound.2, rw e S.requires.s_bound.3) }

pub choice-requires : goal.choice-requires
choice-requires t c =
    let S = c in
    (S.requires.prepared.0, S.requires.s_bound.0, c.block_of-b.ensures.0)

pub bounds-choices-at : goal.bounds-choices-at
bounds-choices-at t c = omega (arith, most_choices_step c.args.n c.if-n-eq0.false)

pub outcomes-c-requires : goal.outcomes-c-requires
outcomes-c-requires t c =
    let S = c in
    place_range S.requires.prepared.0 S.args.s S.requires.s_bound.0 c.block_of-b.result.at c.block_of-b.ensures.0

pub overflow_add-next : goal.overflow_add-next
overflow_add-next t c = omega (arith, most_choices_step c.args.n c.if-n-eq0.false)

pub loop-o-init : goal.loop-o-init
loop-o-init t c =
    let S = c in
    let b = c.block_of-b in
    let f = b.ensures.1 in
    let e = f.sized ∙ sym (ways_all S.requires.prepared.0 S.args.s S.requires.s_bound.0 b.result.at b.ensures.0 (S.args.n - 1)) in
    below_start S.args.m.now (S.args.n - 1) S.args.s b.result.at b.result.place _ (S.args.at + 1) b.result.size e f.inside f.few

pub target-t-requires : goal.target-t-requires
target-t-requires t c =
    let S = c in
    read_range S.requires.prepared.0 S.args.s S.requires.s_bound.0 c.block_of-b.result.at c.loop-o.o (c.block_of-b.ensures.0, omega arith)

pub plans_counted-size-requires : goal.plans_counted-size-requires
plans_counted-size-requires t c =
    let S = c in
    let b = c.block_of-b in
    let L = c.loop-o in
    let l : L.o < outcomes_in S.args.m.now S.args.s b.result.at = omega arith in
    let u = below_turn L.invariant l S.requires.prepared S.requires.s_bound.0 b.ensures.0 (omega arith) c.target-t.ensures in
    (omega arith, omega (arith, S.requires.prepared.0.states, u.state))

pub nonzero_div-size : goal.nonzero_div-size
nonzero_div-size t c =
    let S = c in
    let b = c.block_of-b in
    let L = c.loop-o in
    let l : L.o < outcomes_in S.args.m.now S.args.s b.result.at = omega arith in
    let u = below_turn L.invariant l S.requires.prepared S.requires.s_bound.0 b.ensures.0 (omega arith) c.target-t.ensures in
    rw (c.plans_counted-size.ensures ∙ u.counted) u.some

pub nonzero_div-rest : goal.nonzero_div-rest
nonzero_div-rest t c =
    let S = c in
    let b = c.block_of-b in
    let L = c.loop-o in
    let l : L.o < outcomes_in S.args.m.now S.args.s b.result.at = omega arith in
    let u = below_turn L.invariant l S.requires.prepared S.requires.s_bound.0 b.ensures.0 (omega arith) c.target-t.ensures in
    let v = divides L.invariant l u c.plans_counted-size.ensures in
    rw v u.later

pub nth_from-next-requires : goal.nth_from-next-requires
nth_from-next-requires t c =
    let S = c in
    let b = c.block_of-b in
    let L = c.loop-o in
    let l : L.o < outcomes_in S.args.m.now S.args.s b.result.at = omega arith in
    let u = below_turn L.invariant l S.requires.prepared S.requires.s_bound.0 b.ensures.0 (omega arith) c.target-t.ensures in
    let v = divides L.invariant l u c.plans_counted-size.ensures in
    let r = most_choices_step S.args.n c.if-n-eq0.false in
    let f = fits L.invariant l (S.requires.prepared.0.few_outcomes S.args.s b.result.at S.requires.s_bound.0 b.ensures.0) (omega (arith, length-set S.args.choices.now S.args.at c.choice.result)) in
    (omega arith, (S.requires.prepared, (u.state, omega arith, u.few, quotient L.invariant l u v, f)))

pub nonzero_rem-rest : goal.nonzero_rem-rest
nonzero_rem-rest t c =
    let S = c in
    let b = c.block_of-b in
    let L = c.loop-o in
    let l : L.o < outcomes_in S.args.m.now S.args.s b.result.at = omega arith in
    let u = below_turn L.invariant l S.requires.prepared S.requires.s_bound.0 b.ensures.0 (omega arith) c.target-t.ensures in
    let v = divides L.invariant l u c.plans_counted-size.ensures in
    rw v u.later

pub loop-o-preserved : goal.loop-o-preserved
loop-o-preserved t c =
    let S = c in
    let b = c.block_of-b in
    let L = c.loop-o in
    let l : L.o < outcomes_in S.args.m.now S.args.s b.result.at = omega arith in
    let u = below_turn L.invariant l S.requires.prepared S.requires.s_bound.0 b.ensures.0 (omega arith) c.target-t.ensures in
    let v = divides L.invariant l u c.plans_counted-size.ensures in
    let r = most_choices_step S.args.n c.if-n-eq0.false in
    let f = fits L.invariant l (S.requires.prepared.0.few_outcomes S.args.s b.result.at S.requires.s_bound.0 b.ensures.0) (omega (arith, length-set S.args.choices.now S.args.at c.choice.result)) in
    let w = c.nth_from-next in
    below_more L.invariant l u v f w.ensures w.auto.choices

pub shape_of-choices : goal.shape_of-choices
shape_of-choices t c =
    let S = c in
    c.loop-o.invariant.kept ∙ length-set S.args.choices.now S.args.at c.choice.result

pub returns : goal.returns
returns t c =
    let S = c in
    let b = c.block_of-b in
    let L = c.loop-o in
    let z = c.if-n-eq0.false in
    from_choice (model_in S.args.m.now) z b.ensures.1 c.choice.ensures (outcomes_left S.requires.prepared.0 S.args.s S.requires.s_bound.0 b.result.at b.ensures.0)
    (omega (arith, most_choices_step S.args.n z)) (below_end S.args.m.now (S.args.n - 1) S.args.s b.result.at b.result.place _ (S.args.at + 1) (S.requires.prepared.0.few_outcomes S.args.s b.result.at S.requires.s_bound.0 b.ensures.0) (omega arith) L.invariant)
