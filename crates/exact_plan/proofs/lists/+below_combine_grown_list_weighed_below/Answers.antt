-- `list`, `combine`, `grown`, `weighed_below` and `below` meet their contracts, together: the steps left fall round the cycle. The lists of a state's choices are
-- written one after the other (`Listed`), those of a choice's outcomes are combined from the longest one on (`Spanned`).
use Prim.Native.Nat.{ℕ, suc, ◌+◌, ◌*◌, ◌-◌, ◌<◌}
use native.Mathlib.Omega.{arith}
use mathlib.Core.List.{List}
use mathlib.Core.Path.{◌≡◌, refl, sym, ap, subst, ◌∙◌}
use lib.ListN.{length, take}
use Rattle.logic.specs.Model.{Step, outcomes}
use Rattle.logic.specs.Limits.{plan_total}
use Rattle.prepared_model.specs.promises.Rows.{choices_in, choice_in, model_in}
use Rattle.prepared_model.proofs.ReadByPlace.{some_outcome}
use Rattle.prepared_model.proofs.PlacesInRange.{place_range}
use Rattle.evaluation.specs.promises.Worth.{worth_on}
use Rattle.exact_plan.specs.promises.Room.{Room}
use Rattle.exact_plan.specs.promises.Totals.{combined, weighed}
use Rattle.exact_plan.proofs.OutcomesJoined.{span_from, Place, placed, count_right, weighed_shifts, weighed_written, span_outcome, ways, first_room, first_before, first_spanned, span_end, span_grows, span_wider, grown_joins, grown_written}
use Rattle.exact_plan.proofs.ListsWritten.{within, state_small, reached, offered, below_here, below_written, decides, decided_room, decided_written, rebased}
use Rattle.exact_plan.proofs.ChoiceByChoice.{choice_few, listed_none, choice_room, choice_here, choice_listed, listed_all}
use Rattle.exact_plan.proofs.OneOutcomeJoined.{wider_from, wider_to}
use Rattle.exact_plan.proofs.lists.+below_combine_grown_list_weighed_below.Goals as goal

-- ---- below an outcome

-- ---- below an outcome, weighed

-- ---- the first outcomes of a choice

-- ---- a further outcome

-- ---- the choices of a state

pub below-overflow_cast-to : goal.below-overflow_cast-to
below-overflow_cast-to t c =
    let S = c in
    record { fits = omega (arith, (within S.requires.given S.requires.here.0 S.args.to.i S.args.to.o S.requires.here.1).1) }

pub below-overflow_cast-to-2 : goal.below-overflow_cast-to-2
below-overflow_cast-to-2 t c =
    let S = c in
    record { fits = omega (arith, (within S.requires.given S.requires.here.0 S.args.to.i S.args.to.o S.requires.here.1).2) }

pub below-step-t-requires : goal.below-step-t-requires
below-step-t-requires t c =
    let S = c in record { ready = S.requires.given.ready; offered = offered S.requires.given S.args.to.i S.args.to.o S.args.spot.k S.requires.here.0 S.requires.here.1; knows = S.requires.here.0.knows }

pub below-overflow_add-on : goal.below-overflow_add-on
below-overflow_add-on t c = record { fits = omega (arith, c.requires.here.0.steps) }

pub below-list-requires : goal.below-list-requires
below-list-requires t c =
    let S = c in
    let x = c.step-t in (
      omega (arith, S.decreases),
      (
        S.requires.given,
        (
          (below_here S.requires.given S.args.to.i S.args.to.o S.args.spot.k S.requires.here.0 S.requires.here.1 x.ensures, S.requires.here.2),
          subst (λ z. Room S.args.spot.k (plan_total (model_in S.args.m.now) S.args.spot.k z) S.args.spot.at (length S.args.buf.now)) (sym x.ensures.state) S.requires.room,
        ),
      ),
    )

pub below-shape_of-buf : goal.below-shape_of-buf
below-shape_of-buf t c = c.list.auto.buf

pub below-returns : goal.below-returns
below-returns t c =
    let S = c in
    below_written S.requires.given S.args.to.i S.args.to.o S.args.spot.k S.requires.here.0 S.requires.here.1 c.step-t.ensures c.list.ensures

pub weighed_below-below-n-requires : goal.weighed_below-below-n-requires
weighed_below-below-n-requires t c = let S = c in (omega (arith, S.decreases), (S.requires.given, (S.requires.here, S.requires.room)))

pub weighed_below-weight-w-requires : goal.weighed_below-weight-w-requires
weighed_below-weight-w-requires t c = let S = c in within S.requires.given S.requires.here.0 S.args.to.i S.args.to.o S.requires.here.1

pub weighed_below-shift-requires : goal.weighed_below-shift-requires
weighed_below-shift-requires t c =
    let weighed-place : Place c.args.m.now c.args.spot.d c.args.spot.s c.args.to.i c.args.spot.k = placed c.args.to.i c.args.spot.k c.requires.here.0 c.requires.here.1.0 in
    let S = c in
    let b = c.below-n in
    weighed_shifts S.requires.given weighed-place S.args.to.o S.requires.here.1.1 S.args.buf.now S.requires.room b.ensures b.auto.buf c.weight-w.ensures.value

pub weighed_below-shape_of-buf : goal.weighed_below-shape_of-buf
weighed_below-shape_of-buf t c = c.shift.auto.buf ∙ c.below-n.auto.buf

pub weighed_below-returns : goal.weighed_below-returns
weighed_below-returns t c =
    let weighed-place : Place c.args.m.now c.args.spot.d c.args.spot.s c.args.to.i c.args.spot.k = placed c.args.to.i c.args.spot.k c.requires.here.0 c.requires.here.1.0 in
    let S = c in
    let b = c.below-n in
    weighed_written S.requires.given weighed-place S.args.to.o S.requires.here.1.1 S.args.buf.now S.requires.room b.ensures b.auto.buf c.weight-w.ensures.value c.shift.ensures

pub combine-longest-start-requires : goal.combine-longest-start-requires
combine-longest-start-requires t c =
    let S = c in
    let w = S.requires.given.ready.prepared in
    let h = S.requires.here.0.inside in
    let I = S.requires.here in
    let r = place_range w S.args.spot.s h S.args.i I.1 in (
      omega (arith, S.requires.here.0.steps),
      r.0,
      r.1,
      I.2,
      omega (arith, I.3, w.few_outcomes S.args.spot.s S.args.i h I.1),
      λ o l. state_small S.requires.given (reached S.requires.given S.args.spot.s S.args.i o h (I.1, omega (arith, I.3))),
    )

pub combine-weighed_below-len-requires : goal.combine-weighed_below-len-requires
combine-weighed_below-len-requires t c =
    let combine-place : Place c.args.m.now c.args.spot.d c.args.spot.s c.args.i c.args.spot.k = placed c.args.i c.args.spot.k c.requires.here.0 c.requires.here.1 in
    let S = c in
    let I = S.requires.here in
    let l = c.longest-start.ensures.inside in
    (omega (arith, S.decreases), (S.requires.given, ((S.requires.here.0, (I.1, omega (arith, l, I.3)), I.4), first_room S.requires.given combine-place I.3 S.requires.room c.longest-start.result l)))

pub combine-loop-taken-init : goal.combine-loop-taken-init
combine-loop-taken-init t c =
    let combine-place : Place c.args.m.now c.args.spot.d c.args.spot.s c.args.i c.args.spot.k = placed c.args.i c.args.spot.k c.requires.here.0 c.requires.here.1 in
    let S = c in
    let b = c.weighed_below-len in
    let L = c.longest-start in
    span_from 1 (omega (arith, L.ensures.inside)) (first_spanned S.requires.given combine-place S.requires.here.3 S.requires.room L.result L.ensures.inside refl S.requires.here.0 b.ensures L.ensures refl)

pub combine-beside-o-requires : goal.combine-beside-o-requires
combine-beside-o-requires t c = let I = span_from c.loop-taken.taken c.min-lo.ensures c.loop-taken.invariant in (I.some, I.most, omega arith)

pub combine-grown-len-requires : goal.combine-grown-len-requires
combine-grown-len-requires t c =
    let combine-place : Place c.args.m.now c.args.spot.d c.args.spot.s c.args.i c.args.spot.k = placed c.args.i c.args.spot.k c.requires.here.0 c.requires.here.1 in
    let S = c in
    let I = span_from c.loop-taken.taken c.min-lo.ensures c.loop-taken.invariant in
    let o = c.beside-o in
    let z = c.weighed_below-len.auto.buf in (
      omega (arith, S.decreases),
      (S.requires.given, ((I.here, (S.requires.here.1, span_outcome S.requires.given combine-place S.requires.here.3 S.requires.room I z o.result o.ensures), S.requires.here.4), span_grows S.requires.given combine-place S.requires.here.3 S.requires.room I z o.result o.ensures)),
    )

pub combine-loop-taken-preserved : goal.combine-loop-taken-preserved
combine-loop-taken-preserved t c =
    let combine-place : Place c.args.m.now c.args.spot.d c.args.spot.s c.args.i c.args.spot.k = placed c.args.i c.args.spot.k c.requires.here.0 c.requires.here.1 in
    let S = c in
    let o = c.beside-o in
    let x = c.grown-len in
    let I = span_from c.loop-taken.taken c.min-lo.ensures c.loop-taken.invariant in
    span_wider S.requires.given combine-place S.requires.here.3 S.requires.room I c.weighed_below-len.auto.buf o.result o.ensures x.ensures x.auto.buf (wider_from I.some I.most o.ensures _ _ c.min-lo.ensures refl (omega arith)) (wider_to I.some I.most o.ensures _ _ c.min-lo.ensures refl (omega arith))

pub combine-shape_of-buf : goal.combine-shape_of-buf
combine-shape_of-buf t c = c.loop-taken.invariant.whole ∙ c.weighed_below-len.auto.buf

pub combine-returns : goal.combine-returns
combine-returns t c =
    let combine-place : Place c.args.m.now c.args.spot.d c.args.spot.s c.args.i c.args.spot.k = placed c.args.i c.args.spot.k c.requires.here.0 c.requires.here.1 in
    let S = c in
    let b = c.weighed_below-len in
    let L = c.longest-start in
    let M = S.args.m.now in
    let f : List ℕ → List Step → ℕ = worth_on M S.args.q.now S.args.spot.start S.args.spot.a S.args.spot.d S.args.cone.now in
    rebased (λ T. combined (weighed (model_in M) S.args.spot.k (f T)) (take S.args.c (outcomes (model_in M) S.args.spot.s (choice_in M S.args.spot.s S.args.i))))
    b.ensures.back.kept (first_before S.requires.given combine-place S.requires.here.3 S.requires.room L.result L.ensures.inside refl S.requires.here.0 b.ensures)
    (span_end S.requires.given combine-place S.requires.here.3 S.requires.room c.loop-taken.invariant b.auto.buf (omega arith))

pub grown-target-requires : goal.grown-target-requires
grown-target-requires t c = let S = c in within S.requires.given S.requires.here.0 S.args.more.to.i S.args.more.to.o S.requires.here.1

pub grown-plans_counted-n-requires : goal.grown-plans_counted-n-requires
grown-plans_counted-n-requires t c =
    let S = c in
    (omega (arith, S.requires.here.0.steps), subst (λ z. z < 32) (sym c.target.ensures) (state_small S.requires.given (reached S.requires.given S.args.spot.s S.args.more.to.i S.args.more.to.o S.requires.here.0.inside S.requires.here.1)))

pub grown-overflow_mul-behind : goal.grown-overflow_mul-behind
grown-overflow_mul-behind t c =
    let grown-place : Place c.args.m.now c.args.spot.d c.args.spot.s c.args.more.to.i c.args.spot.k = placed c.args.more.to.i c.args.spot.k c.requires.here.0 c.requires.here.1.0 in
    let counted : let S = c.args in c.plans_counted-n.result ≡ ways S.m.now S.spot.s S.more.to.i S.spot.k S.more.to.o = let S = c in
    count_right S.requires.given grown-place S.args.more.to.o S.requires.here.1.1 S.requires.grows.room.few c.plans_counted-n.ensures c.target.ensures in
    let S = c in record { fits = omega (arith, S.requires.grows.few, ap (λ z. S.args.more.len * z) counted) }

pub grown-overflow_add-behind : goal.grown-overflow_add-behind
grown-overflow_add-behind t c =
    let grown-place : Place c.args.m.now c.args.spot.d c.args.spot.s c.args.more.to.i c.args.spot.k = placed c.args.more.to.i c.args.spot.k c.requires.here.0 c.requires.here.1.0 in
    let counted : let S = c.args in c.plans_counted-n.result ≡ ways S.m.now S.spot.s S.more.to.i S.spot.k S.more.to.o = let S = c in
    count_right S.requires.given grown-place S.args.more.to.o S.requires.here.1.1 S.requires.grows.room.few c.plans_counted-n.ensures c.target.ensures in
    let S = c in record { fits = omega (arith, S.requires.grows.room.fits, ap (λ z. S.args.more.len * z) counted, S.well_formed.1.1.1.1.1.1.1.1.1.0) }

pub grown-below-requires : goal.grown-below-requires
grown-below-requires t c =
    let grown-place : Place c.args.m.now c.args.spot.d c.args.spot.s c.args.more.to.i c.args.spot.k = placed c.args.more.to.i c.args.spot.k c.requires.here.0 c.requires.here.1.0 in
    let counted : let S = c.args in c.plans_counted-n.result ≡ ways S.m.now S.spot.s S.more.to.i S.spot.k S.more.to.o = let S = c in
    count_right S.requires.given grown-place S.args.more.to.o S.requires.here.1.1 S.requires.grows.room.few c.plans_counted-n.ensures c.target.ensures in
    let S = c in
    let w = ways S.args.m.now S.args.spot.s S.args.more.to.i S.args.spot.k S.args.more.to.o in
    (omega (arith, S.decreases), (S.requires.given, (S.requires.here, subst (λ n. Room S.args.spot.k w (S.args.spot.at + S.args.more.len * n) (length S.args.buf.now)) (sym counted) S.requires.grows.room)))

pub grown-weight-requires : goal.grown-weight-requires
grown-weight-requires t c = let S = c in within S.requires.given S.requires.here.0 S.args.more.to.i S.args.more.to.o S.requires.here.1

pub grown-join-requires : goal.grown-join-requires
grown-join-requires t c =
    let grown-place : Place c.args.m.now c.args.spot.d c.args.spot.s c.args.more.to.i c.args.spot.k = placed c.args.more.to.i c.args.spot.k c.requires.here.0 c.requires.here.1.0 in
    let counted : let S = c.args in c.plans_counted-n.result ≡ ways S.m.now S.spot.s S.more.to.i S.spot.k S.more.to.o = let S = c in
    count_right S.requires.given grown-place S.args.more.to.o S.requires.here.1.1 S.requires.grows.room.few c.plans_counted-n.ensures c.target.ensures in
    let S = c in
    let b = c.below in
    grown_joins S.requires.given grown-place S.args.more.to.o S.requires.here.1.1 S.requires.grows c.plans_counted-n.result counted b.ensures b.auto.buf c.weight.result c.weight.ensures.value

pub grown-overflow_mul-result : goal.grown-overflow_mul-result
grown-overflow_mul-result t c =
    let grown-place : Place c.args.m.now c.args.spot.d c.args.spot.s c.args.more.to.i c.args.spot.k = placed c.args.more.to.i c.args.spot.k c.requires.here.0 c.requires.here.1.0 in
    let counted : let S = c.args in c.plans_counted-n.result ≡ ways S.m.now S.spot.s S.more.to.i S.spot.k S.more.to.o = let S = c in
    count_right S.requires.given grown-place S.args.more.to.o S.requires.here.1.1 S.requires.grows.room.few c.plans_counted-n.ensures c.target.ensures in
    let S = c in record { fits = omega (arith, S.requires.grows.few, ap (λ z. S.args.more.len * z) counted) }

pub grown-shape_of-buf : goal.grown-shape_of-buf
grown-shape_of-buf t c = c.join.auto.buf ∙ c.below.auto.buf

pub grown-returns : goal.grown-returns
grown-returns t c =
    let grown-place : Place c.args.m.now c.args.spot.d c.args.spot.s c.args.more.to.i c.args.spot.k = placed c.args.more.to.i c.args.spot.k c.requires.here.0 c.requires.here.1.0 in
    let counted : let S = c.args in c.plans_counted-n.result ≡ ways S.m.now S.spot.s S.more.to.i S.spot.k S.more.to.o = let S = c in
    count_right S.requires.given grown-place S.args.more.to.o S.requires.here.1.1 S.requires.grows.room.few c.plans_counted-n.ensures c.target.ensures in
    let S = c in
    let b = c.below in
    grown_written S.requires.given grown-place S.args.more.to.o S.requires.here.1.1 S.requires.grows c.plans_counted-n.result counted b.ensures b.auto.buf c.weight.result c.weight.ensures.value S.args.more.right c.join.ensures

pub list-decided-requires : goal.list-decided-requires
list-decided-requires t c =
    let S = c in
    let G = S.requires.given in
    let H = S.requires.here.0 in
    let h = c.if-spot.true in record { decides = decides G H h; s_bound = (state_small G H.inside, decided_room G H h S.args.buf.now S.requires.room) }

pub list-shape_of-buf-then-spot : goal.list-shape_of-buf-then-spot
list-shape_of-buf-then-spot t c = c.decided.auto.buf

pub list-returns-then-spot : goal.list-returns-then-spot
list-returns-then-spot t c =
    let S = c in
    decided_written S.requires.given S.requires.here.0 c.if-spot.true S.args.buf.now S.requires.room c.decided.ensures.value c.decided.ensures.frame

pub list-one_decides-requires : goal.list-one_decides-requires
list-one_decides-requires t c = omega (arith, c.requires.here.0.steps)

pub list-by_last_step-requires : goal.list-by_last_step-requires
list-by_last_step-requires t c =
    let S = c in
    let H = S.requires.here in
    let d = c.one_decides.ensures c.if-one_decides.true in record { given = S.requires.given; here = (H.0, H.1, d.0, d.1); room = S.requires.room }

pub list-shape_of-buf-then-one_decides : goal.list-shape_of-buf-then-one_decides
list-shape_of-buf-then-one_decides t c = c.by_last_step.auto.buf

pub list-returns-then-one_decides : goal.list-returns-then-one_decides
list-returns-then-one_decides t c = c.by_last_step.ensures

pub list-choices-n-requires : goal.list-choices-n-requires
list-choices-n-requires t c = let S = c in state_small S.requires.given S.requires.here.0.inside

pub list-loop-i-init : goal.list-loop-i-init
list-loop-i-init t c =
    let S = c in
    let x = c.if-spot.false in
    (c.choices-n.ensures, omega arith, listed_none S.requires.given S.args.spot.k (S.args.spot.k - 1) (omega (arith, S.requires.here.0.deep)) S.requires.here.0)

pub list-overflow_sub-first : goal.list-overflow_sub-first
list-overflow_sub-first t c =
    let on : let k = c.args.spot.k in k ≡ suc (k - 1) = omega (arith, c.requires.here.0.deep, c.loop-i.invariant.1) in
    omega (arith, on)

pub list-overflow_add-first : goal.list-overflow_add-first
list-overflow_add-first t c =
    let on : let k = c.args.spot.k in k ≡ suc (k - 1) = omega (arith, c.requires.here.0.deep, c.loop-i.invariant.1) in
    let turn : c.loop-i.i < choices_in c.args.m.now c.args.spot.s = omega (arith, c.loop-i.invariant.0, c.loop-i-test.true) in
    let S = c in
    let L = c.loop-i.invariant.2 in
    record { fits = omega (arith, (choice_room S.requires.given S.args.spot.k (S.args.spot.k - 1) on S.requires.room L turn refl).fits, L.whole, S.well_formed.1.1.1.1.1.1.1.1.1.0) }

pub list-outcomes-c-requires : goal.list-outcomes-c-requires
list-outcomes-c-requires t c =
    let turn : c.loop-i.i < choices_in c.args.m.now c.args.spot.s = omega (arith, c.loop-i.invariant.0, c.loop-i-test.true) in
    let S = c in place_range S.requires.given.ready.prepared S.args.spot.s S.requires.here.0.inside c.loop-i.i turn

pub list-combine-len-requires : goal.list-combine-len-requires
list-combine-len-requires t c =
    let on : let k = c.args.spot.k in k ≡ suc (k - 1) = omega (arith, c.requires.here.0.deep, c.loop-i.invariant.1) in
    let turn : c.loop-i.i < choices_in c.args.m.now c.args.spot.s = omega (arith, c.loop-i.invariant.0, c.loop-i-test.true) in
    let S = c in
    let G = S.requires.given in
    let L = c.loop-i.invariant.2 in
    let g = turn in
    let e = c.outcomes-c.ensures in (
      omega (arith, on, S.decreases),
      (
        G,
        (
          (
            choice_here G S.args.spot.k (S.args.spot.k - 1) on S.requires.room L g e,
            g,
            omega (arith, e, some_outcome G.ready.prepared S.args.spot.s S.requires.here.0.inside c.loop-i.i g),
            omega (arith, e),
            S.requires.here.1,
          ),
          choice_room G S.args.spot.k (S.args.spot.k - 1) on S.requires.room L g e,
        ),
      ),
    )

pub list-overflow_add-len : goal.list-overflow_add-len
list-overflow_add-len t c =
    let on : let k = c.args.spot.k in k ≡ suc (k - 1) = omega (arith, c.requires.here.0.deep, c.loop-i.invariant.1) in
    let turn : c.loop-i.i < choices_in c.args.m.now c.args.spot.s = omega (arith, c.loop-i.invariant.0, c.loop-i-test.true) in
    let S = c in
    record { fits = omega (arith, choice_few S.requires.given S.args.spot.k (S.args.spot.k - 1) on S.requires.room c.loop-i.invariant.2 turn c.outcomes-c.ensures (take S.args.spot.h c.loop-i.trail) c.combine-len.ensures.count) }

pub list-loop-i-preserved : goal.list-loop-i-preserved
list-loop-i-preserved t c =
    let on : let k = c.args.spot.k in k ≡ suc (k - 1) = omega (arith, c.requires.here.0.deep, c.loop-i.invariant.1) in
    let turn : c.loop-i.i < choices_in c.args.m.now c.args.spot.s = omega (arith, c.loop-i.invariant.0, c.loop-i-test.true) in
    let S = c in
    let I = c.loop-i.invariant in
    let x = c.combine-len in
    (I.0, I.1, choice_listed S.requires.given S.args.spot.k (S.args.spot.k - 1) on S.requires.room I.2 turn c.outcomes-c.ensures x.ensures x.auto.buf)

pub list-shape_of-buf : goal.list-shape_of-buf
list-shape_of-buf t c = c.loop-i.invariant.2.whole

pub list-returns : goal.list-returns
list-returns t c =
    let on : let k = c.args.spot.k in k ≡ suc (k - 1) = omega (arith, c.requires.here.0.deep, c.loop-i.invariant.1) in
    let S = c in
    let L = c.loop-i in
    listed_all S.requires.given S.args.spot.k (S.args.spot.k - 1) on S.requires.room L.invariant.2 (omega (arith, L.invariant.0))
