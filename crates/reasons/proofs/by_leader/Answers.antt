-- The plan that the search found, extended to all steps.
use Prim.Native.Nat.{ℕ}
use native.Mathlib.Omega.{arith}
use mathlib.Core.Path.{refl, sym, ap, subst, ◌∙◌}
use lib.ListN.{length}
use Rattle.blocks.specs.Splice.{splice}
use Rattle.prepared_model.specs.promises.Rows.{model_in}
use Rattle.bounds.specs.promises.Bounded.{Bounded}
use Rattle.plan_choices.specs.promises.Extended.{extend, by_place, Placed}
use Rattle.judging.proofs.SearchHanded.{bounded_at}
use Rattle.judging.proofs.VerdictShown.{led_most}
use Rattle.reasons.specs.promises.Told.{led_code}
use Rattle.reasons.proofs.LedReason.{led_told}
use Rattle.reasons.proofs.by_leader.Goals as goal

pub decide-r-requires : goal.decide-r-requires
decide-r-requires c = let S = c in record { asked = S.requires.asked; in_bounds = (omega arith, refl) }

pub extend-size-requires : goal.extend-size-requires
extend-size-requires c = let S = c in
    let d = c.decide-r in
    let n = c.steps-n.ensures in record { prepared = (S.requires.asked.0.given.prepared, S.requires.asked.1.state); placed = (subst (λ (i : ℕ). Placed S.args.m.now d.new.places i) (sym n) (d.ensures.led S.requires.fact.0).table, S.requires.fact.1) }

pub of_leader-requires : goal.of_leader-requires
of_leader-requires c =
    let bounded : Bounded c.args.m.now c.args.q.now c.args.j = bounded_at c.requires.asked.0.given c.requires.asked.1 in
    let S = c in
    (bounded, led_most S.requires.asked.0 bounded S.args.s S.requires.asked.1.state c.decide-r.ensures S.requires.fact.0)

pub returns : goal.returns
returns c =
    let bounded : Bounded c.args.m.now c.args.q.now c.args.j = bounded_at c.requires.asked.0.given c.requires.asked.1 in
    let S = c in
    let d = c.decide-r in
    let n = c.steps-n.ensures in
    let x = c.extend-size.ensures in
    let same = ap (λ (i : ℕ). (extend (model_in S.args.m.now) (by_place S.args.m.now d.new.places) d.result.given i S.args.s d.new.scratch).0) n ∙ (d.ensures.led S.requires.fact.0).chosen in
    led_told S.requires.asked.0 bounded S.args.s S.requires.asked.1.state S.requires.fact.0 d.ensures
    (c.of_leader.ensures ∙ ap (led_code S.args.m.now S.args.q.now S.args.j d.result.met d.result.raised) (x.value ∙ ap length same)) (x.frame ∙ ap (splice S.args.choices.now 0) same)
