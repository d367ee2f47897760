-- `search::first_within`: at the start nothing is known but what `learn` adds; where no step decides all plans have one total.
use Prim.Native.Nat.{ℕ, ◌+◌, ◌-◌}
use native.Mathlib.Omega.{arith}
use mathlib.Core.Path.{◌≡◌, refl, sym, ap, ap₂, subst, ◌∙◌}
use lib.IntN.{ℤ, pos}
use lib.ListN.{replicate, length-replicate}
use Rattle.prepared_model.specs.promises.Rows.{model_in}
use Rattle.evaluation.proofs.LearnKnows.{cone_node}
use Rattle.evaluation.proofs.StepTaken.{begun}
use Rattle.exact_plan.specs.promises.Totals.{totals}
use Rattle.exact_plan.specs.promises.Listing.{Here, Found}
use Rattle.exact_plan.proofs.PreparedChoices.{some_plan}
use Rattle.exact_plan.proofs.LastStepLists.{marks_asked}
use Rattle.exact_plan.proofs.ListsWritten.{state_small, decides, all_alike}
use Rattle.exact_plan.proofs.FirstPlace.{begins, start_worth}
use Rattle.exact_plan.proofs.search.first_within.Goals as goal

pub marks-late-requires : goal.marks-late-requires
marks-late-requires c = marks_asked c.requires.given.ready

pub learn-requires : goal.learn-requires
learn-requires c = let G = c.requires.given in (cone_node G.ready, state_small G G.ready.state, omega arith)

pub at_once-requires : goal.at_once-requires
at_once-requires c =
    let here : let A = c.args in
    Here A.m.now A.q.now A.l.s A.l.d A.cone.now (replicate 6 0) (replicate 7 (pos 0)) c.learn.new.v 0 A.l.s A.l.n = let S = c in
    let G = S.requires.given in
    let v = c.learn.new.v in
    begins G (replicate 6 0) (replicate 7 (pos 0)) v S.requires.housed.deep S.requires.housed.steps
    (begun G.ready (replicate 6 0) (replicate 7 (pos 0)) (replicate 280 0) v refl (length-replicate {A = ℤ} 7 (pos 0)) (length-replicate {A = ℕ} 280 0) c.learn.ensures) in
    let S = c in
    let G = S.requires.given in
    decides G here (omega (arith, c.if-l-eq0.true))

pub returns-then-l-eq0 : goal.returns-then-l-eq0
returns-then-l-eq0 c =
    let here : let A = c.args in
    Here A.m.now A.q.now A.l.s A.l.d A.cone.now (replicate 6 0) (replicate 7 (pos 0)) c.learn.new.v 0 A.l.s A.l.n = let S = c in
    let G = S.requires.given in
    let v = c.learn.new.v in
    begins G (replicate 6 0) (replicate 7 (pos 0)) v S.requires.housed.deep S.requires.housed.steps
    (begun G.ready (replicate 6 0) (replicate 7 (pos 0)) (replicate 280 0) v refl (length-replicate {A = ℤ} 7 (pos 0)) (length-replicate {A = ℕ} 280 0) c.learn.ensures) in
    let S = c in
    let G = S.requires.given in
    let A = S.args in
    let H = here in
    let M = model_in A.m.now in
    let v = c.learn.new.v in
    subst (λ l. Found l A.x c.at_once.result)
    (sym (all_alike G H (omega (arith, c.if-l-eq0.true)))
    ∙ ap (totals M A.l.n A.l.s) (start_worth G (replicate 6 0)))
    (c.at_once.ensures _ (some_plan G.ready.prepared A.l.n A.l.s G.ready.state))

pub overflow_sub-spot : goal.overflow_sub-spot
overflow_sub-spot c = omega (arith, c.if-l-eq0.false, c.requires.housed.deep)

pub by_choices-requires : goal.by_choices-requires
by_choices-requires c =
    let here : let A = c.args in
    Here A.m.now A.q.now A.l.s A.l.d A.cone.now (replicate 6 0) (replicate 7 (pos 0)) c.learn.new.v 0 A.l.s A.l.n = let S = c in
    let G = S.requires.given in
    let v = c.learn.new.v in
    begins G (replicate 6 0) (replicate 7 (pos 0)) v S.requires.housed.deep S.requires.housed.steps
    (begun G.ready (replicate 6 0) (replicate 7 (pos 0)) (replicate 280 0) v refl (length-replicate {A = ℤ} 7 (pos 0)) (length-replicate {A = ℕ} 280 0) c.learn.ensures) in
    let on : let n = c.args.l.n in n - 1 + 1 ≡ n = omega (arith, c.if-l-eq0.false, c.requires.housed.deep) in
    let S = c in
    let A = S.args in
    let H = S.requires.housed in
    let z = on in record { given = S.requires.given; here = (rw z here, c.marks-late.ensures); s_bound = (rw z H.few, λ i l. omega (arith, H.enough (omega (arith, c.if-l-eq0.false)) i l)) }

pub returns : goal.returns
returns c =
    let on : let n = c.args.l.n in n - 1 + 1 ≡ n = omega (arith, c.if-l-eq0.false, c.requires.housed.deep) in
    let S = c in
    let A = S.args in
    subst (λ l. Found l A.x c.by_choices.result)
    (ap₂ (λ n f. totals (model_in A.m.now) n A.l.s f) on (start_worth S.requires.given (replicate 6 0)))
    c.by_choices.ensures
