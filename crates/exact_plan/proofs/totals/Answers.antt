-- `totals`: at the start nothing is known but what `learn` adds, and the buffer has room for the whole list.
use Prim.Native.Nat.{ℕ}
use native.Mathlib.Omega.{arith}
use mathlib.Core.Path.{refl}
use lib.IntN.{ℤ, pos}
use lib.ListN.{length, take, replicate, length-replicate}
use Rattle.logic.specs.Limits.{plan_total}
use Rattle.prepared_model.specs.promises.Rows.{model_in}
use Rattle.evaluation.specs.promises.Worth.{worth_on}
use Rattle.evaluation.proofs.LearnKnows.{cone_node}
use Rattle.evaluation.proofs.StepTaken.{begun}
use Rattle.exact_plan.proofs.RoomForEach.{room_at}
use Rattle.exact_plan.proofs.TotalsByFirstStep.{totals_length}
use Rattle.exact_plan.proofs.ListsWritten.{state_small}
use Rattle.exact_plan.proofs.LastStepLists.{marks_asked}
use Rattle.exact_plan.proofs.FirstPlace.{begins, all_listed}
use Rattle.exact_plan.proofs.totals.Goals as goal

pub marks-late-requires : goal.marks-late-requires
marks-late-requires c = marks_asked c.requires.given.ready

pub learn-requires : goal.learn-requires
learn-requires c = let G = c.requires.given in (cone_node G.ready, state_small G G.ready.state, omega arith)

pub list-requires : goal.list-requires
list-requires c = let S = c in
    let G = S.requires.given in
    let x = c.learn in
    let v = x.new.v in
    let knows = begun G.ready (replicate 6 0) (replicate 7 (pos 0)) (replicate 280 0) v refl (length-replicate {A = ℤ} 7 (pos 0)) (length-replicate {A = ℕ} 280 0) x.ensures in
    let total = plan_total (model_in S.args.m.now) S.args.l.n S.args.l.s in
    let room = room_at S.args.l.n total 0 (length S.args.buf.now) S.requires.d_le_n.1 S.requires.d_le_n.2 (omega (arith, S.requires.d_le_n.3)) in record { given = G; here = (begins G (replicate 6 0) (replicate 7 (pos 0)) v S.requires.d_le_n.0 S.requires.d_le_n.1 knows, c.marks-late.ensures); room = room }

pub returns : goal.returns
returns c = let S = c in
    let x = c.list in
    let M = S.args.m.now in
    let f = worth_on M S.args.q.now S.args.l.s S.args.l.a S.args.l.d S.args.cone.now (take 0 (replicate 6 0)) in
    all_listed S.requires.given S.args.l.n x.ensures
    (omega (arith, x.ensures.count, totals_length (model_in M) S.args.l.n S.args.l.s f, x.auto.buf, S.requires.d_le_n.2, S.requires.d_le_n.3))
