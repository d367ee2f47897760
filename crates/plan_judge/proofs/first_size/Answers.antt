-- The model is cut to the bytes that are held; the steps and the start are the question's.
use Prim.Native.Nat.{◌*◌}
use native.Mathlib.Omega.{arith}
use mathlib.Core.Path.{ap, ap₂, ◌∙◌}
use lib.ListN.{take, length-take}
use Rattle.logic.specs.promises.Refusal.{refusal}
use Rattle.logic.specs.Choices.{read_plan}
use Rattle.models.specs.Layout.{state_count, model_of}
use Rattle.models.specs.Grounds.{read_model}
use Rattle.questions.proofs.AcceptedFacts.{accepted}
use Rattle.plan_judge.specs.promises.State.{plan_size}
use Rattle.plan_judge.proofs.LoadPutReturn.{said_cut}
use Rattle.plan_judge.proofs.WriteReturns.{size_choices}
use Rattle.plan_judge.proofs.first_size.Goals as goal

pub slice_bounds-plan_size-end : goal.slice_bounds-plan_size-end
slice_bounds-plan_size-end c = let e = c.blocks_end-n.ensures in simp length-take (omega arith)

pub plan_size-requires : goal.plan_size-requires
plan_size-requires c = let S = c in
    let q = S.args.q.now in
    let e = said_cut S.args.model.now S.args.blocks c.blocks_end-n.result c.blocks_end-n.ensures in
    (ap (λ z. refusal (read_model z)) e ∙ S.requires.passed, omega (arith, (accepted _ _ _ q S.requires.asked).formed.starts, c.start.ensures, ap state_count e))

pub returns : goal.returns
returns c = let S = c in
    let q = S.args.q.now in
    let cs = S.args.choices.now in
    let m = take (512 * S.args.blocks) S.args.model.now in
    let e = said_cut S.args.model.now S.args.blocks c.blocks_end-n.result c.blocks_end-n.ensures in
    c.plan_size.ensures
    ∙ ap (λ z. plan_size c.root_steps.result (read_plan (model_of z) c.root_steps.result c.start.result cs)) e
    ∙ ap₂ (λ n s. plan_size n (read_plan (model_of m) n s cs)) c.root_steps.ensures c.start.ensures
    ∙ size_choices m q S.requires cs
