-- Input of which one word is changed is refused with 2 by the call that reads it: the desk's grounds and 1 pass, and the sum test does not.
use mathlib.Core.Path.{◌≡◌, refl, sym, ◌∙◌}
use mathlib.Core.Bool.{Bool, true, false, cond}
use mathlib.Core.List.{List, [], ◌∷◌}
use mathlib.Core.Option.{none, some}
use Rattle.logic.specs.Checked.{Checked, refused, got}
use Rattle.logic.specs.Grounds.{Ground, first}
use Rattle.logic.specs.Model.{Model}
use Rattle.logic.specs.Limits.{limit_grounds}
use Rattle.logic.proofs.Tests.{none≢some}
use Rattle.blocks.specs.Bytes.{Bytes}
use Rattle.blocks.specs.Block.{whole_blocks}
use Rattle.blocks.specs.OneWord.{Corrupted}
use Rattle.blocks.proofs.OneWordChanged.{corrupted_fails}
use Rattle.protocol.specs.Tested.{Tested, value, tests, run, ◌>>=◌, ◌>>◌}
use Rattle.protocol.specs.Calls.{load, put, query, check, Held, accepted, refuse, Reply, says, accepted_plan, reported, described, yields}
use Rattle.protocol.specs.Demand3.{PlanQuestion}
use Rattle.protocol.proofs.FirstGround.{refuse_run}

-- Tests of which none applies.
tests_pass : {A : Type 0} (gs : List Ground) (c : Tested A) → first gs ≡ none → run (tests gs >> c) ≡ run c
unfolding run first
tests_pass [] c e = refl
tests_pass (g ∷ gs) c e = by g.passes (λ i. tests_pass gs c i) e
  where
    by : (t : Bool) → (first gs ≡ none → run (tests gs >> c) ≡ run c) → cond t (first gs) (some g.number) ≡ none
        → cond t (run (tests gs >> c)) (refused g.number) ≡ run c
    by true h e = h e
    by false h e = absurd (none≢some (sym e))

-- Ground 1 passes and ground 2 does not.
by_second : {A : Type 0} (t u : Bool) (x : Checked A) → t ≡ true → u ≡ false → cond t (cond u x (refused 2)) (refused 1) ≡ refused 2
by_second t u x e f = rw (e, f) refl

module _ {b c : Bytes} (s : Corrupted b c) (h : Held) where
  pub load_refused : whole_blocks 2 12 c ≡ true → (yields h (load c)).answer ≡ refuse 2
  unfolding described run
  load_refused e = (refuse_run h (load c) 2).1 (by_second _ _ _ e (corrupted_fails s))

  pub put_refused : {m : Model} → h.model ≡ some m → whole_blocks 1 1 c ≡ true → (yields h (put c)).answer ≡ refuse 2
  unfolding described run
  put_refused i e = (refuse_run h (put c) 2).1 (rw i (by_second _ _ _ e (corrupted_fails s)))

  pub check_refused : PlanQuestion h → whole_blocks 1 3 c ≡ true → (yields h (query (check c))).answer ≡ refuse 2
  unfolding described run got accepted_plan
  check_refused x e =
      let rest : Tested Reply = accepted_plan x.model x.question x.asked c >>= (λ π. value (says (accepted (reported x.asked π)))) in
      (refuse_run h (query (check c)) 2).1
      (rw (x.held_model, x.held_question, x.plan_root)
      (tests_pass (limit_grounds x.model x.question.nodes) rest x.within_limits ∙ by_second _ _ _ e (corrupted_fails s)))
