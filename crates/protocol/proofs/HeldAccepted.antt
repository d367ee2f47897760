-- A model and a question that are held were accepted: the model promises what accepted ones do, and the question starts in one of its states.
use Prim.Native.Nat.{◌<◌}
use mathlib.Core.Path.{◌≡◌, sym, ap, subst, ◌∙◌}
use mathlib.Core.Option.{some}
use lib.ListN.{length}
use Rattle.logic.specs.promises.Refusal.{refusal}
use Rattle.logic.specs.Model.{Model}
use Rattle.logic.specs.Accepted.{Accepted}
use Rattle.logic.proofs.Checked.{ok_same}
use Rattle.models.proofs.GroundsPassed.{passed_all, read_passed}
use Rattle.models.proofs.ModelOfBytes.{accepted}
use Rattle.questions.specs.Layout.{Question, question_of}
use Rattle.questions.proofs.AcceptedFacts as questions
use Rattle.protocol.specs.Calls.{Held}
use Rattle.protocol.proofs.AfterEachCall.{Sound}

module _ {h : Held} (sound : Sound h) (m : Model) (held_model : h.model ≡ some m) where
  pub model_accepted : Accepted m
  model_accepted =
      let e = sound.model_read m held_model in
      let p = passed_all h.blocks (ap refusal e) in
      subst Accepted (ok_same (sym (read_passed h.blocks p) ∙ e)) (accepted h.blocks p)

  pub start_inside : (q : Question) → h.question ≡ some q → q.start < length m.states
  unfolding question_of
  start_inside q held_question =
      let c = sound.question_read m q held_model held_question in
      let a = questions.accepted (length m.states) (length m.actions) m.propositions c.0 (ap refusal c.1) in
      subst (λ x. x.start < length m.states) (ok_same (sym a.read ∙ c.1)) a.formed.starts
