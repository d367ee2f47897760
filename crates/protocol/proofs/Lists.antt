-- A short list of calls from the empty desk, call by call: what is held after each, and the reply to the next by what is held then.
use mathlib.Core.Path.{◌≡◌, refl, ap, ◌∙◌}
use mathlib.Core.List.{List, [], ◌∷◌, ◌++◌}
use mathlib.Core.Option.{none, some}
use Rattle.logic.specs.Model.{Model}
use Rattle.blocks.specs.Bytes.{Bytes}
use Rattle.questions.specs.Layout.{Question}
use Rattle.protocol.specs.Calls.{Call, Held, yields}
use Rattle.protocol.specs.History.{last_left, held_from, after}
use Rattle.protocol.specs.promises.Chains.{by_chain}
use Rattle.protocol.proofs.AfterEachCall.{next, after_next}
use Rattle.protocol.proofs.FirstGround.{yields_is}

abbrev pub empty : Held
empty = record { model = none; blocks = []; question = none; verdict = none }

-- The model is read from the bytes b.
module _ (b : Bytes) where
  abbrev pub with_model : Model → Held
  with_model m = record { model = some m; blocks = b; question = none; verdict = none }

  abbrev pub with_question : Model → Question → Held
  with_question m q = record { model = some m; blocks = b; question = some q; verdict = none }

pub after_none : after [] ≡ empty
unfolding after last_left held_from
after_none = refl

pub after_more : (cs : List Call) (c : Call) {h : Held} → after cs ≡ h → after (cs ++ (c ∷ [])) ≡ next h c
after_more cs c e = after_next cs c ∙ ap (λ k. next k c) e

pub reply_is : (cs : List Call) (c : Call) {h : Held} → after cs ≡ h → yields (after cs) c ≡ by_chain h c
reply_is cs c {h} e = ap (λ k. yields k c) e ∙ yields_is h c
