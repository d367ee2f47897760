-- A desk holds a question only if its bytes are accepted for the model, so only one whose nodes are all reached: document 02, A.6.
use mathlib.Core.Path.{◌≡◌, refl, ap, ◌∙◌}
use Rattle.std.specs.Prelude.{Option as Optional, Some, None}
use mathlib.Core.Bool.{true, false≢true}
use mathlib.Core.Option.{Option, none, some}
use lib.Dec.{eqb}
use Rattle.logic.specs.Lists.{any}
use Rattle.logic.specs.Model.{Model}
use Rattle.logic.proofs.Tests.{none≢some}
use Rattle.logic.proofs.Checked.{got_some}
use Rattle.blocks.specs.Bytes.{Bytes}
use Rattle.questions.specs.Layout.{Question}
use Rattle.questions.specs.Children.{AllReached}
use Rattle.protocol.specs.Calls.{Call, load, put, judge, query, write, check, write_model, Held, refuse, Reply, question_for, described, yields}
use Rattle.protocol.specs.Demand1.{listed}
use Rattle.protocol.specs.Tested.{run}
use Rattle.protocol.proofs.UsedNodes.{read_reached}
use Rattle.plan_judge.specs.declared.Desk.{Desk}
use Rattle.plan_judge.specs.View.{question_block, question_bytes, question_in, view}

in_reached : (x : Optional Bytes) (o : Option Model) {q : Question} → question_in x o ≡ some q → AllReached (question_block x)
unfolding question_in question_block
in_reached x none e = absurd (none≢some e)
in_reached None (some m) e = absurd (none≢some e)
in_reached (Some b) (some m) e = read_reached m b (got_some (question_for m b) e)

pub held_reached : (d : Desk) (q : Question) → (view d).question ≡ some q → AllReached (question_bytes d)
unfolding view
held_reached d q e = in_reached d.question _ e

-- With a model and no question, a call that asks for one refuses with 21.
asks_question : (h : Held) (m : Model) → h.model ≡ some m → h.question ≡ none → (c : Call) → any (eqb 21) (listed c) ≡ true → (yields h c).answer ≡ refuse 21
unfolding yields described run listed any
asks_question h m e f (load b) l = absurd (false≢true l)
asks_question h m e f (put b) l = absurd (false≢true l)
asks_question h m e f judge l = rw (e, f) refl
asks_question h m e f (query (write a)) l = rw (e, f) refl
asks_question h m e f (query (check b)) l = rw (e, f) refl
asks_question h m e f (query (write_model a)) l = absurd (false≢true l)

module _ (d : Desk) (m : Model) (e : (view d).model ≡ some m) (n : AllReached (question_bytes d) → ⊥) where
  not_held : (o : Option Question) → (view d).question ≡ o → o ≡ none
  not_held none h = refl
  not_held (some q) h = absurd (n (held_reached d q h))

  pub others_not_held : (c : Call) {r : Reply} → r ≡ yields (view d) c → any (eqb 21) (listed c) ≡ true → r.answer ≡ refuse 21
  others_not_held c h l = ap (λ r. r.answer) h ∙ asks_question (view d) m e (not_held (view d).question refl) c l
