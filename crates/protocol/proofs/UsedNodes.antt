-- What put says of a question's nodes, and what is known of them in a question that is held: document 02, A.6.
use Prim.Native.Nat.{ℕ}
use native.Mathlib.Omega.{arith}
use mathlib.Core.Path.{◌≡◌, refl, sym, ap, ◌∙◌}
use mathlib.Core.List.{[]}
use mathlib.Core.Option.{Option, none, some}
use lib.ListN.{length}
use Rattle.logic.specs.Checked.{Checked, ok, refused, ◌>>=◌}
use Rattle.logic.specs.promises.Refusal.{refusal, held}
use Rattle.logic.specs.Model.{Model}
use Rattle.logic.proofs.Checked.{not_ok, ok_same}
use Rattle.blocks.specs.Bytes.{Bytes}
use Rattle.questions.specs.Layout.{Question, question_of}
use Rattle.questions.specs.Children.{AllReached}
use Rattle.questions.proofs.AcceptedFacts.{Accepted, accepted, leftover}
use Rattle.protocol.specs.Calls.{Call, put, Held, Answer, done, refuse, Reply, says, question_for, yields}
use Rattle.protocol.specs.Demand2.{UsedNodes}
use Rattle.protocol.specs.promises.Chains.{do_put, answered, by_chain}
use Rattle.protocol.proofs.AfterEachCall.{Sound}
use Rattle.protocol.proofs.Refusals.{refused_same}
use Rattle.protocol.proofs.FirstGround.{yields_is}

module _ (m : Model) (b : Bytes) {q : Question} (e : question_for m b ≡ ok q) where
  was_accepted : Accepted (length m.states) (length m.actions) m.propositions b
  was_accepted = accepted (length m.states) (length m.actions) m.propositions b (ap refusal e)

  pub read_reached : AllReached b
  read_reached = was_accepted.reached

  read_same : q ≡ question_of b
  read_same = ok_same (sym e ∙ was_accepted.read)

-- What put answers, by what its bytes are read as.
abbrev told : Checked Question → Answer
told c = (answered [] c (λ q. says done)).answer

pub refuse≢done : {k : ℕ} → refuse k ≡ done → ⊥
refuse≢done e = let z : ◌≡◌ {A = ℕ} 0 1 = cc in omega arith

is_read : (c : Checked Question) → told c ≡ done → (q : Question) × (c ≡ ok q)
is_read (ok q) e = (q, refl)
is_read (refused k) e = absurd (refuse≢done e)

is_refused : (c : Checked Question) (k : ℕ) → told c ≡ refuse k → c ≡ refused k
is_refused (ok q) k e = absurd (refuse≢done (sym e))
is_refused (refused j) k e = let h : j ≡ k = cc in ap refused h

-- put reads its bytes for the model that is held.
module _ (h : Held) (b : Bytes) where
  put_read : (yields h (put b)).answer ≡ done → (m : Model) × (q : Question) × (question_for m b ≡ ok q)
  unfolding by_chain do_put
  put_read e = by h.model (is_read (do_put h b) (sym (ap (λ r. r.answer) (yields_is h (put b))) ∙ e))
    where
      by : (o : Option Model) → (q : Question) × ((held 20 o >>= (λ m. question_for m b)) ≡ ok q) → (m : Model) × (q : Question) × (question_for m b ≡ ok q)
      by none w = absurd (not_ok w.1)
      by (some m) w = (m, w.0, w.1)

  put_refused : (yields h (put b)).answer ≡ refuse 13 → (m : Model) × (question_for m b ≡ refused 13)
  unfolding by_chain do_put
  put_refused e = by h.model (is_refused (do_put h b) 13 (sym (ap (λ r. r.answer) (yields_is h (put b))) ∙ e))
    where
      by : (o : Option Model) → (held 20 o >>= (λ m. question_for m b)) ≡ refused 13 → (m : Model) × (question_for m b ≡ refused 13)
      by none w = absurd (let z : ◌≡◌ {A = ℕ} 20 13 = refused_same w in omega (arith, z))
      by (some m) w = (m, w)

pub used_nodes : (h : Held) → Sound h → (reply : Call → Reply) → ((c : Call) → reply c ≡ yields h c) → UsedNodes h reply
used_nodes h s reply yielding =
    record {
      put_done = λ b e. let w = put_read h b (sym (ap (λ r. r.answer) (yielding (put b))) ∙ e) in read_reached w.0 b w.2;
      put_13 = λ b e. let w = put_refused h b (sym (ap (λ r. r.answer) (yielding (put b))) ∙ e) in
          leftover (length w.0.states) (length w.0.actions) w.0.propositions b (ap refusal w.1);
      held_reached = λ m q e f. let c = s.question_read m q e f in (c.0, c.1, read_same m c.0 c.1, read_reached m c.0 c.1);
    }
