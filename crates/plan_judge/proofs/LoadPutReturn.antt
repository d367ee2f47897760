-- What load and put return, at each return of the code: a refusal's number is that of the first ground, and the desk written is the
-- definition's.
use Prim.Native.Nat.{ℕ, zero, suc, ◌*◌, ◌-◌, ◌/◌, ◌≤◌, ◌<◌, min}
use native.Mathlib.Omega.{arith}
use mathlib.Core.Path.{◌≡◌, refl, sym, ap, ap₂, ◌∙◌}
use mathlib.Core.Bool.{Bool, true, false, cond}
use mathlib.Core.List.{◌++◌}
use mathlib.Core.Option.{none, some}
use lib.Dec.{eqb, leb}
use lib.ListN.{length, take, drop, replicate, length-take}
use lib.Seq.{take_all, get_or-take}
use borrow.Author.Tests.{eq-eqb, ne_eqb, eqb-true, leb-true, leb-false}
use Rattle.std.specs.Prelude.{Some, Ok, Err}
use Rattle.refusals.specs.declared.Refusal.{Refusal}
use Rattle.refusals.specs.declared.Refusal.TheVariants.{NoModel}
use Rattle.refusals.specs.Number.{number}
use Rattle.refusals.specs.promises.Named.{named}
use Rattle.refusals.proofs.Named.{named_number, number_some}
use Rattle.logic.specs.Checked.{Checked, ok, refused, ◌>>=◌, got}
use Rattle.logic.specs.promises.Refusal.{refusal, held}
use Rattle.logic.specs.Model.{Model}
use Rattle.logic.proofs.Tests.{length_tabulate}
use Rattle.blocks.specs.Bytes.{Bytes, byte}
use Rattle.models.specs.Layout.{model_of}
use Rattle.models.specs.Grounds.{read_model}
use Rattle.models.proofs.GroundsPassed.{passed_all, read_passed}
use Rattle.models.proofs.ModelOfBytes.{states_held}
use Rattle.questions.specs.Layout.{Question, question_of}
use Rattle.questions.specs.Grounds.{read_question}
use Rattle.questions.proofs.AcceptedFacts.{accepted}
use Rattle.protocol.specs.Calls.{question_for}
use Rattle.protocol.specs.promises.Chains.{do_put}
use Rattle.plan_judge.specs.declared.Desk.{Desk}
use Rattle.plan_judge.specs.View.{model_bytes, view}
use Rattle.plan_judge.specs.promises.State.{held_size}
use Rattle.plan_judge.specs.promises.Values.{padded, nothing, taking, holding, loaded_by, asking, put_by}
use Rattle.plan_judge.proofs.DesksHoldHistory.{whole_length, model_length, question_length}

-- ---- refusals and values

taking_refused : {A : Type 0} (d e : Desk) (c : Checked A) (r : Refusal) → number r ≡ refusal c → record { answer = Err r; desk = d } ≡ taking d c e
taking_refused d e (ok a) r i = absurd (number_some r i)
taking_refused d e (refused j) r i = ap (λ x. record { answer = Err x; desk = d }) (sym (named_number r) ∙ ap named i)

taking_done : {A : Type 0} (d e : Desk) (c : Checked A) {a : A} → c ≡ ok a → record { answer = Ok tt; desk = e } ≡ taking d c e
taking_done d e c h = sym (ap (λ z. taking d z e) h)

drop_zeros : (n m : ℕ) → drop n (replicate m 0) ≡ replicate {A = ℕ} (m - n) 0
drop_zeros zero m = let e : m ≡ m - 0 = omega arith in ap (λ k. replicate k 0) e
drop_zeros (suc n) zero = let e : 0 ≡ 0 - suc n = omega arith in ap (λ k. replicate k 0) e
drop_zeros (suc n) (suc m) = let e : m - n ≡ suc m - suc n = omega arith in drop_zeros n m ∙ ap (λ k. replicate k 0) e

-- Bytes copied to the front of zeros.
pub padded_copy : (n : ℕ) (b a : Bytes) → a ≡ b ++ drop (length b) (replicate n 0) → a ≡ padded n b
unfolding padded
padded_copy n b a e = e ∙ ap (λ z. b ++ z) (drop_zeros (length b) n)

-- ---- load

module _ (d : Desk) (b : Bytes) where
  pub load_refused : (r : Refusal) → number r ≡ refusal (read_model b) → record { answer = Err r; desk = d } ≡ loaded_by d b
  unfolding loaded_by
  load_refused r e = taking_refused d (holding b) (read_model b) r e

  module _ (e : refusal (read_model b) ≡ 0) where
    model_read : read_model b ≡ ok (model_of b)
    model_read = read_passed b (passed_all b e)

    -- The empty desk with this model.
    abbrev pub with_model : Bytes → Desk → Desk
    with_model a e = record { blocks = length b / 512; model = a; question = e.question; verdict = e.verdict; choices = e.choices }

    pub load_done : (a : Bytes) → a ≡ padded 6144 b → (e : Desk) → e ≡ nothing → record { answer = Ok tt; desk = with_model a e } ≡ loaded_by d b
    unfolding loaded_by holding nothing
    load_done a i e j =
        ap₂ (λ m e. record { answer = Ok tt; desk = with_model m e }) i j
        ∙ taking_done d (holding b) (read_model b) model_read

    pub load_fits : length b ≤ 6144
    load_fits = let w = whole_length 2 12 b (passed_all b e).whole in omega (arith, w.0, w.2)

-- ---- the model that a desk holds

take_short : (n : ℕ) (l : Bytes) → take (min n (length l)) l ≡ take n l
take_short n l = by (leb n (length l)) refl
  where
    by : (t : Bool) → leb n (length l) ≡ t → take (min n (length l)) l ≡ take n l
    by true e = let h = leb-true n (length l) e in let m : min n (length l) ≡ n = omega arith in ap (λ k. take k l) m
    by false e =
        let h = leb-false n (length l) e in
        let m : min n (length l) ≡ length l = omega arith in
        ap (λ k. take k l) m ∙ take_all (length l) l (omega arith) ∙ sym (take_all n l (omega arith))

-- The part that is cut is what the desk says it has.
pub said_cut : (l : Bytes) (blocks n : ℕ) → n ≡ min (512 * blocks) (length l) → take n l ≡ take (512 * blocks) l
said_cut l blocks n e = ap (λ k. take k l) e ∙ take_short (512 * blocks) l

pub held_refused : (l : Bytes) (blocks k : ℕ) → k ≡ refusal (read_model (take (512 * blocks) l)) → (k ≡ 0 → ⊥) → 0 ≡ held_size l blocks
unfolding held_size
held_refused l blocks k e h = sym (ap (λ t. cond t (length (take (512 * blocks) l)) 0) (ne_eqb (refusal (read_model (take (512 * blocks) l))) 0 (λ z. h (e ∙ z))))

pub held_whole : (l : Bytes) (blocks n : ℕ) → n ≡ min (512 * blocks) (length l) → refusal (read_model (take (512 * blocks) l)) ≡ 0 → n ≡ held_size l blocks
unfolding held_size
held_whole l blocks n e h =
    e ∙ sym (length-take (512 * blocks) l) ∙ sym (ap (λ t. cond t (length (take (512 * blocks) l)) 0) (eq-eqb (refusal (read_model (take (512 * blocks) l))) 0 h))

-- A desk holds no model where no byte is held, else the model of its bytes.
module _ (d : Desk) where
  abbrev pub said_bytes : Bytes
  said_bytes = take (512 * d.blocks) d.model

  -- The part of the desk's array that is cut is what it says.
  module _ (k : length d.model ≡ 6144) (n : ℕ) (e : n ≡ min (512 * d.blocks) 6144) where
    pub cut_inside : n ≤ length d.model
    cut_inside = omega arith

    pub cut_said : take n d.model ≡ said_bytes
    cut_said = said_cut d.model d.blocks n (e ∙ ap (λ l. min (512 * d.blocks) l) (sym k))

  pub model_none : held_size d.model d.blocks ≡ 0 → (view d).model ≡ none
  unfolding view model_bytes held_size got
  model_none e = by (read_model said_bytes) refl
    where
      by : (c : Checked Model) → read_model said_bytes ≡ c → got c ≡ none
      by (refused k) i = refl
      by (ok m) i =
          let n = model_length said_bytes i in
          let z : length said_bytes ≡ 0 = sym (ap (λ c. cond (eqb (refusal c) 0) (length said_bytes) 0) i) ∙ e in
          absurd (omega (arith, n.0, n.1))

  module _ (h : held_size d.model d.blocks ≡ 0 → ⊥) where
    pub model_passed : refusal (read_model said_bytes) ≡ 0
    unfolding held_size
    model_passed = by (eqb (refusal (read_model said_bytes)) 0) refl
      where
        by : (t : Bool) → eqb (refusal (read_model said_bytes)) 0 ≡ t → refusal (read_model said_bytes) ≡ 0
        by true e = eqb-true _ _ e
        by false e = absurd (h (ap (λ t. cond t (length said_bytes) 0) e))

    abbrev pub held_model : Model
    held_model = model_of said_bytes

    pub model_some : (view d).model ≡ some held_model
    unfolding view model_bytes got
    model_some = ap got (read_passed said_bytes (passed_all said_bytes model_passed))

    -- The numbers of states, actions and propositions stand in the desk's bytes.
    pub said_byte : (i : ℕ) → i < 1024 → byte said_bytes i ≡ byte d.model i
    said_byte i l =
        let n = whole_length 2 12 said_bytes (passed_all said_bytes model_passed).whole in
        get_or-take (512 * d.blocks) d.model i 0 (omega (arith, n.0, n.1, length-take (512 * d.blocks) d.model))

    module _ (b : Bytes) where
      abbrev pub put_question : Checked Question
      put_question = read_question (byte d.model 2) (byte d.model 3) (byte d.model 4) b

      pub question_is : question_for held_model b ≡ put_question
      unfolding model_of
      question_is =
          ap₂ (λ S A. read_question S A (byte said_bytes 4) b) (states_held said_bytes ∙ said_byte 2 (omega arith)) (length_tabulate _ (byte said_bytes 3) ∙ said_byte 3 (omega arith))
          ∙ ap (λ N. read_question (byte d.model 2) (byte d.model 3) N b) (said_byte 4 (omega arith))

      pub said_question : put_question ≡ read_question (byte said_bytes 2) (byte said_bytes 3) (byte said_bytes 4) b
      said_question =
          sym
          (ap₂ (λ S A. read_question S A (byte said_bytes 4) b) (said_byte 2 (omega arith)) (said_byte 3 (omega arith))
          ∙ ap (λ N. read_question (byte d.model 2) (byte d.model 3) N b) (said_byte 4 (omega arith)))

      put_is : do_put (view d) b ≡ put_question
      unfolding do_put
      put_is = ap (λ o. held 20 o >>= (λ m. question_for m b)) model_some ∙ question_is

      pub put_refused : (r : Refusal) → number r ≡ refusal put_question → record { answer = Err r; desk = d } ≡ put_by d b
      unfolding put_by
      put_refused r e = taking_refused d (asking d b) (do_put (view d) b) r (e ∙ ap refusal (sym put_is))

      module _ (e : refusal put_question ≡ 0) where
        question_read : put_question ≡ ok (question_of b)
        question_read = (accepted (byte d.model 2) (byte d.model 3) (byte d.model 4) b e).read

        pub put_fits : length b ≤ 512
        put_fits = let l = question_length (byte d.model 2) (byte d.model 3) (byte d.model 4) b question_read in omega arith

        -- The desk's model with this question, and nothing else.
        abbrev pub with_question : Bytes → Desk → Desk
        with_question a e = record { blocks = d.blocks; model = d.model; question = Some a; verdict = e.verdict; choices = e.choices }

        pub put_done : (a : Bytes) → a ≡ padded 512 b → (e : Desk) → e ≡ nothing → record { answer = Ok tt; desk = with_question a e } ≡ put_by d b
        unfolding put_by asking nothing
        put_done a i e j =
            ap₂ (λ z e. record { answer = Ok tt; desk = with_question z e }) i j
            ∙ taking_done d (asking d b) (do_put (view d) b) (put_is ∙ question_read)

  pub put_unheld : (b : Bytes) → held_size d.model d.blocks ≡ 0 → record { answer = Err NoModel; desk = d } ≡ put_by d b
  unfolding put_by do_put
  put_unheld b e = sym (ap (λ o. taking d (held 20 o >>= (λ m. question_for m b)) (asking d b)) (model_none e))
