-- What write_model returns and leaves in the buffer, at each return of the code: ground 20 where no byte of a model is held, then 12, or the
-- bytes that the desk says it has.
use Prim.Native.Nat.{ℕ, ◌*◌, ◌≤◌, ◌<◌}
use mathlib.Core.Path.{◌≡◌, sym, ap, ap₂, ◌∙◌}
use mathlib.Core.Bool.{cond}
use mathlib.Core.List.{◌++◌}
use lib.Dec.{leb}
use lib.ListN.{length, take, drop, length-take}
use borrow.Author.Tests.{eq-eqb, le-leb, lt-leb}
use Rattle.std.specs.Prelude.{Ok, Err}
use Rattle.refusals.specs.declared.Refusal.TheVariants.{SmallBuffer, NoModel}
use Rattle.logic.specs.Checked.{Checked, ok, ◌>>=◌, ◌>>◌, guard}
use Rattle.logic.specs.promises.Refusal.{held}
use Rattle.blocks.specs.Bytes.{Bytes}
use Rattle.protocol.specs.promises.Chains.{do_write_model}
use Rattle.plan_judge.specs.declared.Desk.{Desk}
use Rattle.plan_judge.specs.View.{model_bytes, blocks_in, view}
use Rattle.plan_judge.specs.promises.State.{held_size}
use Rattle.plan_judge.specs.promises.Values.{writing, filling, model_written_by, model_filled_by}
use Rattle.plan_judge.proofs.LoadPutReturn.{said_bytes, said_cut, model_none, model_passed, model_some}

-- What is returned and left, by the chain of the call.
module _ (d : Desk) (a : Bytes) {c : Checked Bytes} (e : do_write_model (view d) (length a) ≡ c) where
  replied : (writing c ≡ model_written_by d (length a)) × (filling a c ≡ model_filled_by d a)
  unfolding model_written_by model_filled_by
  replied = (sym (ap writing e), sym (ap (filling a) e))

module _ (d : Desk) (a : Bytes) where
  pub write_model_none : held_size d.model d.blocks ≡ 0 → (Err NoModel ≡ model_written_by d (length a)) × (a ≡ model_filled_by d a)
  unfolding do_write_model
  write_model_none e = replied d a (ap (λ o. held 20 o >>= (λ m. guard 12 (leb (length (view d).blocks) (length a)) >> ok (view d).blocks)) (model_none d e))

  module _ (n : ℕ) (e : n ≡ held_size d.model d.blocks) (some : n ≡ 0 → ⊥) where
    passed : held_size d.model d.blocks ≡ 0 → ⊥
    passed z = some (e ∙ z)

    -- The bytes that are held are those that the desk says it has, and n is their number.
    held_are : n ≡ length (said_bytes d)
    unfolding held_size
    held_are = e ∙ ap (λ t. cond t (length (said_bytes d)) 0) (eq-eqb _ 0 (model_passed d passed))

    pub cut_held : take n d.model ≡ said_bytes d
    cut_held = said_cut d.model d.blocks n (held_are ∙ length-take (512 * d.blocks) d.model)

    pub cut_size : n ≡ length (take n d.model)
    cut_size = held_are ∙ ap length (sym cut_held)

    blocks_are : (view d).blocks ≡ said_bytes d
    unfolding view blocks_in model_bytes
    blocks_are = ap (λ o. blocks_in o (said_bytes d)) (model_some d passed)

    -- Past ground 20.
    fitting : do_write_model (view d) (length a) ≡ (guard 12 (leb n (length a)) >> ok (said_bytes d))
    unfolding do_write_model
    fitting =
        ap₂ (λ o b. held 20 o >>= (λ m. guard 12 (leb (length b) (length a)) >> ok b)) (model_some d passed) blocks_are
        ∙ ap (λ k. guard 12 (leb k (length a)) >> ok (said_bytes d)) (sym held_are)

    pub write_model_short : length a < n → (Err SmallBuffer ≡ model_written_by d (length a)) × (a ≡ model_filled_by d a)
    write_model_short l = replied d a (fitting ∙ ap (λ t. guard 12 t >> ok (said_bytes d)) (lt-leb n (length a) l))

    pub write_model_done : n ≤ length a → (left : Bytes) → left ≡ take n d.model ++ drop (length (take n d.model)) a
        → (Ok n ≡ model_written_by d (length a)) × (left ≡ model_filled_by d a)
    write_model_done l left i =
        let r = replied d a (fitting ∙ ap (λ t. guard 12 t >> ok (said_bytes d)) (le-leb n (length a) l)) in
        (ap Ok held_are ∙ r.0, i ∙ ap (λ b. b ++ drop (length b) a) cut_held ∙ r.1)
