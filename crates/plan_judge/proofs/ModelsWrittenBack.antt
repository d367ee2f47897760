-- Request A.7 of the code (`Claims.ModelsWritten`). A load that is done gives the one desk that holds its bytes and nothing else, whatever desk
-- it was made on; the replies to write_model are those described (demand 1), and they write the blocks that are held.
use Prim.Native.Nat.{ℕ, ◌≤◌}
use native.Mathlib.Omega.{arith}
use mathlib.Core.Path.{◌≡◌, refl, sym, ap, subst, ◌∙◌}
use mathlib.Core.Option.{some}
use lib.ListN.{length, take, drop, length-append, length-drop}
use lib.Seq.{take-append_seam, drop-append_seam}
use Rattle.logic.specs.Checked.{Checked, ok, refused, got}
use Rattle.logic.specs.Model.{Model}
use Rattle.logic.proofs.Checked.{got_some}
use Rattle.blocks.specs.Bytes.{Bytes}
use Rattle.models.specs.Grounds.{read_model}
use Rattle.protocol.specs.Calls.{load, query, write_model, done, written, Reply, wrote}
use Rattle.protocol.proofs.UsedNodes.{refuse≢done}
use Rattle.protocol.proofs.ModelWritten.{blocks_written, was_held, held_last}
use Rattle.plan_judge.specs.declared.Desk.{Desk}
use Rattle.plan_judge.specs.View.{model_bytes, blocks_in, view}
use Rattle.plan_judge.specs.Said.{said_taken}
use Rattle.plan_judge.specs.promises.Values.{taking, holding, loaded_by}
use Rattle.plan_judge.specs.promises.Session.{step}
use Rattle.plan_judge.proofs.DesksHoldHistory.{view_holding}
use Rattle.plan_judge.proofs.Claims.Ran.{Answered}
use Rattle.plan_judge.proofs.Claims.ModelsWritten.{FilledWith, ModelsWritten}
use Rattle.plan_judge.proofs.EveryList.{stepped, every_ran}
use Rattle.plan_judge.proofs.CodeDemand1.{demand_1_of_the_code}

-- ---- a load

-- A load that is done: its bytes are a model's, and the desk is the one with them.
pub record Took (b : Bytes) (e : Desk) : Type 0 where
  pub model : Model
  pub read : read_model b ≡ ok model
  pub desk : e ≡ holding b

took : {b : Bytes} {d e : Desk} {r : Reply} → Answered d (load b) r e → r.answer ≡ done → Took b e
unfolding step loaded_by said_taken
took {b} {d} {e} a i = by (read_model b) refl (sym (ap (λ x. x.answer) (stepped a).0) ∙ i) (stepped a).1
  where
    by : (c : Checked Model) → read_model b ≡ c → said_taken (taking d c (holding b)).answer ≡ done → e ≡ (taking d c (holding b)).desk → Took b e
    by (ok m) z j k = record { model = m; read = z; desk = k }
    by (refused k) z j l = absurd (refuse≢done j)

-- Bytes of a model are loaded, on any desk, with the same desk for all.
loads : {b : Bytes} {m : Model} {d e : Desk} {r : Reply} → read_model b ≡ ok m → Answered d (load b) r e → (r.answer ≡ done) × (e ≡ holding b)
unfolding step loaded_by said_taken
loads {b} {d = d} i a =
    (ap (λ x. x.answer) (stepped a).0 ∙ ap (λ c. said_taken (taking d c (holding b)).answer) i, (stepped a).1 ∙ ap (λ c. (taking d c (holding b)).desk) i)

-- ---- writing

wrote_is : (b found : Bytes) {s : Reply} → length b ≤ length found → s ≡ wrote found b → FilledWith b found s
wrote_is b found l e =
    record {
      number = ap (λ r. r.answer) e;
      size = ap (λ r. length r.buffer) e ∙ length-append b (drop (length b) found) ∙ omega (arith, length-drop (length b) found);
      filled = ap (λ r. take (length b) r.buffer) e ∙ take-append_seam b (drop (length b) found);
      untouched = ap (λ r. drop (length b) r.buffer) e ∙ drop-append_seam b (drop (length b) found);
    }

-- From a desk that holds these blocks of a model.
writes : {b found : Bytes} {d e : Desk} {s : Reply} {m : Model} → (view d).model ≡ some m → (view d).blocks ≡ b → length b ≤ length found
    → Answered d (query (write_model found)) s e → FilledWith b found s
writes {b} {found} {d} {m = m} i j l a =
    wrote_is b found l
    (demand_1_of_the_code.its_result a
    ∙ blocks_written (view d) found m i (subst (λ c. length c ≤ length found) (sym j) l)
    ∙ ap (wrote found) j)

took_writes : {b found : Bytes} {e f : Desk} {s : Reply} → Took b e → length b ≤ length found → Answered e (query (write_model found)) s f → FilledWith b found s
took_writes {b} t l a =
    let v = ap view t.desk ∙ view_holding b t.model t.read in
    writes (ap (λ h. h.model) v) (ap (λ h. h.blocks) v) l a

same_number : {k n : ℕ} → written k ≡ written n → k ≡ n
same_number e = cc

-- What a desk writes, whoever put it together, are the bytes that it has for a model, and they are read as the model that it holds.
module _ (d : Desk) where
  held_read : {m : Model} → (view d).model ≡ some m → read_model (view d).blocks ≡ ok m
  unfolding view blocks_in got
  held_read {m} e =
      let r = got_some (read_model (model_bytes d)) e in
      ap (λ o. read_model (blocks_in o (model_bytes d))) (ap got r) ∙ r

any_desk : {found : Bytes} {d e : Desk} {s : Reply} {n : ℕ} → Answered d (query (write_model found)) s e → s.answer ≡ written n
    → (b : Bytes) × (m : Model) × ((view d).model ≡ some m) × (read_model b ≡ ok m) × (length b ≡ n) × FilledWith b found s
any_desk {found} {d} {n = n} a i =
    let y = demand_1_of_the_code.its_result a in
    let w = was_held (view d) found (sym (ap (λ r. r.answer) y) ∙ i) in
    let b : Bytes = (view d).blocks in
    let x = writes w.0.1 refl w.1 a in
    (b, w.0.0, w.0.1, held_read d w.0.1, same_number (sym x.number ∙ i), x)

-- ---- the whole

again : {b found : Bytes} {d e f g h : Desk} {r s t : Reply} {n : ℕ} → Answered d (load b) r e → r.answer ≡ done
    → Answered e (query (write_model found)) s f → s.answer ≡ written n → Answered g (load (take n s.buffer)) t h → (t.answer ≡ done) × (h ≡ e)
again {b} {found} {e = e} {g = g} {h = h} {s = s} {t = t} {n = n} a i w j x =
    let k = took a i in
    let v = ap view k.desk ∙ view_holding b k.model k.read in
    let l = (was_held (view e) found (sym (ap (λ r. r.answer) (demand_1_of_the_code.its_result w)) ∙ j)).1 in
    let y = took_writes k (subst (λ z. length z.blocks ≤ length found) v l) w in
    let m : take n s.buffer ≡ b = ap (λ z. take z s.buffer) (same_number (sym j ∙ y.number)) ∙ y.filled in
    let z = loads k.read (subst (λ c. Answered g (load c) t h) m x) in
    (z.0, z.1 ∙ sym k.desk)

pub models_written : ModelsWritten
models_written =
    record {
      as_loaded = λ a i l w. took_writes (took a i) l w;
      loaded_again = again;
      after_list = λ before since b e n ran l a.
          let v = every_ran ran in
          let h = held_last before since b e n in
          writes (ap (λ z. z.model) v ∙ h.0) (ap (λ z. z.blocks) v ∙ h.1) l a;
      of_any_desk = any_desk;
    }
