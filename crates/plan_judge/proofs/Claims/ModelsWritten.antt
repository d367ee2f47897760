-- Request A.7 of document 02, of the code's calls: "For every accepted model the written bytes are those that were loaded, and loading them
-- again gives the same desk as the first load did. Bytes after the last block are untouched." What write_model answers in other cases is of
-- demands 1 and 2. (Proved in `ModelsWrittenBack`.)
use Prim.Native.Nat.{ℕ, ◌≤◌}
use mathlib.Core.Path.{◌≡◌}
use mathlib.Core.List.{List, ◌∷◌, ◌++◌, Memᴰ}
use mathlib.Core.Option.{none, some}
use lib.ListN.{length, take, drop}
use Rattle.logic.specs.Checked.{ok}
use Rattle.logic.specs.Grounds.{first}
use Rattle.logic.specs.Model.{Model}
use Rattle.blocks.specs.Bytes.{Bytes}
use Rattle.models.specs.Grounds.{model_grounds, read_model}
use Rattle.protocol.specs.Calls.{Call, load, query, write_model, done, written, Reply}
use Rattle.plan_judge.specs.declared.Desk.{Desk}
use Rattle.plan_judge.specs.View.{view}
use Rattle.plan_judge.proofs.Claims.Ran.{Answered, Ran}

-- The reply s, where the buffer was found so, says that b was written: its answer is the number of bytes, b fills the first, and the others stay.
pub record FilledWith (b found : Bytes) (s : Reply) : Type 0 where
  pub number : s.answer ≡ written (length b)
  pub size : length s.buffer ≡ length found
  pub filled : take (length b) s.buffer ≡ b
  pub untouched : drop (length b) s.buffer ≡ drop (length b) found

pub record ModelsWritten : Type 0 where
  -- "For every accepted model the written bytes are those that were loaded": on any desk d, and then into any buffer that is long enough
  pub as_loaded : {b found : Bytes} {d e f : Desk} {r s : Reply} → Answered d (load b) r e → r.answer ≡ done
      → length b ≤ length found → Answered e (query (write_model found)) s f → FilledWith b found s
  -- "and loading them again gives the same desk as the first load did": on any desk g
  pub loaded_again : {b found : Bytes} {d e f g h : Desk} {r s t : Reply} {n : ℕ} → Answered d (load b) r e → r.answer ≡ done
      → Answered e (query (write_model found)) s f → s.answer ≡ written n
      → Answered g (load (take n s.buffer)) t h → (t.answer ≡ done) × (h ≡ e)
  -- after every list of calls, the bytes of the last load that was done: no ground applies to b, and to each load since then some ground does
  pub after_list : (before since : List Call) (b : Bytes) {found : Bytes} {rs : List Reply} {d e : Desk} {s : Reply} → first (model_grounds b) ≡ none
      → ((c : Bytes) → Memᴰ (load c) since → first (model_grounds c) ≡ none → ⊥) → Ran (before ++ (load b ∷ since)) rs d
      → length b ≤ length found → Answered d (query (write_model found)) s e → FilledWith b found s
  -- whatever is written from any desk value, also one put together by hand, is a model that load accepts: the one that the desk holds
  pub of_any_desk : {found : Bytes} {d e : Desk} {s : Reply} {n : ℕ} → Answered d (query (write_model found)) s e → s.answer ≡ written n
      → (b : Bytes) × (m : Model) × ((view d).model ≡ some m) × (read_model b ≡ ok m) × (length b ≡ n) × FilledWith b found s
