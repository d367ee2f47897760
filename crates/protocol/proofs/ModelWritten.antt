-- What write_model writes: the blocks that are held, which after a list of calls are the bytes of the last load that was done.
use Prim.Native.Nat.{ℕ, ◌≤◌}
use native.Mathlib.Omega.{arith}
use mathlib.Core.Path.{◌≡◌, refl, sym, ap, ap₂, ◌∙◌}
use mathlib.Core.Bool.{Bool, true, false}
use mathlib.Core.List.{List, [], ◌∷◌, ◌++◌, Memᴰ}
use mathlib.Core.Option.{Option, none, some}
use lib.Dec.{leb}
use lib.ListN.{length}
use borrow.Author.Tests.{le-leb, leb-true}
use Rattle.logic.specs.Checked.{Checked, ok, refused, ◌>>=◌, ◌>>◌, got, guard}
use Rattle.logic.specs.promises.Refusal.{held}
use Rattle.logic.specs.Grounds.{first}
use Rattle.logic.specs.Model.{Model}
use Rattle.blocks.specs.Bytes.{Bytes}
use Rattle.models.specs.Layout.{model_of}
use Rattle.models.specs.Grounds.{model_grounds, read_model}
use Rattle.protocol.specs.Calls.{Call, load, put, judge, query, write_model, Held, written, refuse, wrote, yields}
use Rattle.protocol.specs.History.{Loaded, with_blocks, loaded, or_else, last_left, held_from, after}
use Rattle.protocol.specs.promises.Chains.{do_write_model, answered, by_chain}
use Rattle.protocol.proofs.AfterEachCall.{held_loaded}
use Rattle.protocol.proofs.FirstGround.{yields_is}
use Rattle.protocol.proofs.Refusals.{decided_none, decided_ok}

-- ---- by what is held

module _ (h : Held) (found : Bytes) where
  -- A held model is written where the buffer is long enough.
  pub blocks_written : (m : Model) → h.model ≡ some m → length h.blocks ≤ length found → yields h (query (write_model found)) ≡ wrote found h.blocks
  unfolding by_chain do_write_model
  blocks_written m e l =
      yields_is h (query (write_model found))
      ∙ ap₂ (λ o t. answered found (held 20 o >>= (λ m. guard 12 t >> ok h.blocks)) (wrote found)) e (le-leb (length h.blocks) (length found) l)

  refuse≢written : {k n : ℕ} → refuse k ≡ written n → ⊥
  refuse≢written e = let z : ◌≡◌ {A = ℕ} 0 1 = cc in omega arith

  -- Where bytes were written, a model is held, and the buffer was long enough.
  pub was_held : {n : ℕ} → (yields h (query (write_model found))).answer ≡ written n → ((m : Model) × (h.model ≡ some m)) × (length h.blocks ≤ length found)
  unfolding by_chain do_write_model
  was_held {n} e = by h.model (leb (length h.blocks) (length found)) refl refl (sym (ap (λ r. r.answer) (yields_is h (query (write_model found)))) ∙ e)
    where
      by : (o : Option Model) (t : Bool) → h.model ≡ o → leb (length h.blocks) (length found) ≡ t
          → (answered found (held 20 o >>= (λ m. guard 12 t >> ok h.blocks)) (wrote found)).answer ≡ written n
          → ((m : Model) × (h.model ≡ some m)) × (length h.blocks ≤ length found)
      by none t i j z = absurd (refuse≢written z)
      by (some m) false i j z = absurd (refuse≢written z)
      by (some m) true i j z = ((m, i), leb-true _ _ j)

-- ---- by the history

-- Bytes to which no ground applies are read, and no others.
pub load_accepted : (b : Bytes) → first (model_grounds b) ≡ none → read_model b ≡ ok (model_of b)
unfolding read_model
load_accepted b e = decided_none (model_of b) (model_grounds b) e

no_ground : (b : Bytes) {m : Model} → read_model b ≡ ok m → first (model_grounds b) ≡ none
unfolding read_model
no_ground b e = (decided_ok (model_of b) (model_grounds b) e).0

-- No call of the list loads anything that is accepted.
abbrev pub NoneLoaded : List Call → Type 0
NoneLoaded cs = (c : Bytes) → Memᴰ (load c) cs → first (model_grounds c) ≡ none → ⊥

-- Then none of them leaves a model.
leaves_none : (c : Call) → ((b : Bytes) → load b ≡ c → first (model_grounds b) ≡ none → ⊥) → loaded c ≡ none
unfolding loaded got
leaves_none (load b) n = by (read_model b) refl
  where
    by : (r : Checked Model) → read_model b ≡ r → got (with_blocks b r) ≡ none
    by (ok m) e = absurd (n b refl (no_ground b e))
    by (refused k) e = refl
leaves_none (put b) n = refl
leaves_none judge n = refl
leaves_none (query c) n = refl

none_left : (cs : List Call) → NoneLoaded cs → last_left loaded cs ≡ none
unfolding last_left or_else
none_left [] n = refl
none_left (c ∷ cs) n =
    ap₂ (λ o p. or_else o p cs) (none_left cs (λ b i. n b (Memᴰ.tail i)))
    (leaves_none c (λ b e. n b (Memᴰ.head e)))

pub last_loaded : (before since : List Call) (b : Bytes) → first (model_grounds b) ≡ none → NoneLoaded since
    → last_left loaded (before ++ (load b ∷ since)) ≡ some (record { blocks = b; model = model_of b }, since)
unfolding last_left or_else loaded got
last_loaded [] since b e n = ap₂ (λ o r. or_else o (got (with_blocks b r)) since) (none_left since n) (load_accepted b e)
last_loaded (c ∷ before) since b e n = ap (λ o. or_else o (loaded c) (before ++ (load b ∷ since))) (last_loaded before since b e n)

pub held_last : (before since : List Call) (b : Bytes) → first (model_grounds b) ≡ none → NoneLoaded since
    → ((after (before ++ (load b ∷ since))).model ≡ some (model_of b)) × ((after (before ++ (load b ∷ since))).blocks ≡ b)
unfolding after held_from
held_last before since b e n =
    let l : Loaded = record { blocks = b; model = model_of b } in
    let i = last_loaded before since b e n in
    let w = held_loaded l _ in
    (ap (λ o. (held_from o).model) i ∙ w.0, ap (λ o. (held_from o).blocks) i ∙ w.1)
