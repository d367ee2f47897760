-- The walk over a plan's histories that stores its choices. Where a plan lies ahead, its first choice is there and is enabled, and
-- a plan lies ahead below each outcome; what is stored below the outcomes, one behind the other, is stored of the plan.
use Prim.Native.Nat.{ℕ, ◌+◌, ◌-◌, ◌≤◌, ◌<◌}
use native.Mathlib.Omega.{arith}
use mathlib.Core.Path.{◌≡◌, refl, sym, ap, ◌∙◌}
use mathlib.Core.Bool.{Bool, true, false}
use mathlib.Core.List.{List}
use lib.Dec.{ltb}
use lib.ListN.{length, drop, get_or, set}
use borrow.Author.Tests.{ltb-true, ltb-false}
use Rattle.logic.specs.Checked.{Checked}
use Rattle.logic.specs.promises.Refusal.{refusal}
use Rattle.logic.specs.Model.{outcomes}
use Rattle.logic.specs.Plan.{Plan}
use Rattle.logic.specs.Choices.{read_each, read_plan}
use Rattle.blocks.specs.Bytes.{Bytes}
use Rattle.models.specs.Layout.{state_count, model_of}
use Rattle.models.specs.Grounds.{read_model}
use Rattle.std.specs.Prelude.{Result, Ok, Err}
use Rattle.refusals.specs.declared.Refusal.{Refusal}
use Rattle.sheets.specs.promises.Ends.{end_of}
use Rattle.sheets.specs.promises.Writer.{place, stored, Ahead, Stored}
use Rattle.sheets.proofs.PlanEnds.{past, end_zero, end_missing, choice_refused, choice_taken, outcome_refused, outcome_read, outcomes_read}
use Rattle.sheets.proofs.StoredChoices.{stored_length, stored_none, stored_one, stored_on}

apart : {x : Result ℕ Refusal} {p : ℕ} {r : Refusal} → Ok p ≡ x → Err r ≡ x → ⊥
apart e f = let z : ◌≡◌ {A = ℕ} 0 1 = cc in omega arith

module _ (b : Bytes) (e : refusal (read_model b) ≡ 0) (cs : List ℕ) where
  pub no_step : (n s p : ℕ) (buf : Bytes) → n ≡ 0 → p ≤ length cs → Stored (read_plan (model_of b) n s (drop p cs)) cs p p buf buf
  no_step n s p buf z l = record { ends = end_zero (model_of b) cs n s p z l; onward = omega arith; bytes = stored_none cs p buf }

  -- ---- a history

  module _ (n s p : ℕ) (buf : Bytes) (h : s < state_count b) (z : n ≡ 0 → ⊥) (w : Ahead (read_plan (model_of b) n s (drop p cs)) cs p buf) where
    abbrev a : ℕ
    a = get_or cs p 0

    abbrev below : Checked (List (Plan (n - 1)) × List ℕ)
    below = read_each (λ o. read_plan (model_of b) (n - 1) o.target) (outcomes (model_of b) s a) (drop (p + 1) cs)

    pub choice_there : p < length cs
    choice_there = by (ltb p (length cs)) refl
      where
        by : (t : Bool) → ltb p (length cs) ≡ t → p < length cs
        by true q = ltb-true p (length cs) q
        by false q = absurd (apart w.ends (end_missing (model_of b) cs n s p z (omega (arith, ltb-false p (length cs) q, w.inside))))

    some : length (outcomes (model_of b) s a) ≡ 0 → ⊥
    some q = apart w.ends (choice_refused b e cs s p h choice_there n z q)

    ends_alike : end_of (length cs) below ≡ end_of (length cs) (read_plan (model_of b) n s (drop p cs))
    ends_alike = choice_taken b e cs s p h choice_there n z some

    pub below_ahead : (buf' : Bytes) → length buf' ≡ length buf → Ahead below cs (p + 1) buf'
    below_ahead buf' l =
        record { end = w.end; ends = w.ends ∙ sym ends_alike; inside = omega (arith, choice_there); few = w.few; room = omega (arith, w.room) }

    pub choice_stored : (r : ℕ) (buf₁ buf₂ : Bytes) → buf₁ ≡ set buf (place p) a → Stored below cs (p + 1) r buf₁ buf₂ → Stored (read_plan (model_of b) n s (drop p cs)) cs p r buf buf₂
    choice_stored r buf₁ buf₂ f t =
        let one : p + 1 - p ≡ 1 = omega arith in
        record {
          ends = t.ends ∙ ends_alike;
          onward = omega (arith, t.onward);
          bytes = stored_on cs p (p + 1) r buf buf₁ buf₂ (omega arith) t.onward (f ∙ stored_one cs p buf ∙ ap (λ i. stored cs p i buf) (sym one)) t.bytes;
        }

-- ---- the outcomes of a choice

module _ (b : Bytes) (cs : List ℕ) (s a k : ℕ) where
  -- What is read below the outcomes from i on, from choice p on.
  abbrev pub from : ℕ → ℕ → Checked (List (Plan k) × List ℕ)
  from i p = read_each (λ o. read_plan (model_of b) k o.target) (drop i (outcomes (model_of b) s a)) (drop p cs)

  -- The choices from p to q are those below the outcomes before i, and they are stored.
  pub record Walked (i p q : ℕ) (buf buf' : Bytes) : Type 0 where
    pub ahead : Ahead (from i q) cs q buf'
    pub same : end_of (length cs) (from i q) ≡ end_of (length cs) (from 0 p)
    pub onward : p ≤ q
    pub bytes : buf' ≡ stored cs p (q - p) buf

  pub walked_none : (p : ℕ) (buf : Bytes) → Ahead (from 0 p) cs p buf → Walked 0 p p buf buf
  walked_none p buf w = record { ahead = w; same = refl; onward = omega arith; bytes = stored_none cs p buf }

module _ (b : Bytes) (cs : List ℕ) (s a k : ℕ) where
  module _ (i p q t : ℕ) (buf buf' : Bytes) (w : Walked b cs s a k i p q buf buf') (l : i < length (outcomes (model_of b) s a))
      (o : t ≡ (get_or (outcomes (model_of b) s a) i (past b s)).target) where
    abbrev next : Checked (Plan k × List ℕ)
    next = read_plan (model_of b) k t (drop q cs)

    pub outcome_ahead : Ahead next cs q buf'
    outcome_ahead = by (end_of (length cs) next) refl
      where
        by : (x : Result ℕ Refusal) → end_of (length cs) next ≡ x → Ahead next cs q buf'
        by (Ok r) f = record { end = r; ends = sym f; inside = w.ahead.inside; few = w.ahead.few; room = w.ahead.room }
        by (Err r) f = absurd (apart w.ahead.ends (sym (outcome_refused b cs s a k i q t l o r (sym f))))

    pub walked_more : (r : ℕ) (buf'' : Bytes) → Stored next cs q r buf' buf'' → Walked b cs s a k (i + 1) p r buf buf''
    walked_more r buf'' x =
        let y = outcome_read b cs s a k i q t l o r w.ahead.inside x.ends in
        let n : length buf'' ≡ length buf' = ap length x.bytes ∙ stored_length cs q (r - q) buf' in
        record {
          ahead = record { end = w.ahead.end; ends = w.ahead.ends ∙ y.1; inside = y.0; few = w.ahead.few; room = omega (arith, w.ahead.room) };
          same = sym y.1 ∙ w.same;
          onward = omega (arith, w.onward, x.onward);
          bytes = stored_on cs p q r buf buf' buf'' w.onward x.onward w.bytes x.bytes;
        }

  pub walked_all : (i p q : ℕ) (buf buf' : Bytes) → Walked b cs s a k i p q buf buf' → length (outcomes (model_of b) s a) ≤ i → Stored (from b cs s a k 0 p) cs p q buf buf'
  walked_all i p q buf buf' w l =
      record { ends = outcomes_read b cs s a k i q l w.ahead.inside ∙ w.same; onward = w.onward; bytes = w.bytes }
