-- "less" and "greater": the plan that a search found is the reason of a no, as it is the plan shown on yes.
use Prim.Native.Nat.{ℕ, ◌^◌, ◌<◌}
use mathlib.Core.Path.{◌≡◌, refl, sym, ap, ap₂, ◌∙◌}
use mathlib.Core.Bool.{Bool, true, false, cond}
use mathlib.Core.List.{List}
use mathlib.Core.Option.{Option, some}
use lib.Dec.{eqb}
use lib.IntN.{ℤ}
use lib.ListN.{length}
use Rattle.logic.specs.Plan.{plans, choices}
use Rattle.logic.specs.Formula.{relation}
use Rattle.logic.specs.Verdict.{Verdict, leader}
use Rattle.logic.specs.Reason.{Reached, Reason, greatest, least, reached, foremost, reason_for, reason_by, reason}
use Rattle.logic.proofs.Search.{extreme}
use Rattle.blocks.specs.Bytes.{Bytes}
use Rattle.blocks.specs.Splice.{splice}
use Rattle.blocks.proofs.Splice.{splice_none}
use Rattle.models.specs.Layout.{state_count, denominator_of}
use Rattle.prepared_model.specs.promises.Rows.{model_in}
use Rattle.prepared_model.proofs.ReadByPlace.{denominator_is}
use Rattle.questions.specs.Layout.{node_of}
use Rattle.prepared_question.specs.promises.Nodes.{formula}
use Rattle.lamp.specs.promises.Codes.{lamp_code}
use Rattle.bounds.specs.promises.Bounded.{Bounded, lowered, lamp_at}
use Rattle.judging.specs.promises.Asked.{Asked}
use Rattle.judging.specs.promises.Decided.{bound_as, best_raised, best_node, Decided}
use Rattle.judging.specs.declared.plans.Decision.{Decision}
use Rattle.judging.proofs.NodeBounds.{sets_at}
use Rattle.judging.proofs.SearchDecides.{shows, denies, same_relation, decides}
use Rattle.judging.proofs.VerdictShown.{led_verdict, no_verdict}
use Rattle.reasons.specs.declared.Explanation.{Explanation}
use Rattle.reasons.specs.declared.Explanation.TheVariants.{Shown, Greatest, Least}
use Rattle.std.specs.Prelude.{Some}
use Rattle.reasons.specs.promises.Told.{side_code, side_choices, reason_code, front, back, explained_code, front_by, back_by, Tells, TellsOf, led_code}

-- The reason of a node by its bound.
pub reason_at : {m q : Bytes} {j : ℕ} → Bounded m q j → (s : ℕ)
    → reason (model_in m) s (formula q j) ≡ reason_for (model_in m) s (bound_as (relation (node_of q j).right) m q j s) (relation (node_of q j).right)
unfolding reason
reason_at {m} b s = ap (reason_by (model_in m) s) (sets_at b s).asks

-- The reason of "less" or "greater", by what is reached.
best_reason : (fewest : Bool) → Option Reached → Reason
best_reason true o = least o
best_reason false o = greatest o

module _ {m q : Bytes} {j : ℕ} (b : Bounded m q j) (s : ℕ) (h : s < state_count m) (e : (node_of q j).right ≡ 2 → ⊥) where
  abbrev n : ℕ
  n = (node_of q j).n

  abbrev fewest : Bool
  fewest = eqb (node_of q j).right 1

  abbrev found : Reached
  found = record { total = lowered m q j (best_raised m q j s fewest); whole = denominator_of m ^ n; choices = choices n (best_node m q j s fewest) }

  -- Among all plans the leader is found.
  foremost_led : foremost (model_in m) s (bound_as (extreme fewest) m q j s) (extreme fewest) (plans (model_in m) n s) ≡ some found
  unfolding foremost leader
  foremost_led =
      ap (reached (model_in m) s (bound_as (extreme fewest) m q j s)) (decides b s h e).first.1
      ∙ ap₂ (λ (w : ℤ) (D : ℕ). some (record { total = w; whole = D ^ n; choices = choices n (best_node m q j s fewest) })) (decides b s h e).weighs (denominator_is m)

  led_for : (u : Bool) (o : Option Reached) → foremost (model_in m) s (bound_as (extreme u) m q j s) (extreme u) (plans (model_in m) n s) ≡ o
      → reason_for (model_in m) s (bound_as (extreme u) m q j s) (extreme u) ≡ best_reason u o
  unfolding reason_for best_reason
  led_for true o i = ap least i
  led_for false o i = ap greatest i

  led_reason : reason (model_in m) s (formula q j) ≡ best_reason fewest (some found)
  led_reason =
      reason_at b s ∙ ap (λ r. reason_for (model_in m) s (bound_as r m q j s) r) (same_relation b s h e) ∙ led_for fewest (some found) foremost_led

-- ---- what is told

-- On a yes with a shown plan.
pub tells_shown : {D k n : ℕ} {v : Verdict} {w : ℤ} {l : _} {cs : List ℕ} {r : Explanation} {u u' z : List ℕ} (e : Reason) → v ≡ shows w l n k cs
    → r ≡ Shown (record { total = w; whole = D ^ n; lamp = lamp_code l; count = k; size = length cs }) → u' ≡ splice u 0 cs → Tells D v e r u u' z z
unfolding explained_code front_by back_by
tells_shown {D} {u = u} {z = z} e i f g =
    record {
      said = f ∙ ap (λ v. explained_code D v e) (sym i);
      beside = g ∙ ap (λ v. splice u 0 (front_by v e)) (sym i);
      behind = sym (splice_none z 0) ∙ ap (λ v. splice z 0 (back_by v e)) (sym i);
    }

-- On a no, with its reason.
pub tells_reason : {D k : ℕ} {v : Verdict} {l : _} {e e' : Reason} {r : Explanation} {u u' z z' : List ℕ} → v ≡ denies k l → e ≡ e'
    → r ≡ reason_code e' → u' ≡ splice u 0 (front e') → z' ≡ splice z 0 (back e') → Tells D v e r u u' z z'
unfolding explained_code front_by back_by
tells_reason {D} {e = e} {u = u} {z = z} i same f g k =
    record {
      said = f ∙ ap reason_code (sym same) ∙ ap (λ v. explained_code D v e) (sym i);
      beside = g ∙ ap (λ e. splice u 0 (front e)) (sym same) ∙ ap (λ v. splice u 0 (front_by v e)) (sym i);
      behind = k ∙ ap (λ e. splice z 0 (back e)) (sym same) ∙ ap (λ v. splice z 0 (back_by v e)) (sym i);
    }

module _ {m q : Bytes} {counts : List ℕ} (asked : Asked m q counts) {j : ℕ} (b : Bounded m q j) (s : ℕ) (h : s < state_count m)
    (e : (node_of q j).right ≡ 2 → ⊥) {scratch places : List ℕ} {r : Decision} (x : Decided m q j s scratch places r) where
  abbrev cs : List ℕ
  cs = choices (node_of q j).n (best_node m q j s (eqb (node_of q j).right 1))

  -- The plan that leads, of these choices.
  pub led_told : {a : Explanation} {u u' : List ℕ} → a ≡ led_code m q j r.met r.raised (length cs) → u' ≡ splice u 0 cs
      → (z : List ℕ) → TellsOf (model_in m) s (formula q j) a u u' z z
  unfolding led_code reason_code side_code side_choices front back best_reason
  led_told {a} {u} {u'} i g z = by r.met refl i
    where
      whole : (model_in m).denominator ^ (node_of q j).n ≡ denominator_of m ^ (node_of q j).n
      whole = ap (λ d. d ^ (node_of q j).n) (denominator_is m)

      weighs : r.raised ≡ best_raised m q j s (eqb (node_of q j).right 1)
      weighs = (x.led e).weighs

      denied : (least_first : Bool) → eqb (node_of q j).right 1 ≡ least_first → r.met ≡ false
          → a ≡ cond least_first (Least (Some (record { total = lowered m q j r.raised; whole = denominator_of m ^ (node_of q j).n; size = length cs }))) (Greatest (Some (record { total = lowered m q j r.raised; whole = denominator_of m ^ (node_of q j).n; size = length cs })))
          → TellsOf (model_in m) s (formula q j) a u u' z z
      denied true f t i =
          tells_reason (no_verdict asked b s h x t) (led_reason b s h e ∙ ap (λ k. best_reason k (some (found b s h e))) f)
          (i ∙ ap (λ w. Least (Some (record { total = lowered m q j w; whole = denominator_of m ^ (node_of q j).n; size = length cs }))) weighs) g (sym (splice_none z 0))
      denied false f t i =
          tells_reason (no_verdict asked b s h x t) (led_reason b s h e ∙ ap (λ k. best_reason k (some (found b s h e))) f)
          (i ∙ ap (λ w. Greatest (Some (record { total = lowered m q j w; whole = denominator_of m ^ (node_of q j).n; size = length cs }))) weighs) g (sym (splice_none z 0))

      by : (t : Bool) → r.met ≡ t → a ≡ led_code m q j t r.raised (length cs) → TellsOf (model_in m) s (formula q j) a u u' z z
      by true t i =
          tells_shown _ (led_verdict asked b s h x e t)
          (i ∙ ap (λ D. Shown (record { total = lowered m q j r.raised; whole = D; lamp = lamp_code (lamp_at m q j (lowered m q j r.raised)); count = 0; size = length cs })) (sym whole)) g
      by false t i = denied (eqb (node_of q j).right 1) refl t i
