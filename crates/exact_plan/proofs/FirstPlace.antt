-- The first place of a number in a list, in lists one after the other, and among equal numbers; and the search at the start, before any step.
use Prim.Native.Nat.{ℕ, ◌+◌, ◌-◌, ◌*◌, ◌≤◌, ◌<◌}
use native.Mathlib.Nat.{zero-add, lt_of_not-le}
use native.Mathlib.Decide.{dec_le}
use native.Mathlib.Omega.{arith}
use mathlib.Core.Path.{◌≡◌, refl, sym, ap, subst, ◌∙◌}
use mathlib.Core.List.{List, [], ◌++◌}
use lib.IntN.{ℤ}
use lib.ListN.{length, take, get_or, replicate, length-append, length-replicate, get_or-replicate, get_or-append}
use lib.Seq.{get_or-append-add}
use Rattle.std.specs.Prelude.{Option, None, Some, unwrap_or}
use Rattle.logic.specs.Limits.{plan_total}
use Rattle.blocks.specs.Bytes.{Bytes}
use Rattle.prepared_model.specs.promises.Rows.{model_in}
use Rattle.evaluation.specs.promises.Path.{steps_of, state_after}
use Rattle.evaluation.specs.promises.Known.{Knows}
use Rattle.evaluation.specs.promises.Worth.{worth_of, worth_on}
use Rattle.exact_plan.specs.promises.Totals.{totals}
use Rattle.exact_plan.specs.promises.Listing.{Given, Here, Written, Listed, First, Found}

-- The place, or the number of all where there is none.
pub place_or_all : {l : List ℕ} {x all : ℕ} (o : Option ℕ) → all ≡ length l → Found l x o → First l x (unwrap_or o all)
place_or_all {l} {x} None e F = subst (First l x) (sym e) F
place_or_all (Some r) e F = F.1

-- ---- in lists one after the other

pub first_none : {x : ℕ} → First [] x 0
first_none = record { few = omega arith; none_before = λ j l. absurd (omega arith); there = λ l. absurd (omega arith) }

module _ {x : ℕ} {xs : List ℕ} (ys : List ℕ) where
  -- Found in the first list.
  pub first_kept : {r : ℕ} → First xs x r → r < length xs → First (xs ++ ys) x r
  first_kept {r} F h =
      record {
        few = omega (arith, length-append xs ys);
        none_before = λ j l e. F.none_before j l (sym (get_or-append xs ys 0 j (omega arith)) ∙ e);
        there = λ _. get_or-append xs ys 0 r h ∙ F.there h;
      }

  -- Passed over in the first list.
  pub first_more : {r : ℕ} → First xs x (length xs) → First ys x r → First (xs ++ ys) x (length xs + r)
  first_more {r} F R =
      record {
        few = omega (arith, length-append xs ys, R.few);
        none_before = λ j l. before j l (dec_le (length xs) j);
        there = λ l. get_or-append-add xs ys r 0 ∙ R.there (omega (arith, length-append xs ys));
      }
    where
      before : (j : ℕ) → j < length xs + r → Dec (length xs ≤ j) → get_or (xs ++ ys) j 0 ≡ x → ⊥
      before j l (yes h) e =
          let z : length xs + (j - length xs) ≡ j = omega arith in
          R.none_before (j - length xs) (omega arith) (sym (get_or-append-add xs ys (j - length xs) 0) ∙ ap (λ n. get_or (xs ++ ys) n 0) z ∙ e)
      before j l (no h) e =
          let g : j < length xs = lt_of_not-le h in
          F.none_before j g (sym (get_or-append xs ys 0 j g) ∙ e)

-- ---- among equal numbers

module _ (n v x : ℕ) where
  pub first_of_equal : v ≡ x → First (replicate n v) x 0
  first_of_equal e =
      record { few = omega arith; none_before = λ j l. absurd (omega arith); there = λ l. get_or-replicate n 0 v 0 (omega (arith, length-replicate n v)) ∙ e }

  pub none_of_equal : (v ≡ x → ⊥) → First (replicate n v) x n
  none_of_equal h =
      record {
        few = omega (arith, length-replicate n v);
        none_before = λ j l e. h (sym (get_or-replicate n j v 0 l) ∙ e);
        there = λ l. absurd (omega (arith, length-replicate n v));
      }

-- ---- the start

module _ {m q : Bytes} {start a d : ℕ} {truth cone table : List ℕ} (G : Given m q start a d truth cone table) where
  pub begins : {n : ℕ} (trail : List ℕ) (gains : List ℤ) (v : List ℕ) → d ≤ n → n ≤ 6 → Knows m q start cone [] gains v
      → Here m q start d cone trail gains v 0 start n
  unfolding state_after
  begins trail gains v h k K = record { steps = omega arith; deep = omega arith; inside = G.ready.state; whole = refl; state = refl; knows = K }

  pub start_worth : (trail : List ℕ) → worth_on m q start a d cone (take 0 trail) ≡ worth_of m q start a d cone
  unfolding steps_of
  start_worth trail = refl

  -- The list from the start stands at the front of the buffer.
  pub all_listed : (n : ℕ) {r : ℕ} {trail trail₁ : List ℕ} {gains₁ : List ℤ} {v₁ buf buf₁ : List ℕ}
      → Written (totals (model_in m) n start (worth_on m q start a d cone (take 0 trail))) m q start cone 0 0 trail trail₁ gains₁ v₁ buf buf₁ r
      → r ≤ length buf₁ → Listed (totals (model_in m) n start (worth_of m q start a d cone)) buf₁ r
  unfolding steps_of
  all_listed n {r} {buf₁ = buf₁} W fits =
      let X : List ℕ = totals (model_in m) n start (worth_of m q start a d cone) in
      record { count = W.count; fits = fits; listed = ap (λ k. take k buf₁) (W.count ∙ sym (zero-add (length X))) ∙ W.listed }

  -- The table's number of plans is their number.
  pub counted : (n : ℕ) {all : ℕ} → n ≤ 6 → plan_total (model_in m) n start ≤ 65536 → all ≡ get_or table (32 * n + start) 0 → all ≡ plan_total (model_in m) n start
  counted n few within e = e ∙ G.counts.right n start few G.ready.state within
