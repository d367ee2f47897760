-- The lists of a state's choices, one after the other, are the list of the state.
use Prim.Native.Nat.{ℕ, suc, ◌+◌, ◌≤◌, ◌<◌}
use native.Mathlib.Numerals.{add-one}
use native.Mathlib.Omega.{arith}
use mathlib.Core.Path.{◌≡◌, refl, sym, ap, subst, ◌∙◌}
use mathlib.Core.List.{List, ◌++◌, flat_map}
use lib.IntN.{ℤ}
use lib.ListN.{length, take}
use Rattle.logic.specs.Lists.{count_from, tabulate}
use Rattle.logic.specs.Model.{Step, outcomes}
use Rattle.logic.specs.Limits.{multiply, plan_total}
use Rattle.blocks.specs.Bytes.{Bytes}
use Rattle.models.specs.Layout.{state_count}
use Rattle.prepared_model.specs.promises.Rows.{choices_in, choice_in, outcomes_in, model_in}
use Rattle.exact_plan.specs.promises.Totals.{totals, combined, weighed}
use Rattle.exact_plan.specs.promises.Room.{Room}
use Rattle.evaluation.specs.promises.Worth.{worth_on}
use Rattle.exact_plan.specs.promises.Listing.{Given, Here, Written}
use Rattle.exact_plan.proofs.TotalsByFirstStep.{totals_length, totals_step, choice_length}
use Rattle.exact_plan.proofs.Spans.{flat_map_more, flat_map_within}
use Rattle.exact_plan.proofs.RoomForEach.{room_part}
use Rattle.exact_plan.proofs.PreparedChoices.{all_outcomes}
use Rattle.exact_plan.proofs.ListsWritten.{written_none, written_more, rebased, still}

-- The totals of the plans that begin with the choice c, and the first i choices of a state.
abbrev pub chosen : (m q : Bytes) (start a d : ℕ) (cone : List ℕ) (s j : ℕ) → List ℕ → ℕ → List ℕ
chosen m q start a d cone s j T c = combined (weighed (model_in m) j (worth_on m q start a d cone T)) (outcomes (model_in m) s c)

abbrev pub passed : (m : Bytes) (s i : ℕ) → List ℕ
passed m s i = tabulate i (choice_in m s)

-- The lists of the first i choices stand at `at`.
pub record Listed (m q : Bytes) (start a d : ℕ) (cone : List ℕ) (h s k j at : ℕ) (trail₀ buf₀ trail : List ℕ) (gains : List ℤ) (v buf : List ℕ) (len i : ℕ) : Type 0 where
  pub below : i ≤ choices_in m s
  pub here : Here m q start d cone trail gains v h s k
  pub written : Written (flat_map (chosen m q start a d cone s j (take h trail₀)) (passed m s i)) m q start cone h at trail₀ trail gains v buf₀ buf len
  pub whole : length buf ≡ length buf₀

module _ {m q : Bytes} {start a d : ℕ} {truth cone table : List ℕ} (G : Given m q start a d truth cone table) (k j : ℕ) (step : k ≡ suc j) where
  pub all_chosen : (T : List ℕ) {s : ℕ} → s < state_count m → flat_map (chosen m q start a d cone s j T) (passed m s (choices_in m s)) ≡ totals (model_in m) k s (worth_on m q start a d cone T)
  all_chosen T {s} h =
      let f : List Step → ℕ = worth_on m q start a d cone T in
      ap (flat_map (chosen m q start a d cone s j T)) (sym (G.ready.prepared.choices s h))
      ∙ sym (totals_step (model_in m) j s f)
      ∙ ap (λ n. totals (model_in m) n s f) (sym step)

  pub listed_none : {h s at : ℕ} {trail : List ℕ} {gains : List ℤ} {v buf : List ℕ} → Here m q start d cone trail gains v h s k
      → Listed m q start a d cone h s k j at trail buf trail gains v buf 0 0
  unfolding tabulate count_from flat_map
  listed_none H = record { below = omega arith; here = H; written = written_none H.knows; whole = refl }

  module _ {h s at len i : ℕ} {trail₀ trail : List ℕ} {gains : List ℤ} {v buf₀ buf : List ℕ}
      (R : Room k (plan_total (model_in m) k s) at (length buf₀)) (L : Listed m q start a d cone h s k j at trail₀ buf₀ trail gains v buf len i) where
    abbrev C : ℕ → List ℕ
    C = chosen m q start a d cone s j (take h trail₀)

    abbrev f : List Step → ℕ
    f = worth_on m q start a d cone (take h trail₀)

    all : flat_map C (passed m s (choices_in m s)) ≡ totals (model_in m) k s f
    all = all_chosen (take h trail₀) L.here.inside

    chosen_length : (T : List ℕ) (c : ℕ) → length (chosen m q start a d cone s j T c) ≡ multiply (λ o. plan_total (model_in m) j o.target) (outcomes (model_in m) s c)
    chosen_length T c = choice_length (model_in m) j (worth_on m q start a d cone T) (outcomes (model_in m) s c)

    module _ (g : i < choices_in m s) {n : ℕ} (every : n ≡ outcomes_in m s i) where
      abbrev c : ℕ
      c = choice_in m s i

      -- The first n outcomes are all.
      same : take n (outcomes (model_in m) s c) ≡ outcomes (model_in m) s c
      same = all_outcomes G.ready.prepared s i L.here.inside g every

      within_all : len + length (C c) ≤ plan_total (model_in m) k s
      within_all = omega (arith, L.written.count, flat_map_within C (choice_in m s) i (choices_in m s) g, ap length all, totals_length (model_in m) k s f)

      pub choice_room : Room (j + 1) (multiply (λ o. plan_total (model_in m) j o.target) (take n (outcomes (model_in m) s c))) (at + len) (length buf)
      choice_room =
          subst (λ l. Room (j + 1) (multiply (λ o. plan_total (model_in m) j o.target) l) (at + len) (length buf)) (sym same)
          (subst (λ k. Room k (multiply (λ o. plan_total (model_in m) j o.target) (outcomes (model_in m) s c)) (at + len) (length buf)) (sym (add-one j))
          (rw L.whole
          (room_part (subst (λ n. Room n (plan_total (model_in m) k s) at (length buf₀)) step R) len (omega (arith, within_all, chosen_length (take h trail₀) c)))))

      pub choice_few : (T : List ℕ) {r : ℕ} → r ≡ length (combined (weighed (model_in m) j (worth_on m q start a d cone T)) (take n (outcomes (model_in m) s c))) → len + r ≤ 65536
      choice_few T e =
          omega (
            arith,
            ap (λ l. length (combined (weighed (model_in m) j (worth_on m q start a d cone T)) l)) same,
            chosen_length T c,
            chosen_length (take h trail₀) c,
            within_all,
            R.few,
          )

      pub choice_here : Here m q start d cone trail gains v h s (j + 1)
      choice_here = subst (Here m q start d cone trail gains v h s) (step ∙ sym (add-one j)) L.here

      pub choice_listed : {trail₁ : List ℕ} {gains₁ : List ℤ} {v₁ buf₁ : List ℕ} {r : ℕ}
          → Written (combined (weighed (model_in m) j (worth_on m q start a d cone (take h trail))) (take n (outcomes (model_in m) s c))) m q start cone h (at + len) trail trail₁ gains₁ v₁ buf buf₁ r
          → length buf₁ ≡ length buf → Listed m q start a d cone h s k j at trail₀ buf₀ trail₁ gains₁ v₁ buf₁ (len + r) (i + 1)
      choice_listed {trail₁} {gains₁} {v₁} {buf₁} {r} W e₄ =
          let e : flat_map C (passed m s i) ++ C c ≡ flat_map C (passed m s (i + 1)) =
          sym (ap (λ n. flat_map C (passed m s n)) (add-one i) ∙ flat_map_more C (choice_in m s) i) in
          let W₁ : Written (C c) m q start cone h (at + len) trail₀ trail₁ gains₁ v₁ buf buf₁ r =
          rebased (λ T. chosen m q start a d cone s j T c) L.written.back.kept refl
          (subst (λ l. Written (combined (weighed (model_in m) j (worth_on m q start a d cone (take h trail))) l) m q start cone h (at + len) trail trail₁ gains₁ v₁ buf buf₁ r) same W) in
          record {
            below = omega arith;
            here = still L.here W;
            written = subst (λ l. Written l m q start cone h at trail₀ trail₁ gains₁ v₁ buf₀ buf₁ (len + r)) e (written_more L.written W₁);
            whole = e₄ ∙ L.whole;
          }

    -- All of them.
    pub listed_all : choices_in m s ≤ i → Written (totals (model_in m) k s f) m q start cone h at trail₀ trail gains v buf₀ buf len
    listed_all g =
        let x : i ≡ choices_in m s = omega (arith, L.below) in
        subst (λ l. Written l m q start cone h at trail₀ trail gains v buf₀ buf len) (ap (λ n. flat_map C (passed m s n)) x ∙ all) L.written
