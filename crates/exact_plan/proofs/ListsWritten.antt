-- Lists written while a path is followed: one after the other, where the worth of the paths is decided, and below an outcome.
use Prim.Native.Nat.{ℕ, ◌+◌, ◌*◌, ◌^◌, ◌≤◌, ◌<◌}
use native.Mathlib.Nat.{add-zero}
use native.Mathlib.Omega.{arith}
use mathlib.Core.Path.{◌≡◌, refl, sym, ap, ap₂, subst, ◌∙◌}
use mathlib.Core.List.Memᴰ
use mathlib.Core.List.{List, [], ◌∷◌, ◌++◌, append_assoc, append-nil}
use lib.IntN.{ℤ}
use lib.ListN.{length, take, get_or, replicate, length-append}
use Rattle.logic.specs.Model.{Step}
use Rattle.logic.specs.Limits.{plan_total}
use Rattle.blocks.specs.Bytes.{Bytes}
use Rattle.blocks.specs.Splice.{splice}
use Rattle.blocks.proofs.Splice.{take_written}
use Rattle.models.specs.Layout.{state_count, denominator_of}
use Rattle.prepared_model.specs.promises.Rows.{step_in, Offers, model_in}
use Rattle.prepared_model.proofs.ReadByPlace.{states_are, denominator_is}
use Rattle.prepared_model.proofs.PlacesInRange.{read_range}
use Rattle.evaluation.specs.promises.Known.{Knows, Offered, Stepped}
use Rattle.evaluation.specs.promises.Worth.{worth_of, worth_on, worth_known}
use Rattle.evaluation.proofs.StepUndone.{back_none, back_same, knows_back, state_back, step_back}
use Rattle.evaluation.proofs.StepTaken.{state_stepped, whole_stepped, path_stepped}
use Rattle.evaluation.proofs.PathWorth.{worth_on_small, worth_readable, worth_here}
use Rattle.exact_plan.specs.promises.Totals.{totals}
use Rattle.exact_plan.specs.promises.Room.{Room}
use Rattle.exact_plan.specs.promises.Listing.{Given, Here, Written, Decides}
use Rattle.exact_plan.proofs.TotalsByFirstStep.{totals_length}
use Rattle.exact_plan.proofs.TotalsBounded.{totals_alike}

-- ---- one after the other

module _ {m q : Bytes} {start : ℕ} {cone : List ℕ} {h : ℕ} {trail : List ℕ} where
  pub written_none : {at : ℕ} {gains : List ℤ} {v b : List ℕ} → Knows m q start cone (take h trail) gains v → Written [] m q start cone h at trail trail gains v b b 0
  written_none {at} {gains} {v} {b} K =
      record { back = back_none K; count = refl; listed = ap (λ n. take n b) (add-zero at) ∙ sym (append-nil (take at b)) }

  -- On a path with the same first h steps, in a buffer with the same numbers before the place.
  pub rebased : (X : List ℕ → List ℕ) {at r : ℕ} {trail₁ trail₂ : List ℕ} {gains₂ : List ℤ} {v₂ b b₁ b₂ : List ℕ}
      → take h trail₁ ≡ take h trail → take at b₁ ≡ take at b
      → Written (X (take h trail₁)) m q start cone h at trail₁ trail₂ gains₂ v₂ b₁ b₂ r
      → Written (X (take h trail)) m q start cone h at trail trail₂ gains₂ v₂ b b₂ r
  rebased X {at} {trail₁ = trail₁} {gains₂ = gains₂} {v₂} {b} {b₁} {b₂} e f W =
      record {
        back = back_same e W.back;
        count = W.count ∙ ap (λ T. length (X T)) e;
        listed = subst (λ T. take (at + length (X T)) b₂ ≡ take at b ++ X T) e (W.listed ∙ ap (λ l. l ++ X (take h trail₁)) f);
      }

  pub written_more : {xs ys : List ℕ} {at r r₂ : ℕ} {trail₁ trail₂ : List ℕ} {gains₁ gains₂ : List ℤ} {v₁ v₂ b b₁ b₂ : List ℕ}
      → Written xs m q start cone h at trail trail₁ gains₁ v₁ b b₁ r
      → Written ys m q start cone h (at + r) trail trail₂ gains₂ v₂ b₁ b₂ r₂
      → Written (xs ++ ys) m q start cone h at trail trail₂ gains₂ v₂ b b₂ (r + r₂)
  written_more {xs} {ys} {at} {r} {b = b} {b₁} {b₂} W Y =
      let n : length (xs ++ ys) ≡ length xs + length ys = length-append xs ys in
      let i : at + length (xs ++ ys) ≡ at + r + length ys = omega (arith, W.count) in
      record {
        back = Y.back;
        count = omega (arith, W.count, Y.count);
        listed = ap (λ k. take k b₂) i ∙ Y.listed ∙ ap (λ k. take (at + k) b₁ ++ ys) W.count ∙ ap (λ l. l ++ ys) W.listed ∙ append_assoc (take at b) xs ys;
      }

  -- What is known of the path is as before.
  pub still : {xs : List ℕ} {d s k at r : ℕ} {gains : List ℤ} {v : List ℕ} {trail₁ : List ℕ} {gains₁ : List ℤ} {v₁ b b₁ : List ℕ}
      → Here m q start d cone trail gains v h s k → Written xs m q start cone h at trail trail₁ gains₁ v₁ b b₁ r
      → Here m q start d cone trail₁ gains₁ v₁ h s k
  still H W =
      record {
        steps = H.steps;
        deep = H.deep;
        inside = H.inside;
        whole = ap length W.back.kept ∙ H.whole;
        state = state_back W.back ∙ H.state;
        knows = knows_back W.back;
      }

module _ {m q : Bytes} {start a d : ℕ} {truth cone table : List ℕ} (G : Given m q start a d truth cone table) where
  pub state_small : {s : ℕ} → s < state_count m → s < 32
  state_small h = omega (arith, G.ready.prepared.states)

  pub reached : (s i o : ℕ) → s < state_count m → Offers m s i o → (step_in m s i o).target < state_count m
  reached s i o h u = G.ready.prepared.inside s i o h u

  module _ {trail : List ℕ} {gains : List ℤ} {v : List ℕ} {h s k : ℕ} (H : Here m q start d cone trail gains v h s k) where
    pub within : (i o : ℕ) → Offers m s i o → (s < 32) × (i < 8) × (o < 4)
    within = read_range G.ready.prepared s H.inside

    -- ---- where the worth of the paths is decided
    module _ (dh : d ≤ h) where
      value_here : (r : List Step) → worth_known cone gains v a d ≡ worth_on m q start a d cone (take h trail) r
      value_here = worth_here a d G.from cone G.ready G.looks H.knows (omega (arith, H.whole))

      pub decides : Decides m cone gains v a d k
      decides =
          record {
            readable = worth_readable a d G.from G.ready H.knows (omega (arith, H.whole)) (omega (arith, H.whole, H.steps));
            small = rw (value_here []) (worth_on_small a d G.ready H.knows.followed (omega (arith, H.steps)) [] (λ o i. absurd (Memᴰ.not-nil i)));
            steps = omega (arith, H.steps);
            part_of = G.ready.prepared.parts;
          }

      pub all_alike : totals (model_in m) k s (worth_on m q start a d cone (take h trail)) ≡ replicate (plan_total (model_in m) k s) (worth_known cone gains v a d * denominator_of m ^ k)
      all_alike =
          totals_alike (model_in m) G.ready.prepared.accepted k s (rw (states_are m) H.inside)
          (worth_on m q start a d cone (take h trail)) (worth_known cone gains v a d) (λ r. sym (value_here r))
          ∙ ap (λ z. replicate (plan_total (model_in m) k s) (worth_known cone gains v a d * z ^ k)) (denominator_is m)

      module _ (buf : List ℕ) {at : ℕ} (room : Room k (plan_total (model_in m) k s) at (length buf)) where
        served : get_or table (32 * k + s) 0 ≡ plan_total (model_in m) k s
        served = G.counts.right k s (omega (arith, H.steps)) H.inside room.few

        pub decided_room : at + get_or table (32 * k + s) 0 ≤ length buf
        decided_room = omega (arith, served, room.fits)

        pub decided_written : {buf' : List ℕ} {r : ℕ} → r ≡ get_or table (32 * k + s) 0
            → buf' ≡ splice buf at (replicate (get_or table (32 * k + s) 0) (worth_known cone gains v a d * denominator_of m ^ k))
            → Written (totals (model_in m) k s (worth_on m q start a d cone (take h trail))) m q start cone h at trail trail gains v buf buf' r
        decided_written {buf'} {r} e f =
            let X : List ℕ = replicate (plan_total (model_in m) k s) (worth_known cone gains v a d * denominator_of m ^ k) in
            let g : buf' ≡ splice buf at X = f ∙ ap (λ n. splice buf at (replicate n (worth_known cone gains v a d * denominator_of m ^ k))) served in
            record {
              back = back_none H.knows;
              count = e ∙ served ∙ sym (totals_length (model_in m) k s (worth_on m q start a d cone (take h trail)));
              listed =
                  subst (λ l. take (at + length l) buf' ≡ take at buf ++ l) (sym all_alike)
                  (ap (take (at + length X)) g ∙ take_written buf at X (omega (arith, room.fits)));
            }

  -- ---- below an outcome
  module _ (i o k : ℕ) {trail : List ℕ} {gains : List ℤ} {v : List ℕ} {h s : ℕ} (H : Here m q start d cone trail gains v h s (k + 1)) (u : Offers m s i o) where
    pub offered : Offered m start trail h s i o
    offered = record { steps = omega (arith, H.steps); state = H.state; offers = u }

    module _ {trail₁ : List ℕ} {gains₁ : List ℤ} {v₁ : List ℕ} {t : ℕ} (S : Stepped m q start cone h s i o trail trail₁ gains₁ v₁ t) where
      pub below_here : Here m q start d cone trail₁ gains₁ v₁ (h + 1) t k
      below_here =
          record {
            steps = omega (arith, H.steps);
            deep = omega (arith, H.deep);
            inside = rw S.state (reached s i o H.inside u);
            whole = whole_stepped G.ready offered H.knows S;
            state = state_stepped G.ready offered H.knows S;
            knows = S.knows;
          }

      pub below_written : {at r : ℕ} {trail₂ : List ℕ} {gains₂ : List ℤ} {v₂ buf buf₂ : List ℕ}
          → Written (totals (model_in m) k t (worth_on m q start a d cone (take (h + 1) trail₁))) m q start cone (h + 1) at trail₁ trail₂ gains₂ v₂ buf buf₂ r
          → Written (totals (model_in m) k (step_in m s i o).target (λ l. worth_on m q start a d cone (take h trail) (step_in m s i o ∷ l)))
          m q start cone h at trail trail₂ gains₂ v₂ buf buf₂ r
      below_written {at} {r} {trail₂} {gains₂} {v₂} {buf} {buf₂} W =
          let X : List ℕ = totals (model_in m) k (step_in m s i o).target (λ l. worth_on m q start a d cone (take h trail) (step_in m s i o ∷ l)) in
          let same : totals (model_in m) k t (worth_on m q start a d cone (take (h + 1) trail₁)) ≡ X =
          ap₂ (λ t f. totals (model_in m) k t f) S.state (path_stepped G.ready offered H.knows S (worth_of m q start a d cone)) in
          record {
            back = step_back S W.back;
            count = W.count ∙ ap length same;
            listed = subst (λ l. take (at + length l) buf₂ ≡ take at buf ++ l) same W.listed;
          }
