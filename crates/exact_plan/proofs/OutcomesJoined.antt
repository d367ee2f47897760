-- The lists of a choice's outcomes, combined one after the other in place: what a turn asks, and what it leaves.
use Prim.Native.Nat.{ℕ, zero, suc, ◌+◌, ◌*◌, ◌-◌, ◌^◌, ◌≤◌, ◌<◌, min, max}
use native.Mathlib.Nat.{le_refl, le_trans, le-mul_of_pos_right, mul-le-mul, mul-le-mul_left}
use native.Mathlib.Numerals.{add-one}
use native.Mathlib.Omega.{arith}
use mathlib.Core.Path.{◌≡◌, refl, sym, ap, ap₂, subst, ◌∙◌}
use mathlib.Core.Bool.{Bool}
use mathlib.Core.Logic.{inl}
use mathlib.Core.List.{List, [], ◌∷◌, ◌++◌, map, Memᴰ}
use lib.IntN.{ℤ}
use lib.Dec.{ltb}
use lib.ListN.{length, take, get_or, length-map, take-append-drop}
use lib.Seq.{take-take}
use Rattle.logic.specs.Lists.{count_from}
use Rattle.logic.specs.Model.{Step, outcomes}
use Rattle.logic.specs.Limits.{multiply, plan_total}
use Rattle.logic.proofs.Tests.{counted_range}
use Rattle.logic.proofs.Members.{in_map}
use Rattle.blocks.specs.Bytes.{Bytes}
use Rattle.blocks.specs.Splice.{splice}
use Rattle.models.specs.Layout.{state_count}
use Rattle.prepared_model.specs.promises.Rows.{choices_in, choice_in, outcomes_in, step_in, Offers, model_in}
use Rattle.prepared_model.proofs.ReadByPlace.{states_are, denominator_is, modest_rewards}
use Rattle.evaluation.specs.promises.Path.{Trail}
use Rattle.evaluation.specs.promises.Worth.{worth_on}
use Rattle.evaluation.proofs.PathWorth.{modest_cons, worth_on_small}
use Rattle.bounds.proofs.Powers.{power_le}
use Rattle.exact_plan.specs.promises.Totals.{totals, part, joined, combined, weighed}
use Rattle.exact_plan.specs.promises.Spread.{Shifts, Joins}
use Rattle.exact_plan.specs.promises.Room.{Room}
use Rattle.exact_plan.specs.promises.Listing.{Given, Here, Written, Longest, Grows}
use Rattle.exact_plan.proofs.Parts.{part_length, part_drop}
use Rattle.exact_plan.proofs.TotalsByFirstStep.{totals_length, weighed_length}
use Rattle.exact_plan.proofs.Grid.{combined_length, combined_one}
use Rattle.exact_plan.proofs.Spans.{multiply_within, multiply_one}
use Rattle.exact_plan.proofs.TotalsBounded.{UpTo, up_times, up_totals, up_combined}
use Rattle.exact_plan.proofs.RoomForEach.{room_first, room_next}
use Rattle.exact_plan.proofs.OneOutcomeJoined.{Holds, held_before, held_part, first_held, joined_length, join_held, joins, Beside, beside_inside, wider_some, wider_most, wider_combined, wider_times}
use Rattle.exact_plan.proofs.PreparedChoices.{some_plan, multiply_outcomes, combined_outcomes}
use Rattle.exact_plan.proofs.ListsWritten.{rebased, still, reached}

-- The number of plans below the outcome i of the choice at place p, and their totals, weighed.
abbrev pub ways : (m : Bytes) (s p k : ℕ) → ℕ → ℕ
ways m s p k i = plan_total (model_in m) k (step_in m s p i).target

abbrev pub lists : (m q : Bytes) (start a d : ℕ) (cone : List ℕ) (s p k : ℕ) → List ℕ → ℕ → List ℕ
lists m q start a d cone s p k T i = weighed (model_in m) k (worth_on m q start a d cone T) (step_in m s p i)

count_length : (k n : ℕ) → length (count_from k n) ≡ n
unfolding count_from
count_length k zero = refl
count_length k (suc n) = ap suc (count_length (suc k) n)

-- A state, and a choice there with k steps below it; the worth of a path looks d steps ahead.
pub record Place (m : Bytes) (d s p k : ℕ) : Type 0 where
  pub state : s < state_count m
  pub choice : p < choices_in m s
  pub few : k + 1 ≤ 6
  pub ahead : d ≤ 6

pub placed : {m q : Bytes} {start d : ℕ} {cone trail : List ℕ} {gains : List ℤ} {v : List ℕ} {h s : ℕ} (p k : ℕ)
    → Here m q start d cone trail gains v h s (k + 1) → p < choices_in m s → Place m d s p k
placed p k H g = record { state = H.inside; choice = g; few = omega (arith, H.steps); ahead = omega (arith, H.steps, H.deep) }

-- The lists of the outcomes from lo to hi stand combined at `at`, and no outcome has a longer list.
pub record Spanned (m q : Bytes) (start a d : ℕ) (cone : List ℕ) (h s p k at c : ℕ) (trail₀ buf₀ trail : List ℕ) (gains : List ℤ) (v buf : List ℕ)
    (lo hi len : ℕ) : Type 0 where
  pub all : c ≤ outcomes_in m s p
  pub some : lo < hi
  pub most : hi ≤ c
  pub longest : (i : ℕ) → i < c → ways m s p k i ≤ len
  pub here : Here m q start d cone trail gains v h s (k + 1)
  pub written : Written (combined (lists m q start a d cone s p k (take h trail₀)) (count_from lo (hi - lo))) m q start cone h at trail₀ trail gains v buf₀ buf len
  pub whole : length buf ≡ length buf₀

-- The same from an equal number on.
pub span_from : {m q : Bytes} {start a d : ℕ} {cone : List ℕ} {h s p k at c : ℕ} {trail₀ buf₀ trail : List ℕ} {gains : List ℤ} {v buf : List ℕ} {lo from len : ℕ} (n : ℕ)
    → lo ≡ from → Spanned m q start a d cone h s p k at c trail₀ buf₀ trail gains v buf from (from + n) len
    → Spanned m q start a d cone h s p k at c trail₀ buf₀ trail gains v buf lo (lo + n) len
span_from n e S = rw e S

count_one : (k : ℕ) → count_from k 1 ≡ k ∷ []
unfolding count_from
count_one k = refl

-- A list that was written is there.
here_again : {m q : Bytes} {start : ℕ} {cone : List ℕ} {h at r : ℕ} {trail trail₁ : List ℕ} {gains₁ : List ℤ} {v₁ b b₁ : List ℕ} (X : List ℕ → List ℕ)
    → Written (X (take h trail)) m q start cone h at trail trail₁ gains₁ v₁ b b₁ r → take at b₁ ≡ take at b
    → Written (X (take h trail₁)) m q start cone h at trail₁ trail₁ gains₁ v₁ b₁ b₁ r
here_again X W e = rebased X (sym W.back.kept) (sym e) W

-- ---- a list joined on

module _ (buf buf₁ : List ℕ) (at len n k : ℕ) (K : Grows buf at len n k) (ys : List ℕ) (ly : length ys ≡ n) (some : 0 < n)
    (Y : Holds buf buf₁ (at + len * n) ys) (whole : length buf₁ ≡ length buf) where
  long : len ≤ len * n
  long = le-mul_of_pos_right len some

  lx : length (part buf at len) ≡ len
  lx = part_length buf at len (omega (arith, long, K.room.fits))

  there : Holds buf buf at (part buf at len)
  unfolding part
  there =
      ap (λ i. take (at + i) buf) lx
      ∙ sym (take-append-drop at (take (at + len) buf))
      ∙ ap₂ ◌++◌ (take-take at (at + len) buf (omega arith)) (sym (part_drop buf at len))

  behind : Holds buf buf₁ (at + length (part buf at len) * length ys) ys
  behind = subst (λ i. Holds buf buf₁ (at + i) ys) (sym (ap₂ ◌*◌ lx ly)) Y

  inside : at + length (part buf at len) * length ys ≤ length buf
  inside = rw (lx, ly) (omega (arith, K.room.fits))

  pub held_joins : (w : ℕ) → UpTo (12000 * 100 ^ 6) (map (λ y. w * y) ys) → Joins buf₁ at len n w
  held_joins w h =
      rw (lx, ly) at
      (joins buf buf buf₁ at (part buf at len) ys (omega (arith, K.room.fits)) inside (rw ly some) there behind w (4 * (12000 * 100 ^ 6)) (12000 * 100 ^ 6)
      (rw lx K.some) (rw (lx, ly) (omega (arith, K.room.fits))) K.small h (omega arith))

  pub joined_held : (buf₂ : List ℕ) (w : ℕ) (right : Bool)
      → buf₂ ≡ splice buf₁ at (joined right (part buf₁ at len) (map (λ y. w * y) (part buf₁ (at + len * n) n)))
      → Holds buf buf₂ at (joined right (part buf at len) (map (λ y. w * y) ys))
  joined_held buf₂ w right e =
      join_held buf buf buf₁ at (part buf at len) ys (omega (arith, K.room.fits)) inside (rw ly some) there behind buf₂ w right
      (omega (arith, K.room.fits)) (rw (lx, ly) e)

  pub joined_count : (w : ℕ) (right : Bool) → len * n ≡ length (joined right (part buf at len) (map (λ y. w * y) ys))
  joined_count w right = sym (joined_length right (part buf at len) (map (λ y. w * y) ys) ∙ ap₂ ◌*◌ lx (length-map ys (λ y. w * y) ∙ ly))

-- ---- the outcomes of a choice

module _ {m q : Bytes} {start a d : ℕ} {truth cone table : List ℕ} (G : Given m q start a d truth cone table) {s p k : ℕ} (place : Place m d s p k) where
  abbrev t : ℕ → ℕ
  t = ways m s p k

  abbrev F : List ℕ → ℕ → List ℕ
  F = lists m q start a d cone s p k

  lists_length : (T : List ℕ) (i : ℕ) → length (F T i) ≡ t i
  lists_length T i = weighed_length (model_in m) k (worth_on m q start a d cone T) (step_in m s p i)

  ways_some : (i : ℕ) → i < outcomes_in m s p → 0 < t i
  ways_some i u = some_plan G.ready.prepared k (step_in m s p i).target (reached G s p i place.state (place.choice, u))

  -- The table's number of plans below an outcome.
  ways_served : (i : ℕ) → i < outcomes_in m s p → t i ≤ 65536 → get_or table (32 * k + (step_in m s p i).target) 0 ≡ t i
  ways_served i u h = G.counts.right k (step_in m s p i).target (omega (arith, place.few)) (reached G s p i place.state (place.choice, u)) h

  lists_small : {T : List ℕ} → Trail m start T → (i : ℕ) → i < outcomes_in m s p → UpTo (12000 * 100 ^ 6) (F T i)
  unfolding weighed
  lists_small {T} followed i u x j =
      let o : Step = step_in m s p i in
      let f : List Step → ℕ = λ r. worth_on m q start a d cone T (o ∷ r) in
      let D : ℕ = (model_in m).denominator in
      let w = G.ready.prepared in
      let h = place.state in
      let c : Offers m s p i = (place.choice, u) in
      let l : x ≤ o.weight * (12000 * D ^ k) =
      up_times o.weight (12000 * D ^ k) (totals (model_in m) k o.target f)
      (up_totals (model_in m) w.accepted (modest_rewards w) k o.target (rw (states_are m) (reached G s p i h c)) f 12000
      (λ r g. worth_on_small a d G.ready followed place.ahead (o ∷ r) (modest_cons o r (w.raisable s p i h c) g)))
      x j in
      let b : D ^ k ≤ 100 ^ 5 = power_le D k 5 (rw (denominator_is m) w.parts) (omega (arith, place.few)) in
      omega (arith, l, mul-le-mul (w.light s p i h c) (mul-le-mul_left 12000 b))

  pub count_right : (i : ℕ) → i < outcomes_in m s p → t i ≤ 65536 → {x y : ℕ} → x ≡ get_or table (32 * k + y) 0 → y ≡ (step_in m s p i).target → x ≡ t i
  count_right i u h e f = e ∙ ap (λ y. get_or table (32 * k + y) 0) f ∙ ways_served i u h

  -- The lists of some of the outcomes, combined.
  span_count : (T : List ℕ) (lo n : ℕ) → length (combined (F T) (count_from lo n)) ≡ multiply t (count_from lo n)
  span_count T lo n = combined_length (F T) t (lists_length T) (count_from lo n)

  span_small : {T : List ℕ} → Trail m start T → (lo n : ℕ) → lo + n ≤ outcomes_in m s p → n ≤ 4 → UpTo (4 * (12000 * 100 ^ 6)) (combined (F T) (count_from lo n))
  span_small {T} followed lo n h l x j =
      let b : ℕ = 12000 * 100 ^ 6 in
      let u = up_combined (F T) b (count_from lo n) (λ i c. lists_small followed i (omega (arith, (counted_range lo n c).1))) x j in
      omega (arith, u, mul-le-mul l (le_refl b), ap (λ z. z * b) (count_length lo n))

  outcomes_few : outcomes_in m s p ≤ 4
  outcomes_few = G.ready.prepared.few_outcomes s p place.state place.choice

  -- ---- the list below an outcome, weighed in its place
  module _ (o : ℕ) (u : o < outcomes_in m s p) {trail trail₁ : List ℕ} {gains₁ : List ℤ} {v₁ : List ℕ} (buf : List ℕ) {buf₁ : List ℕ}
      {h at r w : ℕ} (R : Room k (t o) at (length buf))
      (W : Written (totals (model_in m) k (step_in m s p o).target (λ l. worth_on m q start a d cone (take h trail) (step_in m s p o ∷ l)))
      m q start cone h at trail trail₁ gains₁ v₁ buf buf₁ r)
      (whole : length buf₁ ≡ length buf) (e : w ≡ (step_in m s p o).weight) where
    xs : List ℕ
    xs = totals (model_in m) k (step_in m s p o).target (λ l. worth_on m q start a d cone (take h trail) (step_in m s p o ∷ l))

    weighed_count : r ≡ t o
    weighed_count = W.count ∙ totals_length (model_in m) k (step_in m s p o).target (λ l. worth_on m q start a d cone (take h trail) (step_in m s p o ∷ l))

    at_place : part buf₁ at r ≡ xs
    unfolding xs
    at_place = ap (part buf₁ at) W.count ∙ held_part buf buf₁ at xs (omega (arith, R.fits)) W.listed

    pub weighed_shifts : Shifts buf₁ at at r w 0
    unfolding xs weighed
    weighed_shifts =
        record {
          clear = inl (le_refl at);
          source = omega (arith, R.fits, weighed_count);
          target = omega (arith, R.fits, weighed_count);
          fits = λ y i.
              let v : ℕ = (step_in m s p o).weight in
              let l : v * y ≤ 12000 * 100 ^ 6 = lists_small W.back.knows.followed o u (v * y) (in_map (λ y. v * y) (subst (Memᴰ y) at_place i)) in
              rw e (omega arith);
        }

    pub weighed_written : {buf₂ : List ℕ} → buf₂ ≡ splice buf₁ at (map (λ y. 0 + w * y) (part buf₁ at r))
        → Written (F (take h trail) o) m q start cone h at trail trail₁ gains₁ v₁ buf buf₂ r
    unfolding xs weighed
    weighed_written {buf₂} f =
        record {
          back = W.back;
          count = weighed_count ∙ sym (lists_length (take h trail) o);
          listed =
              subst (λ z. Holds buf buf₂ at (map (λ y. z * y) xs)) e
              (first_held buf buf₁ buf₂ at xs w (omega (arith, R.fits)) (omega (arith, R.fits)) W.listed
              (subst (λ n. buf₂ ≡ splice buf₁ at (map (λ y. 0 + w * y) (part buf₁ at n))) W.count f));
        }

  -- ---- the first c outcomes
  module _ {at size c : ℕ} (all : c ≤ outcomes_in m s p)
      (R : Room (k + 1) (multiply (λ o. plan_total (model_in m) k o.target) (take c (outcomes (model_in m) s (choice_in m s p)))) at size) where
    span_within : (lo n : ℕ) → lo + n ≤ c → multiply t (count_from lo n) ≤ multiply t (count_from 0 c)
    span_within lo n h = multiply_within t c (λ i l. ways_some i (omega arith)) lo n h

    room : Room (suc k) (multiply t (count_from 0 c)) at size
    room =
        let P : Step → ℕ = λ o. plan_total (model_in m) k o.target in
        subst (λ n. Room (suc k) n at size) (multiply_outcomes G.ready.prepared s p place.state place.choice c all P)
        (subst (λ n. Room n (multiply P (take c (outcomes (model_in m) s (choice_in m s p)))) at size) (add-one k) R)

    ways_few : (i : ℕ) → i < c → t i ≤ multiply t (count_from 0 c)
    ways_few i u = subst (λ n. n ≤ multiply t (count_from 0 c)) (multiply_one t i) (span_within i 1 (omega arith))

    -- The first list, in its place.
    pub first_room : (i : ℕ) → i < c → Room k (t i) at size
    first_room i u = room_first room (ways_few i u)

    module _ (lo : ℕ) (u : lo < c) {trail trail₁ : List ℕ} {gains gains₁ : List ℤ} {v v₁ buf buf₁ : List ℕ} {h r : ℕ} (in_buf : length buf ≡ size)
        (H : Here m q start d cone trail gains v h s (k + 1)) (W : Written (F (take h trail) lo) m q start cone h at trail trail₁ gains₁ v₁ buf buf₁ r) where
      pub first_before : take at buf₁ ≡ take at buf
      first_before = held_before buf buf₁ at (F (take h trail) lo) (omega (arith, room.fits)) W.listed at (le_refl at)

      pub first_spanned : {hi : ℕ} → Longest m table s p c k lo → hi ≡ lo + 1
          → Spanned m q start a d cone h s p k at c trail₁ buf₁ trail₁ gains₁ v₁ buf₁ lo hi r
      first_spanned {hi} L eh =
          let T : List ℕ = take h trail in
          let n : hi - lo ≡ 1 = omega arith in
          let one : F T lo ≡ combined (F T) (count_from lo (hi - lo)) =
          sym (ap (λ n. combined (F T) (count_from lo n)) n ∙ ap (combined (F T)) (count_one lo) ∙ combined_one (F T) lo) in
          let V₁ : Written (combined (F T) (count_from lo (hi - lo))) m q start cone h at trail trail₁ gains₁ v₁ buf buf₁ r =
          subst (λ l. Written l m q start cone h at trail trail₁ gains₁ v₁ buf buf₁ r) one W in
          record {
            all = all;
            some = omega arith;
            most = omega (arith, L.inside);
            longest = λ i l.
                omega (
                  arith,
                  L.most i l,
                  W.count,
                  lists_length T lo,
                  ways_served i (omega (arith, all)) (le_trans (ways_few i l) room.few),
                  ways_served lo (omega (arith, all)) (le_trans (ways_few lo u) room.few),
                );
            here = still H W;
            written = here_again (λ T. combined (F T) (count_from lo (hi - lo))) V₁ first_before;
            whole = refl;
          }

    module _ {h lo hi len : ℕ} {trail₀ trail : List ℕ} {gains : List ℤ} {v buf₀ buf : List ℕ}
        (S : Spanned m q start a d cone h s p k at c trail₀ buf₀ trail gains v buf lo hi len) (in_buf : length buf₀ ≡ size) where
      span : lo + (hi - lo) ≤ c
      span = omega (arith, S.some, S.most)

      span_len : len ≡ multiply t (count_from lo (hi - lo))
      span_len = S.written.count ∙ span_count (take h trail₀) lo (hi - lo)

      some_outcome : lo < outcomes_in m s p
      some_outcome = omega (arith, S.all, S.some, S.most)

      long_some : 0 < len
      long_some = omega (arith, ways_some lo some_outcome, S.longest lo (omega (arith, S.some, S.most)))

      in_place : at + len ≤ length buf₀
      in_place = omega (arith, room.fits, span_len, span_within lo (hi - lo) span)

      at_span : part buf at len ≡ combined (F (take h trail₀)) (count_from lo (hi - lo))
      at_span =
          ap (part buf at) S.written.count
          ∙ held_part buf₀ buf at (combined (F (take h trail₀)) (count_from lo (hi - lo))) (omega (arith, in_place)) S.written.listed

      -- All of them.
      pub span_end : c ≤ hi - lo
          → Written (combined (weighed (model_in m) k (worth_on m q start a d cone (take h trail₀))) (take c (outcomes (model_in m) s (choice_in m s p))))
          m q start cone h at trail₀ trail gains v buf₀ buf len
      span_end g =
          let x : lo ≡ 0 = omega (arith, S.some, S.most) in
          let y : hi - lo ≡ c = omega (arith, S.some, S.most) in
          let f : Step → List ℕ = weighed (model_in m) k (worth_on m q start a d cone (take h trail₀)) in
          let e : combined (F (take h trail₀)) (count_from lo (hi - lo)) ≡ combined f (take c (outcomes (model_in m) s (choice_in m s p))) =
          ap₂ (λ i n. combined (F (take h trail₀)) (count_from i n)) x y ∙ sym (combined_outcomes G.ready.prepared s p place.state place.choice c all f) in
          subst (λ l. Written l m q start cone h at trail₀ trail gains v buf₀ buf len) e S.written

      module _ (o : ℕ) (B : Beside lo hi c o) where
        pub span_outcome : o < outcomes_in m s p
        span_outcome = omega (arith, S.all, beside_inside S.some S.most B)

        wide_len : len * t o ≡ multiply t (count_from (min lo o) (max hi (o + 1) - min lo o))
        wide_len = ap (λ n. n * t o) span_len ∙ wider_times S.some S.most B t

        wide_within : len * t o ≤ multiply t (count_from 0 c)
        wide_within =
            rw wide_len
            (span_within (min lo o) (max hi (o + 1) - min lo o) (omega (arith, wider_some S.some S.most B, wider_most S.some S.most B)))

        pub span_grows : Grows buf at len (t o) k
        span_grows =
            record {
              some = long_some;
              few = le_trans wide_within room.few;
              small = λ x i. span_small S.written.back.knows.followed lo (hi - lo) (omega (arith, span, all)) (omega (arith, span, all, outcomes_few)) x (subst (Memᴰ x) at_span i);
              room = subst (Room k (t o) (at + len * t o)) (sym (S.whole ∙ in_buf))
                  (room_next room (S.longest o (beside_inside S.some S.most B)) (le_refl len) long_some wide_within);
            }

        pub span_wider : {trail₁ : List ℕ} {gains₁ : List ℤ} {v₁ buf₁ : List ℕ} {r lo₁ hi₁ : ℕ}
            → Written (joined (ltb lo o) (part buf at len) (F (take h trail) o)) m q start cone h at trail trail₁ gains₁ v₁ buf buf₁ r
            → length buf₁ ≡ length buf → lo₁ ≡ min lo o → hi₁ ≡ max hi (o + 1)
            → Spanned m q start a d cone h s p k at c trail₀ buf₀ trail₁ gains₁ v₁ buf₁ lo₁ hi₁ r
        span_wider {trail₁} {gains₁} {v₁} {buf₁} {r} {lo₁} {hi₁} W e₄ el eh =
            let T : List ℕ = take h trail₀ in
            let X : List ℕ = combined (F T) (count_from lo₁ (hi₁ - lo₁)) in
            let same : joined (ltb lo o) (part buf at len) (F T o) ≡ X =
            ap (λ l. joined (ltb lo o) l (F T o)) at_span ∙ wider_combined S.some S.most B (F T)
            ∙ ap₂ (λ i j. combined (F T) (count_from i (j - i))) (sym el) (sym eh) in
            let before : take at buf ≡ take at buf₀ =
            held_before buf₀ buf at (combined (F T) (count_from lo (hi - lo))) (omega (arith, in_place)) S.written.listed at (le_refl at) in
            let V₁ : Written (joined (ltb lo o) (part buf at len) (F T o)) m q start cone h at trail₀ trail₁ gains₁ v₁ buf₀ buf₁ r =
            rebased (λ T. joined (ltb lo o) (part buf at len) (F T o)) S.written.back.kept before W in
            let V₂ : Written X m q start cone h at trail₀ trail₁ gains₁ v₁ buf₀ buf₁ r =
            subst (λ l. Written l m q start cone h at trail₀ trail₁ gains₁ v₁ buf₀ buf₁ r) same V₁ in
            let n : r ≡ len * t o =
            V₂.count ∙ span_count T lo₁ (hi₁ - lo₁) ∙ ap₂ (λ i j. multiply t (count_from i (j - i))) el eh ∙ sym wide_len in
            record {
              all = S.all;
              some = rw (el, eh) (wider_some S.some S.most B);
              most = rw eh (wider_most S.some S.most B);
              longest = λ i l. rw n (le_trans (S.longest i l) (le-mul_of_pos_right len (ways_some o span_outcome)));
              here = still S.here W;
              written = V₂;
              whole = e₄ ∙ S.whole;
            }

  -- ---- a further outcome

  module _ (o : ℕ) (u : o < outcomes_in m s p) {trail trail₁ : List ℕ} {gains₁ : List ℤ} {v₁ : List ℕ} {buf buf₁ : List ℕ} {h at len r : ℕ}
      (K : Grows buf at len (t o) k) (n : ℕ) (en : n ≡ t o)
      (W : Written (totals (model_in m) k (step_in m s p o).target (λ l. worth_on m q start a d cone (take h trail) (step_in m s p o ∷ l)))
      m q start cone h (at + len * n) trail trail₁ gains₁ v₁ buf buf₁ r)
      (whole : length buf₁ ≡ length buf) (w : ℕ) (ew : w ≡ (step_in m s p o).weight) where
    ys : List ℕ
    ys = totals (model_in m) k (step_in m s p o).target (λ l. worth_on m q start a d cone (take h trail) (step_in m s p o ∷ l))

    ly : length ys ≡ n
    unfolding ys
    ly = totals_length (model_in m) k (step_in m s p o).target (λ l. worth_on m q start a d cone (take h trail) (step_in m s p o ∷ l)) ∙ sym en

    K₁ : Grows buf at len n k
    K₁ = rw en K

    some_one : 0 < n
    some_one = rw en (ways_some o u)

    new : Holds buf buf₁ (at + len * n) ys
    unfolding ys
    new = W.listed

    is_weighed : map (λ y. w * y) ys ≡ F (take h trail) o
    unfolding ys weighed
    is_weighed = ap (λ z. map (λ y. z * y) ys) ew

    pub grown_joins : Joins buf₁ at len n w
    grown_joins = held_joins buf buf₁ at len n k K₁ ys ly some_one new whole w (subst (UpTo (12000 * 100 ^ 6)) (sym is_weighed) (lists_small W.back.knows.followed o u))

    pub grown_written : (right : Bool) {buf₂ : List ℕ} → buf₂ ≡ splice buf₁ at (joined right (part buf₁ at len) (map (λ y. w * y) (part buf₁ (at + len * n) n)))
        → Written (joined right (part buf at len) (F (take h trail) o)) m q start cone h at trail trail₁ gains₁ v₁ buf buf₂ (len * n)
    grown_written right {buf₂} e =
        subst (λ l. Written (joined right (part buf at len) l) m q start cone h at trail trail₁ gains₁ v₁ buf buf₂ (len * n)) is_weighed
        (record {
          back = W.back;
          count = joined_count buf buf₁ at len n k K₁ ys ly some_one new whole w right;
          listed = joined_held buf buf₁ at len n k K₁ ys ly some_one new whole buf₂ w right e;
        })
