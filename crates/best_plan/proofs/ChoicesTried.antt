-- The choices tried so far: with one more, the best is the better of the two, and it stands at the bottom of the stack.
use Prim.Native.Nat.{ℕ, zero, suc, ◌+◌, ◌≤◌, ◌<◌, zero-le}
use native.Mathlib.Omega.{arith}
use native.Mathlib.Numerals.{add-one}
use mathlib.Core.Path.{◌≡◌, refl, sym, ap, ap₂, subst, ◌∙◌}
use mathlib.Core.Bool.{Bool, true, false, not, cond, false≢true}
use mathlib.Core.List.{List, [], ◌∷◌, ◌++◌}
use lib.ListN.{length, set}
use Rattle.logic.specs.Lists.{is_empty, count_from, tabulate}
use Rattle.logic.specs.Model.{Model, Step, enabled, outcomes}
use Rattle.logic.specs.promises.Orders.{weights, order}
use Rattle.logic.specs.promises.Recursion.{first_best, best_choice}
use Rattle.logic.proofs.Tests.{tabulate_more}
use Rattle.models.specs.Layout.{state_count}
use Rattle.prepared_model.specs.promises.Rows.{choices_in, choice_in, row_in, model_in, Prepared}
use Rattle.prepared_model.proofs.ReadByPlace.{some_choice}
use Rattle.logic.specs.promises.MostChoices.{most_choices}
use Rattle.std.specs.Prelude.{Option, None, Some}
use Rattle.best_plan.specs.promises.Buffers.{Wrote, Keeps, wins, end_of, Picked, Candidate, walked, lost}
use Rattle.best_plan.specs.declared.Walked.{Walked}
use Rattle.logic.proofs.FirstBest.{ordered, better, first_best_more}
use Rattle.best_plan.proofs.ChoiceStack.{wrote_none, wrote_choice, wrote_inside, wrote_both, wrote_first, wrote_over}
use Rattle.best_plan.proofs.TotalsBounded.{plan_few}
use Rattle.best_plan.proofs.BestByFirstStep.{worth_of, plan_from, best_of, greatest_step, choices_step}

pub more_some : (l : List ℕ) (a : ℕ) → is_empty (l ++ (a ∷ [])) ≡ false
unfolding is_empty
more_some [] a = refl
more_some (x ∷ l) a = refl

-- The best of the choices of l: none where there are none, else one that has the best total.
pub data BestOf (least : Bool) (M : Model) (k s : ℕ) (f : List Step → ℕ) : List ℕ → Option Walked → Type 0 where
  none_yet : BestOf least M k s f [] None
  best_yet : {l : List ℕ} {b : Walked} → is_empty l ≡ false → b.value ≡ worth_of least M k s f (best_of least M k s f l) → BestOf least M k s f l (Some b)

-- The same of other choices with the same best.
best_kept : {least : Bool} {M : Model} {k s : ℕ} {f : List Step → ℕ} {l l' : List ℕ} {b : Walked} → is_empty l' ≡ is_empty l
    → best_of least M k s f l' ≡ best_of least M k s f l → BestOf least M k s f l (Some b) → BestOf least M k s f l' (Some b)
best_kept {least} {M} {k} {s} {f} e h (best_yet d v) = best_yet (e ∙ d) (v ∙ sym (ap (worth_of least M k s f) h))

-- What does not win is beaten by another.
pub beaten_some : {least : Bool} {M : Model} {k s : ℕ} {f : List Step → ℕ} {l : List ℕ} {best : Option Walked} → BestOf least M k s f l best → (value : ℕ)
    → wins best value least ≡ false → is_empty l ≡ false
unfolding wins
beaten_some none_yet value h = absurd (false≢true (sym h))
beaten_some (best_yet e v) value h = e

-- With one choice more, the best is that one if it wins.
pub best_more : (least : Bool) (M : Model) (k s : ℕ) (f : List Step → ℕ) (l : List ℕ) (a : ℕ) (best : Option Walked) (value : ℕ) → BestOf least M k s f l best
    → value ≡ worth_of least M k s f a → (t : Bool)
    → wins best value least ≡ t → best_of least M k s f (l ++ (a ∷ [])) ≡ cond t a (best_of least M k s f l)
unfolding is_empty wins best_choice first_best better
best_more least M k s f [] a None value none_yet v true h = refl
best_more least M k s f [] a None value none_yet v false h = absurd (false≢true (sym h))
best_more least M k s f [] a (Some b) value (best_yet e o) v t h = absurd (false≢true (sym e))
best_more least M k s f (x ∷ l) a None value none v t h = elim none [ ]
best_more least M k s f (x ∷ l) a (Some b) value (best_yet e o) v t h =
    first_best_more (weights (order least)) (ordered least) (worth_of least M k s f) x l a
    ∙ ap (λ u. cond u z a) (ap₂ (order least) (sym v) (sym o))
    ∙ turned (order least value b.value)
    ∙ ap (λ u. cond u a z) h
  where
    z : ℕ
    z = best_of least M k s f (x ∷ l)

    turned : (u : Bool) → cond u z a ≡ cond (not u) a z
    turned true = refl
    turned false = refl

-- The choices of the best plan that begins with one of l.
unfoldable pub so_far : (least : Bool) (M : Model) (k s : ℕ) (f : List Step → ℕ) → List ℕ → List ℕ
unfolding is_empty
so_far least M k s f l = cond (is_empty l) [] (plan_from least M k s f (best_of least M k s f l))

pub record Tried (least : Bool) (M : Model) (k s : ℕ) (f : List Step → ℕ) (l : List ℕ) (at : ℕ) (before after : List ℕ) (b : Option Walked) : Type 0 where
  pub best : BestOf least M k s f l b
  pub wrote : Wrote (so_far least M k s f l) at before after (end_of at b)

module _ (least : Bool) (M : Model) (k s : ℕ) (f : List Step → ℕ) where
  abbrev best : List ℕ → ℕ
  best l = best_of least M k s f l

  pub tried_none : (at : ℕ) (c : List ℕ) → Tried least M k s f [] at c c None
  unfolding so_far is_empty
  tried_none at c = record { best = none_yet; wrote = wrote_none at c }

  -- The best of l stands at `at`, the candidate behind it, and the better of them has been kept.
  module _ (l : List ℕ) (at : ℕ) (c0 c1 c2 c3 : List ℕ) (b : Option Walked) (r w : Walked) (inside : at ≤ length c0) (T : Tried least M k s f l at c0 c1 b)
      (x : List ℕ) (wrote : Wrote x (end_of at b) c1 c2 w.end) (K : Keeps b w at least c2 c3 r) where
    won : (a : ℕ) → w.value ≡ worth_of least M k s f a → x ≡ plan_from least M k s f a → (l' : List ℕ) → is_empty l' ≡ false → best l' ≡ a
        → wins b w.value least ≡ true → Tried least M k s f l' at c0 c3 (Some r)
    unfolding so_far
    won a value p l' e h t =
        let u = K.taken t in
        record {
          best = best_yet e (ap (λ z. z.value) u.0 ∙ value ∙ sym (ap (worth_of least M k s f) h));
          wrote = rw (e, h) (subst (λ z. Wrote z at c0 c3 r.end) p (subst (λ z. Wrote x at c0 c3 z.end) (sym u.0) (wrote_over T.wrote wrote inside c3 u.1)));
        }

    left : (l' : List ℕ) → is_empty l' ≡ is_empty l → best l' ≡ best l
        → wins b w.value least ≡ false → Tried least M k s f l' at c0 c3 (Some r)
    unfolding so_far
    left l' e h t =
        let u = K.left t in
        record {
          best = best_kept e h (subst (BestOf least M k s f l) (sym u.0) T.best);
          wrote = rw (e, h) (subst (λ z. Wrote (so_far least M k s f l) at c0 z r.end) (sym u.1) (subst (λ z. Wrote (so_far least M k s f l) at c0 c2 (end_of at z)) (sym u.0) (wrote_first T.wrote wrote inside)));
        }

  -- One choice more is tried.
  module _ (l : List ℕ) (a at : ℕ) (c0 c1 c2 c3 : List ℕ) (b : Option Walked) (r w : Walked) (inside : at ≤ length c0) (T : Tried least M k s f l at c0 c1 b)
      (K : Keeps b w at least c2 c3 r) where
    -- It does not win, whatever was written.
    pub tried_lost : (x : List ℕ) → Wrote x (end_of at b) c1 c2 w.end → wins b (worth_of least M k s f a) least ≡ false
        → wins b w.value least ≡ false → Tried least M k s f (l ++ (a ∷ [])) at c0 c3 (Some r)
    tried_lost x W e g =
        left l at c0 c1 c2 c3 b r w inside T x W K (l ++ (a ∷ []))
        (more_some l a ∙ sym (beaten_some T.best (worth_of least M k s f a) e))
        (best_more least M k s f l a b (worth_of least M k s f a) T.best refl false e) g

    pub tried_more : w.value ≡ worth_of least M k s f a → Wrote (plan_from least M k s f a) (end_of at b) c1 c2 w.end
        → Tried least M k s f (l ++ (a ∷ [])) at c0 c3 (Some r)
    tried_more v W = go (wins b w.value least) refl
      where
        go : (t : Bool) → wins b w.value least ≡ t → Tried least M k s f (l ++ (a ∷ [])) at c0 c3 (Some r)
        go true e =
            won l at c0 c1 c2 c3 b r w inside T (plan_from least M k s f a) W K a v refl (l ++ (a ∷ [])) (more_some l a)
            (best_more least M k s f l a b w.value T.best v true e) e
        go false e = tried_lost (plan_from least M k s f a) W (subst (λ z. wins b z least ≡ false) v e) e

-- ---- the loop over the choices

-- The first n choices of a state.
abbrev pub first : List ℕ → ℕ → ℕ → List ℕ
first m s n = tabulate n (choice_in m s)

module _ (m : List ℕ) (s : ℕ) where
  pub first_more : (n : ℕ) → first m s (n + 1) ≡ first m s n ++ (choice_in m s n ∷ [])
  first_more n = ap (first m s) (add-one n) ∙ tabulate_more (choice_in m s) n

  pub first_some : (n : ℕ) → 0 < n → is_empty (first m s n) ≡ false
  first_some zero h = absurd (omega arith)
  first_some (suc n) h = ap is_empty (tabulate_more (choice_in m s) n) ∙ more_some (first m s n) (choice_in m s n)

module _ (least : Bool) (m : List ℕ) (f : List Step → ℕ) (s k : ℕ) where
  pub tried_start : (at : ℕ) (c : List ℕ) → Tried least (model_in m) k s f (first m s 0) at c c None
  unfolding tabulate count_from
  tried_start at c = tried_none least (model_in m) k s f at c

  module _ (w : Prepared m) (here : s < state_count m) where
    -- The choice at place i, walked.
    module _ (i : ℕ) (place : i < choices_in m s) (at : ℕ) (c0 c1 c2 : List ℕ) (b : Option Walked) (x : Walked) (inside : at ≤ length c0) (most_choices_here : end_of at b < length c1)
        (T : Tried least (model_in m) k s f (first m s i) at c0 c1 b)
        (W : Candidate b least m f (row_in m s i) k (end_of at b + 1) (set c1 (end_of at b) (choice_in m s i)) c2 x) where
      abbrev a : ℕ
      a = choice_in m s i

      -- What the walk wrote stands behind the best, with the choice before it.
      placed : (y : List ℕ) → Wrote y (end_of at b + 1) (set c1 (end_of at b) a) c2 x.end → Wrote (a ∷ y) (end_of at b) c1 c2 x.end
      placed y h = wrote_both (wrote_choice a (end_of at b) c1 most_choices_here) h

      behind : {l : List Step} → Candidate b least m f l k (end_of at b + 1) (set c1 (end_of at b) a) c2 x → (y : List ℕ) × Wrote (a ∷ y) (end_of at b) c1 c2 x.end
      behind (walked h) = (_, placed _ h.wrote)
      behind (lost e g y h) = (y, placed y h)

      pub keeps_inside : (at ≤ end_of at b) × (end_of at b ≤ x.end) × (x.end ≤ length c2)
      keeps_inside = let p = (behind W).1 in (omega (arith, T.wrote.next), omega (arith, p.next), wrote_inside (omega arith) p)

      pub turn_taken : (c3 : List ℕ) (r : Walked) → Keeps b x at least c2 c3 r → Tried least (model_in m) k s f (first m s (i + 1)) at c0 c3 (Some r)
      turn_taken c3 r K =
          subst (λ l. Tried least (model_in m) k s f l at c0 c3 (Some r)) (sym (first_more m s i))
          (go (subst (λ l. Candidate b least m f l k (end_of at b + 1) (set c1 (end_of at b) a) c2 x) (sym (w.rows s i here place)) W))
        where
          go : Candidate b least m f (outcomes (model_in m) s a) k (end_of at b + 1) (set c1 (end_of at b) a) c2 x
              → Tried least (model_in m) k s f (first m s i ++ (a ∷ [])) at c0 c3 (Some r)
          go (walked h) = tried_more least (model_in m) k s f (first m s i) a at c0 c1 c2 c3 b r x inside T K h.value (placed _ h.wrote)
          go (lost e g y h) = tried_lost least (model_in m) k s f (first m s i) a at c0 c1 c2 c3 b r x inside T K (a ∷ y) (placed y h) e g

    -- The best takes no more room than a plan.
    pub tried_room : (at : ℕ) (c0 c : List ℕ) (b : Option Walked) (l : List ℕ) → Tried least (model_in m) k s f l at c0 c b → end_of at b ≤ at + most_choices (suc k)
    unfolding so_far
    tried_room at c0 c b l T = omega (arith, T.wrote.next, go (is_empty l))
      where
        go : (e : Bool) → length (cond e [] (plan_from least (model_in m) k s f (best_of least (model_in m) k s f l))) ≤ most_choices (suc k)
        go true = zero-le
        go false = plan_few w least k s f _

    module _ (at : ℕ) (c0 c : List ℕ) (b : Walked) where
      -- The best of all choices.
      pub picked_best : (a : ℕ) → a ≡ best_of least (model_in m) k s f (first m s (choices_in m s))
          → b.value ≡ worth_of least (model_in m) k s f a → Wrote (plan_from least (model_in m) k s f a) at c0 c b.end → Picked least m f s (suc k) at c0 c b
      picked_best a e v h =
          let g : a ≡ best_of least (model_in m) k s f (enabled (model_in m) s) = e ∙ ap (best_of least (model_in m) k s f) (sym (w.choices s here)) in
          record {
            value = v ∙ ap (worth_of least (model_in m) k s f) g ∙ sym (greatest_step least (model_in m) k s f);
            wrote = subst (λ l. Wrote l at c0 c b.end) (ap (plan_from least (model_in m) k s f) g ∙ sym (choices_step least (model_in m) k s f)) h;
          }

      pub picked_all : Tried least (model_in m) k s f (first m s (choices_in m s)) at c0 c (Some b) → Picked least m f s (suc k) at c0 c b
      unfolding so_far
      picked_all T =
          let z : ℕ = best_of least (model_in m) k s f (first m s (choices_in m s)) in
          let some = first_some m s (choices_in m s) (some_choice w s here) in
          picked_best z refl (value T.best) (subst (λ t. Wrote (cond t [] (plan_from least (model_in m) k s f z)) at c0 c b.end) some T.wrote)
        where
          value : {l : List ℕ} → BestOf least (model_in m) k s f l (Some b) → b.value ≡ worth_of least (model_in m) k s f (best_of least (model_in m) k s f l)
          value (best_yet e v) = v

    -- Where some choice is tried there is a best.
    pub some_best : {at : ℕ} {c0 c : List ℕ} {b : Option Walked} → Tried least (model_in m) k s f (first m s (choices_in m s)) at c0 c b → (b ≡ None → ⊥)
    unfolding is_empty
    some_best T e = none (first_some m s (choices_in m s) (some_choice w s here)) (subst (BestOf least (model_in m) k s f (first m s (choices_in m s))) e T.best)
      where
        none : {l : List ℕ} → is_empty l ≡ false → BestOf least (model_in m) k s f l None → ⊥
        none e none_yet = false≢true (sym e)
