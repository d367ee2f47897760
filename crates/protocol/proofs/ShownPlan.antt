-- The verdict on a plan question in document 01's words, with document 02's lamp. `shown` finds the first plan of the list that meets the bound and
-- leads; the list has all plans in dictionary order, so that those before the one found are just the plans that come before it in that order. The
-- lamp of a no is that of the leader.
use Prim.Native.Nat.{ℕ, suc, ◌+◌, ◌<◌}
use native.Mathlib.Omega.{arith}
use mathlib.Core.Path.{◌≡◌, refl, sym, ap, ap₂, subst, ◌∙◌}
use mathlib.Core.Logic.{⊎_elim}
use mathlib.Core.Bool.{Bool, true, false, cond, ◌&&◌, false≢true}
use mathlib.Core.List.Memᴰ
use mathlib.Core.List.{List, [], ◌∷◌, ◌++◌, Memᴰ}
use mathlib.Core.Option.{Option, none, some}
use lib.ListN.{length}
use Rattle.logic.specs.Lists.{find}
use Rattle.logic.specs.Checked.{ok}
use Rattle.logic.specs.Model.{Model}
use Rattle.logic.specs.Plan.{Plan, plans, choices}
use Rattle.logic.specs.Bound.{Lamp}
use Rattle.logic.specs.Accepted.{Accepted}
use Rattle.logic.specs.Order.{Before, Rising, nothing, first, IsPlan}
use Rattle.logic.specs.Formula.{Formula, sat}
use Rattle.logic.specs.Verdict.{Goal, goal, shown, leader, found_lamp, denial, plan_record, announced, verdict_by, verdict}
use Rattle.logic.proofs.Tests.{and_both, not_true, none≢some, some_same}
use Rattle.logic.proofs.Dictionary.{plans_are, plans_rising, before_differs, before_one_way}
use Rattle.logic.proofs.Shown.{goal_led, shown_there, leader_there, leader_leads}
use Rattle.logic.proofs.Search.{some_plan}
use Rattle.protocol.specs.Demand2.{InOrder, Shows, Best-lamp, Denies, Announces}

-- ---- lists

module _ {A : Type 0} where
  -- What is found, with what stands before it.
  pub record Split (f : A → Bool) (k : ℕ) (l : List A) (x : ℕ × A) : Type 0 where
    pub earlier : List A
    pub later : List A
    pub whole : l ≡ earlier ++ (x.1 ∷ later)
    pub place : x.0 ≡ k + length earlier
    pub passes : f x.1 ≡ true
    pub failed : (y : A) → Memᴰ y earlier → f y ≡ false

  found_split : (f : A → Bool) (k : ℕ) (l : List A) (x : ℕ × A) → find f k l ≡ some x → Split f k l x
  unfolding find
  found_split f k [] x e = absurd (none≢some e)
  found_split f k (y ∷ l) x e = by (f y) refl (λ i. found_split f (suc k) l x i) e
    where
      here : f y ≡ true → (k, y) ≡ x → Split f k (y ∷ l) x
      here t i =
          record {
            earlier = [];
            later = l;
            whole = ap (λ z. z.1 ∷ l) i;
            place = let p = ap (λ z. z.0) i in omega arith;
            passes = subst (λ z. f z.1 ≡ true) i t;
            failed = λ z j. absurd (Memᴰ.not-nil j);
          }

      there : f y ≡ false → Split f (suc k) l x → Split f k (y ∷ l) x
      there t s =
          record {
            earlier = y ∷ s.earlier;
            later = s.later;
            whole = ap (λ r. y ∷ r) s.whole;
            place = let p = s.place in omega arith;
            passes = s.passes;
            failed = λ z j. ⊎_elim (λ i. ap f i ∙ t) (λ i. s.failed z i) (Memᴰ.cases_cons j);
          }

      by : (t : Bool) → f y ≡ t → (find f (suc k) l ≡ some x → Split f (suc k) l x) → cond t (some (k, y)) (find f (suc k) l) ≡ some x → Split f k (y ∷ l) x
      by true t h e = here t (some_same e)
      by false t h e = there t (h e)

  module _ (R : A → A → Type 0) where
    rising_left : (l r : List A) → Rising R (l ++ r) → Rising R l
    rising_left [] r h = nothing
    rising_left (x ∷ l) r (first h t) = first (λ y i. h y (Memᴰ.append_left r i)) (rising_left l r t)

    rising_right : (l r : List A) → Rising R (l ++ r) → Rising R r
    rising_right [] r h = h
    rising_right (x ∷ l) r (first h t) = rising_right l r t

    rising_across : (l r : List A) → Rising R (l ++ r) → {x y : A} → Memᴰ x l → Memᴰ y r → R x y
    rising_across [] r h i j = absurd (Memᴰ.not-nil i)
    rising_across (z ∷ l) r (first h t) {x} {y} i j =
        ⊎_elim (λ e. subst (λ w. R w y) (sym e) (h y (Memᴰ.append_right l j))) (λ k. rising_across l r t k j) (Memᴰ.cases_cons i)

    rising_after : (x : A) (r : List A) → Rising R (x ∷ r) → {y : A} → Memᴰ y r → R x y
    rising_after x r (first h t) i = h _ i

-- ---- the verdict on a plan question

-- The list of plans has every plan, in dictionary order.
pub all_plans : (m : Model) (n s : ℕ) → InOrder n (IsPlan m n s) (plans m n s)
all_plans m n s = record { those = λ π. plans_are m n s π; rising = plans_rising m n s }

module _ (m : Model) (s : ℕ) (g : Goal) where
  abbrev n : ℕ
  n = g.steps

  abbrev ahead : Plan n → Plan n → Type 0
  ahead π ρ = Before (choices n π) (choices n ρ)

  module _ (x : ℕ × Plan n) (e : shown m s g ≡ some x) where
    parted : Split (λ π. g.met π && g.lead π) 1 (plans m n s) x
    unfolding shown
    parted = found_split (λ π. g.met π && g.lead π) 1 (plans m n s) x e

    abbrev early : List (Plan n)
    early = parted.earlier

    abbrev rest : List (Plan n)
    rest = x.1 ∷ parted.later

    in_plans : {π : Plan n} → Memᴰ π (early ++ rest) → IsPlan m n s π
    in_plans {π} i = (plans_are m n s π).0 (subst (Memᴰ π) (sym parted.whole) i)

    order : Rising ahead (early ++ rest)
    order = subst (Rising ahead) parted.whole (plans_rising m n s)

    -- A plan that comes before the one found stands before it in the list.
    stands_before : (π : Plan n) → IsPlan m n s π → ahead π x.1 → Memᴰ π early
    stands_before π i h =
        ⊎_elim (λ j. j)
        (λ j. ⊎_elim (λ q. absurd (before_differs h (ap (choices n) q))) (λ k. absurd (before_one_way h (rising_after ahead x.1 parted.later (rising_right ahead early rest order) k))) (Memᴰ.cases_cons j))
        (Memᴰ.append_cases early (subst (Memᴰ π) parted.whole ((plans_are m n s π).1 i)))

    those_before : InOrder n (λ ρ. IsPlan m n s ρ × ahead ρ x.1) early
    those_before =
        record {
          those = λ π. (λ i. (in_plans (Memᴰ.append_left rest i), rising_across ahead early rest order i (Memᴰ.head refl)), λ h. stands_before π h.0 h.1);
          rising = rising_left ahead early rest order;
        }

    shows : Shows m s g (plan_record g x)
    shows =
        let w = and_both (g.met x.1) (g.lead x.1) parted.passes in
        record {
          shown_plan = x.1;
          candidate = record { is_plan = in_plans (Memᴰ.append_right early (Memᴰ.head refl)); meets_it = w.0; leads = w.1 };
          first_one = λ ρ c b. false≢true (sym (parted.failed ρ (stands_before ρ c.is_plan b)) ∙ ap₂ ◌&&◌ c.meets_it c.leads);
          earlier = early;
          all_earlier = those_before;
          counts = let p : x.0 ≡ suc (length early) = omega (arith, parted.place) in ap (λ k. cond g.counts k 0) p;
          its_total = refl;
          its_lamp = refl;
          its_steps = refl;
          its_choices = refl;
        }

  -- The lamp of a no: none where plans are counted, else that of a plan that leads.
  no_lamp : (t : Bool) (o : Option Lamp) → t ≡ true → cond t none o ≡ none
  no_lamp true o e = refl
  no_lamp false o e = absurd (false≢true e)

  best_lamp : (t : Bool) (x : ℕ × Plan n) → leader m s g ≡ some x → t ≡ false → Best-lamp m s g (cond t none (found_lamp g (leader m s g)))
  best_lamp true x e f = absurd (false≢true (sym f))
  best_lamp false x e f =
      let w = leader_leads m s g x e in
      record { best_plan = x.1; is_plan = (plans_are m n s x.1).0 w.0; leads = w.1; its_lamp = ap (found_lamp g) e }

  module _ (φ : Formula) (a : goal m s φ ≡ ok g) (accepted : Accepted m) (inside : s < length m.states) where
    denies : shown m s g ≡ none → Denies m s g (denial m s g)
    denies e =
        let led = goal_led m s φ g a in
        let p = some_plan m accepted n s inside in
        let x = leader_there m s g led p.0 p.1 in
        record {
          none_meets = λ π i. not_true (g.met π) (λ t. none≢some (sym e ∙ (shown_there m s g led π ((plans_are m n s π).1 i) t).1));
          plans = plans m n s;
          all_plans = all_plans m n s;
          counts = refl;
          no_lamp_if_counted = no_lamp g.counts (found_lamp g (leader m s g));
          best_lamp = best_lamp g.counts x.0 x.1;
        }

    announces : Announces m s g (announced m s g (shown m s g))
    announces = by (shown m s g) refl
      where
        by : (o : Option (ℕ × Plan n)) → shown m s g ≡ o → Announces m s g (announced m s g o)
        by none e = denies e
        by (some x) e = shows x e

    pub verdict_announces : Announces m s g (verdict m s φ)
    unfolding verdict
    verdict_announces = subst (λ c. Announces m s g (verdict_by m s (sat m φ s []) c)) (sym a) announces
