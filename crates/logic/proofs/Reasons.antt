-- The reason of a no is what document 02 asks for, in its words (`Reason.Explains`): what is found first among some plans is a total that none of
-- them passes, with the first plan that has it. And how a place in the list of all plans gives what is found among those that pass a test.
use Prim.Native.Nat.{ℕ, zero, suc, ◌<◌, suc-le-suc}
use native.Mathlib.Omega.{arith}
use mathlib.Core.Path.{◌≡◌, refl, sym, ap, subst, ◌∙◌}
use mathlib.Core.Logic.{◌↔◌, ⊎_elim}
use mathlib.Core.Bool.{Bool, true, false, cond, false≢true}
use mathlib.Core.Option.{Option, none, some}
use mathlib.Core.List.Memᴰ
use mathlib.Core.List.{List, [], ◌∷◌, Memᴰ}
use lib.IntN.{ℤ}
use lib.ListN.{length, get_or}
use lib.Signed.{le_z}
use Rattle.logic.specs.Lists.{all, find, keep}
use Rattle.logic.specs.Checked.{ok}
use Rattle.logic.specs.Model.{Model}
use Rattle.logic.specs.Quantity.{Quantity, integers, Relation, less, equal, greater}
use Rattle.logic.specs.Plan.{Plan, plans, choices}
use Rattle.logic.specs.Order.{Before, Rising, nothing, first, IsPlan}
use Rattle.logic.specs.Accepted.{Accepted}
use Rattle.logic.specs.Bound.{Bound, Lamp, below, at, above, lamp_relation, meets, lamp, total_of, lamp_by}
use Rattle.logic.specs.Formula.{Formula}
use Rattle.logic.specs.Verdict.{leads, bound_of}
use Rattle.logic.specs.Reason.{Reached, greatest, least, reached, foremost, standing, reason_for, reason_by, reason, Foremost, Side, Explains}
use Rattle.logic.proofs.Tests.{none≢some, some_same, all_at, in_keep, keep_member, find_sound, find_there, find_none}
use Rattle.logic.proofs.Rising.{rising_keep}
use Rattle.logic.proofs.Dictionary.{plans_are, plans_rising, before_one_way}
use Rattle.logic.proofs.Best.{Ordered, reversed_ordered, Le, Lt, Best, here, later}
use Rattle.logic.proofs.Integers.{integers_ordered}
use Rattle.logic.proofs.Lamps.{met_exactly}
use Rattle.logic.proofs.Shown.{best_leads, some_leads}
use Rattle.logic.proofs.Search.{extreme, some_plan}

-- ---- lists

-- In a rising list no element that passes the test stands before the one that is found.
find_foremost : {A : Type 0} (R : A → A → Type 0) → ((a b : A) → R a b → R b a → ⊥) → (f : A → Bool) (k : ℕ) {l : List A} → Rising R l
    → {x : ℕ × A} → find f k l ≡ some x → (y : A) → Memᴰ y l → f y ≡ true → R y x.1 → ⊥
unfolding find
find_foremost R one_way f k nothing e y i t h = absurd (none≢some e)
find_foremost {A} R one_way f k (first {x = z} {l} a rise) {x} e y i t h =
    pick (λ q j. find_foremost R one_way f (suc k) rise q y j t h) (f z) refl e
  where
    pick : (find f (suc k) l ≡ some x → Memᴰ y l → ⊥) → (u : Bool) → f z ≡ u → cond u (some (k, z)) (find f (suc k) l) ≡ some x → ⊥
    pick later_on true q e =
        let same : z ≡ x.1 = ap (λ w. w.1) (some_same e) in
        let ahead : R y z = subst (R y) (sym same) h in
        ⊎_elim (λ w. let alike : R z z = subst (λ u. R u z) w ahead in one_way z z alike alike) (λ j. one_way y z ahead (a y j)) (Memᴰ.cases_cons i)
    pick later_on false q e = ⊎_elim (λ w. false≢true (sym q ∙ ap f (sym w) ∙ t)) (later_on e) (Memᴰ.cases_cons i)

module _ {A : Type 0} (f : A → Bool) where
  pub kept_none : (l : List A) → ((y : A) → Memᴰ y l → f y ≡ false) → keep f l ≡ []
  unfolding keep
  kept_none [] h = refl
  kept_none (x ∷ l) h = ap (λ u. cond u (x ∷ keep f l) (keep f l)) (h x (Memᴰ.head refl)) ∙ kept_none l (λ y i. h y (Memᴰ.tail i))

  -- The element at a place that passes the test, is not passed by any that does, and is better than all before it that do, is the best of those kept.
  pub kept_best : (Q : Quantity) (t : A → Q.Value) (d : A) (l : List A) (r : ℕ) → r < length l → f (get_or l r d) ≡ true
      → ((y : A) → Memᴰ y l → f y ≡ true → Le Q (t y) (t (get_or l r d)))
      → ((j : ℕ) → j < r → f (get_or l j d) ≡ true → Lt Q (t (get_or l j d)) (t (get_or l r d))) → Best Q t (keep f l) (get_or l r d)
  unfolding keep
  kept_best Q t d [] r h e g i = absurd (omega arith)
  kept_best Q t d (x ∷ l) zero h e g i =
      subst (λ u. Best Q t (cond u (x ∷ keep f l) (keep f l)) x) (sym e) (here (λ y j. let w = keep_member f l j in g y (Memᴰ.tail w.0) w.1))
  kept_best Q t d (x ∷ l) (suc r) h e g i =
      pick (f x) refl (kept_best Q t d l r (omega arith) e (λ y j. g y (Memᴰ.tail j)) (λ j k. i (suc j) (suc-le-suc k)))
    where
      pick : (u : Bool) → f x ≡ u → Best Q t (keep f l) (get_or l r d) → Best Q t (cond u (x ∷ keep f l) (keep f l)) (get_or l r d)
      pick true q b = later (i 0 (omega arith) q) b
      pick false q b = b

-- ---- lamps by relations

relation_lamp : Relation → Lamp
relation_lamp less = below
relation_lamp equal = at
relation_lamp greater = above

lamp_there : (l : Lamp) → relation_lamp (lamp_relation l) ≡ l
unfolding lamp_relation relation_lamp
lamp_there below = refl
lamp_there at = refl
lamp_there above = refl

same_lamp : (k l : Lamp) → lamp_relation k ≡ lamp_relation l → k ≡ l
same_lamp k l e = sym (lamp_there k) ∙ ap relation_lamp e ∙ lamp_there l

-- ---- the plans of a bound

module _ (m : Model) (s : ℕ) (b : Bound) where
  abbrev ahead : Plan b.steps → Plan b.steps → Type 0
  ahead π ρ = Before (choices b.steps π) (choices b.steps ρ)

  abbrev t : Plan b.steps → ℤ
  t = total_of m s b

  -- The list has the plans that lie on a side, in dictionary order; and on which side a plan lies depends on its total alone.
  record Part (lies : Plan b.steps → Type 0) (ps : List (Plan b.steps)) : Type 0 where
    pub there : (π : Plan b.steps) → Memᴰ π ps → IsPlan m b.steps s π × lies π
    pub all_there : (π : Plan b.steps) → IsPlan m b.steps s π → lies π → Memᴰ π ps
    pub rising : Rising ahead ps
    pub by_total : (π ρ : Plan b.steps) → lies π → t ρ ≡ t π → lies ρ

  all_part : Part (λ π. Unit {0}) (plans m b.steps s)
  all_part =
      record {
        there = λ π i. ((plans_are m b.steps s π).0 i, tt);
        all_there = λ π i u. (plans_are m b.steps s π).1 i;
        rising = plans_rising m b.steps s;
        by_total = λ π ρ u e. tt;
      }

  -- A total stands in a relation to the bound exactly when that is its lamp's.
  abbrev stands : Lamp → Plan b.steps → Bool
  stands l π = meets integers m b.steps (lamp_relation l) b.p b.q (t π)

  stands_as : (l : Lamp) (π : Plan b.steps) → (stands l π ≡ true) ↔ (lamp_relation (lamp_by m s b π) ≡ lamp_relation l)
  stands_as l π = met_exactly integers m b.steps b.p b.q (t π) integers_ordered (lamp_relation l)

  side_part : (l : Lamp) → Part (λ π. lamp_by m s b π ≡ l) (standing m s b (lamp_relation l))
  unfolding standing
  side_part l =
      record {
        there = λ π i. let w = keep_member (stands l) (plans m b.steps s) i in ((plans_are m b.steps s π).0 w.0, same_lamp _ l ((stands_as l π).0 w.1));
        all_there = λ π i e. in_keep (stands l) ((plans_are m b.steps s π).1 i) ((stands_as l π).1 (ap lamp_relation e));
        rising = rising_keep ahead (stands l) (plans_rising m b.steps s);
        by_total = λ π ρ e f. ap (lamp integers m b.steps b.p b.q) f ∙ e;
      }

  module _ {lies : Plan b.steps → Type 0} {ps : List (Plan b.steps)} (part : Part lies ps) (r : Relation) (at_most : ℤ → ℤ → Bool)
      (order : (π : Plan b.steps) → leads integers t r ps π ≡ all (λ ρ. at_most (t ρ) (t π)) ps) where
    found_right : (y : ℕ × Plan b.steps) → find (leads integers t r ps) 1 ps ≡ some y → (x : Reached) → reached m s b (some y) ≡ some x → Foremost m s b lies at_most x
    found_right y e x f =
        let w = find_sound (leads integers t r ps) 1 ps e in
        let passed = sym (order y.1) ∙ w.1 in
        subst (Foremost m s b lies at_most) (some_same f)
        (record {
          its_plan = y.1;
          is_plan = (part.there y.1 w.0).0;
          lies_there = (part.there y.1 w.0).1;
          its_total = refl;
          its_whole = refl;
          its_choices = refl;
          first_one = λ ρ i h same.
              find_foremost ahead (λ π ρ. before_one_way) (leads integers t r ps) 1 part.rising e ρ
              (part.all_there ρ i (part.by_total y.1 ρ (part.there y.1 w.0).1 same))
              (order ρ ∙ ap (λ v. all (λ σ. at_most (t σ) v) ps) same ∙ passed) h;
          none_nearer = λ ρ i l. all_at (λ σ. at_most (t σ) (t y.1)) ps passed (part.all_there ρ i l);
        })

    -- By what was found, if anything was.
    by_found : (o : Option (ℕ × Plan b.steps)) → find (leads integers t r ps) 1 ps ≡ o → (x : Reached) → reached m s b o ≡ some x → Foremost m s b lies at_most x
    by_found none e x f = absurd (none≢some f)
    by_found (some y) e x f = found_right y e x f

    foremost_right : (x : Reached) → foremost m s b r ps ≡ some x → Foremost m s b lies at_most x
    unfolding foremost
    foremost_right x f = by_found _ refl x f

    -- Something is found where a plan lies there, and only there.
    foremost_there : (π : Plan b.steps) → IsPlan m b.steps s π → lies π → (x : Reached) × (foremost m s b r ps ≡ some x)
    unfolding foremost
    foremost_there π i l =
        let w = some_leads integers integers_ordered t r ps (part.all_there π i l) in
        let y = find_there (leads integers t r ps) 1 ps w.1 w.2 in
        (_, ap (reached m s b) y.1)

    foremost_nothing : ((π : Plan b.steps) → IsPlan m b.steps s π → lies π → ⊥) → foremost m s b r ps ≡ none
    unfolding foremost
    foremost_nothing h =
        ap (reached m s b) (find_none (leads integers t r ps) 1 ps (λ π i. let w = part.there π i in absurd (h π w.0 w.1)))

    foremost_side : (foremost m s b r ps ≡ none) ↔ ((π : Plan b.steps) → IsPlan m b.steps s π → lies π → ⊥)
    foremost_side = (λ e π i l. none≢some (sym e ∙ (foremost_there π i l).1), foremost_nothing)

  -- "less" is for the least, "greater" for the greatest.
  least_first : (ps : List (Plan b.steps)) (π : Plan b.steps) → leads integers t less ps π ≡ all (λ ρ. le_z (t π) (t ρ)) ps
  unfolding leads
  least_first ps π = refl

  greatest_first : (ps : List (Plan b.steps)) (π : Plan b.steps) → leads integers t greater ps π ≡ all (λ ρ. le_z (t ρ) (t π)) ps
  unfolding leads
  greatest_first ps π = refl

  lower_right : Side m s b below le_z (foremost m s b greater (standing m s b less))
  unfolding lamp_relation
  lower_right =
      record {
        some_there = foremost_right (side_part below) greater le_z (greatest_first (standing m s b less));
        none_there = foremost_side (side_part below) greater le_z (greatest_first (standing m s b less));
      }

  upper_right : Side m s b above (λ v w. le_z w v) (foremost m s b less (standing m s b greater))
  unfolding lamp_relation
  upper_right =
      record {
        some_there = foremost_right (side_part above) less (λ v w. le_z w v) (least_first (standing m s b greater));
        none_there = foremost_side (side_part above) less (λ v w. le_z w v) (least_first (standing m s b greater));
      }

  module _ (accepted : Accepted m) (inside : s < length m.states) where
    some_member : (π : Plan b.steps) × IsPlan m b.steps s π
    some_member = let w = some_plan m accepted b.steps s inside in (w.0, (plans_are m b.steps s w.0).0 w.1)

    reason_right : Explains m s b (reason_for m s b b.relation)
    unfolding reason_for
    reason_right =
        let p = some_member in
        record {
          by_greater = λ e.
              let w = foremost_there all_part greater le_z (greatest_first (plans m b.steps s)) p.0 p.1 tt in
              (w.0, ap (reason_for m s b) e ∙ ap greatest w.1, foremost_right all_part greater le_z (greatest_first (plans m b.steps s)) w.0 w.1);
          by_less = λ e.
              let w = foremost_there all_part less (λ v w. le_z w v) (least_first (plans m b.steps s)) p.0 p.1 tt in
              (w.0, ap (reason_for m s b) e ∙ ap least w.1, foremost_right all_part less (λ v w. le_z w v) (least_first (plans m b.steps s)) w.0 w.1);
          by_equal = λ e. (_, _, ap (reason_for m s b) e, lower_right, upper_right);
        }

-- ---- by the best of some plans

-- Whole numbers in the order in which the greatest leads, or with `least` true the least.
abbrev pub order_of : (least : Bool) → ℤ → ℤ → Bool
order_of true v w = le_z w v
order_of false v w = le_z v w

abbrev pub ordering : (ℤ → ℤ → Bool) → Quantity
ordering le = record { Value = ℤ; none = integers.none; plus = integers.plus; times = integers.times; at_most = le }

ordering_ordered : (least : Bool) → Ordered (ordering (order_of least))
ordering_ordered true = reversed_ordered integers integers_ordered
ordering_ordered false = integers_ordered

module _ (m : Model) (s : ℕ) (b : Bound) where
  -- What is reached is the best of the plans, and nothing where there are none.
  pub foremost_best : (least : Bool) (ps : List (Plan b.steps)) {π : Plan b.steps} → Best (ordering (order_of least)) (total_of m s b) ps π
      → foremost m s b (extreme least) ps ≡ reached m s b (some (0, π))
  unfolding foremost leads
  foremost_best true ps x = ap (reached m s b) (best_leads (ordering (order_of true)) (ordering_ordered true) (total_of m s b) ps x).1
  foremost_best false ps x = ap (reached m s b) (best_leads (ordering (order_of false)) (ordering_ordered false) (total_of m s b) ps x).1

  pub foremost_empty : (r : Relation) {ps : List (Plan b.steps)} → ps ≡ [] → foremost m s b r ps ≡ none
  unfolding foremost find
  foremost_empty r e = ap (λ ps. reached m s b (find (leads integers (total_of m s b) r ps) 1 ps)) e

-- Of every root that sets a bound, on every accepted model.
pub reason_explains : (m : Model) → Accepted m → (s : ℕ) → s < length m.states → (φ : Formula) (b : Bound) → bound_of m s φ ≡ ok b → Explains m s b (reason m s φ)
unfolding reason
reason_explains m accepted s inside φ b e = subst (Explains m s b) (sym (ap (reason_by m s) e)) (reason_right m s b accepted inside)
