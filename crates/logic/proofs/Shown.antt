-- The shown plan is there exactly when some plan meets the bound: with one that meets it, the greatest (for "less" the least) meets it
-- too, and leads. For "greater" the first plan that meets the bound and leads is the first of the greatest; the first that leads, met or not, is
-- the same plan.
use Prim.Native.Nat.{ℕ, suc, ◌^◌}
use mathlib.Core.Path.{◌≡◌, refl, sym, ap, ap₂, subst, ◌∙◌}
use mathlib.Core.Logic.{◌↔◌}
use mathlib.Core.Bool.{Bool, true, false, cond, ◌&&◌, false≢true}
use mathlib.Core.Option.{none, some}
use mathlib.Core.List.Memᴰ
use mathlib.Core.List.{List, [], ◌∷◌, Memᴰ}
use lib.Dec.{not_T, T_not}
use Rattle.logic.specs.Lists.{any, find}
use Rattle.logic.specs.Model.{Model, Step}
use Rattle.logic.specs.Plan.{Plan, plans}
use lib.IntN.{ℤ}
use Rattle.logic.specs.Quantity.{Quantity, integers, Relation, less, equal, greater, related}
use Rattle.logic.specs.promises.Orders.{reversed}
use Rattle.logic.specs.Checked.{ok, ◌>>=◌}
use Rattle.logic.specs.Bound.{Bound, meets, chance, expected, total_of, met_by}
use Rattle.logic.specs.Formula.{sat, Formula, plan, earns}
use Rattle.logic.specs.Verdict.{leads, Goal, bound_goal, bound_of, goal, shown, leader}
use Rattle.logic.specs.promises.Recursion.{first_best}
use Rattle.logic.proofs.Tests.{T→true, true→T, and_left, and_right, not_true, all_true, all_at, find_sound, find_there, find_none, any_some, any_there}
use Rattle.logic.proofs.Best.{Ordered, reversed_ordered, Le, Lt, Best, here, later, first_best_is, best_le, best_member}
use Rattle.logic.proofs.Integers.{integers_ordered}
use Rattle.logic.proofs.Checked.{not_ok, ok_same}
use Rattle.logic.proofs.OnPlan.{by_plan}

-- A test that passes at the first of the greatest, and at no smaller element, finds it.
find_first : (Q : Quantity) {A : Type 0} (t : A → Q.Value) (f : A → Bool) (k : ℕ) {l : List A} {x : A}
    → Best Q t l x → f x ≡ true → ((y : A) → Lt Q (t y) (t x) → f y ≡ false) → (j : ℕ) × (find f k l ≡ some (j, x))
unfolding find
find_first Q t f k (here {x} {l} h) e g = (k, ap (λ c. cond c (some (k, x)) (find f (suc k) l)) e)
find_first Q t f k (later {x} {y} {l} h b) e g =
    let w = find_first Q t f (suc k) b e g in
    (w.0, ap (λ c. cond c (some (k, y)) (find f (suc k) l)) (g y h) ∙ w.1)

-- ---- the greatest lead

module _ (Q : Quantity) (O : Ordered Q) {A : Type 0} (t : A → Q.Value) where
  greatest_leads : {l : List A} {x : A} → Best Q t l x → leads Q t greater l x ≡ true
  unfolding leads
  greatest_leads {l} {x} b = all_true (λ ρ. Q.at_most (t ρ) (t x)) l (λ y i. T→true _ (best_le Q O t b y i))

  smaller_follows : {l : List A} {x : A} → Best Q t l x → (y : A) → Lt Q (t y) (t x) → leads Q t greater l y ≡ true → ⊥
  unfolding leads
  smaller_follows {l} {x} b y h a = T_not (Q.at_most (t x) (t y)) h (true→T (all_at (λ ρ. Q.at_most (t ρ) (t y)) l a (best_member Q O t b)))

  -- The first element that leads is the first of the greatest.
  pub best_leads : (l : List A) {x : A} → Best Q t l x → (j : ℕ) × (find (leads Q t greater l) 1 l ≡ some (j, x))
  best_leads l b = find_first Q t (leads Q t greater l) 1 b (greatest_leads b) (λ y h. not_true _ (smaller_follows b y h))

  one_leads : (l : List A) {a : A} → Memᴰ a l → (b : A) × Memᴰ b l × (leads Q t greater l b ≡ true)
  one_leads [] h = absurd (Memᴰ.not-nil h)
  one_leads (x ∷ l) h = let b = first_best_is Q O t x l in (first_best Q t x l, best_member Q O t b, greatest_leads b)

-- In a list that has an element one leads: "less" is "greater" in the reversed order.
pub some_leads : (Q : Quantity) → Ordered Q → {A : Type 0} (t : A → Q.Value) (r : Relation) (l : List A) {a : A} → Memᴰ a l
    → (b : A) × Memᴰ b l × (leads Q t r l b ≡ true)
unfolding leads
some_leads Q O t equal l {a} h = (a, h, refl)
some_leads Q O t less l h = one_leads (reversed Q) (reversed_ordered Q O) t l h
some_leads Q O t greater l h = one_leads Q O t l h

-- ---- those that meet the bound

module _ (Q : Quantity) (O : Ordered Q) (m : Model) (n : ℕ) (p : Q.Value) (q : ℕ) where
  -- Where a total meets "greater", a greater one does.
  up : (a b : Q.Value) → Le Q a b → meets Q m n greater p q a ≡ true → meets Q m n greater p q b ≡ true
  unfolding meets related
  up a b h e =
      let x : Q.Value = Q.times (m.denominator ^ n) p in
      T→true _ (not_T (Q.at_most (Q.times q b) x) (λ k. T_not (Q.at_most (Q.times q a) x) (true→T e) (O.trans _ _ _ (O.times_le q a b h) k)))

  module _ {A : Type 0} (t : A → Q.Value) where
    leader_greater : (l : List A) {a : A} → Memᴰ a l → meets Q m n greater p q (t a) ≡ true
        → (b : A) × Memᴰ b l × (leads Q t greater l b ≡ true) × (meets Q m n greater p q (t b) ≡ true)
    leader_greater [] h e = absurd (Memᴰ.not-nil h)
    leader_greater (x ∷ l) {a} h e =
        let b = first_best_is Q O t x l in
        (first_best Q t x l, best_member Q O t b, greatest_leads Q O t b, up (t a) _ (best_le Q O t b a h) e)

    -- The first element that meets "greater" and leads is the first of the greatest.
    pub best_found : (l : List A) {x : A} → Best Q t l x → meets Q m n greater p q (t x) ≡ true
        → (j : ℕ) × (find (λ π. meets Q m n greater p q (t π) && leads Q t greater l π) 1 l ≡ some (j, x))
    best_found l b e =
        find_first Q t (λ π. meets Q m n greater p q (t π) && leads Q t greater l π) 1 b (ap₂ ◌&&◌ e (greatest_leads Q O t b))
        (λ y h. not_true _ (λ w. smaller_follows Q O t b y h (and_right (meets Q m n greater p q (t y)) _ w)))

    -- Where the greatest does not meet it, none does.
    pub best_missed : (l : List A) {x : A} → Best Q t l x → meets Q m n greater p q (t x) ≡ false
        → find (λ π. meets Q m n greater p q (t π) && leads Q t greater l π) 1 l ≡ none
    best_missed l {x} b e =
        find_none _ 1 l (λ y i. not_true _ (λ w. false≢true (sym e ∙ up (t y) (t x) (best_le Q O t b y i) (and_left (meets Q m n greater p q (t y)) _ w))))

-- Where an element meets the bound, one that leads meets it: "less" is "greater" in the reversed order.
module _ (Q : Quantity) (O : Ordered Q) (m : Model) (n : ℕ) (p : Q.Value) (q : ℕ) {A : Type 0} (t : A → Q.Value) where
  leader_meets : (r : Relation) (l : List A) {a : A} → Memᴰ a l → meets Q m n r p q (t a) ≡ true
      → (b : A) × Memᴰ b l × (leads Q t r l b ≡ true) × (meets Q m n r p q (t b) ≡ true)
  unfolding leads meets related
  leader_meets equal l {a} h e = (a, h, refl, e)
  leader_meets less l h e = leader_greater (reversed Q) (reversed_ordered Q O) m n p q t l h e
  leader_meets greater l h e = leader_greater Q O m n p q t l h e

-- Where some plan meets the bound, one that leads meets it; and where there is a plan, one leads.
pub record Led (m : Model) (s : ℕ) (g : Goal) : Type 0 where
  pub some_leader : (π : Plan g.steps) → Memᴰ π (plans m g.steps s) → (ρ : Plan g.steps) × Memᴰ ρ (plans m g.steps s) × (g.lead ρ ≡ true)
  pub leader_of : (π : Plan g.steps) → Memᴰ π (plans m g.steps s) → g.met π ≡ true
      → (ρ : Plan g.steps) × Memᴰ ρ (plans m g.steps s) × (g.lead ρ ≡ true) × (g.met ρ ≡ true)

-- The goal of every bound is such.
pub bound_led : (m : Model) (s : ℕ) (b : Bound) → Led m s (bound_goal m s b)
bound_led m s b =
    record {
      some_leader = λ π i. some_leads integers integers_ordered (total_of m s b) b.relation (plans m b.steps s) i;
      leader_of = λ π i h. leader_meets integers integers_ordered m b.steps b.p b.q (total_of m s b) b.relation (plans m b.steps s) i h;
    }

-- Every goal is that of a bound.
pub goal_bound : (m : Model) (s : ℕ) (φ : Formula) (g : Goal) → goal m s φ ≡ ok g → (b : Bound) × (bound_of m s φ ≡ ok b) × (bound_goal m s b ≡ g)
unfolding goal bound_of
goal_bound m s φ g =
    by_plan (λ _ c. (c >>= λ b. ok (bound_goal m s b)) ≡ ok g → (b : Bound) × (c ≡ ok b) × (bound_goal m s b ≡ g)) (λ _ e. absurd (not_ok e))
    (λ n ψ r p q e. (chance n (sat m ψ s) r p q, refl, ok_same e)) (λ n l u r p q e. (expected n l u r p q, refl, ok_same e)) φ

pub goal_led : (m : Model) (s : ℕ) (φ : Formula) (g : Goal) → goal m s φ ≡ ok g → Led m s g
goal_led m s φ g e = let w = goal_bound m s φ g e in subst (Led m s) w.2 (bound_led m s w.0)

module _ (m : Model) (s : ℕ) (g : Goal) where
  -- There is a shown plan where some plan meets the bound, and the shown plan meets it.
  pub shown_there : Led m s g → (π : Plan g.steps) → Memᴰ π (plans m g.steps s) → g.met π ≡ true → (x : ℕ × Plan g.steps) × (shown m s g ≡ some x)
  unfolding shown
  shown_there l π i e = let b = l.leader_of π i e in find_there _ 1 (plans m g.steps s) b.1 (ap₂ ◌&&◌ b.3 b.2)

  -- There is a leader where there is a plan, and it leads.
  pub leader_there : Led m s g → (π : Plan g.steps) → Memᴰ π (plans m g.steps s) → (x : ℕ × Plan g.steps) × (leader m s g ≡ some x)
  unfolding leader
  leader_there l π i = let b = l.some_leader π i in find_there g.lead 1 (plans m g.steps s) b.1 b.2

  pub leader_leads : (x : ℕ × Plan g.steps) → leader m s g ≡ some x → Memᴰ x.1 (plans m g.steps s) × (g.lead x.1 ≡ true)
  unfolding leader
  leader_leads x e = find_sound g.lead 1 (plans m g.steps s) e

  pub shown_meets : (x : ℕ × Plan g.steps) → shown m s g ≡ some x → Memᴰ x.1 (plans m g.steps s) × (g.met x.1 ≡ true)
  unfolding shown
  shown_meets x e = let w = find_sound _ 1 (plans m g.steps s) e in (w.0, and_left _ (g.lead x.1) w.1)

-- A formula that sets the bound b on plans from s: it is true in s where some plan meets the bound.
pub record Sets (m : Model) (s : ℕ) (φ : Formula) (b : Bound) : Type 0 where
  pub truth : (ρ : List Step) → sat m φ s ρ ≡ any (met_by m s b) (plans m b.steps s)
  pub asks : bound_of m s φ ≡ ok b

pub sets_plan : (m : Model) (s n : ℕ) (φ : Formula) (r : Relation) (p q : ℕ) → Sets m s (plan n φ r p q) (chance n (sat m φ s) r p q)
unfolding sat bound_of
sets_plan m s n φ r p q = record { truth = λ ρ. refl; asks = refl }

pub sets_gain : (m : Model) (s n l u : ℕ) (r : Relation) (p : ℤ) (q : ℕ) → Sets m s (earns n l u r p q) (expected n l u r p q)
unfolding sat bound_of
sets_gain m s n l u r p q = record { truth = λ ρ. refl; asks = refl }

module _ {m : Model} {s : ℕ} {φ : Formula} {b : Bound} (x : Sets m s φ b) where
  -- It is true exactly when there is a shown plan: the verdict agrees with the meaning.
  pub sat_shown : (ρ : List Step) → (sat m φ s ρ ≡ true) ↔ ((y : ℕ × Plan b.steps) × (shown m s (bound_goal m s b) ≡ some y))
  sat_shown ρ = (
    λ h.
        let w = any_some _ (plans m b.steps s) (sym (x.truth ρ) ∙ h) in
        shown_there m s (bound_goal m s b) (bound_led m s b) w.0 w.1 w.2,
    λ y. let w = shown_meets m s (bound_goal m s b) y.0 y.1 in x.truth ρ ∙ any_there (met_by m s b) w.0 w.1,
  )

  pub sets_goal : goal m s φ ≡ ok (bound_goal m s b)
  unfolding goal
  sets_goal = ap (λ c. c >>= λ b. ok (bound_goal m s b)) x.asks

-- A root's bound is set by its formula.
pub bound_set : (m : Model) (s : ℕ) (φ : Formula) (b : Bound) → bound_of m s φ ≡ ok b → Sets m s φ b
unfolding bound_of
bound_set m s φ b =
    by_plan (λ φ c. c ≡ ok b → Sets m s φ b) (λ _ e. absurd (not_ok e))
    (λ n ψ r p q e. subst (Sets m s (plan n ψ r p q)) (ok_same e) (sets_plan m s n ψ r p q))
    (λ n l u r p q e. subst (Sets m s (earns n l u r p q)) (ok_same e) (sets_gain m s n l u r p q)) φ
