-- Which numbers a refusal can have: the first of some grounds has the number of one of them; and the plan on a sheet is refused with 10 and
-- nothing else.
use Prim.Native.Nat.{ℕ, zero, suc}
use native.Mathlib.Omega.{arith}
use mathlib.Core.Path.{◌≡◌, refl, sym, ap, subst, ◌∙◌}
use mathlib.Core.Bool.{Bool, true, false, cond}
use mathlib.Core.List.{List, [], ◌∷◌}
use mathlib.Core.Option.{Option, none, some}
use lib.Dec.{eqb}
use Rattle.logic.specs.Checked.{Checked, ok, refused, ◌>>=◌, ◌>>◌, guard}
use Rattle.logic.specs.Lists.{all, any, is_empty}
use Rattle.logic.specs.Grounds.{Ground, first, decided}
use Rattle.logic.specs.Model.{Model, enabled, outcomes}
use Rattle.logic.specs.Formula.{Formula}
use Rattle.logic.specs.Verdict.{bound_goal, bound_of, goal}
use Rattle.logic.specs.Choices.{read_each, read_plan, plan_of}
use Rattle.logic.proofs.Tests.{and_both, none≢some, some_same}
use Rattle.logic.proofs.Checked.{not_ok, ok_same}
use Rattle.logic.proofs.OnPlan.{by_plan}

module _ {A : Type 0} where
  pub refused_same : {j k : ℕ} → ◌≡◌ {A = Checked A} (refused j) (refused k) → j ≡ k
  refused_same e = cc

  pub not_refused : {a : A} {k : ℕ} → ok a ≡ refused k → ⊥
  not_refused e = let z : ◌≡◌ {A = ℕ} 0 1 = cc in omega arith

-- ---- the first of some grounds

pub first_passes : (f : ℕ → Bool) (gs : List Ground) → all (λ g. f g.number) gs ≡ true → {k : ℕ} → first gs ≡ some k → f k ≡ true
unfolding all first
first_passes f [] a e = absurd (none≢some e)
first_passes f (g ∷ gs) a {k} e = let w = and_both (f g.number) _ a in by g.passes (λ i. first_passes f gs w.1 i) e
  where
    by : (t : Bool) → (first gs ≡ some k → f k ≡ true) → cond t (first gs) (some g.number) ≡ some k → f k ≡ true
    by true h e = h e
    by false h e = subst (λ n. f n ≡ true) (some_same e) (and_both (f g.number) _ a).0

module _ {A : Type 0} (a : A) where
  abbrev of_first : Option ℕ → Checked A
  of_first none = ok a
  of_first (some k) = refused k

  -- The first ground decides.
  decided_is : (gs : List Ground) → decided gs a ≡ of_first (first gs)
  unfolding first
  decided_is [] = refl
  decided_is (g ∷ gs) = by g.passes (decided_is gs)
    where
      by : (t : Bool) → decided gs a ≡ of_first (first gs) → (guard g.number t >> decided gs a) ≡ of_first (cond t (first gs) (some g.number))
      by true h = h
      by false h = refl

  is_some : (o : Option ℕ) {k : ℕ} → of_first o ≡ refused k → o ≡ some k
  is_some none e = absurd (not_refused e)
  is_some (some j) e = ap some (refused_same e)

  is_none : (o : Option ℕ) {b : A} → of_first o ≡ ok b → (o ≡ none) × (a ≡ b)
  is_none none e = (refl, ok_same e)
  is_none (some j) e = absurd (not_ok e)

  pub decided_none : (gs : List Ground) → first gs ≡ none → decided gs a ≡ ok a
  decided_none gs e = decided_is gs ∙ ap of_first e

  pub decided_first : (gs : List Ground) {k : ℕ} → decided gs a ≡ refused k → first gs ≡ some k
  decided_first gs e = is_some (first gs) (sym (decided_is gs) ∙ e)

  -- Where a value is accepted, no ground applies, and it is the value.
  pub decided_ok : (gs : List Ground) {b : A} → decided gs a ≡ ok b → (first gs ≡ none) × (a ≡ b)
  decided_ok gs e = is_none (first gs) (sym (decided_is gs) ∙ e)

-- ---- one number only

pub record Only (k : ℕ) {A : Type 0} (c : Checked A) : Type 0 where
  pub number : {j : ℕ} → c ≡ refused j → j ≡ k

module _ {k : ℕ} where
  only_value : {A : Type 0} (a : A) → Only k (ok a)
  only_value a = record { number = λ e. absurd (not_refused e) }

  only_this : {A : Type 0} → Only k {A = A} (refused k)
  only_this = record { number = λ e. sym (refused_same e) }

  only_bind : {A B : Type 0} (c : Checked A) (f : A → Checked B) → Only k c → ((a : A) → Only k (f a)) → Only k (c >>= f)
  only_bind (ok a) f h g = g a
  only_bind (refused j) f h g = record { number = λ e. sym (refused_same e) ∙ h.number refl }

  only_guard : {B : Type 0} (t : Bool) (c : Checked B) → Only k c → Only k (guard k t >> c)
  only_guard true c h = h
  only_guard false c h = only_this

only_each : {A B : Type 0} (f : A → List ℕ → Checked (B × List ℕ)) → ((x : A) (cs : List ℕ) → Only 10 (f x cs))
    → (xs : List A) (cs : List ℕ) → Only 10 (read_each f xs cs)
unfolding read_each
only_each f h [] cs = only_value _
only_each f h (x ∷ xs) cs = only_bind (f x cs) _ (h x cs) (λ y. only_bind (read_each f xs y.1) _ (only_each f h xs y.1) (λ ys. only_value _))

only_read : (m : Model) (n s : ℕ) (cs : List ℕ) → Only 10 (read_plan m n s cs)
unfolding read_plan
only_read m zero s cs = only_value _
only_read m (suc n) s [] = only_this
only_read m (suc n) s (a ∷ cs) =
    only_guard (any (eqb a) (enabled m s)) _
    (only_bind (read_each (λ o. read_plan m n o.target) (outcomes m s a) cs) _
    (only_each (λ o. read_plan m n o.target) (λ o ds. only_read m n o.target ds) (outcomes m s a) cs) (λ qs. only_value _))

-- The plan on a sheet.
pub plan_only : (m : Model) (n s : ℕ) (cs : List ℕ) → Only 10 (plan_of m n s cs)
unfolding plan_of
plan_only m n s cs = only_bind (read_plan m n s cs) _ (only_read m n s cs) (λ x. only_guard (is_empty x.1) _ (only_value x.0))

-- The goal of a root.
pub goal_only : (m : Model) (s : ℕ) (φ : Formula) → Only 22 (goal m s φ)
unfolding goal bound_of
goal_only m s φ =
    by_plan (λ _ c. Only 22 (c >>= λ b. ok (bound_goal m s b))) (λ _. only_this) (λ n ψ r p q. only_value _) (λ n l u r p q. only_value _) φ
