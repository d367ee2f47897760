-- The silent move of a state where the work is over: it is the one choice there, and a choice nowhere else; no "do" is true of it; "next" and
-- "gain" pass through it; such a state has one path and one plan for every number of steps. (Document 02, A.1.)
use Prim.Native.Nat.{ℕ, zero, suc, ◌+◌, ◌*◌, ◌<◌}
use native.Mathlib.Omega.{arith}
use mathlib.Core.Path.{◌≡◌, refl, sym, ap, subst, ◌∙◌}
use mathlib.Core.Logic.{◌⊎◌, inl, inr}
use mathlib.Core.Bool.{Bool, true, false, cond, ◌&&◌}
use mathlib.Core.List.Memᴰ
use mathlib.Core.List.{List, [], ◌∷◌, Memᴰ}
use lib.Dec.{eqb}
use lib.IntN.{ℤ, +ℤ_idl}
use lib.ListN.{length, take}
use Rattle.logic.specs.Lists.{is_empty, any}
use Rattle.logic.specs.Model.{Model, Step, silent, silent_step, enabled_actions, deadlocked, enabled, stored, outcomes}
use Rattle.logic.specs.Quantity.{naturals, integers, sum, Relation, related}
use Rattle.logic.specs.Checked.{ok, refused, ◌>>=◌}
use Rattle.logic.specs.Choices.{read_each, read_plan}
use Rattle.logic.specs.Formula.{Formula, does, next, gain, sat}
use Rattle.logic.specs.Limits.{path_total, multiply, plan_total}
use Rattle.logic.specs.Accepted.{Accepted}
use Rattle.logic.specs.promises.Paths.{PathFrom, move}
use Rattle.logic.proofs.Tests.{not_true, ne_eqb, keep_member, counted_range}
use Rattle.logic.proofs.Reading.{any_member}

-- An enabled action is an action of the model.
pub action_below : (m : Model) (s : ℕ) {a : ℕ} → Memᴰ a (enabled_actions m s) → a < length m.actions
unfolding enabled_actions
action_below m s i = let w = keep_member _ _ i in let r = counted_range 0 (length m.actions) w.0 in omega (arith, r.1)

module _ (m : Model) (s : ℕ) where
  -- ---- where the work is over

  module _ (o : deadlocked m s ≡ true) where
    pub silent_alone : enabled m s ≡ silent ∷ []
    unfolding enabled
    silent_alone = rw o refl

    -- So any other choice on a sheet is none: 10.
    pub others_refused : (n a : ℕ) (cs : List ℕ) → (a ≡ silent → ⊥) → read_plan m (suc n) s (a ∷ cs) ≡ refused 10
    unfolding read_plan any
    others_refused n a cs h = rw (silent_alone, ne_eqb a silent h) refl

    -- And the silent move is one: what it leads to is read on.
    pub silent_read : (n : ℕ) (cs : List ℕ)
        → read_plan m (suc n) s (silent ∷ cs) ≡ (read_each (λ o. read_plan m n o.target) (outcomes m s silent) cs >>= (λ qs. ok ((silent, qs.0), qs.1)))
    unfolding read_plan any
    silent_read n cs = rw silent_alone refl

    pub silent_outcomes : outcomes m s silent ≡ silent_step m s ∷ []
    unfolding outcomes
    silent_outcomes = rw o refl

    pub one_outcome : {o : Step} → Memᴰ o (outcomes m s silent) → o ≡ silent_step m s
    one_outcome {o} i = Memᴰ.eq_of_singleton (subst (Memᴰ o) silent_outcomes i)

  -- ---- where an action is enabled

  module _ (o : deadlocked m s ≡ false) where
    pub choices_are_actions : enabled m s ≡ enabled_actions m s
    unfolding enabled
    choices_are_actions = rw o refl

    pub outcomes_stored : (a : ℕ) → outcomes m s a ≡ stored m s a
    unfolding outcomes
    outcomes_stored a = rw o refl

  -- The outcomes of an action are those that the model gives.
  pub action_outcomes : (a : ℕ) → (a ≡ silent → ⊥) → outcomes m s a ≡ stored m s a
  unfolding outcomes
  action_outcomes a h = by (deadlocked m s) (ne_eqb a silent h)
    where
      by : (t : Bool) → eqb a silent ≡ false → cond (t && eqb a silent) (silent_step m s ∷ []) (stored m s a) ≡ stored m s a
      by true e = ap (λ u. cond u (silent_step m s ∷ []) (stored m s a)) e
      by false e = refl

  -- ---- every state

  -- A choice is an enabled action, or the silent move of a state where the work is over.
  pub choice_kind : {a : ℕ} → Memᴰ a (enabled m s) → Memᴰ a (enabled_actions m s) ⊎ ((deadlocked m s ≡ true) × (a ≡ silent))
  choice_kind {a} i = by (deadlocked m s) refl
    where
      by : (t : Bool) → deadlocked m s ≡ t → Memᴰ a (enabled_actions m s) ⊎ ((deadlocked m s ≡ true) × (a ≡ silent))
      by true o = inr (o, Memᴰ.eq_of_singleton (subst (Memᴰ a) (silent_alone o) i))
      by false o = inl (subst (Memᴰ a) (choices_are_actions o) i)

  pub action_is_choice : {a : ℕ} → Memᴰ a (enabled_actions m s) → Memᴰ a (enabled m s)
  unfolding enabled deadlocked is_empty
  action_is_choice {a} = by (enabled_actions m s)
    where
      by : (l : List ℕ) → Memᴰ a l → Memᴰ a (cond (is_empty l) (silent ∷ []) l)
      by [] i = absurd (Memᴰ.not-nil i)
      by (x ∷ l) i = i

  pub some_choice : (a : ℕ) × (l : List ℕ) × (enabled m s ≡ a ∷ l)
  unfolding enabled deadlocked is_empty
  some_choice = by (enabled_actions m s)
    where
      by : (l : List ℕ) → (a : ℕ) × (k : List ℕ) × (cond (is_empty l) (silent ∷ []) l ≡ a ∷ k)
      by [] = (silent, [], refl)
      by (a ∷ l) = (a, l, refl)

  -- What is no choice has the outcomes that the model gives.
  pub no_choice_stored : (a : ℕ) → (Memᴰ a (enabled m s) → ⊥) → outcomes m s a ≡ stored m s a
  no_choice_stored a h = by (deadlocked m s) refl
    where
      by : (t : Bool) → deadlocked m s ≡ t → outcomes m s a ≡ stored m s a
      by true o = action_outcomes a (λ e. h (subst (Memᴰ a) (sym (silent_alone o)) (Memᴰ.head e)))
      by false o = outcomes_stored o a

  -- ---- formulas

  pub next_on : (φ : Formula) (r : List Step) → sat m (next φ) s (silent_step m s ∷ r) ≡ sat m φ s r
  unfolding sat
  next_on φ r = refl

  pub gain_on : (n : ℕ) (b : Relation) (p : ℤ) (r : List Step) → sat m (gain (suc n) b p) s (silent_step m s ∷ r) ≡ sat m (gain n b p) s r
  unfolding sat sum
  gain_on n b p r = ap (λ v. related integers b v p) (+ℤ_idl (sum integers (λ o. o.reward) (take n r)))

  -- A path from a state where the work is over begins with the silent move.
  pub silent_first : deadlocked m s ≡ true → {o : Step} {r : List Step} → PathFrom m s (o ∷ r) → o ≡ silent_step m s
  silent_first w (move {a = a} {o = o} i j p) =
      let e : a ≡ silent = Memᴰ.eq_of_singleton (subst (Memᴰ a) (silent_alone w) i) in
      one_outcome w (subst (λ c. Memᴰ o (outcomes m s c)) e j)

module _ {m : Model} (accepted : Accepted m) where
  -- Where an action is enabled, the silent move is no choice.
  pub silent_nowhere_else : (s : ℕ) → deadlocked m s ≡ false → Memᴰ silent (enabled m s) → ⊥
  silent_nowhere_else s o i = let l = action_below m s (subst (Memᴰ silent) (choices_are_actions m s o) i) in omega (arith, accepted.numbered)

  -- So it is no choice on a sheet there: 10.
  pub silent_refused : (n s : ℕ) (cs : List ℕ) → deadlocked m s ≡ false → read_plan m (suc n) s (silent ∷ cs) ≡ refused 10
  unfolding read_plan
  silent_refused n s cs o = rw (not_true (any (eqb silent) (enabled m s)) (λ e. silent_nowhere_else s o (any_member silent (enabled m s) e))) refl

  -- No "do" is true of a silent step.
  pub no_do : (s a : ℕ) (r : List Step) → a < length m.actions → sat m (does a) s (silent_step m s ∷ r) ≡ false
  unfolding sat
  no_do s a r h = ne_eqb silent a (λ e. omega (arith, accepted.numbered))

  -- So none is true of a path from a state where the work is over.
  pub no_do_there : (s a : ℕ) → deadlocked m s ≡ true → a < length m.actions → {o : Step} {r : List Step} → PathFrom m s (o ∷ r) → sat m (does a) s (o ∷ r) ≡ false
  no_do_there s a w h {o} {r} p = ap (λ x. sat m (does a) s (x ∷ r)) (silent_first m s w p) ∙ no_do s a r h

-- ---- the totals of grounds 24 and 25

module _ (m : Model) (s : ℕ) (o : deadlocked m s ≡ true) where
  pub one_path : (n : ℕ) → path_total m n s ≡ 1
  unfolding path_total sum
  one_path zero = refl
  one_path (suc n) =
      ap (sum naturals (λ a. sum naturals (λ o. path_total m n o.target) (outcomes m s a))) (silent_alone m s o)
      ∙ ap (λ l. sum naturals (λ o. path_total m n o.target) l + 0) (silent_outcomes m s o)
      ∙ ap (λ t. t + 0 + 0) (one_path n)

  pub one_plan : (n : ℕ) → plan_total m n s ≡ 1
  unfolding plan_total multiply sum
  one_plan zero = refl
  one_plan (suc n) =
      ap (sum naturals (λ a. multiply (λ o. plan_total m n o.target) (outcomes m s a))) (silent_alone m s o)
      ∙ ap (λ l. multiply (λ o. plan_total m n o.target) l + 0) (silent_outcomes m s o)
      ∙ ap (λ t. t * 1 + 0) (one_plan n)
