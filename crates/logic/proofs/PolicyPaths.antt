-- `policy_paths` has the n-step paths that follow a policy and no others, and each once in an accepted model: the policy's choice is enabled
-- after every history on the way, and its outcomes lead to different states.
use Prim.Native.Nat.{ℕ, zero, suc, ◌+◌, ◌<◌, ◌≤◌}
use native.Mathlib.Omega.{arith}
use mathlib.Core.Path.{◌≡◌, refl, sym, ap, subst}
use mathlib.Core.Logic.{◌↔◌, ⊎_elim}
use mathlib.Core.List.Memᴰ
use mathlib.Core.List.{List, [], ◌∷◌, ◌++◌, Memᴰ}
use lib.ListN.{length, length-append}
use Rattle.logic.specs.Model.{Model, Step, enabled, outcomes}
use Rattle.logic.specs.Order.{Rising}
use Rattle.logic.specs.Policy.{last, Policy, policy_paths}
use Rattle.logic.specs.promises.Follows.{Follows, stop, move}
use Rattle.logic.specs.Accepted.{Accepted, Executable}
use Rattle.logic.proofs.Rising.{rising_one}
use Rattle.logic.proofs.Steps.{Differ, first_member, in_first, first_once}

module _ (m : Model) (act : List ℕ → ℕ) where
  -- The paths on which an outcome is the next step after the history h.
  abbrev pub onward : ℕ → List ℕ → Step → List (List Step)
  onward n h o = policy_paths m act n (h ++ (o.target ∷ [])) o.target

  listed_follows : (n : ℕ) (h : List ℕ) (s : ℕ) {r : List Step} → Memᴰ r (policy_paths m act n h s) → (length r ≡ n) × Follows m act h s r
  unfolding policy_paths
  listed_follows zero h s i = subst (λ r. (length r ≡ 0) × Follows m act h s r) (sym (Memᴰ.eq_of_singleton i)) (refl, stop)
  listed_follows (suc n) h s i =
      let u = first_member (onward n h) (outcomes m s (act h)) i in
      let w = listed_follows n (h ++ (u.0.target ∷ [])) u.0.target u.3 in
      subst (λ r. (length r ≡ suc n) × Follows m act h s r) (sym u.4) (ap suc w.0, move u.2 w.1)

  follows_listed : {h : List ℕ} {s : ℕ} {r : List Step} → Follows m act h s r → Memᴰ r (policy_paths m act (length r) h s)
  unfolding policy_paths
  follows_listed stop = Memᴰ.head refl
  follows_listed (move {h} {r = r} i f) = in_first (onward (length r) h) i (follows_listed f)

  pub policy_paths_are : (n : ℕ) (h : List ℕ) (s : ℕ) (r : List Step) → Memᴰ r (policy_paths m act n h s) ↔ ((length r ≡ n) × Follows m act h s r)
  policy_paths_are n h s r = (listed_follows n h s, λ w. subst (λ k. Memᴰ r (policy_paths m act k h s)) w.0 (follows_listed w.1))

last_append : (s : ℕ) (h : List ℕ) (t : ℕ) → last s (h ++ (t ∷ [])) ≡ t
unfolding last
last_append s [] t = refl
last_append s (u ∷ h) t = last_append u h t

-- The history s h of states ends in t, with n of N steps left.
pub record History (m : Model) (N s n : ℕ) (h : List ℕ) (t : ℕ) : Type 0 where
  pub ends_in : t ≡ last s h
  pub state : t < length m.states
  pub states : (u : ℕ) → Memᴰ u h → u < length m.states
  pub room : length h + n ≤ N

pub longer : {m : Model} {N s n : ℕ} {h : List ℕ} {t : ℕ} → History m N s (suc n) h t → (u : ℕ) → u < length m.states → History m N s n (h ++ (u ∷ [])) u
longer {m} {N} {s} {n} {h} y u k =
    record {
      ends_in = sym (last_append s h u);
      state = k;
      states = λ v i. ⊎_elim (y.states v) (λ j. subst (λ z. z < length m.states) (sym (Memᴰ.eq_of_singleton j)) k) (Memᴰ.append_cases h i);
      room = let e = length-append h (u ∷ []) in omega (arith, y.room);
    }

pub no_steps : (m : Model) (n s : ℕ) → s < length m.states → History m n s n [] s
unfolding last
no_steps m n s k = record { ends_in = refl; state = k; states = λ u i. absurd (Memᴰ.not-nil i); room = omega arith }

module _ {m : Model} {N s : ℕ} (π : Policy m N s) where
  -- The policy's choice after a history is enabled.
  pub policy_enabled : {n : ℕ} {h : List ℕ} {t : ℕ} → History m N s (suc n) h t → Executable m t (π.act (s ∷ h))
  policy_enabled {n} {h} {t} y =
      let e = π.executable h (omega (arith, y.room)) y.states in
      record { state = y.state; choice = subst (λ z. Memᴰ (π.act (s ∷ h)) (enabled m z)) (sym y.ends_in) e }

  module _ (accepted : Accepted m) where
    each_once : (n : ℕ) (h : List ℕ) (t : ℕ) → History m N s n h t → Rising Differ (policy_paths m π.act n (s ∷ h) t)
    unfolding policy_paths
    each_once zero h t y = rising_one Differ []
    each_once (suc n) h t y =
        let x = policy_enabled y in
        first_once (onward m π.act n (s ∷ h)) (accepted.apart x)
        (λ o i. each_once n (h ++ (o.target ∷ [])) o.target (longer y o.target (accepted.inside x o i)))

    pub policy_paths_once : s < length m.states → Rising Differ (policy_paths m π.act N (s ∷ []) s)
    policy_paths_once k = each_once N [] s (no_steps m N s k)
