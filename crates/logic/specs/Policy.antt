-- Bounded policies as published: Definition 2 of the PLBP paper (Definitions 9 to 11 and 13 of the r-PLBP thesis); docs/PAPERS.md says which
-- these are.
use Rattle.std.specs.Prelude.{ℕ, zero, suc, ◌<◌, length, ℤ}
use mathlib.Core.List.{List, [], ◌∷◌, ◌++◌, map, flat_map, Memᴰ}
use Rattle.logic.specs.Lists.{keep}
use Rattle.logic.specs.Model.{Model, Step, enabled, outcomes}
use Rattle.logic.specs.Quantity.{naturals, integers, sum}
use Rattle.logic.specs.Plan.{weight}
use Rattle.logic.specs.Bound.{weighed, gain_between}
use Rattle.logic.specs.Formula.{Formula, sat}

-- The last state of the history s h.
unfoldable pub last : ℕ → List ℕ → ℕ
last s [] = s
last s (t ∷ h) = last t h

-- An n-step policy from s: a choice for every sequence of at most n states that begins with s, enabled in the sequence's last state,
-- whether or not the policy can meet that sequence.
pub record Policy (m : Model) (n s : ℕ) : Type 0 where
  pub act : List ℕ → ℕ
  pub executable : (h : List ℕ) → length h < n → ((t : ℕ) → Memᴰ t h → t < length m.states) → Memᴰ (act (s ∷ h)) (enabled m (last s h))

-- The paths of n steps by a policy, listed: Paths of Definition 2, without the sequences of chance 0. That they are just these, each once, is proved
-- (`PolicyPaths`); that plans and policies have the same paths, in `Policies`.
unfoldable pub policy_paths : Model → (List ℕ → ℕ) → ℕ → List ℕ → ℕ → List (List Step)
policy_paths m act zero h s = [] ∷ []
policy_paths m act (suc n) h s = flat_map (λ o. map (λ r. o ∷ r) (policy_paths m act n (h ++ (o.target ∷ [])) o.target)) (outcomes m s (act h))

-- The measure of the paths on which the condition is true, times the denominator to the n.
unfoldable pub policy_weight : (m : Model) → Formula → (n s : ℕ) → Policy m n s → ℕ
policy_weight m φ n s π = sum naturals weight (keep (sat m φ s) (policy_paths m π.act n (s ∷ []) s))

-- Over the paths of a policy: weight times the gain of steps l to u, summed. Definition 13's expected reward, times the denominator to the n.
unfoldable pub policy_gain : (m : Model) → (l u n s : ℕ) → Policy m n s → ℤ
policy_gain m l u n s π = weighed integers (gain_between l u) (policy_paths m π.act n (s ∷ []) s)
