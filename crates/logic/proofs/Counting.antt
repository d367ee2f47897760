-- `all_paths` has the n-step paths under enabled choices and no others, each once in an accepted model, and `path_total` is their number.
-- Paths that begin with different choices differ since a step names its choice; those of one choice differ by the outcome's target.
use Prim.Native.Nat.{ℕ, zero, suc, ◌<◌}
use native.Mathlib.Omega.{arith}
use mathlib.Core.Path.{◌≡◌, refl, sym, ap, subst, ◌∙◌}
use mathlib.Core.Logic.{◌↔◌}
use mathlib.Core.List.Memᴰ
use mathlib.Core.List.{List, [], ◌∷◌, Memᴰ}
use lib.ListN.{length}
use Rattle.logic.specs.Model.{Model, Step, enabled, outcomes}
use Rattle.logic.specs.Quantity.{naturals}
use Rattle.logic.specs.Limits.{path_total}
use Rattle.logic.specs.promises.Paths.{PathFrom, stop, move, all_paths}
use Rattle.logic.specs.Order.{Rising}
use Rattle.logic.specs.Accepted.{Accepted, Executable}
use Rattle.logic.proofs.Members.{flat_map_member, in_flat_map}
use Rattle.logic.proofs.Sums.{naturals_additive, sum_ext, length-flat_map}
use Rattle.logic.proofs.Rising.{rising_one, rising_flat_map}
use Rattle.logic.proofs.Dictionary.{enabled_rising}
use Rattle.logic.proofs.Steps.{Differ, heads, each_first, first_member, in_first, length_first, first_once}

module _ (m : Model) where
  -- The paths below an outcome, and those that begin with the choice a.
  below : ℕ → Step → List (List Step)
  below n o = all_paths m n o.target

  block : ℕ → ℕ → ℕ → List (List Step)
  block n s a = each_first (below n) (outcomes m s a)

  pub path_count : (n s : ℕ) → length (all_paths m n s) ≡ path_total m n s
  unfolding all_paths path_total below block
  path_count zero s = refl
  path_count (suc n) s =
      length-flat_map (block n s) (enabled m s)
      ∙ sum_ext naturals naturals_additive _ _ (enabled m s)
      (λ a. length_first (below n) (λ o. path_total m n o.target) (λ o. path_count n o.target) (outcomes m s a))

  listed_path : (n s : ℕ) {r : List Step} → Memᴰ r (all_paths m n s) → (length r ≡ n) × PathFrom m s r
  unfolding all_paths below block
  listed_path zero s i = subst (λ r. (length r ≡ 0) × PathFrom m s r) (sym (Memᴰ.eq_of_singleton i)) (refl, stop)
  listed_path (suc n) s i =
      let u = flat_map_member (block n s) (enabled m s) i in
      let v = first_member (below n) (outcomes m s u.0) u.2 in
      let w = listed_path n v.0.target v.3 in
      subst (λ r. (length r ≡ suc n) × PathFrom m s r) (sym v.4) (ap suc w.0, move u.1 v.2 w.1)

  path_listed : {s : ℕ} {r : List Step} → PathFrom m s r → Memᴰ r (all_paths m (length r) s)
  unfolding all_paths below block
  path_listed stop = Memᴰ.head refl
  path_listed (move {s} {r = r} i j p) = in_flat_map (block (length r) s) i (in_first (below (length r)) j (path_listed p))

  pub all_paths_are : (n s : ℕ) (r : List Step) → Memᴰ r (all_paths m n s) ↔ ((length r ≡ n) × PathFrom m s r)
  all_paths_are n s r = (listed_path n s, λ w. subst (λ k. Memᴰ r (all_paths m k s)) w.0 (path_listed w.1))

  module _ (accepted : Accepted m) where
    block_choice : (n s a : ℕ) → Executable m s a → {r : List Step} → Memᴰ r (block n s a) → (o : Step) × (t : List Step) × (r ≡ o ∷ t) × (o.choice ≡ a)
    unfolding block
    block_choice n s a x i = let u = first_member (below n) (outcomes m s a) i in (u.0, u.1, u.4, accepted.named x u.0 u.2)

    pub all_paths_once : (n s : ℕ) → s < length m.states → Rising Differ (all_paths m n s)
    unfolding all_paths below block
    all_paths_once zero s k = rising_one Differ []
    all_paths_once (suc n) s k =
        rising_flat_map (λ a b. a < b) Differ (block n s)
        (λ a b r t i j l u v e.
        let x = block_choice n s a (record { state = k; choice = i }) u in
        let y = block_choice n s b (record { state = k; choice = j }) v in
        let q : a ≡ b = sym x.3 ∙ ap (λ o. o.choice) (heads (sym x.2 ∙ e ∙ y.2)) ∙ y.3 in
        omega arith)
        (λ a i.
        let x : Executable m s a = record { state = k; choice = i } in
        first_once (below n) (accepted.apart x) (λ o j. all_paths_once n o.target (accepted.inside x o j)))
        (enabled_rising m s)
