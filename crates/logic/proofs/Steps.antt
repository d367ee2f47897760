-- Lists of paths by their first step: for each outcome o of a list, o before each path that g has for o. A member is an outcome before a
-- member of its block; where the outcomes differ and each block has no repetition, neither has the whole.
use Prim.Native.Nat.{ℕ}
use mathlib.Core.Path.{◌≡◌, sym, ◌∙◌}
use mathlib.Core.List.{List, ◌∷◌, map, flat_map, Memᴰ}
use lib.ListN.{length, length-map}
use Rattle.logic.specs.Model.{Step}
use Rattle.logic.specs.Quantity.{naturals, sum}
use Rattle.logic.specs.Order.{Rising}
use Rattle.logic.proofs.Members.{map_member, in_map, flat_map_member, in_flat_map}
use Rattle.logic.proofs.Sums.{naturals_additive, sum_ext, length-flat_map}
use Rattle.logic.proofs.Rising.{rising_map, rising_flat_map}

abbrev pub Differ : {A : Type 0} → A → A → Type 0
Differ x y = x ≡ y → ⊥

pub heads : {o p : Step} {r t : List Step} → o ∷ r ≡ p ∷ t → o ≡ p
heads e = cc

pub tails : {o p : Step} {r t : List Step} → o ∷ r ≡ p ∷ t → r ≡ t
tails e = cc

module _ (g : Step → List (List Step)) where
  abbrev pub each_first : List Step → List (List Step)
  each_first l = flat_map (λ o. map (λ r. o ∷ r) (g o)) l

  pub first_member : (l : List Step) {t : List Step} → Memᴰ t (each_first l)
      → (o : Step) × (r : List Step) × Memᴰ o l × Memᴰ r (g o) × (t ≡ o ∷ r)
  first_member l i =
      let u = flat_map_member (λ o. map (λ r. o ∷ r) (g o)) l i in
      let v = map_member (λ r. u.0 ∷ r) (g u.0) u.2 in
      (u.0, v.0, u.1, v.1, v.2)

  pub in_first : {l : List Step} {o : Step} {r : List Step} → Memᴰ o l → Memᴰ r (g o) → Memᴰ (o ∷ r) (each_first l)
  in_first {o = o} i j = in_flat_map (λ o. map (λ r. o ∷ r) (g o)) i (in_map (λ r. o ∷ r) j)

  pub length_first : (t : Step → ℕ) → ((o : Step) → length (g o) ≡ t o) → (l : List Step) → length (each_first l) ≡ sum naturals t l
  length_first t h l =
      length-flat_map (λ o. map (λ r. o ∷ r) (g o)) l
      ∙ sum_ext naturals naturals_additive _ t l (λ o. length-map (g o) (λ r. o ∷ r) ∙ h o)

  pub first_once : {l : List Step} → Rising (λ x y. x.target ≡ y.target → ⊥) l → ((o : Step) → Memᴰ o l → Rising Differ (g o)) → Rising Differ (each_first l)
  first_once {l} d h =
      rising_flat_map (λ x y. x.target ≡ y.target → ⊥) Differ (λ o. map (λ r. o ∷ r) (g o))
      (λ x y u v _ _ p i j e.
      let a = map_member (λ r. x ∷ r) (g x) i in
      let b = map_member (λ r. y ∷ r) (g y) j in
      p (mathlib.Core.Path.ap (λ o. o.target) (heads (sym a.2 ∙ e ∙ b.2))))
      (λ o i. rising_map Differ Differ (λ r. o ∷ r) (λ r t p e. p (tails e)) (h o i))
      d
