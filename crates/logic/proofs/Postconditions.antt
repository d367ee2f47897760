-- Where an action's postconditions contradict and each is true in the target of its own outcome, in a target no other is true, and each is
-- true in one target only: two that are both true somewhere do not contradict (`not_both`), so they stand in the same place.
use mathlib.Core.Path.{◌≡◌, refl, sym, subst, ◌∙◌}
use mathlib.Core.Logic.{⊎_elim}
use mathlib.Core.Bool.{true}
use mathlib.Core.List.Memᴰ
use mathlib.Core.List.{List, ◌∷◌, Memᴰ}
use Rattle.logic.specs.Model.{Literals, Model, Step, true_of, contradict, mask}
use Rattle.logic.specs.Plan.{Match, ends, pair}
use Rattle.logic.specs.Order.{Rising, nothing, first}
use Rattle.logic.proofs.Contradiction.{not_both}

module _ (m : Model) where
  abbrev holds : Literals → Step → Type 0
  holds k o = true_of k (mask m o.target) ≡ true

  clash : (k l : Literals) (o : Step) → contradict k l ≡ true → holds k o → holds l o → ⊥
  clash k l o c e f = not_both k l (mask m o.target) c e f

  pub unique_post : {ks : List Literals} → Rising (λ k l. contradict k l ≡ true) ks → (o : Step) {k l : Literals} → Memᴰ k ks → Memᴰ l ks
      → holds k o → holds l o → k ≡ l
  unique_post nothing o i j e f = absurd (Memᴰ.not-nil i)
  unique_post (first {x = x} h t) o {k} {l} i j e f =
      ⊎_elim
      (λ p. ⊎_elim (λ q. p ∙ sym q) (λ q. absurd (clash x l o (h l q) (subst (λ z. holds z o) p e) f)) (Memᴰ.cases_cons j))
      (λ p. ⊎_elim (λ q. absurd (clash x k o (h k p) (subst (λ z. holds z o) q f) e)) (λ q. unique_post t o p q e f) (Memᴰ.cases_cons j))
      (Memᴰ.cases_cons i)

  -- The postcondition of an outcome's place.
  own_post : {ks : List Literals} {l : List Step} → Match holds ks l → {o : Step} → Memᴰ o l → (k : Literals) × Memᴰ k ks × holds k o
  own_post ends i = absurd (Memᴰ.not-nil i)
  own_post (pair {x = k} r t) i =
      ⊎_elim (λ p. (k, Memᴰ.head refl, subst (holds k) (sym p) r)) (λ p. let w = own_post t p in (w.0, Memᴰ.tail w.1, w.2)) (Memᴰ.cases_cons i)

  -- A later outcome has a postcondition of its own, which contradicts the first one.
  not_first : (k : Literals) {ks : List Literals} {l : List Step} → ((y : Literals) → Memᴰ y ks → contradict k y ≡ true) → Match holds ks l
      → (z : Step) → Memᴰ z l → holds k z → ⊥
  not_first k h t z q g = let w = own_post t q in clash k w.0 z (h w.0 w.1) g w.2

  pub unique_target : {ks : List Literals} {l : List Step} → Match holds ks l → Rising (λ k l. contradict k l ≡ true) ks → (k : Literals) → Memᴰ k ks
      → (x y : Step) → Memᴰ x l → Memᴰ y l → holds k x → holds k y → x ≡ y
  unique_target ends h k i x y a b e f = absurd (Memᴰ.not-nil i)
  unique_target (pair {x = c} {y = o} r t) (first h u) k i x y a b e f =
      let all : Rising (λ k l. contradict k l ≡ true) (c ∷ _) = first h u in
      let same : (z : Step) → z ≡ o → holds k z → k ≡ c = λ z p g. unique_post all z i (Memᴰ.head refl) g (subst (holds c) (sym p) r) in
      ⊎_elim
      (λ p. ⊎_elim (λ q. p ∙ sym q) (λ q. absurd (not_first c h t y q (subst (λ z. holds z y) (same x p e) f))) (Memᴰ.cases_cons b))
      (λ p. ⊎_elim
      (λ q. absurd (not_first c h t x p (subst (λ z. holds z x) (same y q f) e)))
      (λ q. ⊎_elim (λ g. absurd (not_first c h t x p (subst (λ z. holds z x) g e))) (λ g. unique_target t u k g x y p q e f) (Memᴰ.cases_cons i))
      (Memᴰ.cases_cons b))
      (Memᴰ.cases_cons a)
