-- The order of a search, by weight or the opposite one: the best of a list with one more is the better of the two, and the earlier where
-- they are as good.
use Prim.Native.Nat.{ℕ, ◌<◌}
use native.Mathlib.Omega.{arith}
use native.Mathlib.Decide.{dec_lt}
use mathlib.Core.Path.{◌≡◌, refl, sym, ap, ◌∙◌}
use mathlib.Core.Bool.{Bool, true, false, not, cond, false≢true}
use mathlib.Core.List.{List, [], ◌∷◌, ◌++◌}
use lib.Dec.{T, leb, ltb}
use borrow.Author.Tests.{lt-ltb, le-ltb, lt-leb, le-leb}
use Rattle.logic.specs.Quantity.{Quantity, naturals}
use Rattle.logic.specs.promises.Orders.{weights, order}
use Rattle.logic.specs.promises.Recursion.{first_best}
use Rattle.logic.proofs.Tests.{T→true, true→T, not_true}
use Rattle.logic.proofs.Sums.{Additive, naturals_additive}
use Rattle.logic.proofs.Best.{Ordered, naturals_ordered, reversed_ordered}

pub less_not : (a b : ℕ) → ltb a b ≡ not (leb b a)
less_not a b = go (dec_lt a b)
  where
    go : Dec (a < b) → ltb a b ≡ not (leb b a)
    go (yes h) = lt-ltb a b h ∙ sym (ap not (lt-leb b a h))
    go (no h) = le-ltb a b (omega arith) ∙ sym (ap not (le-leb b a (omega arith)))

pub ordered : (least : Bool) → Ordered (weights (order least))
ordered true = reversed_ordered naturals naturals_ordered
ordered false = naturals_ordered

pub additive : (le : ℕ → ℕ → Bool) → Additive (weights le)
additive le =
    let L : Additive naturals = naturals_additive in
    record {
      none_plus = L.none_plus;
      plus_none = L.plus_none;
      plus_assoc = L.plus_assoc;
      times_none = L.times_none;
      times_plus = L.times_plus;
      times_times = L.times_times;
      one_times = L.one_times;
    }

module _ (Q : Quantity) (O : Ordered Q) {A : Type 0} (v : A → Q.Value) where
  unfoldable pub better : A → A → A
  better b y = cond (Q.at_most (v y) (v b)) b y

  -- The better of three, grouped either way.
  better_assoc : (x b y : A) (t u : Bool) → Q.at_most (v y) (v b) ≡ t → Q.at_most (v b) (v x) ≡ u → better x (cond t b y) ≡ better (cond u x b) y
  unfolding better
  better_assoc x b y true true e d =
      let h : Q.at_most (v y) (v x) ≡ true = T→true _ (O.trans (v y) (v b) (v x) (true→T e) (true→T d)) in
      ap (λ z. cond z x b) d ∙ sym (ap (λ z. cond z x y) h)
  better_assoc x b y true false e d = ap (λ z. cond z x b) d ∙ sym (ap (λ z. cond z b y) e)
  better_assoc x b y false true e d = refl
  better_assoc x b y false false e d =
      let l : T (Q.at_most (v x) (v b)) = O.lt_le (v x) (v b) (true→T (ap not d)) in
      let h : Q.at_most (v y) (v x) ≡ false = not_true _ (λ z. false≢true (sym e ∙ T→true _ (O.trans (v y) (v x) (v b) (true→T z) l))) in
      ap (λ z. cond z x y) h ∙ sym (ap (λ z. cond z b y) e)

  pub first_best_more : (x : A) (l : List A) (y : A) → first_best Q v x (l ++ (y ∷ [])) ≡ better (first_best Q v x l) y
  unfolding first_best better
  first_best_more x [] y = refl
  first_best_more x (z ∷ l) y =
      let b : A = first_best Q v z l in
      ap (λ w. better x w) (first_best_more z l y) ∙ better_assoc x b y (Q.at_most (v y) (v b)) (Q.at_most (v b) (v x)) refl refl
