-- A total compares with its bound by the relation of its lamp, and by no other: the bound is met exactly when this is its own relation. So whether a
-- bound is met follows from the lamp and the relation, and is what it was.
use Prim.Native.Nat.{ℕ}
use mathlib.Core.Path.{◌≡◌, refl, sym, subst, ◌∙◌}
use mathlib.Core.Logic.{◌↔◌}
use mathlib.Core.Bool.{Bool, true, false, not, cond, ◌&&◌, ◌||◌, false≢true}
use lib.Dec.{T}
use Rattle.logic.specs.Model.{Model}
use Rattle.logic.specs.Quantity.{Quantity, Relation, less, equal, greater, related}
use Rattle.logic.specs.Bound.{meets, Lamp, below, at, above, lamp_relation, compared, lamp}
use Rattle.logic.specs.promises.Lamps.{met_by_lamp}
use Rattle.logic.proofs.Tests.{T→true}
use Rattle.logic.proofs.Best.{Ordered}

-- ---- by the two tests of an order, whether a is at most b and b at most a

holds : Relation → (x y : Bool) → Bool
holds less x y = not y
holds equal x y = x && y
holds greater x y = not x

by_tests : (x y : Bool) → Lamp
by_tests x y = cond (not y) below (cond (x && y) at above)

holds_as_lamp : (x y : Bool) → holds (lamp_relation (by_tests x y)) x y ≡ true
unfolding holds by_tests lamp_relation
holds_as_lamp true true = refl
holds_as_lamp true false = refl
holds_as_lamp false true = refl
holds_as_lamp false false = refl

holds_by_lamp : (r : Relation) (x y : Bool) → x || y ≡ true → holds r x y ≡ met_by_lamp r (by_tests x y)
unfolding holds by_tests met_by_lamp
holds_by_lamp less true true e = refl
holds_by_lamp less true false e = refl
holds_by_lamp less false true e = refl
holds_by_lamp less false false e = absurd (false≢true e)
holds_by_lamp equal true true e = refl
holds_by_lamp equal true false e = refl
holds_by_lamp equal false true e = refl
holds_by_lamp equal false false e = absurd (false≢true e)
holds_by_lamp greater true true e = refl
holds_by_lamp greater true false e = refl
holds_by_lamp greater false true e = refl
holds_by_lamp greater false false e = absurd (false≢true e)

-- ---- the lamp and the relation

own_met : (l : Lamp) → met_by_lamp (lamp_relation l) l ≡ true
unfolding met_by_lamp lamp_relation
own_met below = refl
own_met at = refl
own_met above = refl

met_own : (r : Relation) (l : Lamp) → met_by_lamp r l ≡ true → lamp_relation l ≡ r
unfolding met_by_lamp lamp_relation
met_own less below e = refl
met_own less at e = absurd (false≢true e)
met_own less above e = absurd (false≢true e)
met_own equal below e = absurd (false≢true e)
met_own equal at e = refl
met_own equal above e = absurd (false≢true e)
met_own greater below e = absurd (false≢true e)
met_own greater at e = absurd (false≢true e)
met_own greater above e = refl

pub met_by_lamp_exactly : (r : Relation) (l : Lamp) → (met_by_lamp r l ≡ true) ↔ (lamp_relation l ≡ r)
met_by_lamp_exactly r l = (met_own r l, λ e. subst (λ r. met_by_lamp r l ≡ true) e (own_met l))

-- ---- values, and totals against bounds

module _ (Q : Quantity) (a b : Q.Value) where
  related_is : (r : Relation) → related Q r a b ≡ holds r (Q.at_most a b) (Q.at_most b a)
  unfolding related holds
  related_is less = refl
  related_is equal = refl
  related_is greater = refl

  pub related_as_lamp : related Q (lamp_relation (compared Q a b)) a b ≡ true
  unfolding compared related by_tests
  related_as_lamp = related_is (lamp_relation (compared Q a b)) ∙ holds_as_lamp (Q.at_most a b) (Q.at_most b a)

  either_way : Ordered Q → Q.at_most a b || Q.at_most b a ≡ true
  either_way O = pick (Q.at_most a b) (Q.at_most b a) (λ t. T→true _ (O.lt_le b a t))
    where
      pick : (x y : Bool) → (T (not x) → y ≡ true) → x || y ≡ true
      pick true y h = refl
      pick false y h = h tt

  pub related_by_lamp : Ordered Q → (r : Relation) → related Q r a b ≡ met_by_lamp r (compared Q a b)
  unfolding compared related by_tests
  related_by_lamp O r = related_is r ∙ holds_by_lamp r (Q.at_most a b) (Q.at_most b a) (either_way O)

module _ (Q : Quantity) (m : Model) (n : ℕ) (p : Q.Value) (q : ℕ) (w : Q.Value) where
  -- A total is in its lamp's relation to its bound.
  pub meets_as_lamp : meets Q m n (lamp_relation (lamp Q m n p q w)) p q w ≡ true
  unfolding meets lamp
  meets_as_lamp = related_as_lamp Q _ _

  pub meets_by_lamp : Ordered Q → (r : Relation) → meets Q m n r p q w ≡ met_by_lamp r (lamp Q m n p q w)
  unfolding meets lamp
  meets_by_lamp O r = related_by_lamp Q _ _ O r

  -- A bound is met exactly when its relation is the lamp's.
  pub met_exactly : Ordered Q → (r : Relation) → (meets Q m n r p q w ≡ true) ↔ (lamp_relation (lamp Q m n p q w) ≡ r)
  met_exactly O r =
      let e = meets_by_lamp O r in
      let i = met_by_lamp_exactly r (lamp Q m n p q w) in
      (λ h. i.0 (sym e ∙ h), λ h. e ∙ i.1 h)
