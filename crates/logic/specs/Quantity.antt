-- The numbers that paths are valued in: weights are summed in ℕ, rewards and totals in ℤ. One definition of sums and bounds serves both.
use Rattle.std.specs.Prelude.{ℕ, ◌+◌, ◌*◌, Bool, not, ◌&&◌, List, [], ◌∷◌, ℤ, pos, ◌+ℤ◌, ◌*ℤ◌, leb}
use Rattle.std.specs.Int.Signed.{le_z}

-- `none` is the sum of nothing.
pub record Quantity : Type 1 where
  pub Value : Type 0
  pub none : Value
  pub plus : Value → Value → Value
  pub times : ℕ → Value → Value
  pub at_most : Value → Value → Bool

abbrev pub naturals : Quantity
naturals = record { Value = ℕ; none = 0; plus = ◌+◌; times = ◌*◌; at_most = leb }

abbrev pub integers : Quantity
integers = record { Value = ℤ; none = pos 0; plus = ◌+ℤ◌; times = λ k v. pos k *ℤ v; at_most = le_z }

unfoldable pub sum : (Q : Quantity) {A : Type 0} → (A → Q.Value) → List A → Q.Value
sum Q f [] = Q.none
sum Q f (x ∷ xs) = Q.plus (f x) (sum Q f xs)

-- Relations: 1 less, 2 equal, 3 greater.
pub data Relation : Type 0 where
  less equal greater : Relation

unfoldable pub related : (Q : Quantity) → Relation → Q.Value → Q.Value → Bool
related Q less a b = not (Q.at_most b a)
related Q equal a b = Q.at_most a b && Q.at_most b a
related Q greater a b = not (Q.at_most a b)
