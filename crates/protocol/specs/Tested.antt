-- A value behind tests: how a call is described. Its grounds, in their order, are the tests as a list of numbers with what each asks; what
-- it yields stands behind them. A later test may speak of what an earlier one found (the model that is held, the plan on a sheet).
use Rattle.std.specs.Prelude.{ℕ, true, false, cond, List, [], ◌∷◌}
use Rattle.std.proofs.Math.Option.{Option, none, some}
use Rattle.logic.specs.Checked.{Checked, ok, refused}
use Rattle.logic.specs.Grounds.{Ground, ◌unless◌}

-- `fails`: the ground applies, and nothing is found of which a later test could speak.
pub data Tested (A : Type 0) : Type 0 where
  value : A → Tested A
  fails : ℕ → Tested A
  test : Ground → Tested A → Tested A

infixl 10 ◌>>=◌ ◌>>◌
abbrev pub ◌>>=◌ : {A B : Type 0} → Tested A → (A → Tested B) → Tested B
value a >>= f = f a
fails k >>= f = fails k
test g c >>= f = test g (c >>= f)

abbrev pub ◌>>◌ : {A B : Type 0} → Tested A → Tested B → Tested B
value a >> d = d
fails k >> d = fails k
test g c >> d = test g (c >> d)

-- What there is; ground k if there is nothing.
abbrev pub found : {A : Type 0} → ℕ → Option A → Tested A
found k none = fails k
found k (some a) = test (k unless true) (value a)

-- These grounds, one after the other.
abbrev pub tests : List Ground → Tested (Unit {0})
tests [] = value tt
tests (g ∷ gs) = test g (tests gs)

-- The grounds, in the order in which they are tested.
unfoldable pub grounds : {A : Type 0} → Tested A → List Ground
grounds (value a) = []
grounds (fails k) = k unless false ∷ []
grounds (test g c) = g ∷ grounds c

-- The value, or the refusal.
unfoldable pub run : {A : Type 0} → Tested A → Checked A
run (value a) = ok a
run (fails k) = refused k
run (test g c) = cond g.passes (run c) (refused g.number)
