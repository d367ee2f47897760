-- Grounds of refusal: lists of numbers with their tests, to be laid beside the two tables of document 01, "Refused because of the input"
-- and "Refused because of the state". "Each test is made on the whole input before the next."
use Rattle.std.specs.Prelude.{ℕ, Bool, cond, List, [], ◌∷◌}
use Rattle.std.proofs.Math.Option.{Option, none, some}
use Rattle.logic.specs.Checked.{Checked, ok, ◌>>◌, guard}

pub record Ground : Type 0 where
  pub number : ℕ
  pub passes : Bool

infix 68 ◌unless◌
-- Refused with this number unless the test passes.
abbrev pub ◌unless◌ : ℕ → Bool → Ground
k unless t = record { number = k; passes = t }

-- The number of the first ground that applies; none if no ground does.
unfoldable pub first : List Ground → Option ℕ
first [] = none
first (g ∷ gs) = cond g.passes (first gs) (some g.number)

-- The value, or the refusal by the first ground that applies.
abbrev pub decided : {A : Type 0} → List Ground → A → Checked A
decided [] a = ok a
decided (g ∷ gs) a = guard g.number g.passes >> decided gs a
