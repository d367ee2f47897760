-- Grounds by their numbers.
use Rattle.std.specs.Prelude.{ℕ, cond, List, [], ◌∷◌, eqb}
use Rattle.refusals.specs.declared.Refusal.{Refusal}
use Rattle.refusals.specs.declared.Refusal.TheVariants.{BlockCount, WordSum, Heading, HeadFields, FieldRange, SpareBytes, Inconsistent, NotFormed, NotThePlan, WrongTotal, SmallBuffer, UnreachedNode, NoModel, NoQuestion, NoBoundOnPlans, NoPlanShown, TooManyPaths, TooManyPlans}
use Rattle.refusals.specs.Number.{number}

-- The ground with a number: the first of these, if no number is another's.
abbrev pub named_in : List Refusal → ℕ → Refusal
named_in [] k = TooManyPlans
named_in (r ∷ rs) k = cond (eqb (number r) k) r (named_in rs k)

abbrev pub grounds : List Refusal
grounds = BlockCount ∷ WordSum ∷ Heading ∷ HeadFields ∷ FieldRange ∷ SpareBytes ∷ Inconsistent ∷ NotFormed ∷ NotThePlan ∷ WrongTotal ∷ SmallBuffer ∷ UnreachedNode ∷ NoModel ∷ NoQuestion ∷ NoBoundOnPlans ∷ NoPlanShown ∷ TooManyPaths ∷ TooManyPlans ∷ []

abbrev pub named : ℕ → Refusal
named = named_in grounds
