-- The number of each ground of refusal, and of what is told of a call: 0 where it is not refused.
use Rattle.std.specs.Prelude.{ℕ, Result, Ok, Err}
use Rattle.refusals.specs.declared.Refusal.{Refusal}
use Rattle.refusals.specs.declared.Refusal.TheVariants.{BlockCount, WordSum, Heading, HeadFields, FieldRange, SpareBytes, Inconsistent, NotFormed, NotThePlan, WrongTotal, SmallBuffer, UnreachedNode, NoModel, NoQuestion, NoBoundOnPlans, NoPlanShown, TooManyPaths, TooManyPlans}

abbrev pub number : Refusal → ℕ
number BlockCount = 1
number WordSum = 2
number Heading = 3
number HeadFields = 4
number FieldRange = 5
number SpareBytes = 6
number Inconsistent = 7
number NotFormed = 9
number NotThePlan = 10
number WrongTotal = 11
number SmallBuffer = 12
number UnreachedNode = 13
number NoModel = 20
number NoQuestion = 21
number NoBoundOnPlans = 22
number NoPlanShown = 23
number TooManyPaths = 24
number TooManyPlans = 25

abbrev pub refusal_number : {A : Type 0} → Result A Refusal → ℕ
refusal_number (Ok a) = 0
refusal_number (Err r) = number r
