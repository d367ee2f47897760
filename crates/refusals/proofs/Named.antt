-- A ground is told by its number, which is not 0 and at most 25.
use Prim.Native.Nat.{◌≤◌}
use native.Mathlib.Omega.{arith}
use mathlib.Core.Path.{◌≡◌, refl, sym}
use mathlib.Core.Bool.{true, false, false≢true}
use Rattle.std.specs.Prelude.{Result, Ok, Err, is_err}
use Rattle.refusals.specs.declared.Refusal.{Refusal}
use Rattle.refusals.specs.declared.Refusal.TheVariants.{BlockCount, WordSum, Heading, HeadFields, FieldRange, SpareBytes, Inconsistent, NotFormed, NotThePlan, WrongTotal, SmallBuffer, UnreachedNode, NoModel, NoQuestion, NoBoundOnPlans, NoPlanShown, TooManyPaths, TooManyPlans}
use Rattle.refusals.specs.Number.{number, refusal_number}
use Rattle.refusals.specs.promises.Named.{named}

pub named_number : (r : Refusal) → named (number r) ≡ r
named_number BlockCount = refl
named_number WordSum = refl
named_number Heading = refl
named_number HeadFields = refl
named_number FieldRange = refl
named_number SpareBytes = refl
named_number Inconsistent = refl
named_number NotFormed = refl
named_number NotThePlan = refl
named_number WrongTotal = refl
named_number SmallBuffer = refl
named_number UnreachedNode = refl
named_number NoModel = refl
named_number NoQuestion = refl
named_number NoBoundOnPlans = refl
named_number NoPlanShown = refl
named_number TooManyPaths = refl
named_number TooManyPlans = refl

pub number_some : (r : Refusal) → number r ≡ 0 → ⊥
number_some BlockCount e = omega arith
number_some WordSum e = omega arith
number_some Heading e = omega arith
number_some HeadFields e = omega arith
number_some FieldRange e = omega arith
number_some SpareBytes e = omega arith
number_some Inconsistent e = omega arith
number_some NotFormed e = omega arith
number_some NotThePlan e = omega arith
number_some WrongTotal e = omega arith
number_some SmallBuffer e = omega arith
number_some UnreachedNode e = omega arith
number_some NoModel e = omega arith
number_some NoQuestion e = omega arith
number_some NoBoundOnPlans e = omega arith
number_some NoPlanShown e = omega arith
number_some TooManyPaths e = omega arith
number_some TooManyPlans e = omega arith

pub number_few : (r : Refusal) → number r ≤ 25
number_few BlockCount = omega arith
number_few WordSum = omega arith
number_few Heading = omega arith
number_few HeadFields = omega arith
number_few FieldRange = omega arith
number_few SpareBytes = omega arith
number_few Inconsistent = omega arith
number_few NotFormed = omega arith
number_few NotThePlan = omega arith
number_few WrongTotal = omega arith
number_few SmallBuffer = omega arith
number_few UnreachedNode = omega arith
number_few NoModel = omega arith
number_few NoQuestion = omega arith
number_few NoBoundOnPlans = omega arith
number_few NoPlanShown = omega arith
number_few TooManyPaths = omega arith
number_few TooManyPlans = omega arith

-- An error has a number that is not 0, and what is no error has 0.
pub err_some : {A : Type 0} (x : Result A Refusal) → is_err x ≡ true → refusal_number x ≡ 0 → ⊥
err_some (Ok a) e z = absurd (false≢true e)
err_some (Err r) e z = number_some r z

pub ok_none : {A : Type 0} (x : Result A Refusal) → is_err x ≡ false → refusal_number x ≡ 0
ok_none (Ok a) e = refl
ok_none (Err r) e = absurd (false≢true (sym e))
