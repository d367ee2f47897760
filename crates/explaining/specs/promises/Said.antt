-- What is printed of what the code says of a question, with the choices in the two buffers beside it.
use Rattle.std.specs.Prelude.{ℕ, ◌≤◌, true, List, ◌++◌, take, Option as Optional, None, Some}
use Rattle.std.proofs.Math.Option.{Option, none, some}
use Rattle.logic.specs.Reason.{Reached, no_reason}
use Rattle.lamp.specs.Said.{said_lamp}
use Rattle.verdict_line.specs.Text.{text}
use Rattle.verdict_line.specs.Line.{plain_line, yes_plan_line}
use Rattle.verdict_line.specs.Reasons.{reached_line, reason_text}
use Rattle.reasons.specs.declared.Reached as code
use Rattle.reasons.specs.declared.Explanation.{Explanation}
use Rattle.reasons.specs.declared.Explanation.TheVariants.{Yes, Shown, NoReason, Greatest, Least, Nearest}

unfoldable pub side_said : Optional code.Reached → List ℕ → Option Reached
side_said None cs = none
side_said (Some x) cs = some (record { total = x.total; whole = x.whole; choices = take x.size cs })

unfoldable pub side_size : Optional code.Reached → ℕ
side_size None = 0
side_size (Some x) = x.size

unfoldable pub explained_said : Explanation → (choices further : List ℕ) → List ℕ
explained_said Yes cs ds = plain_line true
explained_said (Shown x) cs ds = yes_plan_line x.total x.whole (said_lamp x.lamp) x.count (take x.size cs)
explained_said NoReason cs ds = reason_text no_reason
explained_said (Greatest x) cs ds = reached_line (text "greatest") (side_said x cs)
explained_said (Least x) cs ds = reached_line (text "least") (side_said x cs)
explained_said (Nearest x) cs ds = reached_line (text "below") (side_said x.below cs) ++ reached_line (text "above") (side_said x.above ds)

-- How many choices are said to stand in the first buffer, and in the second.
unfoldable pub front_size : Explanation → ℕ
front_size Yes = 0
front_size (Shown x) = x.size
front_size NoReason = 0
front_size (Greatest x) = side_size x
front_size (Least x) = side_size x
front_size (Nearest x) = side_size x.below

unfoldable pub back_size : Explanation → ℕ
back_size Yes = 0
back_size (Shown x) = 0
back_size NoReason = 0
back_size (Greatest x) = 0
back_size (Least x) = 0
back_size (Nearest x) = side_size x.above

-- They are few, and inside.
pub record Few (e : Explanation) (first second : ℕ) : Type 0 where
  pub front_few : front_size e ≤ 1365
  pub front_inside : front_size e ≤ first
  pub back_few : back_size e ≤ 1365
  pub back_inside : back_size e ≤ second
