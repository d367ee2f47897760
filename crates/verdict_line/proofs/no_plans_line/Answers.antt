-- The text, the number, the lamp and the line's end, one behind the other.
use native.Mathlib.Omega.{arith}
use Rattle.verdict_line.specs.Text.{text}
use Rattle.verdict_line.specs.Line.{no_plans_line}
use Rattle.verdict_line.proofs.PutInTurn.{put_put}
use Rattle.verdict_line.proofs.no_plans_line.Goals as goal

pub returns : goal.returns
unfolding no_plans_line text
returns c = let number = c.put_decimal-next in
    let lamp = c.put_optional-next in
    let end = c.put_text in
    let long = c.requires in
    let h₁ = number.ensures.range in
    let h₂ = lamp.ensures.range in
    let h₃ = end.ensures.next in
    put_put (put_put number.ensures.effect lamp.ensures.effect (omega arith)) end.ensures (omega arith)
