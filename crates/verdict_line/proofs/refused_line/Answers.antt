-- The text, the number and the line's end, one behind the other.
use native.Mathlib.Omega.{arith}
use Rattle.verdict_line.specs.Text.{text}
use Rattle.verdict_line.specs.Line.{refused_line}
use Rattle.verdict_line.proofs.PutInTurn.{put_put}
use Rattle.verdict_line.proofs.refused_line.Goals as goal

pub returns : goal.returns
unfolding refused_line text
returns c = let number = c.put_decimal-next in
    let end = c.put_text in
    put_put number.ensures.effect end.ensures (omega (arith, end.ensures.next, number.ensures.range, c.requires))
