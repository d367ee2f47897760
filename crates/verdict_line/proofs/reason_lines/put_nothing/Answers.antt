-- The word, and that there is none.
use native.Mathlib.Omega.{arith}
use Rattle.verdict_line.specs.Text.{text}
use Rattle.verdict_line.specs.Reasons.{reached_line}
use Rattle.verdict_line.proofs.PutInTurn.{put_put}
use Rattle.verdict_line.proofs.reason_lines.put_nothing.Goals as goal

pub put_text-requires : goal.put_text-requires
put_text-requires c = omega (arith, c.put_text-next.ensures.next, c.requires)

pub returns : goal.returns
unfolding reached_line text
returns c =
    let word = c.put_text-next in
    let end = c.put_text in
    let long = c.requires in
    let h₁ = word.ensures.next in
    let h₂ = end.ensures.next in record { effect = put_put word.ensures end.ensures (omega arith); range = omega arith }
