-- Six writes, one behind the other.
use native.Mathlib.Omega.{arith}
use mathlib.Core.Path.{subst}
use mathlib.Core.List.{◌++◌}
use mir.Syntax.{w64}
use mir.ValLaws.{to_z-of_z}
use Rattle.verdict_line.specs.Text.{text, signed_decimal, Put}
use Rattle.verdict_line.specs.Reasons.{reached_line}
use Rattle.verdict_line.proofs.PutInTurn.{put_put}
use Rattle.verdict_line.proofs.reason_lines.put_reached.Goals as goal

pub put_text-next-requires : goal.put_text-next-requires
put_text-next-requires c = omega (arith, c.requires)

pub put_signed-next-requires : goal.put_signed-next-requires
put_signed-next-requires c = let long = c.requires in
    let h₁ = c.put_text-next.ensures.next in
    omega arith

pub put_decimal-next-requires : goal.put_decimal-next-requires
put_decimal-next-requires c = let long = c.requires in
    let h₁ = c.put_text-next.ensures.next in
    let h₂ = c.put_signed-next.ensures.range in
    omega arith

pub put_text-next-requires-2 : goal.put_text-next-requires-2
put_text-next-requires-2 c = let long = c.requires in
    let h₁ = c.put_text-next.ensures.next in
    let h₂ = c.put_signed-next.ensures.range in
    let h₃ = c.put_decimal-next.ensures.range in
    omega arith

pub put_choices-next-requires : goal.put_choices-next-requires
put_choices-next-requires c = let long = c.requires in
    let h₁ = c.put_text-next.ensures.next in
    let h₂ = c.put_signed-next.ensures.range in
    let h₃ = c.put_decimal-next.ensures.range in
    let h₄ = c.put_text-next-2.ensures.next in
    omega arith

pub put_text-requires : goal.put_text-requires
put_text-requires c = let long = c.requires in
    let h₁ = c.put_text-next.ensures.next in
    let h₂ = c.put_signed-next.ensures.range in
    let h₃ = c.put_decimal-next.ensures.range in
    let h₄ = c.put_text-next-2.ensures.next in
    let h₅ = c.put_choices-next.ensures.range in
    omega arith

pub returns : goal.returns
unfolding reached_line text
returns c =
    let S = c in
    let word = c.put_text-next in
    let total = c.put_signed-next in
    let whole = c.put_decimal-next in
    let name = c.put_text-next-2 in
    let choices = c.put_choices-next in
    let end = c.put_text in
    let long = S.requires in
    let h₁ = word.ensures.next in
    let h₂ = total.ensures.range in
    let h₃ = whole.ensures.range in
    let h₄ = name.ensures.next in
    let h₅ = choices.ensures.range in
    let h₆ = end.ensures.next in
    let same = to_z-of_z w64 S.args.total S.ranges.total in
    let signed = subst (λ z. Put (text " " ++ signed_decimal z) word.new.out total.new.out word.result total.result) same total.ensures.effect in
    let share = put_put (put_put word.ensures signed (omega arith)) whole.ensures.effect (omega arith) in
    let chosen = put_put (put_put share name.ensures (omega arith)) choices.ensures.effect (omega arith) in record { effect = put_put chosen end.ensures (omega arith); range = omega arith }
