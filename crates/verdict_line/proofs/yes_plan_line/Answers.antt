-- Seven writes, one behind the other; 1365 choices take at most 5460 bytes, so that all fit.
use native.Mathlib.Omega.{arith}
use mathlib.Core.Path.{subst}
use mathlib.Core.List.{◌++◌}
use mir.Syntax.{w64}
use mir.ValLaws.{to_z-of_z}
use Rattle.verdict_line.specs.Text.{text, signed_decimal, Put}
use Rattle.verdict_line.specs.Line.{yes_plan_line}
use Rattle.verdict_line.proofs.PutInTurn.{put_put}
use Rattle.verdict_line.proofs.yes_plan_line.Goals as goal

pub put_text-requires : goal.put_text-requires
put_text-requires c = let long = c.requires.0 in
    let few = c.requires.1 in
    let h₁ = c.put_signed-next.ensures.range in
    let h₂ = c.put_decimal-next.ensures.range in
    let h₃ = c.put_lamp-next.ensures.range in
    let h₄ = c.put_decimal-next-2.ensures.range in
    let h₅ = c.put_text-next.ensures.next in
    let h₆ = c.put_choices-next.ensures.range in
    omega arith

pub returns : goal.returns
unfolding yes_plan_line text
returns c =
    let S = c in
    let total = c.put_signed-next in
    let whole = c.put_decimal-next in
    let lamp = c.put_lamp-next in
    let count = c.put_decimal-next-2 in
    let name = c.put_text-next in
    let choices = c.put_choices-next in
    let end = c.put_text in
    let long = S.requires.0 in
    let few = S.requires.1 in
    let h₁ = total.ensures.range in
    let h₂ = whole.ensures.range in
    let h₃ = lamp.ensures.range in
    let h₄ = count.ensures.range in
    let h₅ = name.ensures.next in
    let h₆ = choices.ensures.range in
    let h₇ = end.ensures.next in
    let same = to_z-of_z w64 S.args.total S.ranges.total in
    let first = subst (λ z. Put (text "yes " ++ signed_decimal z) S.args.out.now total.new.out 0 total.result) same total.ensures.effect in
    let share = put_put first whole.ensures.effect (omega arith) in
    let lit = put_put share lamp.ensures.effect (omega arith) in
    let counted = put_put lit count.ensures.effect (omega arith) in
    let named = put_put counted name.ensures (omega arith) in
    let chosen = put_put named choices.ensures.effect (omega arith) in
    put_put chosen end.ensures (omega arith)
