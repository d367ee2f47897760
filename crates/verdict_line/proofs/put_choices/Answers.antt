-- The loop has written the choices before this one; each takes a space and at most 3 digits, since it is a byte.
use Prim.Native.Nat.{◌<◌}
use native.Mathlib.Omega.{arith}
use mathlib.Core.Path.{◌≡◌, sym}
use mathlib.Core.List.{[], ◌∷◌, flat_map}
use lib.ListN.{length}
use Rattle.verdict_line.specs.Text.{text}
use Rattle.verdict_line.proofs.PutInTurn.{put_none, number_room, choices_more, choices_all}
use Rattle.verdict_line.proofs.put_choices.Goals as goal

pub loop-choice-init : goal.loop-choice-init
unfolding flat_map
loop-choice-init c = (omega arith, put_none c.args.out.now c.args.at)

pub loop-choice-preserved : goal.loop-choice-preserved
unfolding text
loop-choice-preserved c =
    let L = c.loop-choice in
    let put = c.put_decimal-next in
    let x = c.from.result in
    let byte : x < 256 = omega (arith, c.from.ensures, c.type_inv.choices L.choice-index) in
    let room = number_room 2 x (32 ∷ []) (omega arith) put.ensures.effect in
    (omega arith, choices_more c.args.choices.now L.choice-index c.loop-choice-test.true (omega arith) L.invariant.1 (rw (sym c.from.ensures) put.ensures.effect))

pub returns-clause-effect : goal.returns-clause-effect
returns-clause-effect c =
    let L = c.loop-choice in
    let e : L.choice-index ≡ length c.args.choices.now = omega arith in
    choices_all c.args.choices.now L.choice-index e L.invariant.1
