-- The text, and behind it the digits that `io::decimal` gives, of which there are at most 20.
use Prim.Native.Nat.{◌^◌, ◌<◌}
use native.Mathlib.Omega.{arith}
use Rattle.verdict_line.proofs.Decimal.{few_places, few_digits}
use Rattle.verdict_line.proofs.PutInTurn.{put_put, decimal_put, number_room}
use Rattle.verdict_line.proofs.put_decimal.Goals as goal

pub put_text-requires : goal.put_text-requires
put_text-requires c = let put = c.put_text-next in
    let dec = c.decimal-k in
    let few = few_places 19 c.args.n dec.result (omega arith) dec.ensures.len in
    omega (arith, put.ensures.next, put.auto.out, dec.ensures.in_bounds)

pub returns : goal.returns
returns c = let S = c in
    let first = c.put_text-next in
    let second = c.put_text in
    let dec = c.decimal-k in
    let small : S.args.n < 10 ^ 20 = omega arith in
    let number = decimal_put S.args.n dec.result dec.new.out small dec.ensures.len dec.ensures.digits second.ensures in
    let room = few_digits 19 S.args.n small in
    let both = put_put first.ensures number (omega (arith, first.ensures.next, number.next)) in record { effect = both; range = number_room 19 S.args.n S.args.text.now small both }
