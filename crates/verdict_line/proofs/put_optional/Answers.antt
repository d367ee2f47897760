-- The lamp's word, or nothing.
use native.Mathlib.Omega.{arith}
use Rattle.lamp.specs.Said.{said_optional}
use Rattle.verdict_line.specs.Line.{optional_word}
use Rattle.verdict_line.proofs.PutInTurn.{put_none}
use Rattle.verdict_line.proofs.put_optional.Goals as goal

pub returns-in-None : goal.returns-in-None
unfolding optional_word said_optional
returns-in-None c = let S = c in record { effect = rw c.in-None.is (put_none S.args.out.now S.args.at); range = omega arith }

pub returns-in-Some : goal.returns-in-Some
unfolding optional_word said_optional
returns-in-Some c = let put = c.put_lamp in record { effect = rw c.in-Some.is put.ensures.effect; range = put.ensures.range }
