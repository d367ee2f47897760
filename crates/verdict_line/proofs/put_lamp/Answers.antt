-- The word of each lamp.
use native.Mathlib.Omega.{arith}
use Rattle.lamp.specs.Said.{said_lamp}
use Rattle.verdict_line.specs.Text.{text}
use Rattle.verdict_line.specs.Line.{lamp_word}
use Rattle.verdict_line.proofs.put_lamp.Goals as goal

pub returns-in-Below : goal.returns-in-Below
unfolding lamp_word said_lamp text
returns-in-Below c = let put = c.put_text in record { effect = rw c.in-Below.is put.ensures; range = omega (arith, put.ensures.next) }

pub returns-in-At : goal.returns-in-At
unfolding lamp_word said_lamp text
returns-in-At c = let put = c.put_text-in-At in record { effect = rw c.in-At.is put.ensures; range = omega (arith, put.ensures.next) }

pub returns-in-Above : goal.returns-in-Above
unfolding lamp_word said_lamp text
returns-in-Above c = let put = c.put_text-in-Above in record { effect = rw c.in-Above.is put.ensures; range = omega (arith, put.ensures.next) }
