-- `power`: a denominator of at most 100 to at most 6 steps is at most 100 to the 6.
use native.Mathlib.Omega.{arith}
use Rattle.bounds.proofs.Powers.{power_le}
use Rattle.bounds.proofs.power.Goals as goal

pub pow-requires : goal.pow-requires
pow-requires c = let h = power_le c.args.d c.from.result 6 c.requires.0 (omega arith) in omega arith
