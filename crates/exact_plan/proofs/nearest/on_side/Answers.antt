-- By the side.
use mathlib.Core.Path.{sym, ap}
use mathlib.Core.Bool.{Bool, cond}
use lib.Dec.{leb, ltb}
use Rattle.exact_plan.specs.promises.Sides.{on_side}
use Rattle.exact_plan.proofs.nearest.on_side.Goals as goal

pub returns-then-above : goal.returns-then-above
unfolding on_side
returns-then-above c = let A = c.args in ap (λ (t : Bool). cond t (leb A.x A.y) (ltb A.y A.x)) (sym c.if-above.true)

pub returns : goal.returns
unfolding on_side
returns c = let A = c.args in ap (λ (t : Bool). cond t (leb A.x A.y) (ltb A.y A.x)) (sym c.if-above.false)
