-- `above_zero`: the magnitude of the greater of p and 0 is p where it is above 0, else 0.
use native.Mathlib.Omega.{arith}
use mathlib.Core.Path.{◌≡◌, ap, ◌∙◌}
use lib.IntN.{ℤ, pos, negsuc, nat_abs}
use mir.Syntax.{w32}
use mir.Val.{to_z, of_z}
use borrow.Author.Rules.{rules}
use Rattle.std.proofs.lemmas.Int.{ints, clamps}
use Rattle.std.specs.Int.{int_max}
use Rattle.logic.specs.Formula.{nonnegative}
use Rattle.bounds.proofs.above_zero.Goals as goal

magnitude : (p : ℤ) → nat_abs (int_max p (pos 0)) ≡ nonnegative p
unfolding nonnegative
magnitude (pos k) = omega (arith, ints, clamps)
magnitude (negsuc k) = omega (arith, ints, clamps)

pub returns : goal.returns
returns c =
    let p_read : to_z w32 (of_z w32 c.args.p) ≡ c.args.p = search rules in
    let read : to_z w32 (of_z w32 c.max.result) ≡ c.max.result = search rules in
    c.from.ensures ∙ c.unsigned_abs.ensures.value ∙ ap nat_abs (read ∙ c.max.ensures.value ∙ ap (λ p. int_max p (pos 0)) p_read) ∙ magnitude c.args.p
