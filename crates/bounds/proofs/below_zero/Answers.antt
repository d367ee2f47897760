-- `below_zero`: the magnitude of the lesser of p and 0 is how far p is below 0.
use native.Mathlib.Omega.{arith}
use mathlib.Core.Path.{◌≡◌, ap, ◌∙◌}
use lib.IntN.{ℤ, pos, negsuc, nat_abs}
use mir.Syntax.{w32}
use mir.Val.{to_z, of_z}
use borrow.Author.Rules.{rules}
use Rattle.std.proofs.lemmas.Int.{ints, clamps}
use Rattle.std.specs.Int.{int_min}
use Rattle.bounds.specs.promises.Bounded.{under}
use Rattle.bounds.proofs.below_zero.Goals as goal

magnitude : (p : ℤ) → nat_abs (int_min p (pos 0)) ≡ under p
unfolding under
magnitude (pos k) = omega (arith, ints, clamps)
magnitude (negsuc k) = omega (arith, ints, clamps)

pub returns : goal.returns
returns c =
    let p_read : to_z w32 (of_z w32 c.args.p) ≡ c.args.p = search rules in
    let read : to_z w32 (of_z w32 c.min.result) ≡ c.min.result = search rules in
    c.from.ensures ∙ c.unsigned_abs.ensures.value ∙ ap nat_abs (read ∙ c.min.ensures.value ∙ ap (λ p. int_min p (pos 0)) p_read) ∙ magnitude c.args.p
