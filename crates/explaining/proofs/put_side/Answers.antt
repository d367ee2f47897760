-- By whether there is something.
use Prim.Native.Nat.{ℕ, ◌≤◌}
use native.Mathlib.Omega.{arith}
use mathlib.Core.Path.{◌≡◌, sym, subst}
use Rattle.std.specs.Prelude.{Option, Some}
use Rattle.reasons.specs.declared.Reached.{Reached}
use lib.Seq.{length-take-le}
use Rattle.explaining.specs.promises.Said.{side_said, side_size}
use mir.Syntax.{w64}
use mir.ValLaws.{to_z-of_z}
use Rattle.explaining.proofs.put_side.Goals as goal

-- The choices of what is reached are few, and there.
few : (side : Option Reached) (x : Reached) (n : ℕ) → side ≡ Some x → side_size side ≤ 1365 → side_size side ≤ n → (x.size ≤ 1365) × (x.size ≤ n)
unfolding side_size
few side x n e f g = (subst (λ o. side_size o ≤ 1365) e f, subst (λ o. side_size o ≤ n) e g)

pub put_nothing-requires : goal.put_nothing-requires
put_nothing-requires c = omega (arith, c.requires.0)

pub slice_bounds-put_reached-end : goal.slice_bounds-put_reached-end
slice_bounds-put_reached-end c = sym (length-take-le _ _ (few _ _ _ c.in-Some.is c.requires.1 c.requires.2).1)

pub put_reached-requires : goal.put_reached-requires
put_reached-requires c =
    let w = few _ _ _ c.in-Some.is c.requires.1 c.requires.2 in
    omega (arith, c.requires.0, w.0, length-take-le c.in-Some.x.size c.args.choices.now w.1)

pub returns-in-None : goal.returns-in-None
unfolding side_said
returns-in-None c = let x = c.put_nothing.ensures in record { effect = rw c.in-None.is x.effect; range = omega (arith, x.range) }

pub returns-in-Some : goal.returns-in-Some
unfolding side_said
returns-in-Some c =
    let w = few _ _ _ c.in-Some.is c.requires.1 c.requires.2 in
    let x = c.put_reached.ensures in
    let put = rw (to_z-of_z w64 c.in-Some.x.total (record { sfits = c.struct_told-1.given.0.1 })) at x.effect in
    record { effect = rw c.in-Some.is put; range = omega (arith, x.range, w.0, length-take-le c.in-Some.x.size c.args.choices.now w.1) }
