-- `lowered`: both numbers are far below 2 to the 63, and so is their difference.
-- A difference of natural numbers, and that it is no further from 0 than either.
use Prim.Native.Nat.{ℕ, zero, suc, ◌*◌, ◌^◌, ◌≤◌}
use native.Mathlib.Omega.{arith}
use mathlib.Core.Path.{◌≡◌, refl, sym, ap, ap₂, subst, ◌∙◌}
use mathlib.Core.Bool.{Bool, true, false, not}
use lib.Dec.{T, ltb, ltb→lt, nltb→le}
use lib.IntN.{pos, sub_ℕ, ◌-ℤ◌}
use lib.Signed.{mag}
use mir.Syntax.{w64}
use mir.Val.{to_z, of_z, SFits}
use mir.ValLaws.{to_z-of_z}
use Rattle.logic.proofs.Integers.{subℕ_ge, subℕ_lt}
use Rattle.bounds.proofs.lowered.Goals as goal

minus : (x y : ℕ) → pos x -ℤ pos y ≡ sub_ℕ x y
minus x zero = ap pos (omega arith) ∙ sym (subℕ_ge x 0 (omega arith))
minus x (suc y) = refl

mag_minus : (x y b : ℕ) → x ≤ b → y ≤ b → mag (sub_ℕ x y) ≤ b
mag_minus x y b h k = go (ltb x y) refl
  where
    go : (t : Bool) → ltb x y ≡ t → mag (sub_ℕ x y) ≤ b
    go true e = let l = ltb→lt x y (subst T (sym e) tt) in rw (subℕ_lt x y l) (omega arith)
    go false e = let l = nltb→le x y (subst (λ t. T (not t)) (sym e) tt) in rw (subℕ_ge x y l) (omega arith)

same : (x : ℕ) → x ≤ 12000 * 100 ^ 6 → to_z w64 x ≡ pos x
same x h = to_z-of_z w64 (pos x) (record { sfits = omega arith })

pub overflow_cast-result : goal.overflow_cast-result
overflow_cast-result c = record { sfits = omega (arith, c.requires.x_bound) }

pub overflow_cast-result-2 : goal.overflow_cast-result-2
overflow_cast-result-2 c = record { sfits = omega (arith, c.lift.ensures.range) }

pub overflow_sub-result : goal.overflow_sub-result
overflow_sub-result c =
    let difference : to_z w64 c.args.x -ℤ to_z w64 c.lift.result ≡ sub_ℕ c.args.x c.lift.result = let S = c in
    ap₂ ◌-ℤ◌ (same S.args.x S.requires.x_bound) (same c.lift.result (omega (arith, c.lift.ensures.range))) ∙ minus S.args.x c.lift.result in
    let fits : SFits w64 (sub_ℕ c.args.x c.lift.result) = let h = mag_minus c.args.x c.lift.result (12000 * 100 ^ 6) c.requires.x_bound (omega (arith, c.lift.ensures.range)) in
    record { sfits = omega (arith, h) } in
    rw difference fits

pub returns : goal.returns
returns c =
    let difference : to_z w64 c.args.x -ℤ to_z w64 c.lift.result ≡ sub_ℕ c.args.x c.lift.result = let S = c in
    ap₂ ◌-ℤ◌ (same S.args.x S.requires.x_bound) (same c.lift.result (omega (arith, c.lift.ensures.range))) ∙ minus S.args.x c.lift.result in
    let fits : SFits w64 (sub_ℕ c.args.x c.lift.result) = let h = mag_minus c.args.x c.lift.result (12000 * 100 ^ 6) c.requires.x_bound (omega (arith, c.lift.ensures.range)) in
    record { sfits = omega (arith, h) } in
    ap (λ z. to_z w64 (of_z w64 z)) difference ∙ to_z-of_z w64 (sub_ℕ c.args.x c.lift.result) fits ∙ ap (sub_ℕ c.args.x) c.lift.ensures.value
