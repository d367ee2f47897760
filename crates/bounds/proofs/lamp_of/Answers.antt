-- `lamp_of`: with both sides raised alike nothing is negative, every product fits, and the lamp is the one that it is in integers.
use Prim.Native.Nat.{◌+◌, ◌*◌, ◌^◌, ◌≤◌}
use native.Mathlib.Omega.{arith}
use mathlib.Core.Path.{ap, ap₂}
use Rattle.bounds.proofs.ProductsFit.{total_small, compared_is}
use Rattle.bounds.proofs.lamp_of.Goals as goal

pub overflow_mul-s : goal.overflow_mul-s
overflow_mul-s c =
    let total_fits : c.raised_bound-s.result.parts * c.args.x ≤ 1000 * (12000 * 100 ^ 6) = let S = c in
    total_small S.args.m.now S.args.q.now S.args.j S.requires.bounded c.raised_bound-s.ensures.its_parts S.requires.x_bound in
    record { fits = omega (arith, total_fits) }

pub overflow_add-s : goal.overflow_add-s
overflow_add-s c =
    let total_fits : c.raised_bound-s.result.parts * c.args.x ≤ 1000 * (12000 * 100 ^ 6) = let S = c in
    total_small S.args.m.now S.args.q.now S.args.j S.requires.bounded c.raised_bound-s.ensures.its_parts S.requires.x_bound in
    record { fits = omega (arith, total_fits, c.raised_bound-s.ensures.down_small) }

pub returns : goal.returns
returns c =
    let L = c in
    let S = L.before in
    let s = L.raised_bound-s.ensures in
    let left = ap₂ ◌+◌ (ap (λ k. k * S.args.x) s.its_parts) s.its_down in
    compared_is S.args.m.now S.args.q.now S.args.j S.requires.bounded S.args.x c.compared.ensures left s.its_up
