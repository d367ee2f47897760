use Prim.Native.Nat.{◌+◌, ◌*◌}
use native.Mathlib.Omega.{arith}
use mathlib.Core.Path.{◌≡◌, ap, ap₂, ◌∙◌}
use Rattle.blocks.specs.Bytes.{u16, u32}
use Rattle.models.specs.Layout.{state_mask}
use Rattle.prepared_model.proofs.mask.Goals as goal

pub returns : goal.returns
unfolding state_mask u32
returns c = let S = c in let e : 10 + 4 * S.args.s ≡ 8 + 4 * S.args.s + 2 = omega arith in ap₂ (λ x y. x + 65536 * y) c.pair.ensures.value (c.pair-2.ensures.value ∙ ap (u16 S.args.m.now) e)
