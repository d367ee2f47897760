use Prim.Native.Nat.{ℕ, ◌/◌, ◌%◌, ◌^◌}
use mathlib.Core.Path.{ap, ◌∙◌}
use lib.Dec.{eqb}
use Rattle.prepared_model.proofs.ReadByPlace.{prop_is}
use Rattle.prepared_model.proofs.holds.Goals as goal

pub returns : goal.returns
returns c = let S = c in ap (λ (v : ℕ). eqb (v / 2 ^ S.args.i % 2) 1) c.mask.ensures ∙ prop_is S.args.m.now S.args.s S.args.i S.requires.1
