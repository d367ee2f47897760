use native.Mathlib.Omega.{arith}
use Prim.Native.Nat.{◌*◌, ◌/◌}
use mathlib.Core.Path.{ap}
use Rattle.prepared_model.proofs.RowFilled.{states_few, chosen_few, chosen_byte, spelled_none}
use Rattle.prepared_model.proofs.rows.spell.Goals as goal

pub loop-k-init : goal.loop-k-init
loop-k-init c = record { whole = ap (λ x. 4 * x) c.from-n.ensures; few = chosen_few c.requires.0 c.requires.3; chosen = c.requires.3; spelled = spelled_none _ _ _ }

pub outcome_at-at-requires : goal.outcome_at-at-requires
outcome_at-at-requires c = let L = c.loop-k in
    (omega (arith, states_few _ c.requires.0, c.requires.1), omega (arith, c.from.ensures, chosen_byte c.requires.0 L.invariant.chosen (L.k / 4) (omega (arith, L.invariant.whole))), omega arith)
