use Rattle.prepared_model.proofs.BitSums.{lane_flip}
use Rattle.last_step.proofs.lanes.flipped.Goals as goal

pub returns : goal.returns
returns c = record { right = lane_flip c.args.x }
