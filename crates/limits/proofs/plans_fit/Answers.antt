-- `plans_fit` meets its contract: a table of all rows has those that each node needs.
use Rattle.limits.proofs.RowsForNodes.{counted_serves}
use Rattle.limits.proofs.plans_fit.Goals as goal

pub nodes_fit-requires : goal.nodes_fit-requires
nodes_fit-requires c = (c.requires.prepared.0, c.requires.prepared.1, counted_serves c.requires.prepared.1 c.requires.counted)
