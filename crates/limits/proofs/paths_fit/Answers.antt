-- `paths_fit` meets its contract: as many rows are counted as the nodes need.
use Rattle.limits.proofs.RowsForNodes.{compared, needed_serves}
use Rattle.limits.proofs.paths_fit.Goals as goal

pub rows_needed-requires : goal.rows_needed-requires
rows_needed-requires c = compared c.requires.1

pub totals-table-requires : goal.totals-table-requires
totals-table-requires c = (c.requires.0, c.rows_needed.ensures.few)

pub nodes_fit-requires : goal.nodes_fit-requires
nodes_fit-requires c =
    let S = c in
    (S.requires.0, S.requires.1, needed_serves c.rows_needed.ensures c.totals-table.ensures)
