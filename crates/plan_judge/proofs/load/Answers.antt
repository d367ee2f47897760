use mathlib.Core.Path.{sym, ◌∙◌}
use Rattle.plan_judge.proofs.LoadPutReturn.{padded_copy, load_refused, load_fits, load_done}
use Rattle.plan_judge.proofs.load.Goals as goal

pub returns-in-Err : goal.returns-in-Err
returns-in-Err c = c.turned_down.ensures ∙ load_refused c.args.d c.args.b.now c.in-Err.r c.in-Err.ensures

pub copy-requires : goal.copy-requires
copy-requires c = load_fits c.args.d c.args.b.now (sym c.in_default.ensures)

pub returns : goal.returns
returns c = load_done c.args.d c.args.b.now (sym c.in_default.ensures) _ (padded_copy 6144 c.args.b.now _ c.copy.ensures) _ c.empty.ensures
