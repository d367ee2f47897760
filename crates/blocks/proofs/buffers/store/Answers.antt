use mathlib.Core.Path.{sym}
use lib.Seq.{set_out}
use Rattle.blocks.proofs.buffers.store.Goals as goal

pub returns-else-i-v : goal.returns-else-i-v
returns-else-i-v c = sym (set_out c.args.v.now c.args.i c.args.x c.if-i-v.false)
