-- The text stands at the front of its buffer.
use Rattle.std.proofs.Common.{sym, length-take-le}
use Rattle.verdict_line.proofs.PutInTurn.{put_line}
use Rattle.whynot.proofs.main.Goals as goal

pub slice_bounds-text-end : goal.slice_bounds-text-end
slice_bounds-text-end c = (put_line c.answer-k.ensures).0

pub slice_bounds-write_all-end : goal.slice_bounds-write_all-end
slice_bounds-write_all-end c = sym (length-take-le c.answer-k.result c.answer-k.new.out (put_line c.answer-k.ensures).0)
