-- The fields go in one after the other, each behind what is written; all that follows is still zero.
use Rattle.sheets.proofs.BlockBegun.{begun_fields}
use Rattle.sheets.proofs.writer.begin.Goals as goal

pub returns : goal.returns
returns c = let S = c in
    begun_fields S.args.n S.args.start S.args.weight S.args.k S.args.count c.head.new.dst c.put_number.new.dst c.put_number-2.new.dst
    c.head.ensures c.put_number.ensures c.put_number-2.ensures
