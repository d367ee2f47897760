-- The text is copied to the front of the part that begins at the place.
use Rattle.verdict_line.proofs.PutInTurn.{put_part}
use Rattle.verdict_line.proofs.put_text.Goals as goal

pub returns : goal.returns
returns c = let S = c in
    let copy = c.copy in
    put_part S.args.text.now S.args.out.now copy.new.dst S.args.at S.requires copy.ensures
