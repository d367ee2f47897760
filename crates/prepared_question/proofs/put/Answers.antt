-- The three stores are the cells of one node more.
use Rattle.prepared_question.proofs.OnlyChildrenChange.{pointed_more}
use Rattle.prepared_question.proofs.put.Goals as goal

pub returns : goal.returns
returns c = let S = c in
    rw (c.from.ensures, c.from-2.ensures) (pointed_more S.args.i c.left_for-l.result c.right_for-r.result S.args.d S.requires.0 S.requires.1 S.requires.2 c.left_for-l.ensures c.right_for-r.ensures S.requires.3)
