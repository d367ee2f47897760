-- The texts of the code are those of the definition.
use Rattle.verdict_line.specs.Text.{text}
use Rattle.verdict_line.specs.Line.{plain_line}
use Rattle.verdict_line.proofs.plain_line.Goals as goal

pub returns-then-yes : goal.returns-then-yes
unfolding plain_line text
returns-then-yes c = rw c.if-yes.true c.put_text.ensures

pub returns : goal.returns
unfolding plain_line text
returns c = rw c.if-yes.false c.put_text-2.ensures
