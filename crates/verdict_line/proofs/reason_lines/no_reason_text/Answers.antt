-- One text.
use Rattle.verdict_line.specs.Text.{text}
use Rattle.verdict_line.specs.Reasons.{reason_text}
use Rattle.verdict_line.proofs.reason_lines.no_reason_text.Goals as goal

pub returns : goal.returns
unfolding reason_text text
returns c = c.put_text.ensures
