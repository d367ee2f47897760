-- The four stores compute.
use mathlib.Core.Path.{◌≡◌, ap, ◌∙◌}
use lib.ListN.{set, replicate}
use Rattle.sheets.specs.promises.Writer.{started}
use Rattle.sheets.proofs.writer.head.Goals as goal

pub returns : goal.returns
unfolding started
returns c = let z : c.args.dst.now ≡ replicate 512 0 = c.requires.1 ∙ ap (λ n. replicate n 0) c.requires.0 in
    ap (λ l. set (set (set (set l 0 4) 1 c.args.k) 2 c.args.n) 3 c.args.start) z
