-- The power of the denominator in byte 5.
use Prim.Native.Nat.{◌^◌}
use mathlib.Core.Path.{ap, ◌∙◌}
use Rattle.printing.proofs.whole.Goals as goal

pub returns : goal.returns
returns c = c.power.ensures ∙ ap (λ d. d ^ c.args.steps) c.denominator.ensures.value
