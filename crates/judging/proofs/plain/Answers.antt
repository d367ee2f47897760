-- A yes, or a no with nothing beside it.
use mathlib.Core.Path.{sym, ap}
use mathlib.Core.Bool.{cond}
use mathlib.Core.Option.{none}
use Rattle.lamp.specs.promises.Codes.{optional_code}
use Rattle.judging.specs.declared.Verdict.TheVariants.{No, Yes}
use Rattle.judging.proofs.plain.Goals as goal

pub returns-then-yes : goal.returns-then-yes
returns-then-yes c = sym (ap (λ t. cond t Yes (No (record { count = 0; lamp = optional_code none }))) c.if-yes.true)

pub returns : goal.returns
unfolding optional_code
returns c = sym (ap (λ t. cond t Yes (No (record { count = 0; lamp = optional_code none }))) c.if-yes.false)
