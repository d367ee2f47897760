-- What the code's lamps say, in document 02's words.
use Rattle.std.specs.Prelude.{Option as Optional, Some, None}
use Rattle.std.proofs.Math.Option.{Option, none, some}
use Rattle.logic.specs.Bound as logic
use Rattle.lamp.specs.declared.Lamp.{Lamp}
use Rattle.lamp.specs.declared.Lamp.TheVariants.{Below, At, Above}

unfoldable pub said_lamp : Lamp → logic.Lamp
said_lamp Below = logic.below
said_lamp At = logic.at
said_lamp Above = logic.above

unfoldable pub said_optional : Optional Lamp → Option logic.Lamp
said_optional None = none
said_optional (Some l) = some (said_lamp l)
