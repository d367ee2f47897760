-- Lamps as the code has them.
use Rattle.std.specs.Prelude.{Option as Optional, Some, None}
use Rattle.std.proofs.Math.Option.{Option, none, some}
use Rattle.logic.specs.Bound as logic
use Rattle.lamp.specs.declared.Lamp.{Lamp}
use Rattle.lamp.specs.declared.Lamp.TheVariants.{Below, At, Above}

unfoldable pub lamp_code : logic.Lamp → Lamp
lamp_code logic.below = Below
lamp_code logic.at = At
lamp_code logic.above = Above

unfoldable pub optional_code : Option logic.Lamp → Optional Lamp
optional_code none = None
optional_code (some l) = Some (lamp_code l)
