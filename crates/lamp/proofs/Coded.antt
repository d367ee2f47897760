-- What the code has for a lamp says that lamp.
use mathlib.Core.Path.{◌≡◌, refl, ap}
use mathlib.Core.Option.{Option, none, some}
use Rattle.logic.specs.Bound as logic
use Rattle.lamp.specs.Said.{said_lamp, said_optional}
use Rattle.lamp.specs.promises.Codes.{lamp_code, optional_code}

pub lamp_said : (l : logic.Lamp) → said_lamp (lamp_code l) ≡ l
unfolding said_lamp lamp_code
lamp_said logic.below = refl
lamp_said logic.at = refl
lamp_said logic.above = refl

pub optional_said : (o : Option logic.Lamp) → said_optional (optional_code o) ≡ o
unfolding said_optional optional_code
optional_said none = refl
optional_said (some l) = ap some (lamp_said l)
