-- Whether a bound is met, by its relation and a total's lamp: that this is what `meets` says is proved (`Lamps`).
use Rattle.std.specs.Prelude.{Bool, true, false}
use Rattle.logic.specs.Quantity.{Relation, less, equal, greater}
use Rattle.logic.specs.Bound.{Lamp, below, at, above}

unfoldable pub met_by_lamp : Relation → Lamp → Bool
met_by_lamp less below = true
met_by_lamp less at = false
met_by_lamp less above = false
met_by_lamp equal below = false
met_by_lamp equal at = true
met_by_lamp equal above = false
met_by_lamp greater below = false
met_by_lamp greater at = false
met_by_lamp greater above = true
