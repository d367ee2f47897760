-- Orders in which a search looks for the greatest: numbers the other way round, and weights with the greatest or the least in front.
use Rattle.std.specs.Prelude.{ℕ, ◌+◌, ◌*◌, Bool, true, false, leb}
use Rattle.logic.specs.Quantity.{Quantity}

-- The same numbers in the opposite order: a least value is a greatest one of these.
abbrev pub reversed : Quantity → Quantity
reversed Q = record { Value = Q.Value; none = Q.none; plus = Q.plus; times = Q.times; at_most = λ a b. Q.at_most b a }

-- Weights under an order of their own.
abbrev pub weights : (ℕ → ℕ → Bool) → Quantity
weights le = record { Value = ℕ; none = 0; plus = ◌+◌; times = ◌*◌; at_most = le }

-- The order in which the greatest weight leads, or with `least` true the least one.
abbrev pub order : (least : Bool) → ℕ → ℕ → Bool
order true a b = leb b a
order false a b = leb a b
