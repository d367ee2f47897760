-- Refusals as the code gives them: by their numbers.
use Rattle.std.specs.Prelude.{ℕ}
use Rattle.std.proofs.Math.Option.{Option, none, some}
use Rattle.logic.specs.Checked.{Checked, ok, refused}

-- What is held, or refusal k.
abbrev pub held : {A : Type 0} → ℕ → Option A → Checked A
held k none = refused k
held k (some a) = ok a

-- The number of a refusal; 0 for a value.
abbrev pub refusal : {A : Type 0} → Checked A → ℕ
refusal (ok a) = 0
refusal (refused k) = k
