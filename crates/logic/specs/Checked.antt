-- A value, or the number of a refusal: what bytes are read as, and a sheet's choices.
use Rattle.std.specs.Prelude.{ℕ, Bool, true, false}
use Rattle.std.proofs.Math.Option.{Option, none, some}

pub data Checked (A : Type 0) : Type 0 where
  ok : A → Checked A
  refused : ℕ → Checked A

infixl 10 ◌>>=◌ ◌>>◌
abbrev pub ◌>>=◌ : {A B : Type 0} → Checked A → (A → Checked B) → Checked B
ok a >>= f = f a
refused k >>= f = refused k

abbrev pub ◌>>◌ : {A B : Type 0} → Checked A → Checked B → Checked B
ok a >> c = c
refused k >> c = refused k

-- Refusal k unless the test passes.
abbrev pub guard : ℕ → Bool → Checked (Unit {0})
guard k true = ok tt
guard k false = refused k

-- What was read, if it was not refused.
unfoldable pub got : {A : Type 0} → Checked A → Option A
got (ok a) = some a
got (refused k) = none
