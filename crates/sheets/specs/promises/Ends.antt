-- Where the reader of a plan's choices stands at the end.
use Rattle.std.specs.Prelude.{ℕ, ◌-◌, ◌≡◌, List, length, Result, Ok, Err}
use Rattle.refusals.specs.declared.Refusal.{Refusal}
use Rattle.refusals.specs.declared.Refusal.TheVariants.{NotThePlan}
use Rattle.logic.specs.Checked.{Checked, ok, refused}

-- Of l choices, those left over after a plan stand at the end. (A plan's reading is refused by ground 10 alone.)
unfoldable pub end_of : {A : Type 0} → ℕ → Checked (A × List ℕ) → Result ℕ Refusal
end_of l (ok x) = Ok (l - length x.1)
end_of l (refused k) = Err NotThePlan

-- The choices are a plan's, and none is left over.
abbrev pub AllRead : {A : Type 0} → Checked (A × List ℕ) → List ℕ → Type 0
AllRead read cs = Ok (length cs) ≡ end_of (length cs) read
