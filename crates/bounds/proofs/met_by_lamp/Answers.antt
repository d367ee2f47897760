-- `met_by_lamp`: a relation is the lamp's just where its number is that relation's.
use Prim.Native.Nat.{ℕ, zero, suc, ◌≤◌}
use native.Mathlib.Omega.{arith}
use mathlib.Core.Path.{◌≡◌, refl, sym, ap, ◌∙◌}
use lib.Dec.{eqb}
use Rattle.logic.specs.Formula.{relation}
use Rattle.logic.specs.Bound.{Lamp, below, at, above}
use Rattle.logic.specs.promises.Lamps.{met_by_lamp}
use Rattle.lamp.specs.Said.{said_lamp}
use Rattle.bounds.proofs.met_by_lamp.Goals as goal

number : Lamp → ℕ
number below = 1
number at = 2
number above = 3

by_number : (k : ℕ) → 1 ≤ k → k ≤ 3 → (l : Lamp) → eqb k (number l) ≡ met_by_lamp (relation k) l
unfolding number met_by_lamp relation
by_number zero h g l = absurd (omega arith)
by_number (suc zero) h g below = refl
by_number (suc zero) h g at = refl
by_number (suc zero) h g above = refl
by_number (suc (suc zero)) h g below = refl
by_number (suc (suc zero)) h g at = refl
by_number (suc (suc zero)) h g above = refl
by_number (suc (suc (suc zero))) h g below = refl
by_number (suc (suc (suc zero))) h g at = refl
by_number (suc (suc (suc zero))) h g above = refl
by_number (suc (suc (suc (suc k)))) h g l = absurd (omega arith)

pub returns-in-Below : goal.returns-in-Below
unfolding number said_lamp
returns-in-Below c = let S = c in
    by_number S.args.number S.requires.0 S.requires.1 below ∙ sym (ap (λ l. met_by_lamp (relation S.args.number) (said_lamp l)) c.in-Below.is)

pub returns-in-At : goal.returns-in-At
unfolding number said_lamp
returns-in-At c = let S = c in
    by_number S.args.number S.requires.0 S.requires.1 at ∙ sym (ap (λ l. met_by_lamp (relation S.args.number) (said_lamp l)) c.in-At.is)

pub returns-in-Above : goal.returns-in-Above
unfolding number said_lamp
returns-in-Above c = let S = c in
    by_number S.args.number S.requires.0 S.requires.1 above ∙ sym (ap (λ l. met_by_lamp (relation S.args.number) (said_lamp l)) c.in-Above.is)
