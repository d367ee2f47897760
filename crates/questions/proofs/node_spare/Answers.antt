-- Each arm tests the empty cells of its operator's row; "plan", "earns" and a byte that is no operator's have none.
-- What an operator's row says of the node that stands at a place.
use Prim.Native.Nat.{ℕ, ◌+◌}
use mathlib.Core.Path.{◌≡◌, refl, sym, ap₂, ◌∙◌}
use mathlib.Core.Logic.{⊎_elim}
use mathlib.Core.Bool.{Bool, ◌&&◌}
use Rattle.blocks.specs.Bytes.{Bytes, byte, zeros}
use Rattle.questions.specs.declared.operators.Operator.TheVariants.{False, Prop, Not, And, Do, Next, Gain, Plan, Earns}
use Rattle.questions.specs.Layout.{node_at, node_of}
use Rattle.questions.specs.Grounds.{spare_by, node_spare}
use Rattle.questions.proofs.OperatorRead.{number_is, number_none}
use Rattle.questions.proofs.TableNodeByNode.{spare_all, other_spare}
use Rattle.questions.proofs.node_spare.Goals as goal

abbrev row : Bytes → ℕ → ℕ → Bool
row b at operator = spare_by (zeros b (at + 1) 1) (zeros b (at + 2) 1) (zeros b (at + 3) 1) (zeros b (at + 4) 8) operator

by_row : (b : Bytes) (i : ℕ) {at op k : ℕ} {r : Bool} → at ≡ node_at i → op ≡ byte b (node_at i) → op ≡ k → r ≡ row b at k → r ≡ node_spare b i
unfolding node_spare
by_row b i a o e v = v ∙ ap₂ (row b) a (sym e ∙ o)

pub returns-in_default : goal.returns-in_default
unfolding node_of
returns-in_default c = let S = c.args in
    let no = number_none c.try_from.ensures c.in_default.is in
    other_spare S.b.now S.i c.operator.result (sym c.operator.ensures) (no False) (⊎_elim (no Prop) (no Do)) (⊎_elim (no Not) (no Next)) (no And) (no Gain)

pub returns-in-False : goal.returns-in-False
unfolding node_of
returns-in-False c = let S = c.args in
    by_row S.b.now S.i c.node_at-at.ensures.value c.operator.ensures (number_is False c.try_from.ensures c.in-Ok.is c.in-False.is) (c.zeros.ensures ∙ spare_all S.b.now c.node_at-at.result)

pub returns-in-Prop : goal.returns-in-Prop
unfolding node_of
returns-in-Prop c = let S = c.args in
    ⊎_elim
    (λ k. by_row S.b.now S.i c.node_at-at.ensures.value c.operator.ensures (number_is Prop c.try_from.ensures c.in-Ok.is k) c.only_left.ensures)
    (λ k. by_row S.b.now S.i c.node_at-at.ensures.value c.operator.ensures (number_is Do c.try_from.ensures c.in-Ok.is k) c.only_left.ensures)
    c.in-Prop.is

pub returns-in-Not : goal.returns-in-Not
unfolding node_of
returns-in-Not c = let S = c.args in
    ⊎_elim
    (λ k. by_row S.b.now S.i c.node_at-at.ensures.value c.operator.ensures (number_is Not c.try_from.ensures c.in-Ok.is k) c.only_left-in-Not.ensures)
    (λ k. by_row S.b.now S.i c.node_at-at.ensures.value c.operator.ensures (number_is Next c.try_from.ensures c.in-Ok.is k) c.only_left-in-Not.ensures)
    c.in-Not.is

pub returns-in-And : goal.returns-in-And
unfolding node_of
returns-in-And c = let S = c.args in
    by_row S.b.now S.i c.node_at-at.ensures.value c.operator.ensures (number_is And c.try_from.ensures c.in-Ok.is c.in-And.is) (ap₂ ◌&&◌ c.zeros-in-And.ensures c.zeros-in-And-2.ensures)

pub returns-in-Gain : goal.returns-in-Gain
unfolding node_of
returns-in-Gain c = let S = c.args in
    by_row S.b.now S.i c.node_at-at.ensures.value c.operator.ensures (number_is Gain c.try_from.ensures c.in-Ok.is c.in-Gain.is) c.zeros-in-Gain.ensures

pub returns-in-Plan : goal.returns-in-Plan
unfolding node_of
returns-in-Plan c = let S = c.args in
    ⊎_elim
    (λ k. by_row S.b.now S.i c.node_at-at.ensures.value c.operator.ensures (number_is Plan c.try_from.ensures c.in-Ok.is k) refl)
    (λ k. by_row S.b.now S.i c.node_at-at.ensures.value c.operator.ensures (number_is Earns c.try_from.ensures c.in-Ok.is k) refl)
    c.in-Plan.is
