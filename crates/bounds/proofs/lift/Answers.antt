-- `lift`: operator 9 has at most six steps that earn.
use Prim.Native.Nat.{◌*◌, ◌-◌, ◌/◌, ◌%◌, ◌^◌, ◌≤◌}
use native.Mathlib.Omega.{arith}
use mathlib.Core.Path.{◌≡◌, sym, ap, ap₂, subst, ◌∙◌}
use mathlib.Core.Logic.{⊎_elim}
use Rattle.questions.specs.Layout.{node_of}
use Rattle.questions.proofs.SetsBound.{sets_which}
use Rattle.bounds.specs.promises.Bounded.{lift_of}
use Rattle.bounds.proofs.ProductsFit.{lift_8, lift_9, sizes}
use Rattle.bounds.proofs.lift.Goals as goal

clauses_value_range : {A B : Type 0} → A × B → record { value : A; range : B }
clauses_value_range p = record { value = p.0; range = p.1 }

pub returns-then-operator : goal.returns-then-operator
returns-then-operator c = let S = c in
    let b = S.requires in clauses_value_range (⊎_elim
    (λ o. (sym (lift_8 S.args.m.now S.args.q.now S.args.j b o), omega arith))
    (λ o. absurd (c.if-operator.true (c.operator.ensures ∙ o)))
    (sets_which (node_of S.args.q.now S.args.j).operator b.sets))

pub returns : goal.returns
returns c =
    let nine : (node_of c.args.q.now c.args.j).operator ≡ 9 = sym c.operator.ensures ∙ c.if-operator.false in
    let lifted : c.from.result * c.from-2.result * c.whole.result ≡ lift_of c.args.m.now c.args.q.now c.args.j = let S = c in
    ap (λ k. k * c.whole.result) (ap₂ ◌*◌ c.from.ensures c.from-2.ensures)
    ∙ ap₂ (λ l d. 1000 * (l / 8 - (l % 8 - 1)) * d) c.left-span.ensures c.whole.ensures.value
    ∙ sym (lift_9 S.args.m.now S.args.q.now S.args.j S.requires nine) in
    let fits : c.from.result * c.from-2.result * c.whole.result ≤ 6000 * 100 ^ 6 = let S = c in
    subst (λ x. x ≤ 6000 * 100 ^ 6) (sym lifted) (sizes S.args.m.now S.args.q.now S.args.j S.requires).paid in
    record { value = lifted; range = fits }
