-- Each operator that reads its children on the path passes its mark on to those that look as far ahead.
-- What the tests on the way read is the node's.
use Prim.Native.Nat.{ℕ}
use native.Mathlib.Omega.{arith}
use mathlib.Core.Path.{◌≡◌, sym, ap, subst, ◌∙◌}
use mathlib.Core.Logic.{◌⊎◌, inl, inr, ⊎_elim}
use lib.ListN.{set}
use Rattle.std.specs.Prelude.{Result, Ok}
use Rattle.questions.specs.declared.operators.Operator.{Operator}
use Rattle.questions.specs.declared.operators.Operator.TheVariants.{Not, And, Next}
use Rattle.questions.specs.declared.operators.Unknown.{Unknown}
use Rattle.questions.specs.promises.Operators.{operator_of}
use Rattle.questions.proofs.OperatorRead.{number_is, number_not, number_none}
use Rattle.last_step.proofs.LateMarks.{NodeDone, left_in, left_passed, both_in}
use borrow.Author.Rules.{rules}
use Rattle.last_step.proofs.late.pass_on.Goals as goal

deeper : {d x : ℕ} → d ≡ x → (d ≡ 0 → ⊥) → x ≡ 0 → ⊥
deeper e n z = n (e ∙ z)

one_of : {r : Result Operator Unknown} {o x : ℕ} {y : Operator} → o ≡ x → r ≡ operator_of o → r ≡ Ok y → (y ≡ Not) ⊎ (y ≡ Next) → (x ≡ 3) ⊎ (x ≡ 6)
one_of e read is = ⊎_elim (λ y. inl (sym e ∙ number_is Not read is y)) (λ y. inr (sym e ∙ number_is Next read is y))

pub mark-requires : goal.mark-requires
mark-requires c = let S = c in
    let l = left_in S.args.q.now S.args.j S.args.marks.now S.requires.0 (deeper c.depth-d.ensures c.if-d-eq0.false) (one_of c.operator.ensures c.try_from.ensures c.in-Ok.is c.in-Not.is) in
    omega (arith, l, c.left.ensures)

pub mark_level-requires : goal.mark_level-requires
mark_level-requires c = let S = c in
    let l = both_in S.args.q.now S.args.j S.args.marks.now S.requires.0 (deeper c.depth-d.ensures c.if-d-eq0.false) (sym c.operator.ensures ∙ number_is And c.try_from.ensures c.in-Ok.is c.in-And.is) in
    (omega (arith, l.0, c.left-in-And.ensures), S.requires.1)

pub mark_level-requires-in-And : goal.mark_level-requires-in-And
mark_level-requires-in-And c = let S = c in
    let l = both_in S.args.q.now S.args.j S.args.marks.now S.requires.0 (deeper c.depth-d.ensures c.if-d-eq0.false) (sym c.operator.ensures ∙ number_is And c.try_from.ensures c.in-Ok.is c.in-And.is) in
    (omega (arith, l.1, c.right.ensures), c.mark_level.ensures.0.size ∙ S.requires.1)

pub returns-in-Not : goal.returns-in-Not
returns-in-Not c = let S = c in
    let marks = S.args.marks.now in
    subst (NodeDone S.args.q.now S.args.j marks) (sym (c.mark.ensures ∙ ap (λ (l : ℕ). set marks l 1) c.left.ensures))
    (left_passed S.args.q.now S.args.j marks S.requires.0 (deeper c.depth-d.ensures c.if-d-eq0.false) S.requires.1 (one_of c.operator.ensures c.try_from.ensures c.in-Ok.is c.in-Not.is))

pub returns-in-And : goal.returns-in-And
returns-in-And c = let o : c.operator.result ≡ 4 = number_is And c.try_from.ensures c.in-Ok.is c.in-And.is in search rules

pub returns-in_default : goal.returns-in_default
returns-in_default c =
    let no = number_none c.try_from.ensures c.in_default.is in
    let n3 : c.operator.result ≡ 3 → ⊥ = no Not in
    let n4 : c.operator.result ≡ 4 → ⊥ = no And in
    let n6 : c.operator.result ≡ 6 → ⊥ = no Next in search rules

pub returns-in_default-operator : goal.returns-in_default-operator
returns-in_default-operator c =
    let n = c.in_default-operator in
    let r = c.try_from.ensures in
    let is = c.in-Ok.is in
    let n3 : c.operator.result ≡ 3 → ⊥ = number_not Not r is n.not-Not in
    let n4 : c.operator.result ≡ 4 → ⊥ = number_not And r is n.not-And in
    let n6 : c.operator.result ≡ 6 → ⊥ = number_not Next r is n.not-Next in search rules
