-- The value by an operator's number, where the function starts.
use mathlib.Core.Path.{◌≡◌, sym, ap, ap₂, ◌∙◌}
use Prim.Native.Nat.{ℕ, ◌+◌, ◌/◌}
use lib.Bits.{bit_and}
use lib.Dec.{eqb}
use lib.ListN.{get_or}
use Rattle.logic.specs.Bound.{one_if}
use Rattle.questions.specs.declared.operators.Operator.TheVariants.{Not, And, Do, Next, Gain}
use Rattle.questions.specs.Layout.{node_of}
use Rattle.questions.proofs.OperatorRead.{number_is, number_not, number_none}
use Rattle.evaluation.specs.promises.Learnt.{value_by, known}
use Rattle.evaluation.proofs.Integers.{byte_is}
use Rattle.evaluation.proofs.LearntInOrder.{other_value}
use Rattle.evaluation.proofs.value_by.Goals as goal

pub returns-in-Not : goal.returns-in-Not
unfolding value_by
returns-in-Not c =
    let at_op : ℕ → ℕ = λ op. value_by c.args.q.now c.args.trail.now c.args.gains.now c.args.h c.args.k c.args.j op c.args.v.now in
    let operator-of : ℕ = (node_of c.args.q.now c.args.j).operator in
    let by_op : (n r x : ℕ) → r ≡ operator-of → r ≡ n → x ≡ at_op n → x ≡ at_op operator-of = λ n r x e k g. g ∙ ap at_op (sym k ∙ e) in
    by_op 3 _ _ c.operator.ensures (number_is Not c.try_from.ensures c.in-Ok.is c.in-Not.is)
    (c.from.ensures ∙ byte_is _ ∙ ap (λ (x : ℕ). one_if (eqb x 0)) (c.known.ensures ∙ ap (λ (l : ℕ). known c.args.v.now l c.args.k) c.left.ensures))

pub returns-in-And : goal.returns-in-And
unfolding value_by
returns-in-And c =
    let at_op : ℕ → ℕ = λ op. value_by c.args.q.now c.args.trail.now c.args.gains.now c.args.h c.args.k c.args.j op c.args.v.now in
    let operator-of : ℕ = (node_of c.args.q.now c.args.j).operator in
    let by_op : (n r x : ℕ) → r ≡ operator-of → r ≡ n → x ≡ at_op n → x ≡ at_op operator-of = λ n r x e k g. g ∙ ap at_op (sym k ∙ e) in
    by_op 4 _ _ c.operator.ensures (number_is And c.try_from.ensures c.in-Ok.is c.in-And.is)
    (ap₂ bit_and (c.known-in-And.ensures ∙ ap (λ (l : ℕ). known c.args.v.now l c.args.k) c.left-in-And.ensures)
    (c.known-in-And-2.ensures ∙ ap (λ (l : ℕ). known c.args.v.now l c.args.k) c.right.ensures))

pub returns-in-Do : goal.returns-in-Do
unfolding value_by
returns-in-Do c =
    let at_op : ℕ → ℕ = λ op. value_by c.args.q.now c.args.trail.now c.args.gains.now c.args.h c.args.k c.args.j op c.args.v.now in
    let operator-of : ℕ = (node_of c.args.q.now c.args.j).operator in
    let by_op : (n r x : ℕ) → r ≡ operator-of → r ≡ n → x ≡ at_op n → x ≡ at_op operator-of = λ n r x e k g. g ∙ ap at_op (sym k ∙ e) in
    by_op 5 _ _ c.operator.ensures (number_is Do c.try_from.ensures c.in-Ok.is c.in-Do.is)
    (c.from-in-Do.ensures ∙ byte_is _ ∙ ap (λ (l : ℕ). one_if (eqb (get_or c.args.trail.now c.args.k 0 / 32) l)) c.left-in-Do.ensures)

pub returns-in-Next : goal.returns-in-Next
unfolding value_by
returns-in-Next c =
    let at_op : ℕ → ℕ = λ op. value_by c.args.q.now c.args.trail.now c.args.gains.now c.args.h c.args.k c.args.j op c.args.v.now in
    let operator-of : ℕ = (node_of c.args.q.now c.args.j).operator in
    let by_op : (n r x : ℕ) → r ≡ operator-of → r ≡ n → x ≡ at_op n → x ≡ at_op operator-of = λ n r x e k g. g ∙ ap at_op (sym k ∙ e) in
    by_op 6 _ _ c.operator.ensures (number_is Next c.try_from.ensures c.in-Ok.is c.in-Next.is)
    (c.known-in-Next.ensures ∙ ap (λ (l : ℕ). known c.args.v.now l (c.args.k + 1)) c.left-in-Next.ensures)

pub returns-in-Gain : goal.returns-in-Gain
unfolding value_by
returns-in-Gain c =
    let at_op : ℕ → ℕ = λ op. value_by c.args.q.now c.args.trail.now c.args.gains.now c.args.h c.args.k c.args.j op c.args.v.now in
    let operator-of : ℕ = (node_of c.args.q.now c.args.j).operator in
    let by_op : (n r x : ℕ) → r ≡ operator-of → r ≡ n → x ≡ at_op n → x ≡ at_op operator-of = λ n r x e k g. g ∙ ap at_op (sym k ∙ e) in
    by_op 7 _ _ c.operator.ensures (number_is Gain c.try_from.ensures c.in-Ok.is c.in-Gain.is)
    (c.from-in-Gain.ensures ∙ byte_is _ ∙ ap one_if c.gained.ensures)

pub returns-in_default : goal.returns-in_default
returns-in_default c =
    let operator-of : ℕ = (node_of c.args.q.now c.args.j).operator in
    let S = c in
    let no = number_none c.try_from.ensures c.in_default.is in
    let e = c.operator.ensures in
    sym (other_value S.args.q.now S.args.trail.now S.args.gains.now S.args.h S.args.k S.args.j operator-of S.args.v.now
    (λ k. no Not (e ∙ k)) (λ k. no And (e ∙ k)) (λ k. no Do (e ∙ k)) (λ k. no Next (e ∙ k)) (λ k. no Gain (e ∙ k)))

pub returns-in_default-operator : goal.returns-in_default-operator
returns-in_default-operator c =
    let operator-of : ℕ = (node_of c.args.q.now c.args.j).operator in
    let S = c in
    let n = c.in_default-operator in
    let r = c.try_from.ensures in
    let is = c.in-Ok.is in
    let e = c.operator.ensures in
    sym (other_value S.args.q.now S.args.trail.now S.args.gains.now S.args.h S.args.k S.args.j operator-of S.args.v.now
    (λ k. number_not Not r is n.not-Not (e ∙ k)) (λ k. number_not And r is n.not-And (e ∙ k)) (λ k. number_not Do r is n.not-Do (e ∙ k)) (λ k. number_not Next r is n.not-Next (e ∙ k)) (λ k. number_not Gain r is n.not-Gain (e ∙ k)))
