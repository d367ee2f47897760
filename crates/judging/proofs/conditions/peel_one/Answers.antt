-- A state formula that c joins is read in the table.
use mathlib.Core.Path.{sym, ◌∙◌}
use Rattle.judging.proofs.PeeledMeaning.{peels_none, left_false, left_true, right_false, right_true}
use Rattle.judging.proofs.conditions.peel_one.Goals as goal

pub returns-then-operator : goal.returns-then-operator
returns-then-operator c = peels_none

pub returns-then-byte-eq0-2 : goal.returns-then-byte-eq0-2
returns-then-byte-eq0-2 c =
    left_false (sym c.operator.ensures ∙ c.if-operator.false) c.left-a.ensures c.right-b.ensures c.byte.ensures c.if-byte-eq0.true c.place.ensures
    c.byte-then-byte-eq0.ensures c.if-byte-eq0-2.true

pub returns-then-byte-eq0 : goal.returns-then-byte-eq0
returns-then-byte-eq0 c =
    left_true (sym c.operator.ensures ∙ c.if-operator.false) c.left-a.ensures c.right-b.ensures c.byte.ensures c.if-byte-eq0.true c.place.ensures
    c.byte-then-byte-eq0.ensures c.if-byte-eq0-2.false

pub returns-then-byte-eq0-4 : goal.returns-then-byte-eq0-4
returns-then-byte-eq0-4 c =
    right_false (sym c.operator.ensures ∙ c.if-operator.false) c.left-a.ensures c.right-b.ensures c.byte-2.ensures c.if-byte-eq0-3.true
    c.place-then-byte-eq0-3.ensures c.byte-then-byte-eq0-3.ensures c.if-byte-eq0-4.true

pub returns-then-byte-eq0-3 : goal.returns-then-byte-eq0-3
returns-then-byte-eq0-3 c =
    right_true (sym c.operator.ensures ∙ c.if-operator.false) c.left-a.ensures c.right-b.ensures c.byte-2.ensures c.if-byte-eq0-3.true
    c.place-then-byte-eq0-3.ensures c.byte-then-byte-eq0-3.ensures c.if-byte-eq0-4.false

pub returns : goal.returns
returns c = peels_none
