-- `compared`: each answer of `cmp` is the case of the definition.
use mathlib.Core.Path.{◌≡◌, refl, sym, ap, ap₂, ◌∙◌}
use mathlib.Core.Bool.{Bool, true, false, cond}
use lib.Dec.{eqb, ltb}
use Rattle.std.proofs.Common.{ℕ, Ordering, Less, Equal, Greater, nat_cmp}
use Rattle.logic.specs.Quantity.{naturals, related}
use Rattle.logic.specs.Bound.{below, at, above, compared}
use Rattle.logic.specs.Bound as logic
use Rattle.logic.proofs.Naturals.{ltb_leb, eqb_leb}
use Rattle.lamp.specs.promises.Codes.{lamp_code}
use Rattle.lamp.proofs.compared.Goals as goal

abbrev told : Ordering → logic.Lamp
told Less = below
told Equal = at
told Greater = above

by_tests : (a b : ℕ) {t u : Bool} → ltb a b ≡ t → eqb a b ≡ u → compared naturals a b ≡ cond t below (cond u at above)
unfolding compared related
by_tests a b e f = ap₂ (λ t u. cond t below (cond u at above)) (sym (ltb_leb a b) ∙ e) (sym (eqb_leb a b) ∙ f)

by_cmp : (a b : ℕ) → compared naturals a b ≡ told (nat_cmp a b)
by_cmp a b = by (ltb a b) (eqb a b) refl refl
  where
    by : (t u : Bool) → ltb a b ≡ t → eqb a b ≡ u → compared naturals a b ≡ told (cond t Less (cond u Equal Greater))
    by true u e f = by_tests a b e f
    by false true e f = by_tests a b e f
    by false false e f = by_tests a b e f

pub returns-in-Less : goal.returns-in-Less
unfolding lamp_code
returns-in-Less c = ap (λ o. lamp_code (told o)) c.in-Less.ensures ∙ sym (ap lamp_code (by_cmp c.args.a c.args.b))

pub returns-in-Equal : goal.returns-in-Equal
unfolding lamp_code
returns-in-Equal c = ap (λ o. lamp_code (told o)) c.in-Equal.ensures ∙ sym (ap lamp_code (by_cmp c.args.a c.args.b))

pub returns-in-Greater : goal.returns-in-Greater
unfolding lamp_code
returns-in-Greater c = ap (λ o. lamp_code (told o)) c.in-Greater.ensures ∙ sym (ap lamp_code (by_cmp c.args.a c.args.b))
