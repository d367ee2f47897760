use Prim.Native.Nat.{◌+◌, ◌*◌, ◌<◌}
use native.Mathlib.Omega.{arith}
use mathlib.Core.Path.{◌≡◌, sym, ap, subst, ◌∙◌}
use lib.ListN.{get_or}
use Rattle.prepared_model.proofs.rows.sum_choices.Goals as goal

pub sum_choice-requires : goal.sum_choice-requires
sum_choice-requires c = let S = c in
    let L = c.loop-i in
    (omega (arith, S.requires.0), L.auto.row ∙ S.requires.1, λ o h. let e : 64 + 4 * L.i + o ≡ 64 + (4 * L.i + o) = omega arith in subst (λ x. x < 256) (sym (L.invariant.kept (64 + 4 * L.i + o) (omega (arith, S.requires.0)) ∙ ap (λ j. get_or S.args.row.now j 0) e)) (S.requires.2 (4 * L.i + o) (omega arith)))
