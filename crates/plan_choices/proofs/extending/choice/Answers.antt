-- `choice` meets its contract: with no steps to read it is that of the table, else the next byte.
-- The table has a place for the steps left.
use Prim.Native.Nat.{suc, ◌+◌, ◌*◌, ◌-◌, ◌<◌}
use native.Mathlib.Omega.{arith}
use mathlib.Core.Path.{◌≡◌, subst, ◌∙◌}
use lib.ListN.{get_or}
use Rattle.prepared_model.specs.promises.Rows.{choices_in}
use Rattle.plan_choices.proofs.Runs.{choice_first, choice_read}
use Rattle.plan_choices.proofs.extending.choice.Goals as goal

pub overflow_mul-n : goal.overflow_mul-n
overflow_mul-n c =
    let fits : (c.args.n * 32 + c.args.s < 224) × (c.args.s < 32) = omega (arith, c.requires.2.few, c.requires.1, c.requires.0.states) in
    let w = fits in record { fits = omega arith }

pub overflow_add-n : goal.overflow_add-n
overflow_add-n c =
    let fits : (c.args.n * 32 + c.args.s < 224) × (c.args.s < 32) = omega (arith, c.requires.2.few, c.requires.1, c.requires.0.states) in
    let w = fits in record { fits = omega arith }

pub bounds-places-n : goal.bounds-places-n
bounds-places-n c =
    let fits : (c.args.n * 32 + c.args.s < 224) × (c.args.s < 32) = omega (arith, c.requires.2.few, c.requires.1, c.requires.0.states) in
    let w = fits in omega arith

pub overflow_cast-places : goal.overflow_cast-places
overflow_cast-places c =
    let placed : get_or c.args.places.now (32 * c.args.n + c.args.s) 0 < choices_in c.args.m.now c.args.s = let e : suc (c.args.n - 1) ≡ c.args.n = omega (arith, c.requires.3) in
    subst (λ k. get_or c.args.places.now (32 * k + c.args.s) 0 < choices_in c.args.m.now c.args.s) e
    (c.requires.2.inside (c.args.n - 1) c.args.s (omega (arith, c.requires.3)) c.requires.1) in
    let S = c in
    record { fits = omega (arith, placed, S.requires.0.few_choices S.args.s S.requires.1) }

pub choice-requires : goal.choice-requires
choice-requires c =
    let placed : get_or c.args.places.now (32 * c.args.n + c.args.s) 0 < choices_in c.args.m.now c.args.s = let e : suc (c.args.n - 1) ≡ c.args.n = omega (arith, c.requires.3) in
    subst (λ k. get_or c.args.places.now (32 * k + c.args.s) 0 < choices_in c.args.m.now c.args.s) e
    (c.requires.2.inside (c.args.n - 1) c.args.s (omega (arith, c.requires.3)) c.requires.1) in
    let S = c in (S.requires.0, S.requires.1, placed)

pub returns-then-d-eq0 : goal.returns-then-d-eq0
returns-then-d-eq0 c =
    let S = c in
    c.choice.ensures ∙ choice_first _ S.args.d S.args.from S.args.src.now c.if-d-eq0.true

pub returns : goal.returns
returns c =
    let S = c in
    choice_read _ S.args.d S.args.from S.args.src.now c.byte.result c.if-d-eq0.false c.byte.ensures
