-- `outcome_worth`: the outcome is one that the state offers, its reward can be raised, and its target has a place in the row.
use Prim.Native.Nat.{ℕ, ◌+◌, ◌*◌, ◌^◌, ◌≤◌, ◌<◌}
use native.Mathlib.Omega.{arith}
use mathlib.Core.Path.{◌≡◌, sym, ap, ap₂, subst, ◌∙◌}
use lib.ListN.{get_or}
use mir.Syntax.{w16}
use mir.Val.{to_z, of_z}
use mir.ValLaws.{to_z-of_z}
use Rattle.logic.specs.promises.Raised.{raise, Modest}
use Rattle.prepared_model.specs.promises.Rows.{step_in}
use Rattle.prepared_model.proofs.PlacesInRange.{read_range}
use Rattle.best_gain.proofs.TableRows.{earned, earned_small}
use Rattle.best_gain.proofs.outcome_worth.Goals as goal

pub reward-requires : goal.reward-requires
reward-requires c =
    let reads : (c.args.s < 32) × (c.args.i < 8) × (c.args.o < 4) = read_range c.requires.0 c.args.s c.requires.1 c.args.i c.args.o c.requires.2 in
    reads

pub raised-requires : goal.raised-requires
raised-requires c =
    let reward_is : to_z w16 (of_z w16 c.reward.result) ≡ (step_in c.args.m.now c.args.s c.args.i c.args.o).reward = to_z-of_z w16 c.reward.result (record { sfits = c.reward.type_inv }) ∙ c.reward.ensures in
    let S = c in
    subst Modest (sym reward_is) (S.requires.0.raisable S.args.s S.args.i S.args.o S.requires.1 S.requires.2)

pub overflow_mul-result : goal.overflow_mul-result
overflow_mul-result c = let S = c in
    let h = native.Mathlib.Nat.mul-le-mul S.requires.3.earns c.raised.ensures.range in
    record { fits = omega arith }

pub target-requires : goal.target-requires
target-requires c =
    let reads : (c.args.s < 32) × (c.args.i < 8) × (c.args.o < 4) = read_range c.requires.0 c.args.s c.requires.1 c.args.i c.args.o c.requires.2 in
    reads

pub overflow_add-result : goal.overflow_add-result
overflow_add-result c =
    let place_fits : c.args.at + c.target.result < 224 = let S = c in
    omega (arith, S.requires.3.inside, c.target.ensures, S.requires.0.inside S.args.s S.args.i S.args.o S.requires.1 S.requires.2, S.requires.0.states) in
    record { fits = omega (arith, place_fits) }

pub offset_bounds-best-at : goal.offset_bounds-best-at
offset_bounds-best-at c =
    let place_fits : c.args.at + c.target.result < 224 = let S = c in
    omega (arith, S.requires.3.inside, c.target.ensures, S.requires.0.inside S.args.s S.args.i S.args.o S.requires.1 S.requires.2, S.requires.0.states) in
    record { fits = omega (arith, place_fits) }

pub bounds-best-at : goal.bounds-best-at
bounds-best-at c =
    let place_fits : c.args.at + c.target.result < 224 = let S = c in
    omega (arith, S.requires.3.inside, c.target.ensures, S.requires.0.inside S.args.s S.args.i S.args.o S.requires.1 S.requires.2, S.requires.0.states) in
    place_fits

pub overflow_add-result-2 : goal.overflow_add-result-2
overflow_add-result-2 c =
    let reward_is : to_z w16 (of_z w16 c.reward.result) ≡ (step_in c.args.m.now c.args.s c.args.i c.args.o).reward = to_z-of_z w16 c.reward.result (record { sfits = c.reward.type_inv }) ∙ c.reward.ensures in
    let raised_is : c.raised.result ≡ raise (step_in c.args.m.now c.args.s c.args.i c.args.o).reward = c.raised.ensures.value ∙ ap raise reward_is in
    let worth_is : (r t : ℕ) → r ≡ raise (step_in c.args.m.now c.args.s c.args.i c.args.o).reward
    → t ≡ (step_in c.args.m.now c.args.s c.args.i c.args.o).target
    → c.args.unit * r + get_or c.args.best.now (c.args.at + t) 0 ≡ earned c.requires.0 c.requires.3 c.requires.1 c.args.i c.args.o = λ r t e f. ap₂ (λ x y. c.args.unit * x + get_or c.args.best.now (c.args.at + y) 0) e f in
    let S = c in
    let e = worth_is c.raised.result c.target.result raised_is c.target.ensures in
    record { fits = omega (arith, e, earned_small S.requires.0 S.requires.3 S.requires.1 S.args.i S.args.o S.requires.2) }

pub returns : goal.returns
returns c =
    let reward_is : to_z w16 (of_z w16 c.reward.result) ≡ (step_in c.args.m.now c.args.s c.args.i c.args.o).reward = to_z-of_z w16 c.reward.result (record { sfits = c.reward.type_inv }) ∙ c.reward.ensures in
    let raised_is : c.raised.result ≡ raise (step_in c.args.m.now c.args.s c.args.i c.args.o).reward = c.raised.ensures.value ∙ ap raise reward_is in
    let worth_is : (r t : ℕ) → r ≡ raise (step_in c.args.m.now c.args.s c.args.i c.args.o).reward
    → t ≡ (step_in c.args.m.now c.args.s c.args.i c.args.o).target
    → c.args.unit * r + get_or c.args.best.now (c.args.at + t) 0 ≡ earned c.requires.0 c.requires.3 c.requires.1 c.args.i c.args.o = λ r t e f. ap₂ (λ x y. c.args.unit * x + get_or c.args.best.now (c.args.at + y) 0) e f in
    let S = c in
    let e = worth_is c.raised.result c.target.result raised_is c.target.ensures in record { value = e; range = subst (λ x. x ≤ 12000 * 100 ^ 5) (sym e) (earned_small S.requires.0 S.requires.3 S.requires.1 S.args.i S.args.o S.requires.2) }
