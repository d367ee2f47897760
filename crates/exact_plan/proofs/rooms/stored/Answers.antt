-- `rooms::stored`: the most of what is stored below the choices passed.
use Prim.Native.Nat.{◌+◌, ◌-◌, ◌<◌}
use native.Mathlib.Omega.{arith}
use mathlib.Core.Path.{◌≡◌}
use Rattle.prepared_model.specs.promises.Rows.{choices_in}
use Rattle.prepared_model.proofs.PlacesInRange.{place_range}
use Rattle.exact_plan.specs.promises.Search.{stored_at}
use Rattle.exact_plan.proofs.PlansBelow.{all_counted, most_more}
use Rattle.exact_plan.proofs.rooms.stored.Goals as goal

pub returns-then-l-eq0 : goal.returns-then-l-eq0
returns-then-l-eq0 c = let P = c.requires.d_le_n in record { value = record { deep = P.0; steps = P.1; few = P.2; enough = λ h. absurd (omega (arith, c.if-l-eq0.true, h)) }; range = omega arith }

pub choices-n-requires : goal.choices-n-requires
choices-n-requires c = let G = c.requires.prepared in omega (arith, G.2, G.0.states)

pub loop-i-init : goal.loop-i-init
loop-i-init c = (omega arith, λ j h. absurd (omega arith))

pub overflow_sub-l : goal.overflow_sub-l
overflow_sub-l c = omega (arith, c.if-l-eq0.false, c.requires.d_le_n.0)

pub stored_below-requires : goal.stored_below-requires
stored_below-requires c = let S = c in
    let G = S.requires.prepared in
    let P = S.requires.d_le_n in
    let L = c.loop-i in
    let n = S.args.l.n in
    let g : L.i < choices_in S.args.m.now S.args.l.s = omega arith in
    let z : n - 1 + 1 ≡ n = omega (arith, c.if-l-eq0.false, P.0) in
    let r = place_range G.0 S.args.l.s G.2 L.i g in
    (r.0, r.1, all_counted G.0 G.2 g G.1 (n - 1) (omega (arith, P.1)) (rw z P.2))

pub loop-i-preserved : goal.loop-i-preserved
loop-i-preserved c = let S = c in
    let L = c.loop-i in
    let x = c.stored_below.ensures in
    (omega (arith, x.range, c.max-most.ensures, L.invariant.0), most_more (λ j. stored_at S.args.m.now S.args.l.s j (S.args.l.n - 1)) L.invariant.1 x.value c.max-most.ensures)

pub returns : goal.returns
returns c = let P = c.requires.d_le_n in
    let L = c.loop-i in record { value = record { deep = P.0; steps = P.1; few = P.2; enough = λ h i l. omega (arith, L.invariant.1 i (omega arith)) }; range = L.invariant.0 }
