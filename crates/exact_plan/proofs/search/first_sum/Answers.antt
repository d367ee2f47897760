-- `search::first_sum`: none of the rows passed has x.
use Prim.Native.Nat.{ℕ, ◌+◌, ◌*◌, ◌≤◌, ◌<◌}
use native.Mathlib.Omega.{arith}
use native.Mathlib.Nat.{suc-mul, mul-le-mul_right}
use mathlib.Core.Path.{◌≡◌, sym, subst}
use mathlib.Core.List.{List, map}
use lib.ListN.{length, take, length-map}
use lib.Seq.{take-length}
use Rattle.exact_plan.specs.promises.Totals.{grid}
use Rattle.exact_plan.specs.promises.Listing.{First}
use Rattle.exact_plan.proofs.Grid.{length_grid}
use Rattle.exact_plan.proofs.SumsByRows.{rows_none, row_found, row_passed}
use Rattle.exact_plan.proofs.search.first_sum.Goals as goal

-- A place in a row is one of all.
inside : (i j n count : ℕ) → i < count → j < n → i * n + j < count * n
inside i j n count h l = omega (arith, suc-mul i n, mul-le-mul_right n h)

in_row : (y j : ℕ) (l : List ℕ) → j < length (map (λ z. y + z) l) → j < length l
in_row y j l h = omega (arith, h, length-map l (λ z. y + z))

whole_row : (y : ℕ) (l : List ℕ) → length l ≤ length (map (λ z. y + z) l)
whole_row y l = omega (arith, length-map l (λ z. y + z))

pub loop-i-init : goal.loop-i-init
loop-i-init c = rows_none c.args.slow.now c.args.fast.now c.args.x (length c.args.fast.now)

pub overflow_mul-result : goal.overflow_mul-result
overflow_mul-result c =
    let l = in_row _ _ _ c.in-Some.ensures.0 in
    record { fits = omega (arith, inside _ _ (length c.args.fast.now) _ c.loop-i-test.true l, c.requires.1) }

pub overflow_add-result : goal.overflow_add-result
overflow_add-result c =
    let l = in_row _ _ _ c.in-Some.ensures.0 in
    record { fits = omega (arith, inside _ _ (length c.args.fast.now) _ c.loop-i-test.true l, c.requires.1) }

pub returns-in-Some : goal.returns-in-Some
returns-in-Some c =
    let A = c.args in
    let h = c.loop-i-test.true in
    let l = in_row _ _ _ c.in-Some.ensures.0 in (
      omega (arith, inside _ _ (length A.fast.now) _ h l, length_grid A.slow.now A.fast.now),
      row_found A.slow.now A.fast.now A.x h c.loop-i.invariant c.in-Some.ensures.1 l,
    )

pub loop-i-preserved : goal.loop-i-preserved
loop-i-preserved c =
    let A = c.args in
    row_passed A.slow.now A.fast.now A.x c.loop-i-test.true c.loop-i.invariant c.in_default.ensures (whole_row _ A.fast.now)

pub returns : goal.returns
returns c =
    let L = c.loop-i in
    let slow = c.args.slow.now in
    let fast = c.args.fast.now in
    let x = c.args.x in
    let e : L.i ≡ length slow = omega arith in
    subst (First (grid slow fast) x) (sym (length_grid slow fast))
    (subst (λ l. First (grid l fast) x (length slow * length fast)) (take-length slow)
    (subst (λ n. First (grid (take n slow) fast) x (n * length fast)) e L.invariant))
