-- `best_gains`: the cells passed are right (`TableRows`).
use Prim.Native.Nat.{ℕ, suc, ◌+◌, ◌*◌, ◌-◌, ◌/◌, ◌%◌, ◌^◌, ◌≤◌, ◌<◌}
use native.Mathlib.Omega.{arith}
use native.Mathlib.Nat.{div-add-mod}
use mathlib.Core.Path.{◌≡◌, refl, sym, ap, subst, ◌∙◌}
use mathlib.Core.Bool.{Bool}
use mathlib.Core.List.{List}
use lib.ListN.{length, set, length-set, length-replicate}
use Rattle.logic.specs.promises.Raised.{pay}
use Rattle.models.specs.Layout.{denominator_of}
use Rattle.best_gain.specs.declared.Window.{Window}
use Rattle.best_gain.specs.promises.Tabled.{Low, Picks, before_left, last_left, Filled}
use Rattle.best_gain.proofs.TableRows.{row_low, filled_more, filled_past, filled_none}
use Rattle.best_gain.proofs.best_gains.Goals as goal
use Rattle.best_gain.proofs.best_gains.Goals.{then-k-count, else-k-count}

-- Where the cell at k has its row, and the row below.
row_at : (k : ℕ) → 32 ≤ k → 32 * (k / 32 - 1) ≡ k - k % 32 - 32
row_at k h = omega (arith, div-add-mod k 32)

steps_left : (k n : ℕ) {end : ℕ} → 32 ≤ k → end ≡ 32 * (n + 1) → k < end → (k / 32 - 1 < n) × (32 * suc (k / 32 - 1) ≤ k)
steps_left k n h e l = omega (arith, div-add-mod k 32)

-- What was picked, by the row's own numbers.
rebased : (least : Bool) (m best : List ℕ) (w : Window) (k : ℕ) {unit s n value place : ℕ} → 32 ≤ k
    → unit ≡ denominator_of m ^ (k / 32 - 1) * pay (w.before - (w.steps - k / 32)) (w.last - (w.steps - k / 32))
    → Picks least m best (k - k % 32 - 32) unit s n value place
    → Picks least m best (32 * (k / 32 - 1)) (denominator_of m ^ (k / 32 - 1) * pay (before_left w (suc (k / 32 - 1))) (last_left w (suc (k / 32 - 1)))) s n value place
rebased least m best w k {unit} {s} {n} {value} {place} h e P =
    let i : k / 32 ≡ suc (k / 32 - 1) = omega (arith, div-add-mod k 32) in
    subst (λ u. Picks least m best (32 * (k / 32 - 1)) u s n value place)
    (e ∙ ap (λ j. denominator_of m ^ (k / 32 - 1) * pay (w.before - (w.steps - j)) (w.last - (w.steps - j))) i)
    (subst (λ at. Picks least m best at unit s n value place) (sym (row_at k h)) P)

pub loop-k-init : goal.loop-k-init
loop-k-init c = let S = c in
    (length-replicate {A = ℕ} 224 0, S.requires.2, filled_none S.args.least S.requires.0 S.args.window S.requires.1 S.args.places.now)

pub pick-x-requires : goal.pick-x-requires
pick-x-requires c = let S = c in
    let L = c.loop-k in
    let few = steps_left L.k S.args.window.steps c.loop-k.auto.k refl c.loop-k-test.true in (
      S.requires.0,
      omega (arith, c.states-count.ensures, c.if-k-count.true),
      subst (λ at. Low S.args.m.now L.best at c.unit_of-unit.result) (row_at L.k c.loop-k.auto.k)
          (row_low S.args.least S.requires.0 S.args.window S.requires.1 L.best L.places (L.k / 32 - 1) c.unit_of-unit.result L.k few.0 few.1 L.invariant.2 c.unit_of-unit.ensures.range),
    )

pub loop-k-preserved : goal.loop-k-preserved
loop-k-preserved c = let S = c in
    let L = c.loop-k in
    let few = steps_left L.k S.args.window.steps c.loop-k.auto.k refl c.loop-k-test.true in
    elim c.if-k-count.branch [
      | then-k-count w ↦
          let x = w.pick-x.result in (
            ap length w.best-is ∙ length-set L.best L.k x.value ∙ L.invariant.0,
            ap length w.places-is ∙ length-set L.places L.k x.place ∙ L.invariant.1,
            subst (λ y. Filled S.args.least S.args.m.now S.args.window y c.if-k-count.places (L.k + 1)) (sym w.best-is)
                (subst (λ y. Filled S.args.least S.args.m.now S.args.window (set L.best L.k x.value) y (L.k + 1)) (sym w.places-is)
                (filled_more S.args.least S.requires.0 S.args.window S.requires.1 few.0 few.1 L.invariant.2 (omega (arith, c.states-count.ensures, w.if-k-count.true))
                (rebased S.args.least S.args.m.now L.best S.args.window L.k c.loop-k.auto.k w.unit_of-unit.ensures.value w.pick-x.ensures)
                (omega (arith, div-add-mod L.k 32, c.loop-k.auto.k)) (omega (arith, L.invariant.0, c.loop-k-test.true, S.requires.1.few)) (omega (arith, L.invariant.1, c.loop-k-test.true, S.requires.1.few)))),
          )
      | else-k-count w ↦ (
        ap length w.best-is ∙ L.invariant.0,
        ap length w.places-is ∙ L.invariant.1,
        subst (λ x. Filled S.args.least S.args.m.now S.args.window x c.if-k-count.places (L.k + 1)) (sym w.best-is)
            (subst (λ x. Filled S.args.least S.args.m.now S.args.window L.best x (L.k + 1)) (sym w.places-is)
            (filled_past S.args.least S.requires.0 S.args.window S.requires.1 (omega (arith, c.states-count.ensures, w.if-k-count.false)) L.invariant.2)),
      )
    ]
