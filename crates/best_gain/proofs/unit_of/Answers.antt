-- `unit_of`: the next step earns where the steps behind are no fewer than those before the first that earns, and fewer than those up to the last.
use Prim.Native.Nat.{ℕ, zero, suc, ◌*◌, ◌-◌, ◌^◌, ◌≤◌, ◌<◌}
use native.Mathlib.Omega.{arith}
use mathlib.Core.Path.{◌≡◌, refl, sym, ap, subst, ◌∙◌}
use Rattle.logic.specs.promises.Raised.{pay}
use Rattle.models.specs.Layout.{denominator_of}
use Rattle.bounds.proofs.Powers.{power_le}
use Rattle.best_gain.proofs.unit_of.Goals as goal

pay_not_yet : (x y : ℕ) → 0 < x → pay x y ≡ 0
unfolding pay
pay_not_yet zero y l = absurd (omega arith)
pay_not_yet (suc x) y l = refl

pay_now : (x y : ℕ) → x ≡ 0 → 0 < y → pay x y ≡ 1
unfolding pay
pay_now x zero e l = absurd (omega arith)
pay_now x (suc y) e l = rw e refl

pay_over : (x y : ℕ) → x ≡ 0 → y ≡ 0 → pay x y ≡ 0
unfolding pay
pay_over x y e f = rw (e, f) refl

-- A power times what is paid.
nothing : (d x a u : ℕ) → pay a u ≡ 0 → 0 ≡ d ^ x * pay a u
nothing d x a u e = rw e (omega arith)

something : (d x a u : ℕ) → pay a u ≡ 1 → d ^ x ≡ d ^ x * pay a u
something d x a u e = rw e (omega arith)

pub returns-then-behind-window : goal.returns-then-behind-window
returns-then-behind-window c = let S = c in
    let W = S.args.window in
    let b = W.steps - S.args.k in record { value = nothing (denominator_of S.args.m.now) (S.args.k - 1) _ _ (pay_not_yet (W.before - b) (W.last - b) (omega (arith, c.if-behind-window.true))); range = omega arith }

pub returns-then-behind-window-2 : goal.returns-then-behind-window-2
returns-then-behind-window-2 c = let S = c in
    let W = S.args.window in
    let b = W.steps - S.args.k in
    let D = denominator_of S.args.m.now in
    let e = c.power.ensures ∙ ap (λ d. d ^ (S.args.k - 1)) c.denominator.ensures in
    let early = c.if-behind-window.false in
    let now = c.if-behind-window-2.true in record { value = e ∙ something D (S.args.k - 1) _ _ (pay_now (W.before - b) (W.last - b) (omega (arith, early)) (omega (arith, now))); range = subst (λ x. x ≤ 100 ^ 5) (sym e) (power_le D (S.args.k - 1) 5 S.requires.0.parts (omega (arith, S.requires.1.few, S.requires.3))) }

pub returns : goal.returns
returns c = let S = c in
    let W = S.args.window in
    let b = W.steps - S.args.k in
    let early = c.if-behind-window.false in record { value = nothing (denominator_of S.args.m.now) (S.args.k - 1) _ _ (pay_over (W.before - b) (W.last - b) (omega (arith, early)) (omega (arith, c.if-behind-window-2.false))); range = omega arith }
