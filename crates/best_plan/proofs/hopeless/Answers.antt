-- `hopeless`: by the order, the one limit or the other.
use Prim.Native.Nat.{◌+◌, ◌*◌, ◌^◌}
use native.Mathlib.Omega.{arith}
use mathlib.Core.Path.{◌≡◌, sym, ap, ap₂, ◌∙◌}
use mathlib.Core.Bool.{not, cond}
use Rattle.models.specs.Layout.{denominator_of}
use Rattle.best_plan.specs.promises.Greatest.{best_left}
use Rattle.best_plan.specs.promises.Buffers.{wins}
use Rattle.best_plan.proofs.hopeless.Goals as goal

pub overflow_mul-most : goal.overflow_mul-most
overflow_mul-most c =
    let power_is : c.power.result ≡ denominator_of c.args.m.now ^ c.args.k = c.power.ensures ∙ ap (λ d. d ^ c.args.k) c.denominator.ensures in
    record { fits = rw power_is (let p = c.requires in omega (arith, p.2)) }

pub overflow_add-most : goal.overflow_add-most
overflow_add-most c =
    let power_is : c.power.result ≡ denominator_of c.args.m.now ^ c.args.k = c.power.ensures ∙ ap (λ d. d ^ c.args.k) c.denominator.ensures in
    record { fits = rw power_is c.requires.2 }

pub returns-in_default : goal.returns-in_default
unfolding wins
returns-in_default c =
    let A = c.args in
    ap (λ b. not (wins b (best_left A.least (denominator_of A.m.now) A.k A.sum A.rest) A.least)) (sym c.in_default.is)

pub returns-then-least : goal.returns-then-least
unfolding wins best_left
returns-then-least c =
    let A = c.args in
    ap not
    (c.exceeds.ensures
    ∙ ap (λ b. wins b A.sum A.least) (sym c.in-Some.is)
    ∙ ap (λ t. wins A.best (cond t A.sum (A.sum + A.rest * denominator_of A.m.now ^ A.k)) A.least) (sym c.if-least.true))

pub returns : goal.returns
unfolding wins best_left
returns c =
    let power_is : c.power.result ≡ denominator_of c.args.m.now ^ c.args.k = c.power.ensures ∙ ap (λ d. d ^ c.args.k) c.denominator.ensures in
    let A = c.args in
    ap not
    (c.exceeds-2.ensures
    ∙ ap (λ b. wins b (A.sum + A.rest * c.power.result) A.least) (sym c.in-Some.is)
    ∙ ap₂ (λ p t. wins A.best (cond t A.sum (A.sum + A.rest * p)) A.least) power_is (sym c.if-least.false))
