-- `window`: ground 5 leaves a step that earns, and none beyond the node's.
use native.Mathlib.Omega.{arith}
use mathlib.Core.Path.{◌≡◌, sym, ap₂, subst}
use Prim.Native.Nat.{ℕ, ◌-◌, ◌/◌, ◌%◌}
use Rattle.questions.specs.Layout.{node_of}
use Rattle.questions.specs.promises.Formed.{EarnsRange}
use Rattle.best_gain.specs.declared.Window.{Window}
use Rattle.best_gain.specs.promises.Tabled.{WindowRight}
use Rattle.bounds.proofs.ProductsFit.{few}
use Rattle.judging.proofs.NodeBounds.{earned}
use Rattle.judging.proofs.TableHanded.{window_of}
use Rattle.judging.proofs.worths.window.Goals as goal

pub left-span-requires : goal.left-span-requires
left-span-requires c = few c.args.m.now c.args.q.now c.args.j c.requires.0

pub steps-requires : goal.steps-requires
steps-requires c = let S = c in few S.args.m.now S.args.q.now S.args.j S.requires.0

pub overflow_sub-result : goal.overflow_sub-result
overflow_sub-result c =
    let range : EarnsRange (node_of c.args.q.now c.args.j) = (earned c.requires.0 c.requires.1).range in
    let S = c in rw c.left-span.ensures range.from_one

pub returns : goal.returns
returns c =
    let range : EarnsRange (node_of c.args.q.now c.args.j) = (earned c.requires.0 c.requires.1).range in
    let S = c in
    let r = range in
    let make : ℕ → ℕ → Window = λ n l. record { steps = n; before = l % 8 - 1; last = l / 8 } in
    let e : make c.steps.result c.left-span.result ≡ window_of S.args.q.now S.args.j = ap₂ make c.steps.ensures c.left-span.ensures in
    (e, subst WindowRight (sym e) (record { few = r.compares.few_steps; some = omega (arith, r.from_one, r.rising); within = r.within }))
