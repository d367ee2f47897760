-- The invariant: the table is right at the needed places passed.
use Prim.Native.Nat.{ℕ, ◌+◌, ◌*◌, ◌/◌}
use native.Mathlib.Omega.{arith}
use mathlib.Core.Path.{◌≡◌, sym, subst, ◌∙◌}
use lib.ListN.{length-set}
use Rattle.judging.specs.promises.Truth.{Right}
use Rattle.judging.specs.promises.Rows.{ByState}
use Rattle.judging.proofs.TruthByOperator.{right_more}
use Rattle.judging.proofs.truth.by_state.Goals as goal

pub loop-k-init : goal.loop-k-init
loop-k-init c = let S = c in
    let R = S.requires.rows in
    let e : c.place-row.result ≡ 32 * S.args.j = omega (arith, c.place-row.ensures) in (
      omega (arith, c.place-row.ensures),
      omega (arith, e),
      omega (arith, e, c.place-row.ensures),
      R.size,
      subst (Right S.args.m.now S.args.q.now S.args.need.now S.args.truth.now) (sym e) R.right,
      R.room,
      R.remembers,
    )

pub truth_if-x-requires : goal.truth_if-x-requires
truth_if-x-requires c = let S = c in
    let P = S.requires.asked in
    let L = c.loop-k in
    let i = L.invariant in
    let e : S.args.j ≡ L.k / 32 = omega (arith, i.0, i.1, c.loop-k-test.true) in record { asked = (P.0, omega (arith, P.1, i.0, c.loop-k-test.true)); needs = (S.requires.rows.needs, i.4, omega (arith, i.5), i.6, subst (λ (j : ℕ). ByState S.args.q.now j) e P.2) }

pub bounds-truth-k : goal.bounds-truth-k
bounds-truth-k c = let S = c in
    let i = c.loop-k.invariant in
    omega (arith, S.requires.asked.1, i.0, i.3, c.loop-k-test.true, S.requires.asked.0.given.nodes.formed.few_nodes)

pub loop-k-preserved : goal.loop-k-preserved
loop-k-preserved c = let S = c in
    let L = c.loop-k in
    let i = L.invariant in
    let n = c.truth_if-x in
    let v = n.result in
    let few = S.requires.asked.0.given.nodes.formed.few_nodes in (
      i.0,
      omega (arith, i.1),
      omega (arith, c.loop-k-test.true),
      length-set L.truth L.k v ∙ i.3,
      right_more v i.4 (omega (arith, S.requires.asked.1, i.0, i.3, c.loop-k-test.true, few)) n.ensures.value,
      n.auto.scratch ∙ i.5,
      n.ensures.frame,
    )

pub shape_of-scratch : goal.shape_of-scratch
shape_of-scratch c = c.loop-k.invariant.5 ∙ sym c.requires.rows.room

pub returns : goal.returns
returns c = let S = c in
    let L = c.loop-k in
    let i = L.invariant in
    let e : L.k ≡ 32 * (S.args.j + 1) = omega (arith, i.0, i.2) in
    record {
      needs = S.requires.rows.needs;
      size = i.3;
      right = subst (Right S.args.m.now S.args.q.now S.args.need.now L.truth) e i.4;
      room = i.5;
      remembers = i.6;
    }
