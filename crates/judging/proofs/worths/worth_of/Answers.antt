-- `worth_of`: operator 9 has no node to list; a "plan" has the nodes of its condition, which stands before it.
use native.Mathlib.Omega.{arith}
use Prim.Native.Nat.{ℕ}
use mathlib.Core.Path.{◌≡◌, refl, sym, ap, ◌∙◌}
use Rattle.bounds.proofs.ProductsFit.{few}
use Rattle.questions.specs.Layout.{node_of}
use Rattle.judging.proofs.NodeBounds.{either}
use Rattle.judging.proofs.SearchHanded.{before, condition_depth}
use Rattle.judging.proofs.worths.worth_of.Goals as goal

pub operator-requires : goal.operator-requires
operator-requires c = few c.args.m.now c.args.q.now c.args.j c.requires.0

pub window-w-requires : goal.window-w-requires
window-w-requires c = let S = c in (S.requires.0, sym c.operator.ensures ∙ c.if-operator.true)

pub returns-then-operator : goal.returns-then-operator
returns-then-operator c = let S = c in
    let o = sym c.operator.ensures ∙ c.if-operator.true in
    let w = c.window-w.ensures.0 in
    record {
      few = omega arith;
      size = S.requires.1;
      of_plan = λ p. absurd (omega (arith, p, o));
      of_earns = λ p. (refl, ap (λ z. z.before) w, ap (λ z. z.last) w);
    }

pub left-c-requires : goal.left-c-requires
left-c-requires c = let S = c in few S.args.m.now S.args.q.now S.args.j S.requires.0

pub cone-k-requires : goal.cone-k-requires
cone-k-requires c =
    let eight : (op : ℕ) → op ≡ (node_of c.args.q.now c.args.j).operator → (op ≡ 9 → ⊥) → (node_of c.args.q.now c.args.j).operator ≡ 8 = λ op e n. either c.requires.0 (λ o. o) (λ o. absurd (n (e ∙ o))) in
    let S = c in
    let o = eight _ c.operator.ensures c.if-operator.false in
    ((_, _, _, S.requires.0.nodes), omega (arith, c.left-c.ensures, (before S.requires.0 o).0), S.requires.1)

pub depth-requires : goal.depth-requires
depth-requires c =
    let eight : (op : ℕ) → op ≡ (node_of c.args.q.now c.args.j).operator → (op ≡ 9 → ⊥) → (node_of c.args.q.now c.args.j).operator ≡ 8 = λ op e n. either c.requires.0 (λ o. o) (λ o. absurd (n (e ∙ o))) in
    let S = c in
    let o = eight _ c.operator.ensures c.if-operator.false in
    omega (arith, c.left-c.ensures, (before S.requires.0 o).1)

pub returns : goal.returns
returns c =
    let eight : (op : ℕ) → op ≡ (node_of c.args.q.now c.args.j).operator → (op ≡ 9 → ⊥) → (node_of c.args.q.now c.args.j).operator ≡ 8 = λ op e n. either c.requires.0 (λ o. o) (λ o. absurd (n (e ∙ o))) in
    let S = c in
    let o = eight _ c.operator.ensures c.if-operator.false in
    let e = c.left-c.ensures in
    let k = c.cone-k.ensures in
    record {
      few = k.0;
      size = c.cone-k.auto.out ∙ S.requires.1;
      of_plan = λ p. (k.1, k.2 ∙ e, k.3, refl, condition_depth S.requires.0 o e c.depth.ensures);
      of_earns = λ p. absurd (omega (arith, p, o));
    }
