-- What the root looks at, and a table that is right where it is read.
use Prim.Native.Nat.{ℕ, ◌-◌}
use native.Mathlib.Omega.{arith}
use mathlib.Core.Path.{◌≡◌, refl, sym, ap, subst, ◌∙◌}
use mathlib.Core.List.{List}
use lib.ListN.{take}
use lib.Seq.{length-take-le}
use Rattle.questions.specs.Layout.{node_of}
use Rattle.evaluation.specs.promises.Reached.{Ready}
use Rattle.bounds.specs.promises.Bounded.{Bounded}
use Rattle.bounds.proofs.ProductsFit.{compares}
use Rattle.judging.specs.promises.Announced.{root}
use Rattle.judging.specs.promises.Worths.{Looks}
use Rattle.judging.proofs.SearchHanded.{bounded_at, handed_ready, handed_looks, handed_from, handed_within}
use Rattle.judging.proofs.VerdictShown.{root_sums}
use Rattle.judging.proofs.root_total.Goals as goal

pub worth_of-w-requires : goal.worth_of-w-requires
worth_of-w-requires c =
    let at_root : c.count-j.result - 1 ≡ root c.args.q.now = ap (λ (n : ℕ). n - 1) c.count-j.ensures in
    let S = c in
    (subst (λ (j : ℕ). Bounded S.args.m.now S.args.q.now j) (sym at_root) (bounded_at S.requires.given S.requires.posed), refl)

pub slice_bounds-nodes-end : goal.slice_bounds-nodes-end
slice_bounds-nodes-end c = omega (arith, c.worth_of-w.ensures.few, c.worth_of-w.ensures.size)

pub slice_bounds-plan_weight-end : goal.slice_bounds-plan_weight-end
slice_bounds-plan_weight-end c = sym (length-take-le _ _ (omega (arith, c.worth_of-w.ensures.few, c.worth_of-w.ensures.size)))

pub plan_weight-requires : goal.plan_weight-requires
plan_weight-requires c =
    let at_root : c.count-j.result - 1 ≡ root c.args.q.now = ap (λ (n : ℕ). n - 1) c.count-j.ensures in
    let looks : Looks c.args.q.now (root c.args.q.now) c.worth_of-w.new.nodes c.worth_of-w.result.count c.worth_of-w.result.before c.worth_of-w.result.last = subst (λ (j : ℕ). Looks c.args.q.now j c.worth_of-w.new.nodes c.worth_of-w.result.count c.worth_of-w.result.before c.worth_of-w.result.last) at_root c.worth_of-w.ensures in
    let steps_at : (n : ℕ) → n ≡ (node_of c.args.q.now (c.count-j.result - 1)).n → n ≡ (node_of c.args.q.now (root c.args.q.now)).n = λ n e. e ∙ ap (λ (j : ℕ). (node_of c.args.q.now j).n) at_root in
    let S = c in
    let G = S.requires.given in
    let P = S.requires.posed in
    let w = looks in
    let n = steps_at _ c.steps.ensures in
    let l : List ℕ = take c.worth_of-w.result.count c.worth_of-w.new.nodes in record {
      ready = subst (λ (s : ℕ). Ready S.args.m.now S.args.q.now s S.args.truth.now l) (sym c.start.ensures) (handed_ready G P w);
      d_value = (
        handed_looks G P w,
        handed_from G P w,
        omega (arith, handed_within G P w, n),
        omega (arith, (compares S.args.m.now S.args.q.now (root S.args.q.now) (bounded_at G P)).few_steps, n),
      );
    }

pub returns : goal.returns
returns c =
    let at_root : c.count-j.result - 1 ≡ root c.args.q.now = ap (λ (n : ℕ). n - 1) c.count-j.ensures in
    let looks : Looks c.args.q.now (root c.args.q.now) c.worth_of-w.new.nodes c.worth_of-w.result.count c.worth_of-w.result.before c.worth_of-w.result.last = subst (λ (j : ℕ). Looks c.args.q.now j c.worth_of-w.new.nodes c.worth_of-w.result.count c.worth_of-w.result.before c.worth_of-w.result.last) at_root c.worth_of-w.ensures in
    let steps_at : (n : ℕ) → n ≡ (node_of c.args.q.now (c.count-j.result - 1)).n → n ≡ (node_of c.args.q.now (root c.args.q.now)).n = λ n e. e ∙ ap (λ (j : ℕ). (node_of c.args.q.now j).n) at_root in
    let S = c in record { value = root_sums S.requires.given S.args.choices.now S.requires.posed looks (steps_at _ c.steps.ensures) c.start.ensures c.plan_weight.ensures.value; range = c.plan_weight.ensures.range }
