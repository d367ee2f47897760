-- The root's total, by the tables, lowered, whether it meets the bound, and its lamp.
use Prim.Native.Nat.{ℕ, ◌-◌, ◌≤◌}
use native.Mathlib.Omega.{arith}
use mathlib.Core.Path.{◌≡◌, sym, ap, subst, ◌∙◌}
use Rattle.questions.specs.Layout.{start_of}
use Rattle.relevance.specs.promises.Need.{Given}
use Rattle.lamp.specs.promises.Codes.{lamp_code}
use Rattle.bounds.specs.promises.Bounded.{Bounded, lowered, most_of, meets_at, lamp_at}
use Rattle.judging.specs.promises.Announced.{root}
use Rattle.judging.specs.promises.Decided.{Posed}
use Rattle.judging.proofs.SearchHanded.{bounded_at}
use Rattle.judging.proofs.VerdictShown.{asked_at, root_posed, spelled_most, weighs}
use mir.Syntax.{w64}
use mir.ValLaws.{to_z-of_z}
use Rattle.judging.proofs.sheet_total.Goals as goal

pub root_truth-truth-requires : goal.root_truth-truth-requires
root_truth-truth-requires c = asked_at c.requires.served.0 c.requires.served.1

pub root_total-x-requires : goal.root_total-x-requires
root_total-x-requires c =
    let given : Given c.args.m.now c.args.q.now = record { prepared = c.requires.served.0.prepared; nodes = c.requires.served.0.nodes } in
    let posed : Posed c.args.m.now c.args.q.now c.root_truth-truth.result (root c.args.q.now) (start_of c.args.q.now) = root_posed given c.root_truth-truth.ensures c.requires.served.2 in
    record { given = given; posed = posed }

pub overflow_sub-j : goal.overflow_sub-j
overflow_sub-j c = omega (arith, c.count-j.ensures, c.requires.served.0.nodes.formed.some_node)

pub lowered-requires : goal.lowered-requires
lowered-requires c =
    let given : Given c.args.m.now c.args.q.now = record { prepared = c.requires.served.0.prepared; nodes = c.requires.served.0.nodes } in
    let posed : Posed c.args.m.now c.args.q.now c.root_truth-truth.result (root c.args.q.now) (start_of c.args.q.now) = root_posed given c.root_truth-truth.ensures c.requires.served.2 in
    let bounded : Bounded c.args.m.now c.args.q.now (root c.args.q.now) = bounded_at given posed in
    let at_root : c.count-j.result - 1 ≡ root c.args.q.now = ap (λ (n : ℕ). n - 1) c.count-j.ensures in
    let bounded_here : Bounded c.args.m.now c.args.q.now (c.count-j.result - 1) = subst (λ (j : ℕ). Bounded c.args.m.now c.args.q.now j) (sym at_root) bounded in
    record { bounded = bounded_here; x_bound = c.root_total-x.ensures.range }

pub meets-requires : goal.meets-requires
meets-requires c =
    let given : Given c.args.m.now c.args.q.now = record { prepared = c.requires.served.0.prepared; nodes = c.requires.served.0.nodes } in
    let posed : Posed c.args.m.now c.args.q.now c.root_truth-truth.result (root c.args.q.now) (start_of c.args.q.now) = root_posed given c.root_truth-truth.ensures c.requires.served.2 in
    let bounded : Bounded c.args.m.now c.args.q.now (root c.args.q.now) = bounded_at given posed in
    let at_root : c.count-j.result - 1 ≡ root c.args.q.now = ap (λ (n : ℕ). n - 1) c.count-j.ensures in
    let bounded_here : Bounded c.args.m.now c.args.q.now (c.count-j.result - 1) = subst (λ (j : ℕ). Bounded c.args.m.now c.args.q.now j) (sym at_root) bounded in
    let small : c.root_total-x.result ≤ most_of c.args.m.now c.args.q.now (c.count-j.result - 1) = let S = c in
    subst (λ (j : ℕ). c.root_total-x.result ≤ most_of S.args.m.now S.args.q.now j) (sym at_root)
    (spelled_most given S.args.choices.now bounded S.requires.spelled c.root_total-x.ensures.value) in
    record { bounded = bounded_here; x_bound = small }

pub lamp_of-requires : goal.lamp_of-requires
lamp_of-requires c =
    let given : Given c.args.m.now c.args.q.now = record { prepared = c.requires.served.0.prepared; nodes = c.requires.served.0.nodes } in
    let posed : Posed c.args.m.now c.args.q.now c.root_truth-truth.result (root c.args.q.now) (start_of c.args.q.now) = root_posed given c.root_truth-truth.ensures c.requires.served.2 in
    let bounded : Bounded c.args.m.now c.args.q.now (root c.args.q.now) = bounded_at given posed in
    let at_root : c.count-j.result - 1 ≡ root c.args.q.now = ap (λ (n : ℕ). n - 1) c.count-j.ensures in
    let bounded_here : Bounded c.args.m.now c.args.q.now (c.count-j.result - 1) = subst (λ (j : ℕ). Bounded c.args.m.now c.args.q.now j) (sym at_root) bounded in
    let small : c.root_total-x.result ≤ most_of c.args.m.now c.args.q.now (c.count-j.result - 1) = let S = c in
    subst (λ (j : ℕ). c.root_total-x.result ≤ most_of S.args.m.now S.args.q.now j) (sym at_root)
    (spelled_most given S.args.choices.now bounded S.requires.spelled c.root_total-x.ensures.value) in
    record { bounded = bounded_here; x_bound = small }

pub returns : goal.returns
returns c =
    let given : Given c.args.m.now c.args.q.now = record { prepared = c.requires.served.0.prepared; nodes = c.requires.served.0.nodes } in
    let posed : Posed c.args.m.now c.args.q.now c.root_truth-truth.result (root c.args.q.now) (start_of c.args.q.now) = root_posed given c.root_truth-truth.ensures c.requires.served.2 in
    let bounded : Bounded c.args.m.now c.args.q.now (root c.args.q.now) = bounded_at given posed in
    let at_root : c.count-j.result - 1 ≡ root c.args.q.now = ap (λ (n : ℕ). n - 1) c.count-j.ensures in
    let S = c in
    let m = S.args.m.now in
    let q = S.args.q.now in
    let x = c.root_total-x.result in
    let at = at_root in
    weighs given S.args.choices.now bounded c.root_total-x.ensures.value
    (to_z-of_z w64 c.lowered.result (record { sfits = c.lowered.type_inv }) ∙ c.lowered.ensures ∙ ap (λ (j : ℕ). lowered m q j x) at)
    (c.meets.ensures ∙ ap (λ (j : ℕ). meets_at m q j (lowered m q j x)) at)
    (c.lamp_of.ensures ∙ ap (λ (j : ℕ). lamp_code (lamp_at m q j (lowered m q j x))) at)
