-- The best total of a condition in a state: that of what is left of it, what a search finds, and what is remembered, whichever "plan" asked.
use Prim.Native.Nat.{ℕ, ◌+◌, ◌*◌, ◌-◌, ◌^◌, ◌≤◌, ◌<◌}
use native.Mathlib.Omega.{arith}
use native.Mathlib.Decide.{ℕ_discrete}
use mathlib.Core.Path.{◌≡◌, refl, sym, ap, ap₂, subst, ◌∙◌, fun_ext}
use mathlib.Core.Bool.{Bool, true, false}
use mathlib.Core.List.{List, [], ◌∷◌}
use lib.ListN.{get_or, set, replicate, length-set, length-replicate}
use lib.Seq.{get_or-set_same, get_or-set_other}
use Rattle.logic.specs.Model.{Step}
use Rattle.logic.specs.Quantity.{sum}
use Rattle.logic.specs.promises.Orders.{weights, order}
use Rattle.logic.specs.Plan.{paths, weight, choices}
use Rattle.logic.specs.Formula.{depth}
use Rattle.logic.specs.Bound.{total, one_if}
use Rattle.logic.specs.promises.Total.{value_of}
use Rattle.logic.specs.promises.Recursion.{greatest, best_plan}
use Rattle.logic.proofs.Recursion.{best_plan_total}
use Rattle.blocks.specs.Bytes.{Bytes}
use Rattle.models.specs.Layout.{state_count, denominator_of}
use Rattle.prepared_model.specs.promises.Rows.{model_in}
use Rattle.prepared_model.proofs.ReadByPlace.{states_are, denominator_is}
use Rattle.questions.specs.Layout.{node_count}
use Rattle.prepared_question.specs.promises.Nodes.{formula, depth_in}
use Rattle.evaluation.specs.promises.Reached.{Reached, Cone, root_of, Ready}
use Rattle.evaluation.proofs.LearntInOrder.{one_if_small}
use Rattle.relevance.specs.promises.Need.{Given}
use Rattle.best_gain.proofs.TableRows.{zeros}
use Rattle.best_plan.specs.declared.Found.{Found}
use Rattle.best_plan.specs.promises.Greatest.{Finds}
use Rattle.logic.proofs.FirstBest.{additive}
use Rattle.best_plan.proofs.TotalsBounded.{greatest_small, value_small}
use Rattle.judging.specs.promises.Decided.{best}
use Rattle.judging.specs.promises.Conditions.{Stands, Same, best_total, Searched, memo_place, Remembers}

pub same_best : {m q truth : Bytes} {c s i : ℕ} (least : Bool) → Same m q truth c s i → best_total m q i s least ≡ best_total m q c s least
same_best {m} {s = s} least x = ap₂ (λ d f. greatest (weights (order least)) (model_in m) d s f) x.looks (fun_ext x.values)

sum_none : {A : Type 0} (le : ℕ → ℕ → Bool) (f : A → ℕ) (l : List A) → sum (weights le) (λ a. f a * 0) l ≡ 0
unfolding sum
sum_none le f [] = refl
sum_none le f (a ∷ l) = omega (arith, sum_none le f l)

-- Of the value 0 on every path the best total is 0.
pub never_best : (m q : Bytes) (c s : ℕ) (least : Bool) → ((r : List Step) → value_of (model_in m) (formula q c) s r ≡ 0) → best_total m q c s least ≡ 0
unfolding total
never_best m q c s least h =
    let Q = weights (order least) in
    let d = depth (formula q c) in
    ap (greatest Q (model_in m) d s) (fun_ext h)
    ∙ sym (best_plan_total Q (additive (order least)) (model_in m) d s (λ r. 0))
    ∙ sum_none (order least) weight (paths (model_in m) d s (best_plan Q (model_in m) d s (λ r. 0)))

one_if_same : (a b : Bool) → one_if a ≡ one_if b → a ≡ b
unfolding one_if
one_if_same true true e = refl
one_if_same true false e = absurd (omega arith)
one_if_same false true e = absurd (omega arith)
one_if_same false false e = refl

-- ---- what a search is handed, and what it finds

module _ {m q : Bytes} {truth : List ℕ} {c s : ℕ} (given : Given m q) (h : Stands m q truth c s) where
  pub looks : {d : ℕ} → d ≡ depth_in q c → d ≡ depth (formula q c)
  looks e = e ∙ given.nodes.deep c h.node

  pub ready : {l : List ℕ} → Cone q l → root_of l ≡ c → Ready m q s truth l
  ready cone e =
      record {
        prepared = given.prepared;
        nodes = given.nodes;
        state = h.state;
        ordered = cone;
        truth_right = λ some i t r d. h.told.right i t (subst (λ c. Reached m q c s i t) e r) d;
      }

  pub finds : {least : Bool} {l after : List ℕ} {d : ℕ} {r : Found} → d ≡ depth (formula q c) → root_of l ≡ c → Finds least m q s l d after r
      → Searched m q c s least after r
  finds {least} {d = d} e top f =
      record {
        value = f.value ∙ ap₂ (λ i k. greatest (weights (order least)) (model_in m) k s (value_of (model_in m) (formula q i) s)) top e;
        chosen = f.chosen ∙ ap₂ (λ i k. choices k (best (model_in m) (formula q i) k s least)) top e;
      }

module _ {m q : Bytes} {truth : List ℕ} {c s : ℕ} (given : Given m q) (h : Stands m q truth c s) (least : Bool) where
  pub best_small : best_total m q c s least ≤ denominator_of m ^ depth (formula q c)
  best_small =
      subst (λ D. best_total m q c s least ≤ D ^ depth (formula q c)) (denominator_is m)
      (greatest_small least (model_in m) given.prepared.accepted (depth (formula q c)) s (value_of (model_in m) (formula q c) s)
      (subst (λ k. s < k) (sym (states_are m)) h.state) (λ r. one_if_small _))

  pub best_fits : depth (formula q c) ≤ 6 → best_total m q c s least ≤ 100 ^ 6
  best_fits l =
      value_small given.prepared least (depth (formula q c)) 6 s (value_of (model_in m) (formula q c) s) h.state l (λ r. one_if_small _)

  -- ---- what is remembered

  pub place_in : memo_place c s least < 2560
  place_in = omega (arith, one_if_small least, h.node, h.state, given.nodes.formed.few_nodes, given.prepared.states)

  pub recalled : {memo : List ℕ} {k x : ℕ} → Remembers m q memo → k ≡ memo_place c s least → x ≡ get_or memo k 0 → (x ≡ 0 → ⊥) → x - 1 ≡ best_total m q c s least
  recalled {memo} {k} {x} r e f n =
      let g : x ≡ get_or memo (memo_place c s least) 0 = f ∙ ap (λ i. get_or memo i 0) e in
      omega (arith, r.at c s least h.node h.state (λ z. n (g ∙ z)))

  pub remembers_more : {memo : List ℕ} {k v : ℕ} → Remembers m q memo → k ≡ memo_place c s least → v ≡ best_total m q c s least
      → Remembers m q (set memo k (1 + v))
  remembers_more {memo} {k} {v} r e f =
      record { size = length-set memo k (1 + v) ∙ r.size; at = λ c' s' least' l w n. go c' s' least' l w n (ℕ_discrete (memo_place c' s' least') k) }
    where
      go : (c' s' : ℕ) (least' : Bool) → c' < node_count q → s' < state_count m → (get_or (set memo k (1 + v)) (memo_place c' s' least') 0 ≡ 0 → ⊥)
          → Dec (memo_place c' s' least' ≡ k) → get_or (set memo k (1 + v)) (memo_place c' s' least') 0 ≡ 1 + best_total m q c' s' least'
      go c' s' least' l w n (no d) =
          let o = get_or-set_other memo k (memo_place c' s' least') (1 + v) 0 d in
          o ∙ r.at c' s' least' l w (λ x. n (o ∙ x))
      go c' s' least' l w n (yes p) =
          let a = one_if_small least in
          let b = one_if_small least' in
          let t = given.prepared.states in
          let u = h.state in
          let ec : c ≡ c' = omega arith in
          let es : s ≡ s' = omega arith in
          let eb : one_if least ≡ one_if least' = omega arith in
          ap (λ i. get_or (set memo k (1 + v)) i 0) p ∙ get_or-set_same memo k (1 + v) 0 (omega (arith, place_in, r.size))
          ∙ ap (λ x. 1 + x) (f ∙ ap₂ (λ i j. best_total m q i j least) ec es ∙ ap (best_total m q c' s') (one_if_same least least' eb))

pub remembers_none : (m q : Bytes) → Remembers m q (replicate {A = ℕ} 2560 0)
remembers_none m q = record { size = length-replicate {A = ℕ} 2560 0; at = λ c s least l w n. absurd (n (zeros 2560 (memo_place c s least))) }
