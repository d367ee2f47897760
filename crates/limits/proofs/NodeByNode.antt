-- The test of all nodes that set a bound on plans by the nodes' numbers: node by node, the formula of a node sets one just where its operator is 8
-- or 9.
use Prim.Native.Nat.{ℕ, zero, suc, ◌+◌, ◌*◌, ◌≤◌, min}
use native.Mathlib.Omega.{arith}
use native.Mathlib.Decide.{dec_le}
use native.Mathlib.Nat.{min-eq_left, min-eq_right}
use mathlib.Core.Path.{◌≡◌, refl, sym, ap, ap₂, ◌∙◌}
use mathlib.Core.Logic.{⊎_elim}
use mathlib.Core.Bool.{Bool, true, false, not, ◌||◌, false≢true}
use mathlib.Core.List.{List}
use lib.Dec.{eqb, leb}
use lib.ListN.{get_or, length}
use borrow.Author.Tests.{le-leb, leb-true, ne_eqb}
use Rattle.logic.specs.Lists.{every}
use Rattle.logic.specs.Checked.{Checked, ok, guard, ◌>>◌}
use Rattle.logic.specs.promises.Refusal.{refusal}
use Rattle.logic.specs.Model.{Model}
use Rattle.logic.specs.Quantity.{Relation}
use Rattle.logic.specs.Verdict.{is_equal}
use Rattle.logic.specs.Formula.{Formula, Node, relation, formula_of}
use Rattle.logic.specs.Limits.{every_plan, path_total, plan_total, limits}
use Rattle.logic.proofs.Tests.{same_test, every_intro, and_left}
use Rattle.blocks.specs.Bytes.{Bytes}
use Rattle.questions.specs.Layout.{node_count, node_of, formulas_of}
use Rattle.questions.specs.promises.Formed.{Compares, sets_bound}
use Rattle.questions.specs.promises.Tables.{formulas_before}
use Rattle.questions.proofs.TableNodeByNode.{formula_here, every_same}
use Rattle.prepared_question.proofs.SameVerdict.{plan_test, every_node}
use Rattle.limits.specs.promises.Totals.{total, limit, cap, Totals, fits, node_fits, bounded}
use Rattle.questions.proofs.FormulaByOperator.{row_8, row_9, other_on_plan}
use Rattle.questions.proofs.SetsBound.{sets_which, sets_neither}

-- ---- every plan, node by node

module _ (f : ℕ → Relation → ℕ → Bool) (m : Model) where
  abbrev node_test : Node → Bool
  node_test x = not (sets_bound x.operator) || every (length m.states) (f x.n (relation x.right))

  plan_node : (fs : List Formula) (x : Node) → plan_test f m (formula_of fs x) ≡ node_test x
  plan_node fs x = go (sets_bound x.operator) refl
    where
      by : {t : Bool} → sets_bound x.operator ≡ t → (not t || every (length m.states) (f x.n (relation x.right))) ≡ node_test x
      by e = ap (λ t. not t || every (length m.states) (f x.n (relation x.right))) (sym e)

      go : (t : Bool) → sets_bound x.operator ≡ t → plan_test f m (formula_of fs x) ≡ node_test x
      go true e =
          ⊎_elim (λ o. ap (plan_test f m) (row_8 fs x o) ∙ by e) (λ o. ap (plan_test f m) (row_9 fs x o) ∙ by e) (sets_which x.operator e)
      go false e = let n = sets_neither x.operator e in other_on_plan fs x true _ _ n.0 n.1 ∙ by e

  pub nodes_all : (b : Bytes) → every_plan f m (formulas_of b) ≡ every (node_count b) (λ i. node_test (node_of b i))
  nodes_all b = every_node f m b ∙ every_same (node_count b) (λ i h. ap (plan_test f m) (formula_here b i h) ∙ test i (node_of b i))
    where
      test : (i : ℕ) (x : Node) → plan_test f m (formula_of (formulas_before b i) x) ≡ node_test x
      test i x = plan_node (formulas_before b i) x

-- ---- by the numbers of a node

-- A comparison with the limit does not mind the cap.
limit_capped : (plans : Bool) (x : ℕ) → leb (min (cap plans) x) (limit plans) ≡ leb x (limit plans)
limit_capped plans x =
    same_test _ _
    (λ e. let h = leb-true (min (cap plans) x) (limit plans) e in le-leb x (limit plans) (go h (dec_le (cap plans) x)))
    (λ e. let h = leb-true x (limit plans) e in le-leb (min (cap plans) x) (limit plans) (omega (arith, min-eq_right {n = x} {m = cap plans} (omega arith))))
  where
    go : min (cap plans) x ≤ limit plans → Dec (cap plans ≤ x) → x ≤ limit plans
    go h (yes g) = absurd (omega (arith, min-eq_left {n = cap plans} {m = x} g))
    go h (no g) = omega (arith, min-eq_right {n = x} {m = cap plans} (omega arith))

-- The relation numbered 2 is "equal", of 1, 2 and 3.
equal_numbered : (k : ℕ) → 1 ≤ k → k ≤ 3 → is_equal (relation k) ≡ eqb k 2
unfolding is_equal relation
equal_numbered zero h g = absurd (omega arith)
equal_numbered (suc zero) h g = refl
equal_numbered (suc (suc zero)) h g = refl
equal_numbered (suc (suc (suc k))) h g = sym (ne_eqb (suc (suc (suc k))) 2 (λ e. omega arith))

module _ (plans : Bool) (x : Node) where
  bounded_by : sets_bound x.operator ≡ true → bounded plans x ≡ (not plans || eqb x.right 2)
  unfolding bounded
  bounded_by e = rw e refl

  pub bounded_plans : sets_bound x.operator ≡ true → not plans ≡ false → eqb x.right 2 ≡ bounded plans x
  bounded_plans e h = ap (λ t. t || eqb x.right 2) (sym h) ∙ sym (bounded_by e)

  pub bounded_operator : bounded plans x ≡ true → sets_bound x.operator ≡ true
  unfolding bounded
  bounded_operator e = and_left (sets_bound x.operator) _ e

module _ (m : Model) (x : Node) (w : sets_bound x.operator ≡ true → Compares x) where
  node_fits_plan : (plans : Bool) → sets_bound x.operator ≡ true
      → every (length m.states) (fits plans m x.n (relation x.right)) ≡ node_fits plans m x
  unfolding node_fits
  node_fits_plan plans e = rw e refl

  relation_equal : sets_bound x.operator ≡ true → is_equal (relation x.right) ≡ eqb x.right 2
  relation_equal e = equal_numbered x.right (w e).relation_from (w e).relation_to

  -- A node with no limit passes.
  pub unbounded_fits : (plans : Bool) → bounded plans x ≡ false → true ≡ node_fits plans m x
  unfolding node_fits fits
  unbounded_fits plans h = go (sets_bound x.operator) refl
    where
      free : (t : Bool) → sets_bound x.operator ≡ true → (not t || eqb x.right 2) ≡ false
          → every (length m.states) (fits t m x.n (relation x.right)) ≡ true
      free true e k = every_intro _ (length m.states) (λ s l. ap (λ u. not u || leb (plan_total m x.n s) 65536) (relation_equal e ∙ k))
      free false e k = absurd (false≢true (sym k))

      go : (t : Bool) → sets_bound x.operator ≡ t → true ≡ node_fits plans m x
      go true e = sym (free plans e (sym (bounded_by plans x e) ∙ h)) ∙ node_fits_plan plans e
      go false e = rw e refl

  -- A node with a limit passes where the table's totals are within it.
  pub bounded_fits : (plans : Bool) (table : List ℕ) → bounded plans x ≡ true → Totals plans m (x.n + 1) table
      → every (length m.states) (λ s. leb (get_or table (32 * x.n + s) 0) (limit plans)) ≡ node_fits plans m x
  unfolding fits total limit
  bounded_fits plans table h t =
      let e = bounded_operator plans x h in
      every_same (length m.states)
      (λ s l. ap (λ v. leb v (limit plans)) (t.at x.n s (omega arith) l) ∙ limit_capped plans (total plans m x.n s) ∙ same plans s e (sym (bounded_by plans x e) ∙ h))
      ∙ node_fits_plan plans e
    where
      same : (t : Bool) (s : ℕ) → sets_bound x.operator ≡ true → (not t || eqb x.right 2) ≡ true
          → leb (total t m x.n s) (limit t) ≡ fits t m x.n (relation x.right) s
      same true s e k = ap (λ u. not u || leb (plan_total m x.n s) 65536) (sym (relation_equal e ∙ k))
      same false s e k = refl

-- ---- the answers

-- The last of the two grounds.
abbrev pub done : Bool → Checked (Unit {0})
done t = guard 25 t >> ok tt

module _ (m : Model) (fs : List Formula) where
  pub limits_paths : every_plan (fits false m) m fs ≡ false → 24 ≡ refusal (limits m fs)
  unfolding limits fits
  limits_paths e = ap (λ t. refusal (guard 24 t >> done (every_plan (fits true m) m fs))) (sym e)

  pub limits_plans : every_plan (fits false m) m fs ≡ true → {t : Bool} → every_plan (fits true m) m fs ≡ t → refusal (done t) ≡ refusal (limits m fs)
  unfolding limits fits
  limits_plans e f = ap₂ (λ t u. refusal (guard 24 t >> done u)) (sym e) (sym f)

-- Past the limits.
pub limits_passed : (m : Model) (fs : List Formula) → refusal (limits m fs) ≡ 0 → limits m fs ≡ ok tt
unfolding limits
limits_passed m fs e = by (every_plan (λ n r s. leb (path_total m n s) 1000000) m fs) (every_plan (λ n r s. not (is_equal r) || leb (plan_total m n s) 65536) m fs) e
  where
    by : (t u : Bool) → refusal (guard 24 t >> done u) ≡ 0 → (guard 24 t >> done u) ≡ ok tt
    by true true z = refl
    by true false z = absurd (omega arith)
    by false u z = absurd (omega arith)
