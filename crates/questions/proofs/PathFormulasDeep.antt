-- A formula of nodes in range is a path formula exactly if its depth is not 0: by induction on the nodes, since "do" and "next" have a
-- step, "gain" has one by ground 5, and "not" and "and" have what their children have.
use Prim.Native.Nat.{ℕ, zero, suc, ◌≤◌, ◌<◌, max, zero-le}
use native.Mathlib.Decide.{ℕ_discrete}
use native.Mathlib.Omega.{arith}
use mathlib.Core.Path.{◌≡◌, refl, sym, ap, ap₂, ◌∙◌}
use mathlib.Core.Bool.{true, not, ◌||◌}
use mathlib.Core.List.{List}
use lib.Dec.{eqb, ltb}
use lib.ListN.{get_or, get_or-eq_default}
use borrow.Author.Tests.{lt-ltb, ne_eqb}
use Rattle.logic.specs.Lists.{every}
use Rattle.logic.specs.Formula.{Formula, never, Node, depth, is_path, formula_of}
use Rattle.logic.proofs.Tests.{every_at}
use Rattle.blocks.specs.Bytes.{Bytes}
use Rattle.questions.specs.Layout.{node_count, node_of, formulas_of}
use Rattle.questions.specs.Grounds.{node_in_range}
use Rattle.questions.specs.promises.Tables.{formulas_before}
use Rattle.questions.proofs.TableNodeByNode.{by_operator, all_before, before_length, before_at, before_other}
use Rattle.questions.proofs.AcceptedFacts.{in_range_facts}

or_deep : (a b : ℕ) → (ltb 0 a || ltb 0 b) ≡ ltb 0 (max a b)
or_deep zero b = let e : b ≡ max 0 b = omega arith in ap (ltb 0) e
or_deep (suc a) b = rw (lt-ltb 0 (suc a) (omega arith)) (sym (lt-ltb 0 (max (suc a) b) (omega arith)))

-- No depth, as a test on the number.
no_depth : (d : ℕ) → eqb d 0 ≡ not (ltb 0 d)
no_depth zero = refl
no_depth (suc d) = rw (lt-ltb 0 (suc d) (omega arith)) (ne_eqb (suc d) 0 (λ e. omega arith))

-- That a formula is a path formula exactly if its depth is not 0.
Deep : Formula → Type 0
Deep φ = is_path φ ≡ ltb 0 (depth φ)

-- One node, from those before it.
deep_row : (fs : List Formula) (x : Node) → (x.operator ≡ 7 → 1 ≤ x.n) → ((j : ℕ) → Deep (get_or fs j never)) → Deep (formula_of fs x)
unfolding Deep formula_of is_path depth
deep_row fs x h c =
    by_operator
    (λ n. x.operator ≡ n → Deep (formula_of fs x))
    (λ o. rw o refl)
    (λ o. rw o refl)
    (λ o. rw o refl)
    (λ o. rw o (c x.left))
    (λ o. rw o (ap₂ ◌||◌ (c x.left) (c x.right) ∙ or_deep (depth (get_or fs x.left never)) (depth (get_or fs x.right never))))
    (λ o. rw o refl)
    (λ o. rw o (sym (lt-ltb 0 (suc (depth (get_or fs x.left never))) (omega arith))))
    (λ o. let g = h o in rw o (sym (lt-ltb 0 x.n g)))
    (λ o. rw o refl)
    (λ o. rw o refl)
    (λ k o. rw o refl)
    x.operator
    refl

module _ (A N : ℕ) (b : Bytes) (r : every (node_count b) (λ i. node_in_range A N i (node_of b i)) ≡ true) where
  some_step : (i : ℕ) → i < node_count b → (node_of b i).operator ≡ 7 → 1 ≤ (node_of b i).n
  some_step i h o = ((in_range_facts A N i (node_of b i) (every_at (λ i. node_in_range A N i (node_of b i)) (node_count b) r h)).of_gain o).compares.some_step

  deep_before : (i : ℕ) → i ≤ node_count b → (j : ℕ) → Deep (get_or (formulas_before b i) j never)
  unfolding Deep is_path depth
  deep_before zero h j = rw (get_or-eq_default (formulas_before b 0) never {n = j} (rw (before_length b 0) zero-le)) refl
  deep_before (suc i) h j = go (deep_before i (omega arith)) (ℕ_discrete j i)
    where
      go : ((j : ℕ) → Deep (get_or (formulas_before b i) j never)) → Dec (j ≡ i) → Deep (get_or (formulas_before b (suc i)) j never)
      go g (yes e) = rw (e, before_at b i (suc i) (omega arith)) (deep_row (formulas_before b i) (node_of b i) (some_step i h) g)
      go g (no n) = rw (← before_other b i j n) (g j)

  pub path_depth : (i : ℕ) → is_path (get_or (formulas_of b) i never) ≡ ltb 0 (depth (get_or (formulas_of b) i never))
  unfolding Deep
  path_depth i = ap (λ fs. is_path (get_or fs i never)) (sym (all_before b)) ∙ deep_before (node_count b) (omega arith) i ∙ ap (λ fs. ltb 0 (depth (get_or fs i never))) (all_before b)

  -- So those of no depth are the state formulas.
  pub state_depth : (i : ℕ) → eqb (depth (get_or (formulas_of b) i never)) 0 ≡ not (is_path (get_or (formulas_of b) i never))
  state_depth i = no_depth (depth (get_or (formulas_of b) i never)) ∙ ap not (sym (path_depth i))
