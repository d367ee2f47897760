-- The formula of a node by its operator, and what depth, path formulas and ground 9 make of it: a row of document 01's table each.
use Prim.Native.Nat.{ℕ, suc, ◌/◌, ◌%◌, ◌≤◌, ◌<◌}
use native.Mathlib.Decide.{ℕ_discrete}
use native.Mathlib.Omega.{arith}
use mathlib.Core.Path.{◌≡◌, refl, sym, ap, ◌∙◌}
use mathlib.Core.Bool.{true}
use mathlib.Core.List.{List}
use lib.ListN.{length, get_or}
use Rattle.logic.specs.Lists.{all, every}
use Rattle.logic.specs.Quantity.{Relation}
use Rattle.logic.specs.Formula.{Formula, never, prop, neg, both, does, next, gain, plan, earns, Node, depth, shallow, relation, nonnegative, formula_of, on_plan}
use lib.IntN.{ℤ}
use Rattle.logic.proofs.OnPlan.{ByPlan, ByGain}
use Rattle.blocks.specs.Bytes.{Bytes}
use Rattle.questions.specs.Layout.{node_count, formulas_of, node_of}
use Rattle.questions.proofs.TableNodeByNode.{by_operator, all_every, all_before, before_length, formula_here}
use lib.Dec.{leb}
use Rattle.questions.specs.promises.Tables.{formulas_before}

module _ (fs : List Formula) (x : Node) where
  pub row_1 : x.operator ≡ 1 → formula_of fs x ≡ never
  unfolding formula_of
  row_1 o = rw o refl

  pub row_2 : x.operator ≡ 2 → formula_of fs x ≡ prop x.left
  unfolding formula_of
  row_2 o = rw o refl

  pub row_3 : x.operator ≡ 3 → formula_of fs x ≡ neg (get_or fs x.left never)
  unfolding formula_of
  row_3 o = rw o refl

  pub row_4 : x.operator ≡ 4 → formula_of fs x ≡ both (get_or fs x.left never) (get_or fs x.right never)
  unfolding formula_of
  row_4 o = rw o refl

  pub row_5 : x.operator ≡ 5 → formula_of fs x ≡ does x.left
  unfolding formula_of
  row_5 o = rw o refl

  pub row_6 : x.operator ≡ 6 → formula_of fs x ≡ next (get_or fs x.left never)
  unfolding formula_of
  row_6 o = rw o refl

  pub row_7 : x.operator ≡ 7 → formula_of fs x ≡ gain x.n (relation x.right) x.p
  unfolding formula_of
  row_7 o = rw o refl

  pub row_8 : x.operator ≡ 8 → formula_of fs x ≡ plan x.n (get_or fs x.left never) (relation x.right) (nonnegative x.p) x.q
  unfolding formula_of
  row_8 o = rw o refl

  pub row_9 : x.operator ≡ 9 → formula_of fs x ≡ earns x.n (x.left % 8) (x.left / 8) (relation x.right) x.p x.q
  unfolding formula_of
  row_9 o = rw o refl

  -- What is said alike of false, propositions, "plan" and operator 9 holds where the operator is none of 3 to 7.
  pub other_row : {A : Type 0} (f : Formula → A) {v : A} → v ≡ f never → ((k : ℕ) → v ≡ f (prop k)) → ((n : ℕ) (φ : Formula) (r : Relation) (p q : ℕ) → v ≡ f (plan n φ r p q))
      → ((n l u : ℕ) (r : Relation) (p : ℤ) (q : ℕ) → v ≡ f (earns n l u r p q)) → (n : ℕ) → x.operator ≡ n
      → (n ≡ 3 → ⊥) → (n ≡ 4 → ⊥) → (n ≡ 5 → ⊥) → (n ≡ 6 → ⊥) → (n ≡ 7 → ⊥) → v ≡ f (formula_of fs x)
  unfolding formula_of
  other_row f {v} a b c d =
      by_operator
      (λ n. x.operator ≡ n → (n ≡ 3 → ⊥) → (n ≡ 4 → ⊥) → (n ≡ 5 → ⊥) → (n ≡ 6 → ⊥) → (n ≡ 7 → ⊥) → v ≡ f (formula_of fs x))
      (λ o _ _ _ _ _. rw o a)
      (λ o _ _ _ _ _. rw o a)
      (λ o _ _ _ _ _. rw o (b x.left))
      (λ o h _ _ _ _. absurd (h refl))
      (λ o _ h _ _ _. absurd (h refl))
      (λ o _ _ h _ _. absurd (h refl))
      (λ o _ _ _ h _. absurd (h refl))
      (λ o _ _ _ _ h. absurd (h refl))
      (λ o _ _ _ _ _. rw o (c _ _ _ _ _))
      (λ o _ _ _ _ _. rw o (d _ _ _ _ _ _))
      (λ k o _ _ _ _ _. rw o a)

  -- A node that sets no bound on plans makes a formula that sets none.
  pub other_on_plan : {A : Type 0} (other : A) (f : ByPlan A) (g : ByGain A) → (x.operator ≡ 8 → ⊥) → (x.operator ≡ 9 → ⊥)
      → on_plan other f g (formula_of fs x) ≡ other
  unfolding formula_of
  other_on_plan other f g h k =
      by_operator
      (λ n. x.operator ≡ n → on_plan other f g (formula_of fs x) ≡ other)
      (λ o. rw o refl)
      (λ o. rw o refl)
      (λ o. rw o refl)
      (λ o. rw o refl)
      (λ o. rw o refl)
      (λ o. rw o refl)
      (λ o. rw o refl)
      (λ o. rw o refl)
      (λ o. absurd (h o))
      (λ o. absurd (k o))
      (λ k o. rw o refl)
      x.operator refl

  -- Ground 9 asks something of "plan" alone.
  pub other_shallow : (n : ℕ) → x.operator ≡ n → (n ≡ 8 → ⊥) → true ≡ shallow (formula_of fs x)
  unfolding shallow
  other_shallow n o h = go (ℕ_discrete x.operator 9)
    where
      go : Dec (x.operator ≡ 9) → true ≡ shallow (formula_of fs x)
      go (yes e) = sym (ap shallow (row_9 e))
      go (no e) = sym (other_on_plan true (λ n ψ r p q. leb (depth ψ) n) (λ n l u r p q. true) (λ e. h (sym o ∙ e)) e)

  -- A node is at most one step deeper than the bound of those before it and of its steps.
  pub depth_row : (m : ℕ) → 1 ≤ m → x.n ≤ m → ((j : ℕ) → depth (get_or fs j never) ≤ m) → depth (formula_of fs x) ≤ suc m
  unfolding formula_of depth
  depth_row m h g c =
      by_operator
      (λ n. x.operator ≡ n → depth (formula_of fs x) ≤ suc m)
      (λ o. rw o (omega arith))
      (λ o. rw o (omega arith))
      (λ o. rw o (omega arith))
      (λ o. rw o (omega (arith, c x.left)))
      (λ o. rw o (omega (arith, c x.left, c x.right)))
      (λ o. rw o (omega arith))
      (λ o. rw o (omega (arith, c x.left)))
      (λ o. rw o (omega arith))
      (λ o. rw o (omega arith))
      (λ o. rw o (omega arith))
      (λ k o. rw o (omega arith))
      x.operator
      refl

-- Ground 9 asks of all nodes what it asks of each.
pub all_shallow : (b : Bytes) → all shallow (formulas_of b) ≡ every (node_count b) (λ i. shallow (get_or (formulas_of b) i never))
all_shallow b = all_every shallow never (formulas_of b) ∙ ap (λ k. every k (λ i. shallow (get_or (formulas_of b) i never))) (ap length (sym (all_before b)) ∙ before_length b (node_count b))

-- Node i of a question, if it sets no bound on plans, holds no formula that sets one.
pub no_plan_at : (b : Bytes) (i : ℕ) → i < node_count b → ((node_of b i).operator ≡ 8 → ⊥) → ((node_of b i).operator ≡ 9 → ⊥)
    → {A : Type 0} (other : A) (f : ByPlan A) (g : ByGain A) → on_plan other f g (get_or (formulas_of b) i never) ≡ other
no_plan_at b i h n k other f g = ap (on_plan other f g) (formula_here b i h) ∙ other_on_plan (formulas_before b i) (node_of b i) other f g n k
