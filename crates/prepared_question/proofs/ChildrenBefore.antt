-- The children of a node come before it, so its depth is small: what holds of all prepared questions, and of accepted ones.
use Prim.Native.Nat.{ℕ, zero, suc, ◌+◌, ◌≤◌, ◌<◌}
use native.Mathlib.Nat.{eq-or-lt_of_le, le_of_suc-le-suc, not-suc-le-zero}
use native.Mathlib.Omega.{arith}
use mathlib.Core.Path.{◌≡◌, refl, sym, subst}
use mathlib.Core.Logic.{⊎_elim}
use mathlib.Core.Bool.{true, false, false≢true}
use Rattle.logic.specs.Lists.{is_empty}
use Rattle.logic.specs.Formula.{depth}
use Rattle.logic.specs.promises.Refusal.{refusal}
use Rattle.blocks.specs.Bytes.{Bytes}
use Rattle.questions.specs.Layout.{node_count, node_of}
use Rattle.questions.specs.Grounds.{read_question}
use Rattle.questions.specs.promises.Formed.{Formed}
use Rattle.questions.proofs.TableNodeByNode.{by_operator}
use Rattle.questions.proofs.AcceptedFacts.{accepted, at_never, at_prop, at_neg, at_both, at_does, at_next, at_gain, at_plan, at_earns}
use Rattle.questions.specs.promises.Used.{has_left}
use Rattle.prepared_question.specs.promises.Nodes.{formula}
use Rattle.prepared_question.specs.promises.Replaced.{ChildrenBefore}

-- What holds of the first n numbers and of n holds of the first n + 1.
pub one_more : (P : ℕ → Type 0) (n : ℕ) → ((j : ℕ) → j < n → P j) → P n → (j : ℕ) → j < suc n → P j
one_more P n f p j h = ⊎_elim (λ (e : j ≡ n). subst P (sym e) p) (λ (g : j < n). f j g) (eq-or-lt_of_le (le_of_suc-le-suc h))

left_before : (i l op : ℕ) → (op ≡ 3 → l < i) → (op ≡ 4 → l < i) → (op ≡ 6 → l < i) → (op ≡ 8 → l < i) → has_left op ≡ true → l < i
unfolding has_left is_empty
left_before i l =
    by_operator
    (λ n. (n ≡ 3 → l < i) → (n ≡ 4 → l < i) → (n ≡ 6 → l < i) → (n ≡ 8 → l < i) → has_left n ≡ true → l < i)
    none none none (λ h _ _ _ e. h refl) (λ _ h _ _ e. h refl) none (λ _ _ h _ e. h refl) none (λ _ _ _ h e. h refl) none (λ k. none)
  where
    none : {A B C D : Type 0} → A → B → C → D → false ≡ true → l < i
    none _ _ _ _ e = absurd (false≢true e)

module _ {S A N : ℕ} {q : Bytes} (f : Formed S A N q) where
  module _ (i : ℕ) (h : i < node_count q) where
    pub left_below : has_left (node_of q i).operator ≡ true → (node_of q i).left < i
    left_below =
        let r = f.in_range i h in
        left_before i (node_of q i).left (node_of q i).operator r.of_neg (λ o. (r.of_both o).0) r.of_next (λ o. (r.of_plan o).child)

    pub right_below : (node_of q i).operator ≡ 4 → (node_of q i).right < i
    right_below o = ((f.in_range i h).of_both o).1

    depth_next : ((j : ℕ) → j < i → depth (formula q j) ≤ j + 6) → depth (formula q i) ≤ i + 6
    unfolding depth
    depth_next d =
        let r = f.in_range i h in
        by_operator
        (λ n. (node_of q i).operator ≡ n → depth (formula q i) ≤ i + 6)
        (λ o. absurd (omega (arith, r.operator_from, o)))
        (λ o. rw (at_never S A N q f i h o) (omega arith))
        (λ o. rw (at_prop S A N q f i h o) (omega arith))
        (λ o. rw (at_neg S A N q f i h o) (omega (arith, d _ (r.of_neg o), r.of_neg o)))
        (λ o. rw (at_both S A N q f i h o) (omega (arith, d _ (r.of_both o).0, (r.of_both o).0, d _ (r.of_both o).1, (r.of_both o).1)))
        (λ o. rw (at_does S A N q f i h o) (omega arith))
        (λ o. rw (at_next S A N q f i h o) (omega (arith, d _ (r.of_next o), r.of_next o)))
        (λ o. rw (at_gain S A N q f i h o) (omega (arith, (r.of_gain o).compares.few_steps)))
        (λ o. rw (at_plan S A N q f i h o) (omega arith))
        (λ o. rw (at_earns S A N q f i h o) (omega arith))
        (λ k o. absurd (omega (arith, r.operator_to, o)))
        (node_of q i).operator
        refl

  depth_below : (k : ℕ) → k ≤ node_count q → (j : ℕ) → j < k → depth (formula q j) ≤ j + 6
  depth_below zero h j l = absurd (not-suc-le-zero l)
  depth_below (suc k) h j l =
      one_more (λ j. depth (formula q j) ≤ j + 6) k (depth_below k (omega arith)) (depth_next k h (depth_below k (omega arith))) j l

  pub depth_small : (j : ℕ) → j < node_count q → depth (formula q j) ≤ j + 6
  depth_small = depth_below (node_count q) (omega arith)

-- An accepted question can be handed to `prepare_question`.
pub ordered : (S A N : ℕ) (q : Bytes) → refusal (read_question S A N q) ≡ 0 → ChildrenBefore q
ordered S A N q e =
    let a = accepted S A N q e in
    let f = a.formed in
    record {
      size = a.size;
      few = f.few_nodes;
      deep = λ i h. omega (arith, depth_small f i h, f.few_nodes);
      left = left_below f;
      right = right_below f;
    }
