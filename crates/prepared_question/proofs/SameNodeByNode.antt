-- The question with its children replaced is formed, and is the question that it was node by node: by induction over the nodes, each is
-- made of children that mean the same.
use Prim.Native.Nat.{ℕ, zero, suc, ◌+◌, ◌*◌, ◌-◌, ◌≤◌, ◌<◌}
use native.Mathlib.Nat.{not-suc-le-zero}
use native.Mathlib.Omega.{arith}
use mathlib.Core.Path.{◌≡◌, refl, sym, ap, ap₂, subst, ◌∙◌}
use mathlib.Core.Bool.{Bool, true, false, cond, ◌&&◌, false≢true}
use lib.Dec.{eqb}
use lib.ListN.{get_or}
use borrow.Author.Tests.{eq-eqb, ne_eqb, eqb-true}
use Rattle.logic.specs.Lists.{is_empty}
use Rattle.logic.proofs.Tests.{and_left, and_right}
use Rattle.logic.specs.promises.Refusal.{refusal}
use Rattle.logic.specs.Formula.{never, both, Node, formula_of, is_path}
use Rattle.blocks.specs.Bytes.{Bytes, byte, i32, signed}
use Rattle.questions.specs.Layout.{start_of, node_count, node_at, node_of, question_of}
use Rattle.questions.specs.Grounds.{read_question}
use Rattle.questions.specs.promises.Formed.{Compares, InRange, Formed}
use Rattle.questions.specs.promises.Tables.{formulas_before}
use Rattle.questions.proofs.TableNodeByNode.{before_at, formula_at, formula_here}
use Rattle.questions.proofs.FormulaByOperator.{row_4}
use Rattle.questions.proofs.AcceptedFacts.{accepted}
use Rattle.questions.specs.promises.Used.{has_left}
use Rattle.prepared_question.specs.promises.Nodes.{formula}
use Rattle.prepared_question.specs.promises.Shared.{Same, Alike, Shared, Doubled}
use Rattle.prepared_question.specs.promises.Replaced.{ChildrenBefore, doubled, past, left_for, right_for, Pointed}
use Rattle.prepared_question.proofs.ChildrenBefore.{one_more}
use Rattle.prepared_question.proofs.SameMeaning.{same_both, node, alike_node}
use Rattle.prepared_question.proofs.OnlyChildrenChange.{head_same, cell_same, u32_same}

-- ---- the fields of one node

-- Node x with other children.
abbrev with_children : Node → ℕ → ℕ → Node
with_children x L R = node x.operator x.n (cond (has_left x.operator) L x.left) (cond (eqb x.operator 4) R x.right) x.p x.q

module _ (A N i : ℕ) (x : Node) (L R : ℕ) (down : x.left < i → L ≤ x.left) (down' : x.right < i → R ≤ x.right) where
  below : x.left < i → L < i
  below h = omega (arith, h, down h)

  compares_node : (x.operator ≡ 4 → ⊥) → Compares x → Compares (with_children x L R)
  compares_node f e =
      let r = ne_eqb x.operator 4 f in
      record { some_step = e.some_step; few_steps = e.few_steps; relation_from = rw r e.relation_from; relation_to = rw r e.relation_to }

  in_range_node : InRange A N i x → InRange A N i (with_children x L R)
  unfolding has_left is_empty
  in_range_node e =
      record {
        operator_from = e.operator_from;
        operator_to = e.operator_to;
        of_prop = λ o. rw o (e.of_prop o);
        of_neg = λ o. rw o (below (e.of_neg o));
        of_both = λ o. rw o (below (e.of_both o).0, let h = (e.of_both o).1 in omega (arith, h, down' h));
        of_does = λ o. rw o (e.of_does o);
        of_next = λ o. rw o (below (e.of_next o));
        of_gain = λ o. let g = e.of_gain o in record { compares = compares_node (λ f. omega arith) g.compares; bound = g.bound; whole = g.whole };
        of_plan = λ o. let g = e.of_plan o in
            record {
              compares = compares_node (λ f. omega arith) g.compares;
              child = rw o (below g.child);
              some_part = g.some_part;
              few_parts = g.few_parts;
              whole = g.whole;
              bound = g.bound;
            };
        of_earns = λ o. let g = e.of_earns o in
            record {
              compares = compares_node (λ f. omega arith) g.compares;
              from_one = rw o g.from_one;
              rising = rw o g.rising;
              within = rw o g.within;
              some_part = g.some_part;
              few_parts = g.few_parts;
              bound = g.bound;
            };
      }

-- ---- node by node

doubled_true : (b : Bytes) (c : ℕ) → doubled b c ≡ true → Doubled b c
unfolding doubled
doubled_true b c e =
    let x = node_of b c in (
      eqb-true x.operator 4 (and_left (eqb x.operator 4) (eqb x.left x.right) e),
      eqb-true x.left x.right (and_right (eqb x.operator 4) (eqb x.left x.right) e),
    )

doubled_false : (b : Bytes) (c : ℕ) → doubled b c ≡ false → Doubled b c → ⊥
unfolding doubled
doubled_false b c e d = false≢true (sym e ∙ ap₂ ◌&&◌ (eq-eqb (node_of b c).operator 4 d.0) (eq-eqb (node_of b c).left (node_of b c).right d.1))

past_is : (b : Bytes) (c : ℕ) {t : Bool} → doubled b c ≡ t → past b c ≡ cond t (node_of b c).left c
unfolding past
past_is b c e = ap (λ t. cond t (node_of b c).left c) e

module _ {q q' : Bytes} (o : ChildrenBefore q) (c : Pointed q q' (node_count q)) where
  abbrev n : ℕ
  n = node_count q

  count_same : node_count q' ≡ n
  count_same = head_same n o.few c 3 (omega arith)

  start_same : start_of q' ≡ start_of q
  start_same = head_same n o.few c 2 (omega arith)

  -- What node i and the node that it comes down to have of the old question.
  record Kept (i : ℕ) : Type 0 where
    alike : Alike (formula q i) (formula q' i)
    before : past q' i ≤ i
    same : Same (formula q i) (formula q' (past q' i))
    apart : Doubled q' (past q' i) → ⊥

  module _ (i : ℕ) (h : i < n) where
    abbrev x : Node
    x = node_of q i

    cell : (a k : ℕ) → k ≡ 8 + 12 * i + a → a < 12 → (a ≡ 2 → ⊥) → (a ≡ 3 → ⊥) → byte q' k ≡ byte q k
    cell a k e l f g = cell_same n o.few c i a k e h l f g

    word : (a : ℕ) → 4 ≤ a → a ≤ 8 → (k b : ℕ) → k ≡ node_at i + a + b → b < 4 → byte q' k ≡ byte q k
    word a f g k b e l = cell (a + b) k (omega arith) (omega arith) (λ w. omega arith) (λ w. omega arith)

    node_same : node_of q' i ≡ with_children x (past q' x.left) (past q' x.right)
    unfolding node_of left_for right_for i32
    node_same =
        let e₀ = cell 0 (node_at i) (omega arith) (omega arith) (λ w. omega arith) (λ w. omega arith) in
        let e₁ = cell 1 (node_at i + 1) (omega arith) (omega arith) (λ w. omega arith) (λ w. omega arith) in
        let e₄ = u32_same q q' (node_at i + 4) (word 4 (omega arith) (omega arith)) in
        let e₈ = u32_same q q' (node_at i + 8) (word 8 (omega arith) (omega arith)) in
        λ j. node (e₀ j) (e₁ j) (c.left i h j) (c.right i h j) (signed 31 (e₄ j)) (e₈ j)

    operator_same : (node_of q' i).operator ≡ x.operator
    operator_same = ap (λ (z : Node). z.operator) node_same

    left_cell : has_left x.operator ≡ true → (node_of q' i).left ≡ past q' x.left
    left_cell e = ap (λ (z : Node). z.left) node_same ∙ ap (λ t. cond t (past q' x.left) x.left) e

    right_cell : x.operator ≡ 4 → (node_of q' i).right ≡ past q' x.right
    right_cell e = ap (λ (z : Node). z.right) node_same ∙ ap (λ t. cond (eqb t 4) (past q' x.right) x.right) e

    -- A child of node i and the node that it comes down to, where that is known of the nodes before i.
    module _ (k : (j : ℕ) → j < i → Kept j) where
      old : (l : ℕ) → l < i → get_or (formulas_before q i) l never ≡ formula q l
      old l g = before_at q l i g ∙ sym (formula_here q l (omega arith))

      child_same : (l : ℕ) → l < i → Same (get_or (formulas_before q i) l never) (get_or (formulas_before q' i) (past q' l) never)
      child_same l g =
          let d : past q' l < i = omega (arith, (k l g).before) in
          let e : get_or (formulas_before q' i) (past q' l) never ≡ formula q' (past q' l) =
          before_at q' (past q' l) i d ∙ sym (formula_here q' (past q' l) (omega (arith, d, count_same))) in
          subst (λ φ. Same φ (get_or (formulas_before q' i) (past q' l) never)) (sym (old l g)) (subst (λ φ. Same (formula q l) φ) (sym e) (k l g).same)

      alike_next : Alike (formula q i) (formula q' i)
      alike_next =
          let fs = formulas_before q i in
          let gs = formulas_before q' i in
          subst (λ φ. Alike φ (formula q' i)) (sym (formula_here q i h))
          (subst (λ φ. Alike (formula_at q i) φ) (sym (formula_here q' i (omega (arith, h, count_same)) ∙ ap (formula_of gs) node_same))
          (alike_node fs gs x.n x.left x.right (past q' x.left) (past q' x.right) x.p x.q x.operator
          (λ e. child_same x.left (o.left i h e))
          (λ e. child_same x.right (o.right i h e))))

      -- The halves of an "and" come down to one node: it stands for the "and" too.
      halves : Doubled q' i → past q' i ≡ (node_of q' i).left → Kept i
      unfolding has_left is_empty
      halves d e =
          let and : x.operator ≡ 4 = sym operator_same ∙ d.0 in
          let l : x.left < i = o.left i h (ap has_left and) in
          let r : x.right < i = o.right i h and in
          let f : past q' i ≡ past q' x.left = e ∙ left_cell (ap has_left and) in
          let g : past q' i ≡ past q' x.right = e ∙ d.1 ∙ right_cell and in
          record {
            alike = alike_next;
            before = omega (arith, (k x.left l).before);
            same =
                subst (λ φ. Same φ (formula q' (past q' i)))
                (sym (formula_here q i h ∙ row_4 (formulas_before q i) x and ∙ ap₂ both (old x.left l) (old x.right r)))
                (same_both (subst (λ j. Same (formula q x.left) (formula q' j)) (sym f) (k x.left l).same)
                (subst (λ j. Same (formula q x.right) (formula q' j)) (sym g) (k x.right r).same));
            apart = subst (λ j. Doubled q' j → ⊥) (sym f) (k x.left l).apart;
          }

      kept_next : Kept i
      kept_next = go (doubled q' i) refl
        where
          go : (t : Bool) → doubled q' i ≡ t → Kept i
          go true e = halves (doubled_true q' i e) (past_is q' i e)
          go false e =
              let f : past q' i ≡ i = past_is q' i e in
              record {
                alike = alike_next;
                before = omega arith;
                same = subst (λ j. Same (formula q i) (formula q' j)) (sym f) alike_next.same;
                apart = subst (λ j. Doubled q' j → ⊥) (sym f) (doubled_false q' i e);
              }

  kept_below : (k : ℕ) → k ≤ n → (j : ℕ) → j < k → Kept j
  kept_below zero h j l = absurd (not-suc-le-zero l)
  kept_below (suc k) h j l = one_more Kept k (kept_below k (omega arith)) (kept_next k h (kept_below k (omega arith))) j l

  kept : (j : ℕ) → j < n → Kept j
  kept = kept_below n (omega arith)

  past_left : (j : ℕ) → j < n → has_left (node_of q' j).operator ≡ true → Doubled q' (node_of q' j).left → ⊥
  past_left j h e =
      let f : has_left (node_of q j).operator ≡ true = ap has_left (sym (operator_same j h)) ∙ e in
      subst (λ k. Doubled q' k → ⊥) (sym (left_cell j h f)) (kept (node_of q j).left (omega (arith, h, o.left j h f))).apart

  past_right : (j : ℕ) → j < n → (node_of q' j).operator ≡ 4 → Doubled q' (node_of q' j).right → ⊥
  past_right j h e =
      let f : (node_of q j).operator ≡ 4 = sym (operator_same j h) ∙ e in
      subst (λ k. Doubled q' k → ⊥) (sym (right_cell j h f)) (kept (node_of q j).right (omega (arith, h, o.right j h f))).apart

  in_range_same : (A N i : ℕ) → i < n → InRange A N i (node_of q i) → InRange A N i (node_of q' i)
  in_range_same A N i h e =
      let x = node_of q i in
      subst (InRange A N i) (sym (node_same i h))
      (in_range_node A N i x (past q' x.left) (past q' x.right) (λ l. (kept x.left (omega arith)).before) (λ l. (kept x.right (omega arith)).before) e)

  -- ---- the whole

  module _ (S A N : ℕ) (e : refusal (read_question S A N q) ≡ 0) where
    formed_again : Formed S A N q → Formed S A N q'
    unfolding question_of
    formed_again f =
        record {
          starts = rw start_same f.starts;
          some_node = rw count_same f.some_node;
          few_nodes = rw count_same o.few;
          in_range = λ i h. let l : i < n = omega (arith, h, count_same) in in_range_same A N i l (f.in_range i l);
          root_state = ap (λ k. is_path (formula q' (k - 1))) count_same
              ∙ sym (kept (n - 1) (omega (arith, f.some_node))).alike.same.paths ∙ f.root_state;
          shallow = λ i h. let l : i < n = omega (arith, h, count_same) in sym (kept i l).alike.ground_9 ∙ f.shallow i l;
        }

    -- What `prepare_question` makes of an accepted question.
    pub shared_question : Shared S A N q q'
    shared_question =
        record {
          nodes =
              record {
                formed = formed_again (accepted S A N q e).formed;
                deep = λ j h. let l : j < n = omega (arith, h, count_same) in c.deep j l ∙ (kept j l).alike.same.depths;
              };
          count = count_same;
          start = start_same;
          operators = operator_same;
          alike = λ j h. (kept j h).alike;
          past_left = past_left;
          past_right = past_right;
        }
