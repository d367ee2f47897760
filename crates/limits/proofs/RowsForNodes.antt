-- The rows of a table that nodes need: found node by node, and had by a table of so many rows.
use Prim.Native.Nat.{ℕ, ◌+◌, ◌≤◌, ◌<◌}
use native.Mathlib.Omega.{arith}
use native.Mathlib.Decide.{ℕ_discrete}
use mathlib.Core.Path.{◌≡◌, refl, sym, ap, subst, ◌∙◌}
use mathlib.Core.Bool.{Bool, true, false}
use mathlib.Core.List.{List}
use Rattle.logic.specs.Model.{Model}
use Rattle.blocks.specs.Bytes.{Bytes}
use Rattle.questions.specs.Layout.{node_count, node_of}
use Rattle.questions.specs.promises.Formed.{Compares, sets_bound}
use Rattle.questions.proofs.SetsBound.{bound_compares}
use Rattle.prepared_question.specs.promises.Nodes.{Nodes}
use Rattle.prepared_model.specs.promises.Rows.{model_in}
use Rattle.limits.specs.promises.Totals.{Totals, bounded}
use Rattle.limits.specs.promises.Counted.{Needed, Serves, Counted}
use Rattle.limits.proofs.NodeByNode.{bounded_operator}

-- What the nodes of a prepared question promise to those who look for its bounds.
pub compared : {S A N : ℕ} {q : Bytes} → Nodes S A N q
    → ((i : ℕ) → i < node_count q → sets_bound (node_of q i).operator ≡ true → Compares (node_of q i)) × (node_count q ≤ 40)
compared w = (λ i h. bound_compares (w.formed.in_range i h), w.formed.few_nodes)

-- No row is needed for no node.
pub needed_none : (plans : Bool) (q : Bytes) → Needed plans q 0 0
needed_none plans q = record { few = omega arith; enough = λ i h e. absurd (omega arith) }

module _ {plans : Bool} {q : Bytes} where
  -- One node more.
  pub needed_more : {i rows x r : ℕ} → Needed plans q i rows → (sets_bound (node_of q i).operator ≡ true → Compares (node_of q i))
      → (bounded plans (node_of q i) ≡ true → x ≡ (node_of q i).n + 1) × (bounded plans (node_of q i) ≡ false → x ≡ 0)
      → (rows ≤ r) × (x ≤ r) × (rows ≤ 7 → x ≤ 7 → r ≤ 7) → Needed plans q (i + 1) r
  needed_more {i} {rows} {x} {r} w compares e g =
      record {
        few = g.2 w.few (here (bounded plans (node_of q i)) refl);
        enough = λ j h b. by j h b (ℕ_discrete j i);
      }
    where
      here : (t : Bool) → bounded plans (node_of q i) ≡ t → x ≤ 7
      here true b = omega (arith, e.0 b, (compares (bounded_operator plans (node_of q i) b)).few_steps)
      here false b = omega (arith, e.1 b)

      by : (j : ℕ) → j < i + 1 → bounded plans (node_of q j) ≡ true → Dec (j ≡ i) → (node_of q j).n < r
      by j h b (yes k) =
          subst (λ j. (node_of q j).n < r) (sym k) (omega (arith, e.0 (ap (λ j. bounded plans (node_of q j)) (sym k) ∙ b), g.1))
      by j h b (no k) = omega (arith, w.enough j (omega arith) b, g.0)

  pub needed_all : {i n rows : ℕ} → Needed plans q i rows → n ≤ i → Needed plans q n rows
  needed_all w h = record { few = w.few; enough = λ j k b. w.enough j (omega arith) b }

-- A table has the rows before one of its own.
pub fewer_rows : {plans : Bool} {m : Model} {k n : ℕ} {table : List ℕ} → Totals plans m n table → k ≤ n → Totals plans m k table
fewer_rows t h = record { at = λ i s l g. t.at i s (omega arith) g }

module _ {m q : Bytes} where
  -- A table of as many rows as are needed serves the nodes.
  pub needed_serves : {plans : Bool} {rows : ℕ} {table : List ℕ} → Needed plans q (node_count q) rows → Totals plans (model_in m) rows table
      → Serves plans m q table
  needed_serves w t = record { up_to = λ i h b. fewer_rows t (omega (arith, w.enough i h b)) }

  -- Where no row is needed, nobody counts plans.
  pub none_counted : {rows : ℕ} (table : List ℕ) → Needed true q (node_count q) rows → rows ≡ 0 → Counted m q table
  none_counted table w e = record { all = λ i h b. absurd (omega (arith, w.enough i h b)) }

  pub all_counted : {table : List ℕ} → Totals true (model_in m) 7 table → Counted m q table
  all_counted t = record { all = λ i h b. t }

  -- A node to which a limit is set has at most six steps.
  pub counted_serves : {S A N : ℕ} {table : List ℕ} → Nodes S A N q → Counted m q table → Serves true m q table
  counted_serves w c =
      record {
        up_to = λ i h b. fewer_rows (c.all i h b) (omega (arith, ((compared w).0 i h (bounded_operator true (node_of q i) b)).few_steps));
      }
