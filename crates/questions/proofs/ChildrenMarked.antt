-- The children of nodes by their operators, and the marks that they get.
use Prim.Native.Nat.{ℕ, suc, ◌≤◌, ◌<◌}
use native.Mathlib.Nat.{le_of_suc-le-suc, eq-or-lt_of_le}
use native.Mathlib.Decide.{ℕ_discrete}
use native.Mathlib.Omega.{arith}
use mathlib.Core.Path.{◌≡◌, refl, sym, ap, subst, ◌∙◌}
use mathlib.Core.Logic.{◌↔◌, ◌⊎◌, inl, inr, ⊎_elim}
use mathlib.Core.Bool.{Bool, true, false, cond, ◌||◌, false≢true}
use mathlib.Core.List.Memᴰ
use mathlib.Core.List.{List, [], ◌∷◌, Memᴰ}
use lib.Dec.{eqb}
use lib.ListN.{get_or, length, set, length-set, replicate, length-replicate, get_or-replicate}
use lib.Seq.{get_or-set_same, get_or-set_other}
use borrow.Author.Tests.{ne_eqb}
use Rattle.logic.specs.Lists.{is_empty}
use Rattle.logic.specs.Formula.{Node}
use Rattle.blocks.specs.Bytes.{Bytes}
use Rattle.questions.specs.Layout.{node_count, node_of}
use Rattle.questions.specs.Children.{children_by, children}
use Rattle.questions.specs.promises.Formed.{InRange}
use Rattle.questions.specs.promises.Used.{has_left, Downward, mark_each, ChildOfFirst, MarksOf}
use Rattle.questions.proofs.TableNodeByNode.{by_operator}

-- ---- by operator

-- The operators with a child in the left cell, as the code has them.
pub has_left_is : (op : ℕ) → (eqb op 3 || eqb op 4 || eqb op 6 || eqb op 8) ≡ has_left op
unfolding has_left is_empty
has_left_is =
    by_operator (λ n. (eqb n 3 || eqb n 4 || eqb n 6 || eqb n 8) ≡ has_left n) refl refl refl refl refl refl refl refl refl refl
    (λ k. rw (above k 3 (omega arith), above k 4 (omega arith), above k 6 (omega arith), above k 8 (omega arith)) refl)
  where
    above : (k m : ℕ) → m ≤ 8 → eqb (suc (suc (suc (suc (suc (suc (suc (suc (suc (suc k)))))))))) m ≡ false
    above k m h = ne_eqb _ m (λ e. omega arith)

-- A node that has children and is no "and" has the left cell's.
children_left : (l r op : ℕ) → has_left op ≡ true → (op ≡ 4 → ⊥) → children_by l r op ≡ l ∷ []
unfolding has_left is_empty
children_left l r =
    by_operator (λ n. has_left n ≡ true → (n ≡ 4 → ⊥) → children_by l r n ≡ l ∷ [])
    none none none one (λ e n. absurd (n refl)) none one none one none (λ k. none)
  where
    one : {A B : Type 0} → A → B → (l ∷ []) ≡ l ∷ []
    one e n = refl

    none : {A B : Type 0} → false ≡ true → A → B
    none e n = absurd (false≢true e)

children_none : (l r op : ℕ) → has_left op ≡ false → children_by l r op ≡ []
unfolding has_left is_empty
children_none l r =
    by_operator (λ n. has_left n ≡ false → children_by l r n ≡ [])
    (λ e. refl) (λ e. refl) (λ e. refl) some some (λ e. refl) some (λ e. refl) some (λ e. refl) (λ k e. refl)
  where
    some : {B : Type 0} → true ≡ false → B
    some e = absurd (false≢true (sym e))

-- In the range of ground 5 the children of node i come before it.
pub child_below : (A N i c : ℕ) (x : Node) → InRange A N i x → Memᴰ c (children x) → c < i
unfolding children
child_below A N i c x r = go x.operator refl
  where
    one : (k : ℕ) → k < i → Memᴰ c (k ∷ []) → c < i
    one k h m = subst (λ k. k < i) (sym (Memᴰ.eq_of_singleton m)) h

    two : (k l : ℕ) → k < i → l < i → Memᴰ c (k ∷ l ∷ []) → c < i
    two k l h g m = ⊎_elim (λ e. subst (λ k. k < i) (sym e) h) (λ t. one l g t) (Memᴰ.cases_cons m)

    none : Memᴰ c [] → c < i
    none m = absurd (Memᴰ.not-nil m)

    go : (op : ℕ) → x.operator ≡ op → Memᴰ c (children_by x.left x.right op) → c < i
    go =
        by_operator (λ n. x.operator ≡ n → Memᴰ c (children_by x.left x.right n) → c < i)
        (λ o. none)
        (λ o. none)
        (λ o. none)
        (λ o. one x.left (r.of_neg o))
        (λ o. two x.left x.right (r.of_both o).0 (r.of_both o).1)
        (λ o. none)
        (λ o. one x.left (r.of_next o))
        (λ o. none)
        (λ o. one x.left (r.of_plan o).child)
        (λ o. none)
        (λ k o. none)

pub downward : (A N : ℕ) (b : Bytes) → node_count b ≤ 40 → ((i : ℕ) → i < node_count b → InRange A N i (node_of b i)) → Downward b
downward A N b few r = record { few = few; below = λ i c h. child_below A N i c (node_of b i) (r i h) }

-- ---- marks

-- The marks of a node's children, where its left cell holds x and its right cell y: first that of the left cell, then that of the right.
abbrev pub left_marked : (op x : ℕ) → List ℕ → List ℕ
left_marked op x marks = cond (has_left op) (set marks x 1) marks

pub both_marked : (op x y : ℕ) (marks : List ℕ) → op ≡ 4 → set (left_marked op x marks) y 1 ≡ mark_each (children_by x y op) marks
unfolding has_left is_empty mark_each
both_marked op x y marks e = rw e refl

pub one_marked : (op x y : ℕ) (marks : List ℕ) → (op ≡ 4 → ⊥) → left_marked op x marks ≡ mark_each (children_by x y op) marks
unfolding mark_each
one_marked op x y marks n = by (has_left op) refl
  where
    by : (t : Bool) → has_left op ≡ t → cond t (set marks x 1) marks ≡ mark_each (children_by x y op) marks
    by true e = sym (ap (λ cs. mark_each cs marks) (children_left x y op e n))
    by false e = sym (ap (λ cs. mark_each cs marks) (children_none x y op e))

-- The marks after those of some places: what was marked before, and these places.
each_marked : (cs marks : List ℕ) (j : ℕ) → j < length marks → (get_or (mark_each cs marks) j 0 ≡ 1) ↔ ((get_or marks j 0 ≡ 1) ⊎ Memᴰ j cs)
unfolding mark_each
each_marked [] marks j h = ((λ e. inl e), ⊎_elim (λ e. e) (λ m. absurd (Memᴰ.not-nil m)))
each_marked (c ∷ cs) marks j h = by (ℕ_discrete j c) (each_marked cs (set marks c 1) j (subst (λ n. j < n) (sym (length-set marks c 1)) h))
  where
    by : Dec (j ≡ c) → (get_or (mark_each cs (set marks c 1)) j 0 ≡ 1) ↔ ((get_or (set marks c 1) j 0 ≡ 1) ⊎ Memᴰ j cs)
        → (get_or (mark_each cs (set marks c 1)) j 0 ≡ 1) ↔ ((get_or marks j 0 ≡ 1) ⊎ Memᴰ j (c ∷ cs))
    by (yes e) rest = (
      (λ _. inr (Memᴰ.head e)),
      (λ _. rest.1 (inl (ap (λ k. get_or (set marks c 1) k 0) e ∙ get_or-set_same marks c 1 0 (subst (λ k. k < length marks) e h)))),
    )
    by (no n) rest = (
      (λ f. ⊎_elim (λ g. inl (sym (get_or-set_other marks c j 1 0 n) ∙ g)) (λ m. inr (Memᴰ.tail m)) (rest.0 f)),
      ⊎_elim (λ g. rest.1 (inl (get_or-set_other marks c j 1 0 n ∙ g))) (λ m. ⊎_elim (λ e. absurd (n e)) (λ t. rest.1 (inr t)) (Memᴰ.cases_cons m)),
    )

each_length : (cs marks : List ℕ) → length (mark_each cs marks) ≡ length marks
unfolding mark_each
each_length [] marks = refl
each_length (c ∷ cs) marks = each_length cs (set marks c 1) ∙ length-set marks c 1

pub no_marks : (b : Bytes) → MarksOf b 0 (replicate {A = ℕ} 40 0)
no_marks b =
    record {
      size = length-replicate {A = ℕ} 40 0;
      marked = λ j h. ((λ e. absurd (omega (arith, e, get_or-replicate {A = ℕ} 40 j 0 0 h))), λ w. absurd (omega (arith, w.1)));
    }

-- The children of one more node.
pub more_marks : (b : Bytes) (n : ℕ) (marks : List ℕ) → MarksOf b n marks → MarksOf b (suc n) (mark_each (children (node_of b n)) marks)
more_marks b n marks m = record { size = each_length (children (node_of b n)) marks ∙ m.size; marked = at }
  where
    at : (j : ℕ) → j < 40 → (get_or (mark_each (children (node_of b n)) marks) j 0 ≡ 1) ↔ ChildOfFirst b (suc n) j
    at j h = let e = each_marked (children (node_of b n)) marks j (subst (λ k. j < k) (sym m.size) h) in (
      (λ f. ⊎_elim (λ g. let w = (m.marked j h).0 g in (w.0, omega (arith, w.1), w.2)) (λ c. (n, omega arith, c)) (e.0 f)),
      (λ w. e.1 (⊎_elim (λ (p : w.0 ≡ n). inr (subst (λ i. Memᴰ j (children (node_of b i))) p w.2)) (λ (l : w.0 < n). inl ((m.marked j h).1 (w.0, l, w.2))) (eq-or-lt_of_le (le_of_suc-le-suc w.1)))),
    )
