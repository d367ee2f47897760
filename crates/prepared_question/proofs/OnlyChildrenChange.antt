-- The bytes of a question whose children are replaced: the cells of the children change, and the depths are put behind; no other byte does.
use Prim.Native.Nat.{ℕ, ◌+◌, ◌*◌, ◌≤◌, ◌<◌}
use native.Mathlib.Numerals.{add-one}
use native.Mathlib.Omega.{arith}
use mathlib.Core.Path.{◌≡◌, refl, sym, ap₂, subst, ◌∙◌}
use mathlib.Core.Bool.{Bool, true, false, cond, ◌&&◌}
use lib.Dec.{eqb}
use lib.ListN.{length, set, length-set}
use lib.Seq.{get_or-set_same, get_or-set_other}
use borrow.Author.Tests.{eqb-true}
use Rattle.logic.specs.Formula.{depth}
use Rattle.blocks.specs.Bytes.{Bytes, byte, u16, u32}
use Rattle.questions.specs.Layout.{node_count, node_at, node_of}
use Rattle.questions.specs.promises.Used.{has_left}
use Rattle.prepared_question.specs.promises.Nodes.{formula}
use Rattle.prepared_question.specs.promises.Replaced.{ChildrenBefore, doubled, past, left_for, right_for, Pointed}
use Rattle.prepared_question.proofs.ChildrenBefore.{one_more}

cond_same : (t : Bool) (x y z : ℕ) → (t ≡ true → x ≡ y) → cond t x z ≡ cond t y z
cond_same true x y z f = f refl
cond_same false x y z f = refl

past_same : (b r : Bytes) (c : ℕ) → byte r (node_at c) ≡ byte b (node_at c) → byte r (node_at c + 2) ≡ byte b (node_at c + 2)
    → byte r (node_at c + 3) ≡ byte b (node_at c + 3) → past r c ≡ past b c
unfolding past doubled node_of
past_same b r c e f g = λ t. cond (eqb (e t) 4 && eqb (f t) (g t)) (f t) c

module _ {q b : Bytes} (i l r d : ℕ) (o : ChildrenBefore q) (h : i < node_count q) (c : Pointed q b i) where
  abbrev b₁ : Bytes
  b₁ = set b (node_at i + 2) l

  abbrev b₂ : Bytes
  b₂ = set b₁ (node_at i + 3) r

  abbrev b₃ : Bytes
  b₃ = set b₂ (512 + i) d

  size₁ : length b₁ ≡ 552
  size₁ = length-set b (node_at i + 2) l ∙ c.size

  size₂ : length b₂ ≡ 552
  size₂ = length-set b₁ (node_at i + 3) r ∙ size₁

  kept : (k : ℕ) → (k ≡ node_at i + 2 → ⊥) → (k ≡ node_at i + 3 → ⊥) → (k ≡ 512 + i → ⊥) → byte b₃ k ≡ byte b k
  kept k f g h = get_or-set_other b₂ (512 + i) k d 0 h ∙ get_or-set_other b₁ (node_at i + 3) k r 0 g ∙ get_or-set_other b (node_at i + 2) k l 0 f

  -- The nodes before i stay, and with them what the children of the nodes up to i come down to.
  past_kept : (k : ℕ) → k < i → past b₃ k ≡ past b k
  past_kept k g =
      let few = o.few in
      past_same b b₃ k
      (kept (node_at k) (λ x. omega arith) (λ x. omega arith) (λ x. omega arith))
      (kept (node_at k + 2) (λ x. omega arith) (λ x. omega arith) (λ x. omega arith))
      (kept (node_at k + 3) (λ x. omega arith) (λ x. omega arith) (λ x. omega arith))

  left_stays : (j : ℕ) → j ≤ i → left_for q b j ≡ left_for q b₃ j
  unfolding left_for
  left_stays j g =
      cond_same (has_left (node_of q j).operator) (past b (node_of q j).left) (past b₃ (node_of q j).left) (node_of q j).left
      (λ t. sym (past_kept (node_of q j).left (omega (arith, o.left j (omega arith) t))))

  right_stays : (j : ℕ) → j ≤ i → right_for q b j ≡ right_for q b₃ j
  unfolding right_for
  right_stays j g =
      cond_same (eqb (node_of q j).operator 4) (past b (node_of q j).right) (past b₃ (node_of q j).right) (node_of q j).right
      (λ t. sym (past_kept (node_of q j).right (omega (arith, o.right j (omega arith) (eqb-true (node_of q j).operator 4 t)))))

  pub pointed_more : l ≡ left_for q b i → r ≡ right_for q b i → d ≡ depth (formula q i) → Pointed q b₃ (i + 1)
  pointed_more e₁ e₂ e₃ =
      let few = o.few in
      subst (Pointed q b₃) (sym (add-one i))
      (record {
        size = length-set b₂ (512 + i) d ∙ size₂;
        others = λ k g w. kept k (w i (omega arith)).0 (w i (omega arith)).1 (λ x. omega arith) ∙ c.others k g (λ j l. w j (omega arith));
        left = one_more (λ j. byte b₃ (node_at j + 2) ≡ left_for q b₃ j) i
            (λ j g. kept (node_at j + 2) (λ x. omega arith) (λ x. omega arith) (λ x. omega arith) ∙ c.left j g ∙ left_stays j (omega arith))
            (get_or-set_other b₂ (512 + i) (node_at i + 2) d 0 (λ x. omega arith)
            ∙ get_or-set_other b₁ (node_at i + 3) (node_at i + 2) r 0 (λ x. omega arith)
            ∙ get_or-set_same b (node_at i + 2) l 0 (omega (arith, c.size)) ∙ e₁ ∙ left_stays i (omega arith));
        right = one_more (λ j. byte b₃ (node_at j + 3) ≡ right_for q b₃ j) i
            (λ j g. kept (node_at j + 3) (λ x. omega arith) (λ x. omega arith) (λ x. omega arith) ∙ c.right j g ∙ right_stays j (omega arith))
            (get_or-set_other b₂ (512 + i) (node_at i + 3) d 0 (λ x. omega arith)
            ∙ get_or-set_same b₁ (node_at i + 3) r 0 (omega (arith, size₁)) ∙ e₂ ∙ right_stays i (omega arith));
        deep = one_more (λ j. byte b₃ (512 + j) ≡ depth (formula q j)) i
            (λ j g. kept (512 + j) (λ x. omega arith) (λ x. omega arith) (λ x. omega arith) ∙ c.deep j g)
            (get_or-set_same b₂ (512 + i) d 0 (omega (arith, size₂)) ∙ e₃);
      })

-- ---- the whole

module _ {q b : Bytes} (n : ℕ) (few : n ≤ 40) (c : Pointed q b n) where
  -- The first 8 bytes.
  pub head_same : (k : ℕ) → k < 8 → byte b k ≡ byte q k
  head_same k h = c.others k (omega arith) (λ i l. (λ e. omega arith, λ e. omega arith))

  -- The cells of node i that hold no child.
  pub cell_same : (i a k : ℕ) → k ≡ 8 + 12 * i + a → i < n → a < 12 → (a ≡ 2 → ⊥) → (a ≡ 3 → ⊥) → byte b k ≡ byte q k
  cell_same i a k e h g f₂ f₃ = c.others k (omega arith) (λ j l. (λ x. f₂ (omega arith), λ x. f₃ (omega arith)))

pub u32_same : (b r : Bytes) (k : ℕ) → ((i a : ℕ) → i ≡ k + a → a < 4 → byte r i ≡ byte b i) → u32 r k ≡ u32 b k
unfolding u32 u16
u32_same b r k h =
    ap₂ (λ x y. x + 65536 * y)
    (ap₂ (λ x y. x + 256 * y) (h k 0 (omega arith) (omega arith)) (h (k + 1) 1 (omega arith) (omega arith)))
    (ap₂ (λ x y. x + 256 * y) (h (k + 2) 2 (omega arith) (omega arith)) (h (k + 2 + 1) 3 (omega arith) (omega arith)))
