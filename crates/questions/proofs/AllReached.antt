-- The test of ground 13 passes exactly if every node is reached from the root, and exactly if every node before the root is some node's
-- child: children have smaller numbers, so that a node's parents, theirs and so on end with the root.
use Prim.Native.Nat.{ℕ, zero, suc, ◌+◌, ◌-◌, ◌≤◌, ◌<◌}
use native.Mathlib.Decide.{dec_lt, ℕ_discrete}
use native.Mathlib.Omega.{arith}
use mathlib.Core.Path.{◌≡◌, refl, sym, ap, subst, ◌∙◌}
use mathlib.Core.Logic.{◌↔◌}
use mathlib.Core.Bool.{Bool, true, false, ◌||◌, or-true, false≢true}
use mathlib.Core.List.{List, Memᴰ}
use lib.Dec.{eqb}
use lib.ListN.{get_or}
use Rattle.logic.specs.Lists.{any, every}
use Rattle.logic.proofs.Tests.{eqb_eq, eq_eqb, same_test, any_there, any_some, every_at, every_intro, every_fails}
use Rattle.blocks.specs.Bytes.{Bytes}
use Rattle.questions.specs.Layout.{node_count, node_of}
use Rattle.questions.specs.Children.{children, Reaches, here, along, AllReached, reaches, all_reached}
use Rattle.questions.specs.promises.Used.{Downward, ChildOfFirst, Marks}

-- ---- the test and the words

module _ (b : Bytes) where
  same : {i j : ℕ} → i ≡ j → Reaches b i j
  same {i} e = subst (Reaches b i) e here

  tested_here : (k i : ℕ) → reaches b k i i ≡ true
  unfolding reaches
  tested_here zero i = eq_eqb {a = i} {b = i} refl
  tested_here (suc k) i = rw (eq_eqb {a = i} {b = i} refl) refl

  pub reaches_true : (k i j : ℕ) → reaches b k i j ≡ true → Reaches b i j
  unfolding reaches
  reaches_true zero i j e = same (eqb_eq i j e)
  reaches_true (suc k) i j e = by (eqb i j) refl e (λ c. reaches_true k c j)
    where
      by : (t : Bool) → eqb i j ≡ t → (t || any (λ c. reaches b k c j) (children (node_of b i))) ≡ true
          → ((c : ℕ) → reaches b k c j ≡ true → Reaches b c j) → Reaches b i j
      by true h e r = same (eqb_eq i j h)
      by false h e r = let y = any_some (λ c. reaches b k c j) (children (node_of b i)) e in along y.1 (r y.0 y.2)

  module _ (d : Downward b) where
    true_reaches : {i j : ℕ} → Reaches b i j → (k : ℕ) → i ≤ k → i < node_count b → reaches b k i j ≡ true
    unfolding reaches
    true_reaches {i} here k h l = tested_here k i
    true_reaches {i} {j} (along {c = c} m r) zero h l = absurd (omega (arith, d.below i c l m))
    true_reaches {i} {j} (along {c = c} m r) (suc k) h l =
        let s : c < i = d.below i c l m in
        ap (λ t. eqb i j || t) (any_there (λ c. reaches b k c j) m (true_reaches r k (omega arith) (omega arith))) ∙ or-true (eqb i j)

    pub reached_exactly : (all_reached b ≡ true) ↔ AllReached b
    unfolding all_reached
    reached_exactly = (
      (λ e j h. reaches_true (node_count b) (node_count b - 1) j (every_at (reaches b (node_count b) (node_count b - 1)) (node_count b) e h)),
      (λ r. every_intro (reaches b (node_count b) (node_count b - 1)) (node_count b) (λ j h. true_reaches (r j h) (node_count b) (omega arith) (omega arith))),
    )

    -- Where the test fails, some node is not reached.
    pub unreached : all_reached b ≡ false → (j : ℕ) × (j < node_count b) × (Reaches b (node_count b - 1) j → ⊥)
    unfolding all_reached
    unreached e =
        let w = every_fails (reaches b (node_count b) (node_count b - 1)) (node_count b) e in
        (w.0, w.1, λ r. false≢true (sym w.2 ∙ true_reaches r (node_count b) (omega arith) (omega arith)))

    -- ---- by parents

    further : {i j c : ℕ} → Reaches b i j → Memᴰ c (children (node_of b j)) → Reaches b i c
    further here m = along m here
    further (along n r) m = along n (further r m)

    -- Of a node that is reached from another, the last node on the way.
    last_parent : {i j : ℕ} → i < node_count b → Reaches b i j → (i ≡ j → ⊥) → ChildOfFirst b (node_count b) j
    last_parent l here n = absurd (n refl)
    last_parent {i} {j} l (along {c = c} m r) n = by (ℕ_discrete c j) (last_parent (omega (arith, d.below i c l m)) r)
      where
        by : Dec (c ≡ j) → ((c ≡ j → ⊥) → ChildOfFirst b (node_count b) j) → ChildOfFirst b (node_count b) j
        by (yes e) f = (i, l, subst (λ c. Memᴰ c (children (node_of b i))) e m)
        by (no e) f = f e

    -- The nodes less than k before the root.
    from_root : ((j : ℕ) → j < node_count b - 1 → ChildOfFirst b (node_count b) j) → (k j : ℕ) → node_count b - 1 < j + k → j < node_count b → Reaches b (node_count b - 1) j
    from_root p zero j h l = absurd (omega arith)
    from_root p (suc k) j h l = by (dec_lt j (node_count b - 1)) (from_root p k)
      where
        by : Dec (j < node_count b - 1) → ((i : ℕ) → node_count b - 1 < i + k → i < node_count b → Reaches b (node_count b - 1) i)
            → Reaches b (node_count b - 1) j
        by (no n) r = let e : node_count b - 1 ≡ j = omega arith in same e
        by (yes y) r = let w = p j y in
            let s : j < w.0 = d.below w.0 j w.1 w.2 in
            further (r w.0 (omega arith) w.1) w.2

    -- What the code looks at: whether the nodes before the root are marked.
    pub marks_tell : {marks : List ℕ} → Marks b marks → every (node_count b - 1) (λ j. eqb (get_or marks j 0) 1) ≡ all_reached b
    marks_tell {marks} m = same_test _ (all_reached b) all_marked marked_all
      where
        all_marked : every (node_count b - 1) (λ j. eqb (get_or marks j 0) 1) ≡ true → all_reached b ≡ true
        all_marked e = reached_exactly.1
            (λ j l. from_root (λ j h. (m.marked j (omega (arith, d.few))).0 (eqb_eq (get_or marks j 0) 1 (every_at (λ j. eqb (get_or marks j 0) 1) (node_count b - 1) e h))) (node_count b) j (omega arith) l)

        marked_all : all_reached b ≡ true → every (node_count b - 1) (λ j. eqb (get_or marks j 0) 1) ≡ true
        marked_all e = every_intro (λ j. eqb (get_or marks j 0) 1) (node_count b - 1)
            (λ j h. eq_eqb ((m.marked j (omega (arith, d.few))).1 (last_parent (omega arith) (reached_exactly.0 e j (omega arith)) (λ f. omega (arith, f, h)))))
