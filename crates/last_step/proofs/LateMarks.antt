-- Marks are only added, and a node passes its mark on to children, which stand earlier in the cone. So on the way from the cone's last place
-- to its first, a marked node has passed its mark on or still stands ahead, also one that the cone lists more than once.
use Prim.Native.Nat.{ℕ, suc, ◌-◌, ◌<◌}
use native.Mathlib.Omega.{arith}
use native.Mathlib.Decide.{ℕ_discrete}
use mathlib.Core.Path.{◌≡◌, refl, sym, ap, subst, ◌∙◌}
use mathlib.Core.Logic.{◌⊎◌, inl, inr, ⊎_elim}
use mathlib.Core.Bool.{true}
use mathlib.Core.List.{List}
use lib.ListN.{get_or, length, set, length-set, length-replicate}
use lib.Seq.{get_or-set_same}
use Rattle.logic.specs.Formula.{Node, depth}
use Rattle.blocks.specs.Bytes.{Bytes}
use Rattle.questions.specs.Layout.{node_of}
use Rattle.prepared_question.specs.promises.Nodes.{formula, depth_in, reads_left}
use Rattle.evaluation.specs.promises.Reached.{Earlier, Cone, root_of}
use Rattle.prepared_question.specs.promises.Marks.{Grown}
use Rattle.last_step.specs.promises.Late.{PassedOn, TurnsOn, Placed, Deep}
use Rattle.prepared_question.proofs.Marks.{blank, grown_mark, one_only, one_there}

-- ---- one node

-- What was marked when node j has passed its mark on.
abbrev pub NodeDone : (q : Bytes) (j : ℕ) (marks : List ℕ) → List ℕ → Type 0
NodeDone q j marks marks' = Grown (TurnsOn q j) marks marks' × (get_or marks j 0 ≡ 1 → PassedOn q marks' j)

module _ {q : Bytes} {j : ℕ} {marks : List ℕ} where
  passed_stays : {P : ℕ → Type 0} {marks' : List ℕ} → PassedOn q marks j → Grown P marks marks' → PassedOn q marks' j
  passed_stays p g =
      record {
        under_not = λ d o. g.stays _ (p.under_not d o);
        and_left = λ d o e. g.stays _ (p.and_left d o e);
        and_right = λ d o e. g.stays _ (p.and_right d o e);
        under_next = λ d o. g.stays _ (p.under_next d o);
      }

  passed_by : ((k : ℕ) → TurnsOn q j k → get_or marks k 0 ≡ 1) → PassedOn q marks j
  passed_by f =
      record {
        under_not = λ d o. f _ (d, inl (inl o, refl));
        and_left = λ d o e. f _ (d, inr (o, e, inl refl));
        and_right = λ d o e. f _ (d, inr (o, e, inr refl));
        under_next = λ d o. f _ (d, inl (inr o, refl));
      }

module _ (q : Bytes) (j : ℕ) (marks : List ℕ) where
  abbrev node : Node
  node = node_of q j

  module _ (placed : Placed q j) (deep : depth_in q j ≡ 0 → ⊥) where
    pub left_in : (node.operator ≡ 3) ⊎ (node.operator ≡ 6) → node.left < 40
    unfolding reads_left
    left_in o = placed.left deep (⊎_elim (λ e. ap reads_left e) (λ e. ap reads_left e) o)

    pub left_passed : length marks ≡ 40 → (node.operator ≡ 3) ⊎ (node.operator ≡ 6) → NodeDone q j marks (set marks node.left 1)
    left_passed z o = (
      grown_mark (TurnsOn q j) marks node.left (omega (arith, left_in o)) (deep, inl (o, refl)),
      λ _. passed_by (λ k t. ⊎_elim
          (λ w. ap (λ x. get_or (set marks node.left 1) x 0) w.1 ∙ get_or-set_same marks node.left 1 0 (omega (arith, left_in o)))
          (λ w. absurd (⊎_elim (λ e. omega (arith, w.0)) (λ e. omega (arith, w.0)) o))
          t.1),
    )

    module _ (o : node.operator ≡ 4) where
      pub both_in : (node.left < 40) × (node.right < 40)
      unfolding reads_left
      both_in = (placed.left deep (ap reads_left o), placed.right deep o)

-- ---- the pass from the last place to the first

-- Each marked node has passed its mark on, or stands in the cone before place i.
pub record Passing (q : Bytes) (cone marks : List ℕ) (i : ℕ) : Type 0 where
  pub size : length marks ≡ 40
  pub root : get_or marks (root_of cone) 0 ≡ 1
  pub closed : (k : ℕ) → get_or marks k 0 ≡ 1 → PassedOn q marks k ⊎ Earlier cone i k

module _ {q : Bytes} {cone : List ℕ} (w : Deep q × Cone q cone × (0 < length cone)) where
  abbrev ordered : Cone q cone
  ordered = w.1

  cone_node : (i : ℕ) → i < length cone → get_or cone i 0 < 40
  cone_node i l = omega (arith, w.0.few, ordered.nodes i l)

  deeper : (i : ℕ) → i < length cone → (depth_in q (get_or cone i 0) ≡ 0 → ⊥) → depth (formula q (get_or cone i 0)) ≡ 0 → ⊥
  deeper i l n z = n (w.0.deep (get_or cone i 0) (ordered.nodes i l) ∙ z)

  pub root_node : root_of cone < 40
  root_node = cone_node (length cone - 1) (omega (arith, w.2))

  pub passing_start : Passing q cone (set (blank 40) (root_of cone) 1) (length cone)
  passing_start =
      record {
        size = length-set (blank 40) (root_of cone) 1 ∙ length-replicate {A = ℕ} 40 0;
        root = one_there 40 (root_of cone) root_node;
        closed = λ k e. inr (length cone - 1, omega (arith, w.2), sym (one_only 40 (root_of cone) root_node k e));
      }

  turned_earlier : (i k : ℕ) → i < length cone → TurnsOn q (get_or cone i 0) k → Earlier cone i k
  unfolding reads_left
  turned_earlier i k l t =
      let left : reads_left (node_of q (get_or cone i 0)).operator ≡ true → k ≡ (node_of q (get_or cone i 0)).left → Earlier cone i k
      = λ o e. subst (Earlier cone i) (sym e) (ordered.lefts i l (deeper i l t.0) o) in
      ⊎_elim
      (λ w. left (⊎_elim (λ e. ap reads_left e) (λ e. ap reads_left e) w.0) w.1)
      (λ w. ⊎_elim (left (ap reads_left w.0)) (λ e. subst (Earlier cone i) (sym e) (ordered.rights i l (deeper i l t.0) w.0)) w.2)
      t.1

  pub passing_more : {marks marks' : List ℕ} (i : ℕ) → i < length cone → Passing q cone marks (suc i) → NodeDone q (get_or cone i 0) marks marks' → Passing q cone marks' i
  passing_more {marks} {marks'} i l p done =
      record {
        size = done.0.size ∙ p.size;
        root = done.0.stays (root_of cone) p.root;
        closed = λ k e. ⊎_elim (λ w. old k w (p.closed k w)) (λ t. inr (turned_earlier i k l t)) (done.0.new k e);
      }
    where
      turn : (k : ℕ) → get_or marks k 0 ≡ 1 → (w : Earlier cone (suc i) k) → Dec (w.0 ≡ i) → PassedOn q marks' k ⊎ Earlier cone i k
      turn k e w (yes y) =
          let x : get_or cone i 0 ≡ k = sym (ap (λ f. get_or cone f 0) y) ∙ w.2 in
          inl (subst (PassedOn q marks') x (done.1 (ap (λ n. get_or marks n 0) x ∙ e)))
      turn k e w (no n) = inr (w.0, omega (arith, w.1), w.2)

      old : (k : ℕ) → get_or marks k 0 ≡ 1 → PassedOn q marks k ⊎ Earlier cone (suc i) k → PassedOn q marks' k ⊎ Earlier cone i k
      old k e = ⊎_elim (λ c. inl (passed_stays c done.0)) (λ w. turn k e w (ℕ_discrete w.0 i))
