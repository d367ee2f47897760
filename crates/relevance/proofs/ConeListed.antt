-- The nodes of a condition are marked from the condition downwards, as the pairs of `MarksPassedOn` are, and listed upwards: the list rises, so that
-- a marked child, whose number is smaller, stands before its parent, and the condition, the largest, stands last.
use Prim.Native.Nat.{ℕ, ◌+◌, ◌-◌, ◌≤◌, ◌<◌}
use native.Mathlib.Omega.{arith}
use native.Mathlib.Decide.{dec_lt, ℕ_discrete}
use mathlib.Core.Path.{◌≡◌, refl, sym, ap, subst, ◌∙◌}
use mathlib.Core.Logic.{◌⊎◌, inl, inr, ⊎_elim}
use mathlib.Core.Bool.{true, false≢true}
use mathlib.Core.List.{List}
use lib.ListN.{get_or, length, set, take}
use lib.Seq.{get_or-take, length-take-le}
use Rattle.blocks.specs.Bytes.{Bytes}
use Rattle.questions.specs.Layout.{node_count, node_of}
use Rattle.questions.specs.promises.Formed.{InRange}
use Rattle.questions.proofs.TableNodeByNode.{by_operator}
use Rattle.prepared_question.specs.promises.Nodes.{reads_left}
use Rattle.evaluation.specs.promises.Reached.{Earlier, Cone, root_of}
use Rattle.relevance.specs.promises.Chosen.{Asked, Entered, Chosen, Listed}
use Rattle.prepared_question.proofs.Marks.{blank, one_there, one_only}

pub reads_cases : (op : ℕ) → reads_left op ≡ true → ((op ≡ 3) ⊎ (op ≡ 6)) ⊎ (op ≡ 4)
unfolding reads_left
reads_cases =
    by_operator (λ op. reads_left op ≡ true → ((op ≡ 3) ⊎ (op ≡ 6)) ⊎ (op ≡ 4))
    (λ e. absurd (false≢true e))
    (λ e. absurd (false≢true e))
    (λ e. absurd (false≢true e))
    (λ e. inl (inl refl))
    (λ e. inr refl)
    (λ e. absurd (false≢true e))
    (λ e. inl (inr refl))
    (λ e. absurd (false≢true e))
    (λ e. absurd (false≢true e))
    (λ e. absurd (false≢true e))
    (λ k e. absurd (false≢true e))

-- The children of a node have smaller numbers than its own.
module _ {q : Bytes} (a : Asked q) (j : ℕ) (h : j < node_count q) where
  abbrev range : InRange a.1 a.2 j (node_of q j)
  range = a.3.formed.in_range j h

  left_before : reads_left (node_of q j).operator ≡ true → (node_of q j).left < j
  left_before e = ⊎_elim (⊎_elim range.of_neg range.of_next) (λ o. (range.of_both o).0) (reads_cases (node_of q j).operator e)

  right_before : (node_of q j).operator ≡ 4 → (node_of q j).right < j
  right_before o = (range.of_both o).1

-- ---- one node

module _ {q : Bytes} {j : ℕ} {marks : List ℕ} where
  pub entered_none : (((node_of q j).operator ≡ 3) ⊎ ((node_of q j).operator ≡ 6) → ⊥) → ((node_of q j).operator ≡ 4 → ⊥) → Entered q marks j
  entered_none a b = record { left = λ d h. absurd (⊎_elim a b (reads_cases (node_of q j).operator h)); right = λ d h. absurd (b h) }

-- ---- the pass from the condition downwards

-- The marked nodes from j on have been entered.
pub record Choosing (q : Bytes) (c : ℕ) (marks : List ℕ) (j : ℕ) : Type 0 where
  pub top : get_or marks c 0 ≡ 1
  pub last : (x : ℕ) → get_or marks x 0 ≡ 1 → x ≤ c
  pub entered : (x : ℕ) → j ≤ x → get_or marks x 0 ≡ 1 → Entered q marks x

pub choosing_start : (q : Bytes) (c : ℕ) → c < 40 → Choosing q c (set (blank 40) c 1) (c + 1)
choosing_start q c h =
    record {
      top = one_there 40 c h;
      last = λ x e. omega (arith, one_only 40 c h x e);
      entered = λ x l e. absurd (omega (arith, one_only 40 c h x e));
    }

-- ---- the list

module _ {marks out : List ℕ} {i n : ℕ} (p : Listed marks i n out) where
  -- A marked node below a listed one is listed before it.
  listed_before : (e j : ℕ) → e < n → j < get_or out e 0 → get_or marks j 0 ≡ 1 → Earlier out e j
  listed_before e j h l m =
      let w = p.all j (omega (arith, (p.nodes e h).0)) m in
      (w.0, place w.0 w.1 w.2 (dec_lt w.0 e) (ℕ_discrete w.0 e), w.2)
    where
      place : (f : ℕ) → f < n → get_or out f 0 ≡ j → Dec (f < e) → Dec (f ≡ e) → f < e
      place f a b (yes y) d = y
      place f a b (no y) (yes z) = absurd (omega (arith, ap (λ k. get_or out k 0) z))
      place f a b (no y) (no z) = absurd (omega (arith, p.rising e f (omega arith) a))

pub listed_cone : {q : Bytes} {c n : ℕ} {marks out : List ℕ} → Asked q → Chosen q c marks → c < node_count q → Listed marks (c + 1) n out → length out ≡ 40
    → (n ≤ 40) × Cone q (take n out) × (root_of (take n out) ≡ c) × (0 < length (take n out))
listed_cone {q} {c} {n} {marks} {out} a chosen h p z = (
  fits,
  record {
    nodes = λ i l. subst (λ x. x < node_count q) (sym (at i (inside i l))) (omega (arith, (p.nodes i (inside i l)).0));
    lefts = λ i l d e. child i (inside i l) (node_of q (get_or (take n out) i 0)).left
        (left_before a (get_or (take n out) i 0) (node i (inside i l)) e) ((marked i (inside i l)).left d e);
    rights = λ i l d e. child i (inside i l) (node_of q (get_or (take n out) i 0)).right
        (right_before a (get_or (take n out) i 0) (node i (inside i l)) e) ((marked i (inside i l)).right d e);
  },
  ap (λ k. get_or (take n out) (k - 1) 0) size ∙ at (n - 1) (omega (arith, top.1)) ∙ sym (ap (λ k. get_or out k 0) last) ∙ top.2,
  rw size (omega (arith, top.1)),
)
  where
    fits : n ≤ 40
    fits = omega (arith, p.few, a.3.formed.few_nodes)

    size : length (take n out) ≡ n
    size = length-take-le n out (omega (arith, fits))

    inside : (i : ℕ) → i < length (take n out) → i < n
    inside i l = subst (λ k. i < k) size l

    at : (i : ℕ) → i < n → get_or (take n out) i 0 ≡ get_or out i 0
    at i l = get_or-take n out i 0 l

    node : (i : ℕ) → i < n → get_or (take n out) i 0 < node_count q
    node i l = subst (λ x. x < node_count q) (sym (at i l)) (omega (arith, (p.nodes i l).0))

    marked : (i : ℕ) → i < n → Entered q marks (get_or (take n out) i 0)
    marked i l = chosen.entered (get_or (take n out) i 0) (ap (λ x. get_or marks x 0) (at i l) ∙ (p.nodes i l).1)

    child : (i : ℕ) → i < n → (j : ℕ) → j < get_or (take n out) i 0 → get_or marks j 0 ≡ 1 → Earlier (take n out) i j
    child i l j g m =
        let w = listed_before p i j l (subst (λ x. j < x) (at i l) g) m in
        (w.0, w.1, at w.0 (omega (arith, w.1)) ∙ w.2)

    top : Earlier out n c
    top = p.all c (omega arith) chosen.top

    last : top.0 ≡ n - 1
    last = go (ℕ_discrete top.0 (n - 1))
      where
        go : Dec (top.0 ≡ n - 1) → top.0 ≡ n - 1
        go (yes y) = y
        go (no y) =
            let l : n - 1 < n = omega (arith, top.1) in
            absurd (omega (arith, top.1, top.2, p.rising top.0 (n - 1) (omega (arith, top.1)) l, (p.nodes (n - 1) l).0))
