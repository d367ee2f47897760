-- The truth of a state formula in a state is that of its operator on its children's, which stand in the table before it; what a needed pair depends
-- on is needed and stands before it too.
use Prim.Native.Nat.{ℕ, ◌+◌, ◌*◌, ◌-◌, ◌/◌, ◌%◌, ◌≤◌, ◌<◌}
use native.Mathlib.Omega.{arith}
use native.Mathlib.Decide.{dec_lt}
use native.Mathlib.Nat.{le-max_left, le-max_right}
use borrow.Author.Count.{below_more}
use mathlib.Core.Path.{◌≡◌, refl, sym, ap, ap₂, subst, ◌∙◌}
use mathlib.Core.Bool.{false}
use mathlib.Core.List.{List, []}
use lib.Bits.{bit_and}
use lib.Dec.{eqb}
use lib.ListN.{get_or, length, set, replicate, length-set, length-replicate}
use lib.Seq.{get_or-set_same, get_or-set_other}
use Rattle.logic.specs.Model.{prop_in}
use Rattle.logic.specs.Formula.{Formula, sat, depth}
use Rattle.logic.specs.Bound.{one_if}
use Rattle.logic.specs.promises.Total.{value_of}
use Rattle.blocks.specs.Bytes.{Bytes}
use Rattle.models.specs.Layout.{state_count, action_count, prop_count}
use Rattle.prepared_model.specs.promises.Rows.{model_in}
use Rattle.questions.specs.Layout.{start_of, node_count, node_of}
use Rattle.questions.proofs.TableNodeByNode.{by_operator}
use Rattle.questions.specs.promises.Formed.{Formed, sets_bound}
use Rattle.questions.proofs.SetsBound.{sets_neither}
use Rattle.questions.proofs.AcceptedFacts as questions
use Rattle.prepared_question.specs.promises.Nodes.{formula}
use Rattle.evaluation.specs.promises.Reached.{Reached, itself, under_not, and_left, and_right, under_next}
use Rattle.evaluation.proofs.OperatorMeaning.{flipped, joined}
use Rattle.relevance.specs.promises.Need.{Given, Marked, Needs}
use Rattle.judging.specs.promises.Truth.{Told, Supplied, Right}
use Rattle.judging.specs.promises.Rows.{Rows, RowTold}
use Rattle.relevance.proofs.MarksPassedOn.{first_inside, reached_marked}
use Rattle.judging.proofs.BestTotals.{remembers_none}

module _ {m q : Bytes} (given : Given m q) where
  -- ---- by the operator

  module _ (j s : ℕ) (h : j < node_count q) where
    abbrev S : ℕ
    S = state_count m

    abbrev A : ℕ
    A = action_count m

    abbrev N : ℕ
    N = prop_count m

    abbrev asked : Formed (state_count m) (action_count m) (prop_count m) q
    asked = given.nodes.formed

    abbrev left : ℕ
    left = (node_of q j).left

    abbrev right : ℕ
    right = (node_of q j).right

    abbrev value : ℕ → ℕ
    value i = value_of (model_in m) (formula q i) s []

    of_formula : {φ : Formula} → formula q j ≡ φ → value_of (model_in m) φ s [] ≡ value j
    of_formula f = ap (λ φ. value_of (model_in m) φ s []) (sym f)

    pub truth_prop : (node_of q j).operator ≡ 2 → one_if (prop_in (model_in m) s left) ≡ value j
    unfolding sat
    truth_prop o = of_formula (questions.at_prop S A N q asked j h o)

    module _ (truth : List ℕ) (d : depth (formula q j) ≡ 0) where
      pub truth_not : (node_of q j).operator ≡ 3 → Told m q truth left s → one_if (eqb (get_or truth (32 * left + s) 0) 0) ≡ value j
      unfolding sat depth
      truth_not o t =
          let f = questions.at_neg S A N q asked j h o in
          ap (λ x. one_if (eqb x 0)) (t.right left s itself (sym (ap depth f) ∙ d))
          ∙ flipped (sat (model_in m) (formula q left) s [])
          ∙ of_formula f

      pub truth_and : (node_of q j).operator ≡ 4 → Told m q truth left s → Told m q truth right s
          → bit_and (get_or truth (32 * left + s) 0) (get_or truth (32 * right + s) 0) ≡ value j
      unfolding sat depth
      truth_and o t u =
          let f = questions.at_both S A N q asked j h o in
          let a : depth (formula q left) ≡ 0 = omega (arith, ap depth f, le-max_left (depth (formula q left)) (depth (formula q right))) in
          let b : depth (formula q right) ≡ 0 = omega (arith, ap depth f, le-max_right (depth (formula q left)) (depth (formula q right))) in
          ap₂ bit_and (t.right left s itself a) (u.right right s itself b)
          ∙ joined (sat (model_in m) (formula q left) s []) (sat (model_in m) (formula q right) s [])
          ∙ of_formula f

    -- "false" is false; the other operators make path formulas, which have a depth.
    pub truth_none : depth (formula q j) ≡ 0 → ((node_of q j).operator ≡ 2 → ⊥) → ((node_of q j).operator ≡ 3 → ⊥) → ((node_of q j).operator ≡ 4 → ⊥)
        → sets_bound (node_of q j).operator ≡ false → 0 ≡ value j
    unfolding sat depth one_if
    truth_none d n2 n3 n4 none =
        let range = asked.in_range j h in
        let n = sets_neither (node_of q j).operator none in
        by_operator (λ op. (node_of q j).operator ≡ op → 0 ≡ value j)
        (λ o. absurd (omega (arith, range.operator_from)))
        (λ o. of_formula (questions.at_never S A N q asked j h o))
        (λ o. absurd (n2 o))
        (λ o. absurd (n3 o))
        (λ o. absurd (n4 o))
        (λ o. absurd (omega (arith, ap depth (questions.at_does S A N q asked j h o))))
        (λ o. absurd (omega (arith, ap depth (questions.at_next S A N q asked j h o))))
        (λ o. absurd (omega (arith, ap depth (questions.at_gain S A N q asked j h o), (range.of_gain o).compares.some_step)))
        (λ o. absurd (n.0 o))
        (λ o. absurd (n.1 o))
        (λ k o. absurd (omega (arith, range.operator_to)))
        (node_of q j).operator refl

  -- ---- by the table

  -- A node depends on no node after it.
  reached_before : {c s j t : ℕ} → c < node_count q → Reached m q c s j t → j ≤ c
  reached_before {c} h itself = omega arith
  reached_before {c} h (under_not {j} r o) = let w = reached_before h r in omega (arith, (given.nodes.formed.in_range j (omega arith)).of_neg o)
  reached_before {c} h (and_left {j} r o) = let w = reached_before h r in omega (arith, ((given.nodes.formed.in_range j (omega arith)).of_both o).0)
  reached_before {c} h (and_right {j} r o) = let w = reached_before h r in omega (arith, ((given.nodes.formed.in_range j (omega arith)).of_both o).1)
  reached_before {c} h (under_next {j} a i r o l) = let w = reached_before h r in omega (arith, (given.nodes.formed.in_range j (omega arith)).of_next o)

  module _ {need truth : List ℕ} (needs : Needs m q need) (k : ℕ) (known : Right m q need truth k) where
    right_told : (c s : ℕ) → 32 * c + 32 ≤ k → c < node_count q → s < state_count m → Marked need c s → Told m q truth c s
    right_told c s g h l e =
        record {
          right = λ j t r d.
              let w = reached_marked given needs e l r in
              let b = reached_before h r in
              let z = given.prepared.states in
              let u : t < state_count m = w.1 in
              at_pair j t (omega arith) (omega arith) w.0 d;
        }
      where
        at_pair : (j t : ℕ) → 32 * j + t < k → t < 32 → Marked need j t → depth (formula q j) ≡ 0
            → get_or truth (32 * j + t) 0 ≡ value_of (model_in m) (formula q j) t []
        at_pair j t a b e d =
            let x : (32 * j + t) / 32 ≡ j = omega arith in
            let y : (32 * j + t) % 32 ≡ t = omega arith in
            known.at (32 * j + t) a e (ap (λ i. depth (formula q i)) x ∙ d) ∙ ap₂ (λ i u. value_of (model_in m) (formula q i) u []) x y

    -- The table is right for all pairs on which a needed pair depends, where it is right for the nodes before it.
    pub supplied : (x : ℕ) → 32 * (x / 32) ≤ k → x < 32 * node_count q → get_or need x 0 ≡ 1 → Supplied m q truth (x / 32) (x % 32)
    supplied x before h e =
        let passed = needs.closed x e in
        let range = given.nodes.formed.in_range (x / 32) (omega arith) in
        let y = node_of q (x / 32) in
        record {
          under_not = λ o. child y.left (range.of_neg o) (passed.under_not o);
          and_left = λ o. child y.left (range.of_both o).0 (passed.and_left o);
          and_right = λ o. child y.right (range.of_both o).1 (passed.and_right o);
          under_plan = λ o. child y.left (range.of_plan o).child (passed.under_plan o);
        }
      where
        child : (c : ℕ) → c < x / 32 → Marked need c (x % 32) → Told m q truth c (x % 32)
        child c l f = right_told c (x % 32) (omega arith) (omega arith) (needs.inside x e).1 f

    -- The root in the start state.
    pub root_supplied : 32 * (node_count q - 1) ≤ k → Supplied m q truth (node_count q - 1) (start_of q)
    root_supplied l =
        let f = first_inside given in
        let a : (32 * (node_count q - 1) + start_of q) / 32 ≡ node_count q - 1 = omega arith in
        let b : 32 * ((32 * (node_count q - 1) + start_of q) / 32) ≤ k = subst (λ z. 32 * z ≤ k) (sym a) l in
        subst (λ z. Supplied m q truth z (start_of q)) a
        (subst (Supplied m q truth ((32 * (node_count q - 1) + start_of q) / 32)) f.2 (supplied (32 * (node_count q - 1) + start_of q) b f.1 needs.root))

pub right_none : (m q need truth : List ℕ) → Right m q need truth 0
right_none m q need truth = record { at = λ x h. absurd (omega arith) }

pub right_more : {m q need truth : List ℕ} {k : ℕ} (v : ℕ) → Right m q need truth k → k < length truth
    → (get_or need k 0 ≡ 1 → depth (formula q (k / 32)) ≡ 0 → v ≡ value_of (model_in m) (formula q (k / 32)) (k % 32) [])
    → Right m q need (set truth k v) (k + 1)
right_more {m} {q} {need} {truth} {k} v p z f =
    record {
      at = below_more (λ x. get_or need x 0 ≡ 1 → depth (formula q (x / 32)) ≡ 0 → get_or (set truth k v) x 0 ≡ value_of (model_in m) (formula q (x / 32)) (x % 32) []) k
          (λ x h e d. get_or-set_other truth k x v 0 (omega arith) ∙ p.at x h e d)
          (λ e d. get_or-set_same truth k v 0 z ∙ f e d);
    }

-- ---- by rows

pub rows_none : {m q need : List ℕ} → Needs m q need → Rows m q need (replicate {A = ℕ} 1280 0) (replicate {A = ℕ} 4095 0) (replicate {A = ℕ} 2560 0) 0
rows_none {m} {q} {need} needs =
    record {
      needs = needs;
      size = length-replicate {A = ℕ} 1280 0;
      right = right_none m q need _;
      room = length-replicate {A = ℕ} 4095 0;
      remembers = remembers_none m q;
    }

pub row_none : (m q : Bytes) (j : ℕ) (truth : List ℕ) → RowTold m q j truth truth 0
row_none m q j truth = record { size = refl; told = λ s l. absurd (omega arith); others = λ k l. refl }

pub row_more : {m q : Bytes} {j s : ℕ} {before after : List ℕ} (v : ℕ) → RowTold m q j before after s → 32 * j + s < length after
    → v ≡ value_of (model_in m) (formula q j) s [] → RowTold m q j before (set after (32 * j + s) v) (s + 1)
row_more {m} {q} {j} {s} {before} {after} v p z e =
    record {
      size = length-set after (32 * j + s) v ∙ p.size;
      told = below_more (λ t. get_or (set after (32 * j + s) v) (32 * j + t) 0 ≡ value_of (model_in m) (formula q j) t []) s
          (λ t l. get_or-set_other after (32 * j + s) (32 * j + t) v 0 (omega arith) ∙ p.told t l)
          (get_or-set_same after (32 * j + s) v 0 z ∙ e);
      others = λ k l. get_or-set_other after (32 * j + s) k v 0 (omega arith) ∙ p.others k l;
    }

-- A row that is right in every state.
pub row_whole : {m q : Bytes} {need truth after scratch memo : List ℕ} {j : ℕ} → Rows m q need truth scratch memo j
    → RowTold m q j truth after (state_count m) → Rows m q need after scratch memo (j + 1)
row_whole {m} {q} {need} {truth} {after} {j = j} r p =
    record {
      needs = r.needs;
      size = p.size ∙ r.size;
      right = record { at = λ x h e d. at_place x h e d (dec_lt x (32 * j)) };
      room = r.room;
      remembers = r.remembers;
    }
  where
    at_place : (x : ℕ) → x < 32 * (j + 1) → get_or need x 0 ≡ 1 → depth (formula q (x / 32)) ≡ 0 → Dec (x < 32 * j)
        → get_or after x 0 ≡ value_of (model_in m) (formula q (x / 32)) (x % 32) []
    at_place x h e d (yes l) = p.others x l ∙ r.right.at x l e d
    at_place x h e d (no l) =
        let a : j ≡ x / 32 = omega arith in
        let b : x ≡ 32 * j + x % 32 = omega arith in
        ap (λ i. get_or after i 0) b ∙ p.told (x % 32) (r.needs.inside x e).1 ∙ ap (λ i. value_of (model_in m) (formula q i) (x % 32) []) a
