-- What is known of a question that is not refused: its bytes are read as a question, and each of the grounds 1 to 6, 9 and 13 says in plain
-- facts what it ruled out. The formula at a node is, by its operator, made of the formulas at its children.
use Prim.Native.Nat.{ℕ, ◌-◌, ◌/◌, ◌%◌, ◌≤◌, ◌<◌}
use native.Mathlib.Omega.{arith}
use mathlib.Core.Path.{◌≡◌, refl, sym, ap, ap₂, ◌∙◌}
use mathlib.Core.Bool.{Bool, true, false, not, ◌&&◌, false≢true}
use lib.Dec.{eqb, ltb, leb}
use lib.IntN.{ℤ, pos, negsuc}
use lib.ListN.{length, get_or}
use lib.Signed.{mag, le_z}
use borrow.Author.Tests.{ltb-true, leb-true, eqb-true, not-true}
use Rattle.logic.specs.Lists.{all, every}
use Rattle.logic.specs.Checked.{ok, ◌>>◌, guard}
use Rattle.logic.specs.promises.Refusal.{refusal}
use Rattle.logic.specs.Formula.{never, prop, neg, both, does, next, gain, plan, earns, Node, depth, is_path, shallow, relation, nonnegative}
use Rattle.logic.proofs.Checked.{guard_other, guard_passed}
use Rattle.logic.proofs.Tests.{and_left, and_right, and_both, every_at}
use Rattle.blocks.specs.Bytes.{Bytes, within}
use Rattle.blocks.specs.Block.{whole_blocks, sums_right, headed}
use Rattle.questions.specs.Layout.{start_of, node_count, node_of, formulas_of, question_of}
use Rattle.questions.specs.Grounds.{compares, gain_bound, plan_bound, plan_in_range, span, expected_bound, earns_in_range, node_in_range, spare_zero, formed, read_question}
use Rattle.questions.specs.Children.{Reaches, AllReached, all_reached}
use Rattle.questions.specs.promises.Formed.{Compares, GainRange, PlanRange, EarnsRange, InRange, Formed}
use Rattle.questions.specs.promises.Used.{Downward}
use Rattle.questions.specs.promises.Tables.{formulas_before}
use Rattle.questions.proofs.TableNodeByNode.{one_block, by_operator, before_at, formula_here}
use Rattle.questions.proofs.ChildrenMarked.{downward}
use Rattle.questions.proofs.AllReached.{reached_exactly, unreached}
use Rattle.questions.proofs.FormulaByOperator.{row_1, row_2, row_3, row_4, row_5, row_6, row_7, row_8, row_9, all_shallow}
use Rattle.blocks.proofs.RangeTests.{at_least, at_most}

-- ---- a node's fields

compares_facts : (x : Node) → compares x ≡ true → Compares x
unfolding compares
compares_facts x e =
    let s : within 1 6 x.n ≡ true = and_left (within 1 6 x.n) (within 1 3 x.right) e in
    let r : within 1 3 x.right ≡ true = and_right (within 1 6 x.n) (within 1 3 x.right) e in
    record {
      some_step = at_least 1 6 x.n s;
      few_steps = at_most 1 6 x.n s;
      relation_from = at_least 1 3 x.right r;
      relation_to = at_most 1 3 x.right r;
    }

mag_gain : (p : ℤ) → le_z (negsuc 5999) p ≡ true → le_z p (pos 6000) ≡ true → mag p ≤ 6000
mag_gain (pos k) a b = leb-true k 6000 b
mag_gain (negsuc k) a b = omega (arith, leb-true k 5999 a)

gain_facts : (x : Node) → (compares x && gain_bound x.p x.q) ≡ true → GainRange x
unfolding gain_bound
gain_facts x e =
    let g = and_right (compares x) (gain_bound x.p x.q) e in
    let f = and_left (eqb x.q 1 && le_z (negsuc 5999) x.p) (le_z x.p (pos 6000)) g in
    record {
      compares = compares_facts x (and_left (compares x) (gain_bound x.p x.q) e);
      bound = mag_gain x.p (and_right (eqb x.q 1) (le_z (negsuc 5999) x.p) f) (and_right (eqb x.q 1 && le_z (negsuc 5999) x.p) (le_z x.p (pos 6000)) g);
      whole = eqb-true x.q 1 (and_left (eqb x.q 1) (le_z (negsuc 5999) x.p) f);
    }

plan_part : (p : ℤ) (q : ℕ) → le_z (pos 0) p ≡ true → le_z p (pos q) ≡ true → (p ≡ pos (nonnegative p)) × (nonnegative p ≤ q)
unfolding nonnegative
plan_part (pos k) q a b = (refl, leb-true k q b)
plan_part (negsuc k) q a b = absurd (false≢true a)

plan_facts : (i : ℕ) (x : Node) → plan_in_range i x ≡ true → PlanRange i x
unfolding plan_in_range plan_bound
plan_facts i x e =
    let c = and_left (compares x && ltb x.left i) (plan_bound x.p x.q) e in
    let w = and_right (compares x && ltb x.left i) (plan_bound x.p x.q) e in
    let l = and_left (within 1 1000000 x.q && le_z (pos 0) x.p) (le_z x.p (pos x.q)) w in
    let q = and_left (within 1 1000000 x.q) (le_z (pos 0) x.p) l in
    let p = plan_part x.p x.q (and_right (within 1 1000000 x.q) (le_z (pos 0) x.p) l) (and_right (within 1 1000000 x.q && le_z (pos 0) x.p) (le_z x.p (pos x.q)) w) in
    record {
      compares = compares_facts x (and_left (compares x) (ltb x.left i) c);
      child = ltb-true x.left i (and_right (compares x) (ltb x.left i) c);
      some_part = at_least 1 1000000 x.q q;
      few_parts = at_most 1 1000000 x.q q;
      whole = p.0;
      bound = p.1;
    }

mag_earned : (p : ℤ) → le_z (negsuc 5999999) p ≡ true → le_z p (pos 6000000) ≡ true → mag p ≤ 6000000
mag_earned (pos k) a b = leb-true k 6000000 b
mag_earned (negsuc k) a b = omega (arith, leb-true k 5999999 a)

earns_facts : (x : Node) → earns_in_range x ≡ true → EarnsRange x
unfolding earns_in_range span expected_bound
earns_facts x e =
    let l : ℕ = x.left % 8 in
    let u : ℕ = x.left / 8 in
    let c = and_left (compares x && span x.left x.n) (expected_bound x.p x.q) e in
    let w = and_right (compares x && span x.left x.n) (expected_bound x.p x.q) e in
    let s = and_right (compares x) (span x.left x.n) c in
    let f = and_left (ltb 0 l && leb l u) (leb u x.n) s in
    let g = and_left (within 1 1000 x.q && le_z (negsuc 5999999) x.p) (le_z x.p (pos 6000000)) w in
    let q = and_left (within 1 1000 x.q) (le_z (negsuc 5999999) x.p) g in
    record {
      compares = compares_facts x (and_left (compares x) (span x.left x.n) c);
      from_one = ltb-true 0 l (and_left (ltb 0 l) (leb l u) f);
      rising = leb-true l u (and_right (ltb 0 l) (leb l u) f);
      within = leb-true u x.n (and_right (ltb 0 l && leb l u) (leb u x.n) s);
      some_part = at_least 1 1000 x.q q;
      few_parts = at_most 1 1000 x.q q;
      bound = mag_earned x.p (and_right (within 1 1000 x.q) (le_z (negsuc 5999999) x.p) g)
          (and_right (within 1 1000 x.q && le_z (negsuc 5999999) x.p) (le_z x.p (pos 6000000)) w);
    }

operator_facts : (A N i n : ℕ) (x : Node) → x.operator ≡ n → node_in_range A N i x ≡ true → (1 ≤ n) × (n ≤ 9)
unfolding node_in_range
operator_facts A N i n x =
    by_operator
    (λ n. x.operator ≡ n → node_in_range A N i x ≡ true → (1 ≤ n) × (n ≤ 9))
    (λ o e. absurd (false≢true (rw o at e)))
    (λ o e. omega arith)
    (λ o e. omega arith)
    (λ o e. omega arith)
    (λ o e. omega arith)
    (λ o e. omega arith)
    (λ o e. omega arith)
    (λ o e. omega arith)
    (λ o e. omega arith)
    (λ o e. omega arith)
    (λ k o e. absurd (false≢true (rw o at e)))
    n

pub in_range_facts : (A N i : ℕ) (x : Node) → node_in_range A N i x ≡ true → InRange A N i x
unfolding node_in_range
in_range_facts A N i x e =
    let o = operator_facts A N i x.operator x refl e in
    record {
      operator_from = o.0;
      operator_to = o.1;
      of_prop = λ o. ltb-true x.left N (rw o at e);
      of_neg = λ o. ltb-true x.left i (rw o at e);
      of_both = λ o. let f : (ltb x.left i && ltb x.right i) ≡ true = rw o at e in
          (ltb-true x.left i (and_left (ltb x.left i) (ltb x.right i) f), ltb-true x.right i (and_right (ltb x.left i) (ltb x.right i) f));
      of_does = λ o. ltb-true x.left A (rw o at e);
      of_next = λ o. ltb-true x.left i (rw o at e);
      of_gain = λ o. gain_facts x (sym (gain_row o) ∙ e);
      of_plan = λ o. plan_facts i x (sym (plan_row o) ∙ e);
      of_earns = λ o. earns_facts x (sym (earns_row o) ∙ e);
    }
  where
    gain_row : x.operator ≡ 7 → node_in_range A N i x ≡ (compares x && gain_bound x.p x.q)
    gain_row o = rw o refl

    plan_row : x.operator ≡ 8 → node_in_range A N i x ≡ plan_in_range i x
    plan_row o = rw o refl

    earns_row : x.operator ≡ 9 → node_in_range A N i x ≡ earns_in_range x
    earns_row o = rw o refl

pub in_range_all : (A N : ℕ) (b : Bytes) → every (node_count b) (λ i. node_in_range A N i (node_of b i)) ≡ true → (i : ℕ) → i < node_count b → InRange A N i (node_of b i)
in_range_all A N b e i h = in_range_facts A N i (node_of b i) (every_at (λ i. node_in_range A N i (node_of b i)) (node_count b) e h)

-- ---- the question

pub record Accepted (S A N : ℕ) (b : Bytes) : Type 0 where
  pub size : length b ≡ 512
  pub read : read_question S A N b ≡ ok (question_of b)
  pub ground_9 : formed (question_of b) ≡ true
  pub formed : Formed S A N b
  pub reached : AllReached b

-- A question whose refusal is r, which is none of the numbers from 1 to 9: these grounds passed, and r is left to 13.
record Before13 (S A N : ℕ) (b : Bytes) (r : ℕ) : Type 0 where
  ground_1 : whole_blocks 1 1 b ≡ true
  ground_2 : sums_right b ≡ true
  ground_3 : headed b 0 3 0 ≡ true
  ground_4 : (ltb (start_of b) S && within 1 40 (node_count b)) ≡ true
  ground_5 : every (node_count b) (λ i. node_in_range A N i (node_of b i)) ≡ true
  ground_6 : spare_zero b ≡ true
  ground_9 : formed (question_of b) ≡ true
  last : refusal (guard 13 (all_reached b) >> ok (question_of b)) ≡ r

before_13 : (S A N : ℕ) (b : Bytes) {r : ℕ} → ((k : ℕ) → 1 ≤ k → k ≤ 9 → k ≡ r → ⊥) → refusal (read_question S A N b) ≡ r → Before13 S A N b r
unfolding read_question
before_13 S A N b n e =
    let g1 = guard_other 1 (whole_blocks 1 1 b) _ (n 1 (omega arith) (omega arith)) e in
    let g2 = guard_other 2 (sums_right b) _ (n 2 (omega arith) (omega arith)) g1.1 in
    let g3 = guard_other 3 (headed b 0 3 0) _ (n 3 (omega arith) (omega arith)) g2.1 in
    let g4 = guard_other 4 (ltb (start_of b) S && within 1 40 (node_count b)) _ (n 4 (omega arith) (omega arith)) g3.1 in
    let g5 = guard_other 5 (every (node_count b) (λ i. node_in_range A N i (node_of b i))) _ (n 5 (omega arith) (omega arith)) g4.1 in
    let g6 = guard_other 6 (spare_zero b) _ (n 6 (omega arith) (omega arith)) g5.1 in
    let g9 = guard_other 9 (formed (question_of b)) _ (n 9 (omega arith) (omega arith)) g6.1 in
    record { ground_1 = g1.0; ground_2 = g2.0; ground_3 = g3.0; ground_4 = g4.0; ground_5 = g5.0; ground_6 = g6.0; ground_9 = g9.0; last = g9.1 }

module _ {S A N : ℕ} {b : Bytes} {r : ℕ} (g : Before13 S A N b r) where
  counted : within 1 40 (node_count b) ≡ true
  counted = and_right (ltb (start_of b) S) (within 1 40 (node_count b)) g.ground_4

  children_down : Downward b
  children_down = downward A N b (at_most 1 40 (node_count b) counted) (in_range_all A N b g.ground_5)

pub accepted : (S A N : ℕ) (b : Bytes) → refusal (read_question S A N b) ≡ 0 → Accepted S A N b
unfolding read_question formed question_of
accepted S A N b e =
    let g = before_13 S A N b (λ k h l z. omega (arith, h, z)) e in
    let g13 = guard_passed 12 (all_reached b) _ g.last in
    let f = and_both (not (is_path (question_of b).root)) (all shallow (formulas_of b)) g.ground_9 in
    record {
      size = one_block b g.ground_1;
      read = rw (g.ground_1, g.ground_2, g.ground_3, g.ground_4, g.ground_5, g.ground_6, g.ground_9, g13.0) refl;
      ground_9 = g.ground_9;
      formed =
          record {
            starts = ltb-true (start_of b) S (and_left (ltb (start_of b) S) (within 1 40 (node_count b)) g.ground_4);
            some_node = at_least 1 40 (node_count b) (counted g);
            few_nodes = at_most 1 40 (node_count b) (counted g);
            in_range = in_range_all A N b g.ground_5;
            root_state = not-true (is_path (question_of b).root) f.0;
            shallow = λ i h. every_at (λ i. shallow (get_or (formulas_of b) i never)) (node_count b) (sym (all_shallow b) ∙ f.1) h;
          };
      reached = (reached_exactly b (children_down g)).0 g13.0;
    }

-- A question refused with 13 has a node that is not reached.
pub leftover : (S A N : ℕ) (b : Bytes) → refusal (read_question S A N b) ≡ 13 → (j : ℕ) × (j < node_count b) × (Reaches b (node_count b - 1) j → ⊥)
leftover S A N b e = let g = before_13 S A N b (λ k h l z. omega (arith, l, z)) e in unreached b (children_down g) (failed (all_reached b) g.last)
  where
    failed : (t : Bool) → refusal (guard 13 t >> ok (question_of b)) ≡ 13 → t ≡ false
    failed true e = absurd (omega (arith, e))
    failed false e = refl

-- ---- the formulas

-- A child's formula is the same before node i and in the whole list.
child_same : (b : Bytes) (i j : ℕ) → i < node_count b → j < i → get_or (formulas_before b i) j never ≡ get_or (formulas_of b) j never
child_same b i j h l = before_at b j i l ∙ sym (formula_here b j (omega arith))

-- By the operator of node i, what its formula is.
module _ (S A N : ℕ) (b : Bytes) (a : Formed S A N b) (i : ℕ) (h : i < node_count b) where
  pub at_never : (node_of b i).operator ≡ 1 → get_or (formulas_of b) i never ≡ never
  at_never o = formula_here b i h ∙ row_1 (formulas_before b i) (node_of b i) o

  pub at_prop : (node_of b i).operator ≡ 2 → get_or (formulas_of b) i never ≡ prop (node_of b i).left
  at_prop o = formula_here b i h ∙ row_2 (formulas_before b i) (node_of b i) o

  pub at_neg : (node_of b i).operator ≡ 3 → get_or (formulas_of b) i never ≡ neg (get_or (formulas_of b) (node_of b i).left never)
  at_neg o = formula_here b i h ∙ row_3 (formulas_before b i) (node_of b i) o ∙ ap neg (child_same b i (node_of b i).left h ((a.in_range i h).of_neg o))

  pub at_both : (node_of b i).operator ≡ 4 → get_or (formulas_of b) i never ≡ both (get_or (formulas_of b) (node_of b i).left never) (get_or (formulas_of b) (node_of b i).right never)
  at_both o =
      formula_here b i h ∙ row_4 (formulas_before b i) (node_of b i) o
      ∙ ap₂ both (child_same b i (node_of b i).left h ((a.in_range i h).of_both o).0) (child_same b i (node_of b i).right h ((a.in_range i h).of_both o).1)

  pub at_does : (node_of b i).operator ≡ 5 → get_or (formulas_of b) i never ≡ does (node_of b i).left
  at_does o = formula_here b i h ∙ row_5 (formulas_before b i) (node_of b i) o

  pub at_next : (node_of b i).operator ≡ 6 → get_or (formulas_of b) i never ≡ next (get_or (formulas_of b) (node_of b i).left never)
  at_next o = formula_here b i h ∙ row_6 (formulas_before b i) (node_of b i) o ∙ ap next (child_same b i (node_of b i).left h ((a.in_range i h).of_next o))

  pub at_gain : (node_of b i).operator ≡ 7 → get_or (formulas_of b) i never ≡ gain (node_of b i).n (relation (node_of b i).right) (node_of b i).p
  at_gain o = formula_here b i h ∙ row_7 (formulas_before b i) (node_of b i) o

  pub at_plan : (node_of b i).operator ≡ 8
      → get_or (formulas_of b) i never ≡ plan (node_of b i).n (get_or (formulas_of b) (node_of b i).left never) (relation (node_of b i).right) (nonnegative (node_of b i).p) (node_of b i).q
  at_plan o =
      formula_here b i h ∙ row_8 (formulas_before b i) (node_of b i) o
      ∙ ap (λ φ. plan (node_of b i).n φ (relation (node_of b i).right) (nonnegative (node_of b i).p) (node_of b i).q) (child_same b i (node_of b i).left h ((a.in_range i h).of_plan o).child)

  pub at_earns : (node_of b i).operator ≡ 9
      → get_or (formulas_of b) i never ≡ earns (node_of b i).n ((node_of b i).left % 8) ((node_of b i).left / 8) (relation (node_of b i).right) (node_of b i).p (node_of b i).q
  at_earns o = formula_here b i h ∙ row_9 (formulas_before b i) (node_of b i) o

  -- The child of "plan" is no deeper than its steps.
  pub plan_depth : (node_of b i).operator ≡ 8 → depth (get_or (formulas_of b) (node_of b i).left never) ≤ (node_of b i).n
  unfolding shallow
  plan_depth o = leb-true (depth (get_or (formulas_of b) (node_of b i).left never)) (node_of b i).n (ap shallow (sym (at_plan o)) ∙ a.shallow i h)
