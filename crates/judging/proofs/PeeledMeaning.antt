-- A condition that joins a state formula, true in the state where it is read, is what it joins it to; where the state formula is false, so is
-- the condition.
use Prim.Native.Nat.{ℕ, ◌+◌, ◌*◌, ◌<◌, max}
use native.Mathlib.Omega.{arith}
use native.Mathlib.Nat.{le_of_eq, max-eq_left, max-eq_right}
use mathlib.Core.Path.{◌≡◌, refl, sym, ap, ap₂, subst, ◌∙◌}
use mathlib.Core.Bool.{Bool, true, false, ◌&&◌, false≢true}
use mathlib.Core.List.{List, []}
use lib.Dec.{eqb}
use lib.ListN.{get_or}
use Rattle.std.specs.Prelude.{Option, None, Some}
use borrow.Author.Tests.{eq-eqb, ne_eqb}
use Rattle.logic.specs.Model.{Model, Step}
use Rattle.logic.specs.Formula.{Formula, both, depth, sat}
use Rattle.logic.specs.Bound.{one_if}
use Rattle.logic.specs.promises.Total.{value_of}
use Rattle.logic.proofs.Depth.{sat_short}
use Rattle.blocks.specs.Bytes.{Bytes}
use Rattle.models.specs.Layout.{state_count, action_count, prop_count}
use Rattle.prepared_model.specs.promises.Rows.{model_in}
use Rattle.questions.specs.Layout.{node_count, node_of}
use Rattle.questions.specs.promises.Formed.{Formed}
use Rattle.questions.proofs.AcceptedFacts as questions
use Rattle.prepared_question.specs.promises.Nodes.{formula, depth_in}
use Rattle.evaluation.specs.promises.Reached.{Reached, itself, under_not, and_left, and_right, under_next}
use Rattle.judging.specs.promises.Truth.{Told}
use Rattle.judging.specs.promises.Conditions.{Stands, Same, Peels}

-- ---- what is reached

reached_on : {m q : Bytes} {c s i u j t : ℕ} → Reached m q c s i u → Reached m q i u j t → Reached m q c s j t
reached_on r itself = r
reached_on r (under_not x o) = under_not (reached_on r x) o
reached_on r (and_left x o) = and_left (reached_on r x) o
reached_on r (and_right x o) = and_right (reached_on r x) o
reached_on r (under_next a i x o l) = under_next a i (reached_on r x) o l

told_on : {m q truth : Bytes} {c s i : ℕ} → Told m q truth c s → Reached m q c s i s → Told m q truth i s
told_on t r = record { right = λ j u x d. t.right j u (reached_on r x) d }

-- ---- one state formula

-- A state formula does not look at the steps.
flat : (M : Model) (φ : Formula) (s : ℕ) (r : List Step) → depth φ ≡ 0 → sat M φ s r ≡ sat M φ s []
flat M φ s r d = sat_short M φ 0 s r (le_of_eq d) ∙ sym (sat_short M φ 0 s [] (le_of_eq d))

-- "and" with a value that is read as 0, and with one that is not.
left_none : (t u : Bool) → eqb (one_if t) 0 ≡ true → one_if (t && u) ≡ 0
unfolding one_if
left_none true u e = absurd (false≢true e)
left_none false u e = refl

left_one : (t u : Bool) → eqb (one_if t) 0 ≡ false → one_if (t && u) ≡ one_if u
unfolding one_if
left_one true u e = refl
left_one false u e = absurd (false≢true (sym e))

right_none : (t u : Bool) → eqb (one_if u) 0 ≡ true → one_if (t && u) ≡ 0
unfolding one_if
right_none true true e = absurd (false≢true e)
right_none true false e = refl
right_none false u e = refl

right_one : (t u : Bool) → eqb (one_if u) 0 ≡ false → one_if (t && u) ≡ one_if t
unfolding one_if
right_one true true e = refl
right_one true false e = absurd (false≢true (sym e))
right_one false u e = refl

module _ {m q truth : Bytes} {c s : ℕ} (h : Stands m q truth c s) (o : (node_of q c).operator ≡ 4) where
  abbrev asked : Formed (state_count m) (action_count m) (prop_count m) q
  asked = h.nodes.formed

  abbrev left : ℕ
  left = (node_of q c).left

  abbrev right : ℕ
  right = (node_of q c).right

  before_left : left < c
  before_left = ((asked.in_range c h.node).of_both o).0

  before_right : right < c
  before_right = ((asked.in_range c h.node).of_both o).1

  joins : formula q c ≡ both (formula q left) (formula q right)
  joins = questions.at_both (state_count m) (action_count m) (prop_count m) q asked c h.node o

  stands_left : Stands m q truth left s
  stands_left =
      record { nodes = h.nodes; node = omega (arith, before_left, h.node); state = h.state; told = told_on h.told (and_left itself o) }

  stands_right : Stands m q truth right s
  stands_right =
      record { nodes = h.nodes; node = omega (arith, before_right, h.node); state = h.state; told = told_on h.told (and_right itself o) }

  -- The truth of a child on a path; what the table says of one that is a state formula, it is on every path.
  abbrev on : ℕ → List Step → Bool
  on i r = sat (model_in m) (formula q i) s r

  read : {t : Bool} (i : ℕ) → Told m q truth i s → depth (formula q i) ≡ 0 → eqb (get_or truth (32 * i + s) 0) 0 ≡ t → (r : List Step) → eqb (one_if (on i r)) 0 ≡ t
  read i x d e r = sym (ap (λ v. eqb v 0) (x.right i s itself d ∙ ap one_if (sym (flat (model_in m) (formula q i) s r d)))) ∙ e

  value_joins : (r : List Step) → value_of (model_in m) (formula q c) s r ≡ one_if (on left r && on right r)
  unfolding sat
  value_joins r = ap (λ φ. value_of (model_in m) φ s r) joins

  depth_joins : (a b : ℕ) → depth (formula q left) ≡ a → depth (formula q right) ≡ b → depth (formula q c) ≡ max a b
  unfolding depth
  depth_joins a b d e = ap depth joins ∙ ap₂ max d e

  module _ (d : depth (formula q left) ≡ 0) where
    left_never : eqb (get_or truth (32 * left + s) 0) 0 ≡ true → (r : List Step) → value_of (model_in m) (formula q c) s r ≡ 0
    left_never e r = value_joins r ∙ left_none (on left r) (on right r) (read left stands_left.told d e r)

    left_same : eqb (get_or truth (32 * left + s) 0) 0 ≡ false → Same m q truth c s right
    left_same e =
        record {
          stands = stands_right;
          looks = sym (depth_joins 0 (depth (formula q right)) d refl ∙ max-eq_right (omega arith));
          values = λ r. sym (value_joins r ∙ left_one (on left r) (on right r) (read left stands_left.told d e r));
        }

  module _ (d : depth (formula q right) ≡ 0) where
    right_never : eqb (get_or truth (32 * right + s) 0) 0 ≡ true → (r : List Step) → value_of (model_in m) (formula q c) s r ≡ 0
    right_never e r = value_joins r ∙ right_none (on left r) (on right r) (read right stands_right.told d e r)

    right_same : eqb (get_or truth (32 * right + s) 0) 0 ≡ false → Same m q truth c s left
    right_same e =
        record {
          stands = stands_left;
          looks = sym (depth_joins (depth (formula q left)) 0 refl d ∙ max-eq_left (omega arith));
          values = λ r. sym (value_joins r ∙ right_one (on left r) (on right r) (read right stands_right.told d e r));
        }

same_itself : {m q truth : Bytes} {c s : ℕ} → Stands m q truth c s → Same m q truth c s c
same_itself h = record { stands = h; looks = refl; values = λ r. refl }

pub peels_none : {q truth : Bytes} {c s : ℕ} → Peels q truth c s (Some c)
peels_none {q} {truth} {c} {s} =
    record {
      never = λ m h e. absurd (let none : ⊥ = cc in none);
      left = λ m h i e. subst (Same m q truth c s) (let same : c ≡ i = cc in same) (same_itself h);
    }

module _ {q truth : Bytes} {c s : ℕ} (o : (node_of q c).operator ≡ 4) where
  -- By the depths and the table of truth: i is the child that is read, j the other.
  module _ (i j : ℕ) (few : (m : Bytes) → Stands m q truth c s → i < node_count q) {a x y z : ℕ} (ea : a ≡ i) (ez : z ≡ depth_in q a) (e0 : z ≡ 0)
      (ey : y ≡ 32 * a + s) (ex : x ≡ get_or truth y 0) where
    there : eqb x 0 ≡ eqb (get_or truth (32 * i + s) 0) 0
    there = ap (λ v. eqb v 0) (ex ∙ ap (λ k. get_or truth k 0) (ey ∙ ap (λ k. 32 * k + s) ea))

    shallow : (m : Bytes) → Stands m q truth c s → depth (formula q i) ≡ 0
    shallow m h = sym (h.nodes.deep i (few m h)) ∙ ap (depth_in q) (sym ea) ∙ sym ez ∙ e0

    read_false : ((m : Bytes) → Stands m q truth c s → depth (formula q i) ≡ 0 → eqb (get_or truth (32 * i + s) 0) 0 ≡ true → (p : List Step) → value_of (model_in m) (formula q c) s p ≡ 0)
        → x ≡ 0 → Peels q truth c s None
    read_false never e =
        record { never = λ m h _. never m h (shallow m h) (sym there ∙ eq-eqb x 0 e); left = λ m h k f. absurd (let none : ⊥ = cc in none) }

    read_true : ((m : Bytes) → Stands m q truth c s → depth (formula q i) ≡ 0 → eqb (get_or truth (32 * i + s) 0) 0 ≡ false → Same m q truth c s j)
        → {b : ℕ} → b ≡ j → (x ≡ 0 → ⊥) → Peels q truth c s (Some b)
    read_true same {b} eb e =
        record {
          never = λ m h f. absurd (let none : ⊥ = cc in none);
          left = λ m h k f. subst (Same m q truth c s) (let g : j ≡ k = cc in g) (same m h (shallow m h) (sym there ∙ ne_eqb x 0 e));
        }

  module _ {a b x y z : ℕ} (ea : a ≡ (node_of q c).left) (eb : b ≡ (node_of q c).right) (ez : z ≡ depth_in q a) (e0 : z ≡ 0)
      (ey : y ≡ 32 * a + s) (ex : x ≡ get_or truth y 0) where
    pub left_false : x ≡ 0 → Peels q truth c s None
    left_false =
        read_false (node_of q c).left (node_of q c).right (λ m h. omega (arith, before_left h o, h.node)) ea ez e0 ey ex (λ m h. left_never h o)

    pub left_true : (x ≡ 0 → ⊥) → Peels q truth c s (Some b)
    left_true =
        read_true (node_of q c).left (node_of q c).right (λ m h. omega (arith, before_left h o, h.node)) ea ez e0 ey ex (λ m h. left_same h o) eb

  module _ {a b x y z : ℕ} (ea : a ≡ (node_of q c).left) (eb : b ≡ (node_of q c).right) (ez : z ≡ depth_in q b) (e0 : z ≡ 0)
      (ey : y ≡ 32 * b + s) (ex : x ≡ get_or truth y 0) where
    pub right_false : x ≡ 0 → Peels q truth c s None
    right_false =
        read_false (node_of q c).right (node_of q c).left (λ m h. omega (arith, before_right h o, h.node)) eb ez e0 ey ex (λ m h. right_never h o)

    pub right_true : (x ≡ 0 → ⊥) → Peels q truth c s (Some a)
    right_true =
        read_true (node_of q c).right (node_of q c).left (λ m h. omega (arith, before_right h o, h.node)) eb ez e0 ey ex (λ m h. right_same h o) ea

-- ---- one after the other

-- Node i is the same as c, in every model.
pub record Alike (q truth : Bytes) (c s i : ℕ) : Type 0 where
  pub same : (m : Bytes) → Stands m q truth c s → Same m q truth c s i

pub alike_itself : {q truth : Bytes} {c s : ℕ} → Alike q truth c s c
alike_itself = record { same = λ m h. same_itself h }

same_on : {m q truth : Bytes} {c s i j : ℕ} → Same m q truth c s i → Same m q truth i s j → Same m q truth c s j
same_on x y = record { stands = y.stands; looks = y.looks ∙ x.looks; values = λ r. y.values r ∙ x.values r }

pub alike_on : {q truth : Bytes} {c s i j : ℕ} {r : Option ℕ} → Alike q truth c s i → Peels q truth i s r → r ≡ Some j → Alike q truth c s j
alike_on {j = j} x p e = record { same = λ m h. let y = x.same m h in same_on y (p.left m y.stands j e) }

pub peels_on : {q truth : Bytes} {c s i : ℕ} {r : Option ℕ} → Alike q truth c s i → Peels q truth i s r → Peels q truth c s r
peels_on x p =
    record {
      never = λ m h e t. let y = x.same m h in sym (y.values t) ∙ p.never m y.stands e t;
      left = λ m h j e. let y = x.same m h in same_on y (p.left m y.stands j e);
    }
