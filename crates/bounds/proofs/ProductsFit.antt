-- A raised total against a bound: the numbers of a node of operator 8 or 9 are small, so that the products fit; in natural numbers the total compares
-- with the bound as it does in integers; and the raised total that equals the bound is a quotient.
use Prim.Native.Nat.{ℕ, zero, suc, ◌+◌, ◌*◌, ◌-◌, ◌/◌, ◌%◌, ◌^◌, ◌≤◌, ◌<◌}
use native.Mathlib.Omega.{arith}
use native.Mathlib.Nat.{le_trans, le_of_lt, mul-le-mul, mul-le-mul_left, mul-lt-mul_of_pos_left, lt_of_mul-lt-mul_left, le-div_iff_mul-le, mul_comm, mul-div_cancel_left, mul-mod_right, div-add-mod}
use mathlib.Core.Path.{◌≡◌, refl, sym, ap, ap₂, subst, ◌∙◌}
use mathlib.Core.Logic.{⊎_elim}
use mathlib.Core.Bool.{true, false, cond, false≢true}
use lib.Dec.{eqb, ltb}
use lib.IntN.{ℤ, pos, negsuc, sub_ℕ}
use lib.Signed.{mag}
use borrow.Author.Tests.{eq-eqb, ne_eqb, eqb-true, lt-ltb, le-ltb, ltb-true}
use Rattle.logic.specs.Quantity.{naturals, integers, Relation, less, equal, related}
use Rattle.logic.specs.Bound.{meets, below, at, above, compared, lamp}
use Rattle.logic.specs.Formula.{nonnegative}
use Rattle.logic.proofs.Tests.{same_test}
use Rattle.logic.proofs.Lowered.{meets_raised}
use Rattle.logic.proofs.Integers.{subℕ_ge, subℕ_lt}
use Rattle.logic.proofs.Naturals.{ltb_leb, eqb_leb}
use Rattle.lamp.specs.declared.Lamp.{Lamp}
use Rattle.lamp.specs.promises.Codes.{lamp_code}
use Rattle.blocks.specs.Bytes.{Bytes}
use Rattle.models.specs.Layout.{denominator_of}
use Rattle.prepared_model.specs.promises.Rows.{model_in}
use Rattle.prepared_model.proofs.ReadByPlace.{denominator_is}
use Rattle.questions.specs.Layout.{node_of}
use Rattle.questions.specs.promises.Formed.{Compares, EarnsRange}
use Rattle.questions.proofs.SetsBound.{sets_which, bound_compares}
use Rattle.bounds.specs.promises.Bounded.{Bounded, under, span_before, span_last, lift_of, lowered, most_of, meets_as, lamp_at, Exactly}
use Rattle.bounds.proofs.Powers.{power_le}

-- ---- division

-- q times w is x just where w is x / q and nothing is left over.
module _ (q x w : ℕ) (h : 0 < q) where
  times_whole : x % q ≡ 0 → eqb (q * w) x ≡ eqb w (x / q)
  times_whole z =
      same_test (eqb (q * w) x) (eqb w (x / q))
      (λ e. eq-eqb w (x / q) (sym (mul-div_cancel_left w h) ∙ ap (λ y. y / q) (eqb-true (q * w) x e)))
      (λ e. eq-eqb (q * w) x (ap (λ y. q * y) (eqb-true w (x / q) e) ∙ omega (arith, div-add-mod x q)))

  times_part : (x % q ≡ 0 → ⊥) → eqb (q * w) x ≡ false
  times_part n = ne_eqb (q * w) x (λ e. n (ap (λ y. y % q) (sym e) ∙ mul-mod_right q w))

  less_whole : x % q ≡ 0 → ltb (q * w) x ≡ ltb w (x / q)
  less_whole z =
      let e : x ≡ q * (x / q) = omega (arith, div-add-mod x q) in
      same_test (ltb (q * w) x) (ltb w (x / q))
      (λ t. lt-ltb w (x / q) (lt_of_mul-lt-mul_left q (subst (λ y. q * w < y) e (ltb-true (q * w) x t))))
      (λ t. lt-ltb (q * w) x (subst (λ y. q * w < y) (sym e) (mul-lt-mul_of_pos_left (ltb-true w (x / q) t) h)))

  less_part : (x % q ≡ 0 → ⊥) → ltb (q * w) x ≡ ltb w (x / q + 1)
  less_part n =
      same_test (ltb (q * w) x) (ltb w (x / q + 1)) (λ t. lt-ltb w (x / q + 1) (up (ltb-true (q * w) x t))) (λ t. lt-ltb (q * w) x (down (ltb-true w (x / q + 1) t)))
    where
      some_rest : (y : ℕ) → (y ≡ 0 → ⊥) → 0 < y
      some_rest zero z = absurd (z refl)
      some_rest (suc y) z = omega arith

      up : q * w < x → w < x / q + 1
      up t = let k : w ≤ x / q = (le-div_iff_mul-le h).1 (subst (λ y. y ≤ x) (mul_comm q w) (le_of_lt t)) in omega arith

      down : w < x / q + 1 → q * w < x
      down t =
          let k : q * w ≤ q * (x / q) = mul-le-mul_left q (omega arith) in
          let r : 0 < x % q = some_rest (x % q) n in
          omega (arith, div-add-mod x q)

-- ---- p, by what is above 0 and below it

pub p_split : (p : ℤ) → p ≡ sub_ℕ (nonnegative p) (under p)
unfolding nonnegative under
p_split (pos k) = ap pos (omega arith) ∙ sym (subℕ_ge k 0 (omega arith))
p_split (negsuc k) = ap negsuc (omega arith) ∙ sym (subℕ_lt 0 (suc k) (omega arith))

-- ---- a node that sets a bound

module _ (m q : Bytes) (j : ℕ) (b : Bounded m q j) where
  abbrev pub D : ℕ
  D = denominator_of m ^ (node_of q j).n

  pub small : denominator_of m ≤ 100
  small = b.prepared.parts

  pub compares : Compares (node_of q j)
  compares = bound_compares (b.nodes.formed.in_range j b.node) b.sets

  pub few : j < 40
  few = omega (arith, b.node, b.nodes.formed.few_nodes)

  pub whole_small : D ≤ 100 ^ 6
  whole_small = power_le (denominator_of m) (node_of q j).n 6 small compares.few_steps

  pub of_9 : (node_of q j).operator ≡ 9 → EarnsRange (node_of q j)
  of_9 o = (b.nodes.formed.in_range j b.node).of_earns o

  pub lift_8 : (node_of q j).operator ≡ 8 → lift_of m q j ≡ 0
  unfolding lift_of
  lift_8 o = rw o refl

  pub lift_9 : (node_of q j).operator ≡ 9 → lift_of m q j ≡ 1000 * (span_last q j - span_before q j) * D
  unfolding lift_of
  lift_9 o = rw o refl

  pub most_8 : (node_of q j).operator ≡ 8 → most_of m q j ≡ D
  unfolding most_of
  most_8 o = rw o (omega arith)

  pub most_9 : (node_of q j).operator ≡ 9 → most_of m q j ≡ 12000 * D
  unfolding most_of
  most_9 o = rw o refl

  -- The numbers of the node: its q times a raised total, q times the lift, and D to the n times p, above 0 and below it.
  pub most_small : most_of m q j ≤ 12000 * 100 ^ 6
  most_small =
      ⊎_elim
      (λ o. rw (most_8 o) (le_trans whole_small (omega arith)))
      (λ o. rw (most_9 o) (mul-le-mul_left 12000 whole_small))
      (sets_which (node_of q j).operator b.sets)

  pub record Small : Type 0 where
    pub some_part : 0 < (node_of q j).q
    pub total : (x : ℕ) → x ≤ most_of m q j → (node_of q j).q * x ≤ 1000 * (12000 * 100 ^ 6)
    pub lift : (node_of q j).q * lift_of m q j ≤ 1000 * (6000 * 100 ^ 6)
    pub paid : lift_of m q j ≤ 6000 * 100 ^ 6
    pub up : nonnegative (node_of q j).p ≤ 6000000
    pub down : under (node_of q j).p ≤ 6000001

  pub sizes : Small
  unfolding nonnegative under
  sizes = ⊎_elim of_8 by_9 (sets_which (node_of q j).operator b.sets)
    where
      of_8 : (node_of q j).operator ≡ 8 → Small
      of_8 o =
          let r = (b.nodes.formed.in_range j b.node).of_plan o in
          record {
            some_part = r.some_part;
            total = λ x h.
                let g : x ≤ 100 ^ 6 = le_trans h (rw (most_8 o) whole_small) in
                le_trans (mul-le-mul r.few_parts g) (omega arith);
            lift = rw (lift_8 o) (omega arith);
            paid = rw (lift_8 o) (omega arith);
            up = omega (arith, r.bound, r.few_parts);
            down = rw r.whole (omega arith);
          }

      paid_9 : (node_of q j).operator ≡ 9 → lift_of m q j ≤ 6000 * 100 ^ 6
      paid_9 o =
          let r = of_9 o in
          let h : 1000 * (span_last q j - span_before q j) ≤ 6000 = omega (arith, r.within, r.compares.few_steps) in
          rw (lift_9 o) (mul-le-mul h whole_small)

      magnitude : (p : ℤ) → mag p ≤ 6000000 → (nonnegative p ≤ 6000000) × (under p ≤ 6000001)
      magnitude (pos k) h = (h, omega arith)
      magnitude (negsuc k) h = (omega arith, omega arith)

      by_9 : (node_of q j).operator ≡ 9 → Small
      by_9 o =
          let r = of_9 o in
          let p = magnitude (node_of q j).p r.bound in
          record {
            some_part = r.some_part;
            total = λ x h.
                let g : 12000 * D ≤ 12000 * 100 ^ 6 = mul-le-mul_left 12000 whole_small in
                let k : x ≤ 12000 * 100 ^ 6 = le_trans h (rw (most_9 o) g) in
                mul-le-mul r.few_parts k;
            lift = mul-le-mul r.few_parts (paid_9 o);
            paid = paid_9 o;
            up = p.0;
            down = p.1;
          }

  -- The products that the code makes, of numbers that it has by other names.
  pub up_small : {d a : ℕ} → d ≤ 100 ^ 6 → a ≡ nonnegative (node_of q j).p → d * a ≤ 100 ^ 6 * 6000001
  up_small {a = a} h e = let g : a ≤ 6000001 = omega (arith, e, sizes.up) in mul-le-mul h g

  pub down_small : {d a : ℕ} → d ≤ 100 ^ 6 → a ≡ under (node_of q j).p → d * a ≤ 100 ^ 6 * 6000001
  down_small {a = a} h e = let g : a ≤ 6000001 = omega (arith, e, sizes.down) in mul-le-mul h g

  pub lift_small : {k l : ℕ} → k ≡ (node_of q j).q → l ≡ lift_of m q j → k * l ≤ 1000 * (6000 * 100 ^ 6)
  lift_small e f = subst (λ x. x ≤ 1000 * (6000 * 100 ^ 6)) (sym (ap₂ ◌*◌ e f)) sizes.lift

  pub total_small : {k x : ℕ} → k ≡ (node_of q j).q → x ≤ most_of m q j → k * x ≤ 1000 * (12000 * 100 ^ 6)
  total_small {k} {x} e h = subst (λ y. y * x ≤ 1000 * (12000 * 100 ^ 6)) (sym e) (sizes.total x h)

  -- What is left and right of a relation, and what follows for the bound.
  abbrev pub raised_left : ℕ → ℕ
  raised_left x = (node_of q j).q * x + D * under (node_of q j).p

  abbrev pub raised_right : ℕ
  raised_right = D * nonnegative (node_of q j).p + (node_of q j).q * lift_of m q j

  pub meets_sides : (r : Relation) (x : ℕ) → meets_as r m q j (lowered m q j x) ≡ related naturals r (raised_left x) raised_right
  meets_sides r x =
      ap (λ p. meets integers (model_in m) (node_of q j).n r p (node_of q j).q (lowered m q j x)) (p_split (node_of q j).p)
      ∙ meets_raised (model_in m) (node_of q j).n r (nonnegative (node_of q j).p) (under (node_of q j).p) (node_of q j).q x (lift_of m q j)
      ∙ ap (λ d. related naturals r ((node_of q j).q * x + d ^ (node_of q j).n * under (node_of q j).p) (d ^ (node_of q j).n * nonnegative (node_of q j).p + (node_of q j).q * lift_of m q j))
      (denominator_is m)

  lamp_sides : (x : ℕ) → lamp_at m q j (lowered m q j x) ≡ compared naturals (raised_left x) raised_right
  unfolding lamp compared meets
  lamp_sides x = ap₂ (λ t u. cond t below (cond u at above)) (meets_sides less x) (meets_sides equal x)

  pub compared_is : (x : ℕ) {a b : ℕ} {r : Lamp} → r ≡ lamp_code (compared naturals a b) → a ≡ raised_left x → b ≡ raised_right
      → r ≡ lamp_code (lamp_at m q j (lowered m q j x))
  compared_is x e g h = e ∙ rw (g, h) refl ∙ sym (ap lamp_code (lamp_sides x))

  met : (x : ℕ) → meets_as equal m q j (lowered m q j x) ≡ eqb (raised_left x) raised_right
  unfolding related
  met x = meets_sides equal x ∙ sym (eqb_leb (raised_left x) raised_right)

  fewer : (x : ℕ) → meets_as less m q j (lowered m q j x) ≡ ltb (raised_left x) raised_right
  unfolding related
  fewer x = meets_sides less x ∙ sym (ltb_leb (raised_left x) raised_right)

  pub never : {up down : ℕ} → up ≡ raised_right → down ≡ D * under (node_of q j).p → up < down → Exactly m q j false 0
  never e f h =
      record {
        below = λ x. fewer x ∙ le-ltb (raised_left x) raised_right (omega (arith, e, f, h)) ∙ sym (le-ltb x 0 (omega arith));
        one = λ t. absurd (false≢true t);
        none = λ t x. met x ∙ ne_eqb (raised_left x) raised_right (λ g. omega (arith, e, f, h, g));
      }

  -- Where p is not below 0 by more than the totals are raised: a is what they have to be q times.
  module _ {a k up down : ℕ} (e : up ≡ raised_right) (f : down ≡ D * under (node_of q j).p) (g : k ≡ (node_of q j).q) (l : down ≤ up) (i : a ≡ up - down) where
    times : (x : ℕ) → (node_of q j).q * x ≡ k * x
    times x = ap (λ z. z * x) (sym g)

    some : 0 < k
    some = omega (arith, sizes.some_part)

    side : (x : ℕ) → meets_as equal m q j (lowered m q j x) ≡ eqb (k * x) a
    side x =
        met x
        ∙ same_test (eqb (raised_left x) raised_right) (eqb (k * x) a)
        (λ t. eq-eqb (k * x) a (omega (arith, times x, e, f, eqb-true (raised_left x) raised_right t)))
        (λ t. eq-eqb (raised_left x) raised_right (omega (arith, times x, e, f, l, eqb-true (k * x) a t)))

    lower_side : (x : ℕ) → meets_as less m q j (lowered m q j x) ≡ ltb (k * x) a
    lower_side x =
        fewer x
        ∙ same_test (ltb (raised_left x) raised_right) (ltb (k * x) a)
        (λ t. lt-ltb (k * x) a (omega (arith, times x, e, f, ltb-true (raised_left x) raised_right t)))
        (λ t. lt-ltb (raised_left x) raised_right (omega (arith, times x, e, f, l, ltb-true (k * x) a t)))

    pub exactly : a % k ≡ 0 → Exactly m q j true (a / k)
    exactly z = record { below = λ x. lower_side x ∙ less_whole k a x some z; one = λ t x. side x ∙ times_whole k a x some z; none = λ t. absurd (false≢true (sym t)) }

    pub between : (a % k ≡ 0 → ⊥) → Exactly m q j false (a / k + 1)
    between n = record { below = λ x. lower_side x ∙ less_part k a x some n; one = λ t. absurd (false≢true t); none = λ t x. side x ∙ times_part k a x some n }
