-- One turn of combining the lists of a choice's outcomes: the list of a further outcome is made behind the product, and joined on.
use Prim.Native.Nat.{ℕ, suc, ◌+◌, ◌-◌, ◌*◌, ◌^◌, ◌≤◌, ◌<◌, min, max}
use native.Mathlib.Nat.{le-mul_of_pos_right, mul_comm, zero-add}
use native.Mathlib.Omega.{arith}
use mathlib.Core.Path.{◌≡◌, refl, sym, ap, ap₂, subst, ◌∙◌, fun_ext}
use mathlib.Core.Logic.{◌⊎◌, ⊎_elim}
use mathlib.Core.Bool.{Bool, true, false}
use mathlib.Core.List.{List, ◌++◌, map, Memᴰ}
use lib.ListN.{length, take, drop}
use lib.Seq.{take-take, take-append-le, drop_at, length-take-le}
use lib.Dec.{ltb}
use borrow.Author.Tests.{lt-ltb, le-ltb}
use Rattle.logic.specs.Lists.{count_from}
use Rattle.logic.specs.Limits.{multiply}
use Rattle.logic.proofs.Members.{in_map}
use Rattle.blocks.specs.Splice.{splice}
use Rattle.blocks.proofs.Splice.{take_written}
use Rattle.exact_plan.specs.promises.Totals.{part, joined, combined}
use Rattle.exact_plan.specs.promises.Spread.{Joins}
use Rattle.exact_plan.proofs.Parts.{part_drop}
use Rattle.exact_plan.proofs.Grid.{length_grid}
use Rattle.exact_plan.proofs.Spans.{combined_right, combined_left, multiply_right, multiply_left}
use Rattle.exact_plan.proofs.TotalsBounded.{UpTo}

-- ---- a list that stands at a place of the buffer

-- b has xs at `at`, and before it what a has.
abbrev pub Holds : (a b : List ℕ) (at : ℕ) (xs : List ℕ) → Type 0
Holds a b at xs = take (at + length xs) b ≡ take at a ++ xs

module _ (a b : List ℕ) (at : ℕ) (xs : List ℕ) (in_a : at ≤ length a) (H : Holds a b at xs) where
  pub held_before : (n : ℕ) → n ≤ at → take n b ≡ take n a
  held_before n h =
      sym (take-take n (at + length xs) b (omega arith))
      ∙ ap (take n) H
      ∙ take-append-le n (take at a) xs (omega (arith, length-take-le at a in_a))
      ∙ take-take n at a h

  pub held_part : part b at (length xs) ≡ xs
  held_part = part_drop b at (length xs) ∙ ap (drop at) H ∙ drop_at (take at a) xs at (length-take-le at a in_a)

  -- Something else written there.
  pub held_written : (at ≤ length b) → (ys : List ℕ) → Holds a (splice b at ys) at ys
  held_written in_b ys = take_written b at ys in_b ∙ ap (λ l. l ++ ys) (held_before at (omega arith))

pub joined_length : (right : Bool) (xs ys : List ℕ) → length (joined right xs ys) ≡ length xs * length ys
unfolding joined
joined_length true xs ys = length_grid xs ys
joined_length false xs ys = length_grid ys xs ∙ mul_comm (length ys) (length xs)

-- The first list, weighed.
pub first_held : (a b b' : List ℕ) (at : ℕ) (xs : List ℕ) (w : ℕ) → at ≤ length a → at ≤ length b → Holds a b at xs
    → b' ≡ splice b at (map (λ y. 0 + w * y) (part b at (length xs))) → Holds a b' at (map (λ y. w * y) xs)
first_held a b b' at xs w in_a in_b H e =
    let f : b' ≡ splice b at (map (λ y. w * y) xs) =
    e ∙ ap₂ (λ g l. splice b at (map g l)) (fun_ext (λ y. zero-add (w * y))) (held_part a b at xs in_a H) in
    subst (λ l. Holds a l at (map (λ y. w * y) xs)) (sym f) (held_written a b at xs in_a H in_b (map (λ y. w * y) xs))

-- A further list ys, made behind the product, weighed and joined on.
module _ (a b b₁ : List ℕ) (at : ℕ) (xs ys : List ℕ) (in_a : at ≤ length a) (in_b : at + length xs * length ys ≤ length b)
    (some : 0 < length ys) (X : Holds a b at xs) (Y : Holds b b₁ (at + length xs * length ys) ys) where
  long : length xs ≤ length xs * length ys
  long = le-mul_of_pos_right (length xs) some

  still : Holds a b₁ at xs
  still = held_before b b₁ (at + length xs * length ys) ys in_b Y (at + length xs) (omega (arith, long)) ∙ X

  pub still_part : part b₁ at (length xs) ≡ xs
  still_part = held_part a b₁ at xs in_a still

  pub new_part : part b₁ (at + length xs * length ys) (length ys) ≡ ys
  new_part = held_part b b₁ (at + length xs * length ys) ys in_b Y

  pub join_held : (b₂ : List ℕ) (w : ℕ) (right : Bool) → at ≤ length b₁
      → b₂ ≡ splice b₁ at (joined right (part b₁ at (length xs)) (map (λ y. w * y) (part b₁ (at + length xs * length ys) (length ys))))
      → Holds a b₂ at (joined right xs (map (λ y. w * y) ys))
  join_held b₂ w right in-b₁ e =
      let Z : List ℕ = joined right xs (map (λ y. w * y) ys) in
      let f : b₂ ≡ splice b₁ at Z = e ∙ ap₂ (λ l r. splice b₁ at (joined right l (map (λ y. w * y) r))) still_part new_part in
      subst (λ l. Holds a l at Z) (sym f) (held_written a b₁ at xs in_a still in-b₁ Z)

  -- What joining asks.
  pub joins : (w d e : ℕ) → 0 < length xs → at + length xs * length ys + length ys ≤ length b₁ → UpTo d xs → UpTo e (map (λ y. w * y) ys) → d + e < 2 ^ 64
      → Joins b₁ at (length xs) (length ys) w
  joins w d e sx room hx hy f =
      record {
        some = sx;
        others = some;
        room = room;
        fits = λ x y i j.
            let p : x ≤ d = hx x (subst (Memᴰ x) still_part i) in
            let q : w * y ≤ e = hy (w * y) (in_map (λ y. w * y) (subst (Memᴰ y) new_part j)) in
            omega arith;
      }

-- ---- the outcomes taken: lo to hi, and o beside them

abbrev pub Beside : (lo hi c o : ℕ) → Type 0
Beside lo hi c o = ((o ≡ hi) × (hi < c)) ⊎ ((o + 1 ≡ lo) × (c ≤ hi))

module _ {lo hi c o : ℕ} (some : lo < hi) (most : hi ≤ c) (B : Beside lo hi c o) where
  pub beside_inside : o < c
  beside_inside = ⊎_elim (λ e. omega (arith, e.0, e.1)) (λ e. omega (arith, e.0)) B

  pub wider_some : min lo o < max hi (o + 1)
  wider_some = omega arith

  pub wider_most : max hi (o + 1) ≤ c
  wider_most = omega (arith, beside_inside)

  -- There is one more.
  wider_count : max hi (o + 1) - min lo o ≡ suc (hi - lo)
  wider_count = ⊎_elim (λ e. omega (arith, e.0)) (λ e. omega (arith, e.0)) B

  -- They stand from a first one on, or as many as there are before the end.
  pub wider_from : (first taken : ℕ) → lo ≡ min first (c - taken) → hi ≡ lo + taken → taken < c → min first (c - (taken + 1)) ≡ min lo o
  wider_from first taken e f h = ⊎_elim (λ b. omega (arith, b.0, b.1)) (λ b. omega (arith, b.0, b.1)) B

  pub wider_to : (first taken : ℕ) → lo ≡ min first (c - taken) → hi ≡ lo + taken → taken < c
      → min first (c - (taken + 1)) + (taken + 1) ≡ max hi (o + 1)
  wider_to first taken e f h = ⊎_elim (λ b. omega (arith, b.0, b.1)) (λ b. omega (arith, b.0, b.1)) B

  -- The lists of those taken, combined with that of o.
  pub wider_combined : (F : ℕ → List ℕ)
      → joined (ltb lo o) (combined F (count_from lo (hi - lo))) (F o) ≡ combined F (count_from (min lo o) (max hi (o + 1) - min lo o))
  unfolding joined
  wider_combined F =
      ⊎_elim
      (λ e.
      let l : min lo o ≡ lo = omega (arith, e.0) in
      let k : lo + (hi - lo) ≡ o = omega (arith, e.0) in
      rw (lt-ltb lo o (omega (arith, e.0)), wider_count, l, combined_right F lo (hi - lo), k) refl)
      (λ e.
      let l : min lo o ≡ o = omega (arith, e.0) in
      let k : lo ≡ suc o = omega (arith, e.0) in
      rw (le-ltb lo o (omega (arith, e.0)), wider_count, l, combined_left F o (hi - lo), k) refl)
      B

  pub wider_times : (t : ℕ → ℕ) → multiply t (count_from lo (hi - lo)) * t o ≡ multiply t (count_from (min lo o) (max hi (o + 1) - min lo o))
  wider_times t =
      ⊎_elim
      (λ e.
      let l : min lo o ≡ lo = omega (arith, e.0) in
      let k : lo + (hi - lo) ≡ o = omega (arith, e.0) in
      rw (wider_count, l, multiply_right t lo (hi - lo), k) refl)
      (λ e.
      let l : min lo o ≡ o = omega (arith, e.0) in
      let k : lo ≡ suc o = omega (arith, e.0) in
      rw (wider_count, l, multiply_left t o (hi - lo), k) (mul_comm _ _))
      B
