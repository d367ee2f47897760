-- Laws of `part`: what stands in it, and what a piece written beside it leaves of it.
use Prim.Native.Nat.{ℕ, zero, suc, ◌+◌, ◌-◌, ◌≤◌, ◌<◌}
use native.Mathlib.Nat.{zero-add}
use native.Mathlib.Numerals.{add-one}
use native.Mathlib.Omega.{arith}
use mathlib.Core.Path.{◌≡◌, refl, sym, ap, ◌∙◌}
use mathlib.Core.List.{List, [], ◌∷◌, ◌++◌}
use lib.ListN.{length, take, drop, get_or, length-drop, length-take}
use lib.Seq.{get_or-drop, get_or-take, take-suc}
use Rattle.blocks.specs.Splice.{splice}
use Rattle.blocks.proofs.Splice.{take_splice, drop_splice}
use Rattle.exact_plan.specs.promises.Totals.{part}

pub part_length : (l : List ℕ) (p n : ℕ) → p + n ≤ length l → length (part l p n) ≡ n
unfolding part
part_length l p n h = simp (length-take, length-drop) (omega arith)

-- The part is what the longer beginning has beyond the shorter one.
pub part_drop : (l : List ℕ) (p n : ℕ) → part l p n ≡ drop p (take (p + n) l)
unfolding part
part_drop l zero n = ap (λ i. take i l) (sym (zero-add n))
part_drop [] (suc p) n = let z : suc p + n ≡ suc (p + n) = omega arith in rw z (none n)
  where
    none : (n : ℕ) → ◌≡◌ {A = List ℕ} (take n []) []
    none zero = refl
    none (suc n) = refl
part_drop (x ∷ l) (suc p) n = let z : suc p + n ≡ suc (p + n) = omega arith in rw z (part_drop l p n)

pub part_before : (l : List ℕ) (p : ℕ) (x : List ℕ) (i n : ℕ) → i + n ≤ p → p ≤ length l → part (splice l p x) i n ≡ part l i n
part_before l p x i n h k = part_drop (splice l p x) i n ∙ ap (drop i) (take_splice l p x (i + n) h k) ∙ sym (part_drop l i n)

pub part_after : (l : List ℕ) (p : ℕ) (x : List ℕ) (i n : ℕ) → p + length x ≤ i → p ≤ length l → part (splice l p x) i n ≡ part l i n
unfolding part
part_after l p x i n h k = ap (take n) (drop_splice l p x i h k)

pub get_d_part : (l : List ℕ) (p n i : ℕ) → i < n → get_or (part l p n) i 0 ≡ get_or l (p + i) 0
unfolding part
get_d_part l p n i h = get_or-take n (drop p l) i 0 h ∙ get_or-drop p l i 0

pub part_more : (l : List ℕ) (p n : ℕ) → p + n < length l → part l p (n + 1) ≡ part l p n ++ (get_or l (p + n) 0 ∷ [])
unfolding part
part_more l p n h = rw add-one (take-suc (drop p l) n 0 (simp length-drop (omega arith)) ∙ ap (λ v. take n (drop p l) ++ (v ∷ [])) (get_or-drop p l n 0))

-- ---- what stands between two places, as a part of a slice is

pub range_part : (l : List ℕ) (p n : ℕ) → take (p + n - p) (drop p l) ≡ part l p n
unfolding part
range_part l p n = let e : p + n - p ≡ n = omega arith in ap (λ j. take j (drop p l)) e
