-- Lists that are written part by part: a part lent from the middle is put back between what stands before it and what stands after it.
use Prim.Native.Nat.{ℕ, ◌+◌, ◌-◌, ◌≤◌}
use native.Mathlib.Omega.{arith}
use mathlib.Core.Path.{◌≡◌, sym, ap, ap₂, ◌∙◌}
use mathlib.Core.List.{List, [], ◌++◌, append_assoc, append-nil}
use lib.ListN.{length, take, drop, length-append, length-drop, drop_of_length-le}
use lib.Seq.{take_all, take_at, drop_at, drop-drop}
use borrow.Rule.Slice.PartMut.{mid_of, put_mid}

-- d is x, and d₀ from there on.
module _ (x d₀ d : List ℕ) (a : ℕ) (e : d ≡ x ++ drop a d₀) (l : length x ≡ a) where
  pub mid_is : (n : ℕ) → mid_of a n d ≡ take n (drop a d₀)
  mid_is n = ap (λ u. take n (drop a u)) e ∙ ap (take n) (drop_at x (drop a d₀) a l)

  pub put_mid-tail : (n : ℕ) (p : List ℕ) → put_mid a n d p ≡ (x ++ p) ++ drop (a + n) d₀
  put_mid-tail n p =
      let e₁ : take a d ≡ x = ap (take a) e ∙ take_at x (drop a d₀) a l in
      let e₂ : drop a d ≡ drop a d₀ = ap (drop a) e ∙ drop_at x (drop a d₀) a l in
      ap₂ (λ u v. u ++ (p ++ v)) e₁ (ap (drop n) e₂ ∙ drop-drop n a d₀) ∙ sym (append_assoc x p (drop (a + n) d₀))

  -- All of d from a on is lent, and its front becomes s.
  pub put_front : (s p : List ℕ) → a + length s ≤ length d → p ≡ s ++ drop (length s) (mid_of a (length d - a) d) → put_mid a (length d - a) d p ≡ (x ++ s) ++ drop (a + length s) d₀
  put_front s p h g =
      let n : length d ≡ a + length (drop a d₀) = ap length e ∙ length-append x (drop a d₀) ∙ ap (λ k. k + length (drop a d₀)) l in
      let m : mid_of a (length d - a) d ≡ drop a d₀ = mid_is (length d - a) ∙ take_all (length d - a) (drop a d₀) (omega arith) in
      let q : p ≡ s ++ drop (a + length s) d₀ = g ∙ ap (λ u. s ++ drop (length s) u) m ∙ ap (λ u. s ++ u) (drop-drop (length s) a d₀) in
      let r : drop (a + (length d - a)) d₀ ≡ [] = drop_of_length-le d₀ {i = a + (length d - a)} (omega (arith, length-drop a d₀)) in
      put_mid-tail (length d - a) p
      ∙ ap₂ (λ u v. (x ++ u) ++ v) q r
      ∙ append-nil (x ++ (s ++ drop (a + length s) d₀))
      ∙ sym (append_assoc x s (drop (a + length s) d₀))
