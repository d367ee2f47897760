-- A test of each item of a list, as `all` makes it, is the test at each place.
use Prim.Native.Nat.{ℕ, zero, suc, ◌+◌, ◌≤◌, ◌<◌}
use native.Mathlib.Omega.{arith}
use native.Mathlib.Numerals.{add-one}
use mathlib.Core.Path.{◌≡◌, refl, sym, ap, ap₂, ◌∙◌}
use mathlib.Core.Bool.{Bool, true, false, ◌&&◌, false≢true}
use mathlib.Core.List.{List}
use lib.ListN.{get_or, length, take, drop}
use Rattle.std.specs.List.{list_all}
use Rattle.std.proofs.Common.{length-drop}
use Rattle.std.proofs.lemmas.List.{get_or-drop}
use Rattle.std.proofs.lemmas.List.Folds.{list_all_more}
use Rattle.logic.specs.Lists.{every}
use Rattle.logic.proofs.Tests.{every_at}

every_taken : (p f : ℕ → Bool) (l : List ℕ) (n : ℕ) → n ≤ length l → ((k : ℕ) → k < n → p (get_or l k 0) ≡ f k) → list_all p (take n l) ≡ every n f
unfolding every
every_taken p f l zero h e = refl
every_taken p f l (suc n) h e =
    ap (λ k. list_all p (take k l)) (sym (add-one n)) ∙ list_all_more p l n 0 (omega arith) ∙ ap₂ ◌&&◌ (every_taken p f l n (omega arith) (λ k g. e k (omega arith))) (e n (omega arith))

-- The n items from place a on.
pub every_listed : (p : ℕ → Bool) (l : List ℕ) (a n : ℕ) → a + n ≤ length l → list_all p (take n (drop a l)) ≡ every n (λ k. p (get_or l (a + k) 0))
every_listed p l a n h = every_taken p (λ k. p (get_or l (a + k) 0)) (drop a l) n (omega (arith, length-drop a l)) (λ k g. ap p (get_or-drop a l k 0))

-- A test that one fails is not passed by all.
pub every_stopped : (f : ℕ → Bool) (n i : ℕ) → i < n → f i ≡ false → every n f ≡ false
every_stopped f n i h e = go (every n f) refl
  where
    go : (t : Bool) → every n f ≡ t → every n f ≡ false
    go true k = absurd (false≢true (sym e ∙ every_at f n k h))
    go false k = k
