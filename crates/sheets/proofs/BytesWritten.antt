-- Every element of what is written is a byte, where the choices are bytes.
use Prim.Native.Nat.{ℕ, zero, suc, ◌+◌, ◌*◌, ◌-◌, ◌/◌, ◌≤◌, ◌<◌}
use native.Mathlib.Nat.{mod-lt}
use native.Mathlib.Omega.{arith}
use mathlib.Core.Path.{◌≡◌, refl, sym, subst}
use mathlib.Core.Bool.{Bool, true, false}
use mathlib.Core.List.{List, [], ◌∷◌, ◌++◌}
use lib.Dec.{ltb}
use lib.IntN.{ℤ}
use lib.ListN.{length, take, drop, get_or, replicate, length-take, get_or-eq_default}
use lib.Seq.{get_or-drop, get_or-take}
use borrow.Author.Tests.{ltb-true, ltb-false}
use Rattle.blocks.specs.Bytes.{AllBytes, twos_complement, little_endian}
use Rattle.blocks.specs.Block.{with_word_sum}
use Rattle.sheets.specs.Layout.{sheet_block, blocks_for, sheet_bytes}
use Rattle.sheets.proofs.PiecesInOrder.{pieces, pieces_none, pieces_more}

-- As a record, so that the list is known from it.
pub record Small (l : List ℕ) : Type 0 where
  pub below : AllBytes l

nil : Small []
nil = record { below = λ i. omega arith }

cons : {x : ℕ} {l : List ℕ} → x < 256 → Small l → Small (x ∷ l)
cons {x} {l} h s = record { below = at }
  where
    at : (i : ℕ) → get_or (x ∷ l) i 0 < 256
    at zero = h
    at (suc i) = s.below i

append : (l r : List ℕ) → Small l → Small r → Small (l ++ r)
append [] r s t = t
append (x ∷ l) r s t = cons (s.below 0) (append l r (record { below = λ i. s.below (suc i) }) t)

dropped : (n : ℕ) (l : List ℕ) → Small l → Small (drop n l)
dropped n l s = record { below = λ i. subst (λ z. z < 256) (sym (get_or-drop n l i 0)) (s.below (n + i)) }

taken : (n : ℕ) (l : List ℕ) → Small l → Small (take n l)
taken n l s = record { below = λ i. by i (ltb i n) refl }
  where
    by : (i : ℕ) (t : Bool) → ltb i n ≡ t → get_or (take n l) i 0 < 256
    by i true q = subst (λ z. z < 256) (sym (get_or-take n l i 0 (ltb-true i n q))) (s.below i)
    by i false q = subst (λ z. z < 256) (sym (get_or-eq_default (take n l) 0 {n = i} (omega (arith, length-take n l, ltb-false i n q)))) (omega arith)

zeros : (n : ℕ) → Small (replicate n 0)
zeros zero = nil
zeros (suc n) = cons (omega arith) (zeros n)

number : (k x : ℕ) → Small (little_endian k x)
unfolding little_endian
number zero x = nil
number (suc k) x = cons (mod-lt x {m = 256} (omega arith)) (number k (x / 256))

block : (n start w k : ℕ) (cs : List ℕ) → n < 256 → start < 256 → k < 256 → Small cs → Small (sheet_block n start w k cs)
unfolding sheet_block with_word_sum
block n start w k cs hn hs hk s =
    let z : 0 < 256 = omega arith in
    append _ _
    (cons (omega arith) (cons hk (cons hn (cons hs (cons z (cons z (cons z (cons z (append _ _ (number 8 w) (append _ _ (number 2 (length cs)) (append _ _ s (zeros (492 - length cs))))))))))))) (number 2 _)

all_pieces : (f : ℕ → List ℕ) (n : ℕ) → ((k : ℕ) → k < n → Small (f k)) → Small (pieces f n)
all_pieces f zero h = subst Small (sym (pieces_none f)) nil
all_pieces f (suc n) h = subst Small (sym (pieces_more f n)) (append (pieces f n) (f n) (all_pieces f n (λ k l. h k (omega arith))) (h n (omega arith)))

pub sheet_small : (n start : ℕ) (z : ℤ) (cs : List ℕ) → n < 256 → start < 256 → length cs ≤ 1365 → Small cs → Small (sheet_bytes n start z cs)
unfolding sheet_bytes blocks_for
sheet_small n start z cs hn hs few s =
    let w : ℕ = twos_complement 63 z in
    all_pieces (λ k. sheet_block n start w k (take 490 (drop (490 * k) cs))) (blocks_for (length cs))
    (λ k l. block n start w k (take 490 (drop (490 * k) cs)) hn hs (omega arith) (taken 490 (drop (490 * k) cs) (dropped (490 * k) cs s)))
