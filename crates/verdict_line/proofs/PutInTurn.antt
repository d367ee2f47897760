-- Texts in a buffer: what two writes put in, one behind the other, is what they put in together.
use Prim.Native.Nat.{ℕ, suc, ◌+◌, ◌-◌, ◌^◌, ◌≤◌, ◌<◌}
use native.Mathlib.Numerals.{add-one}
use native.Mathlib.Omega.{arith}
use mathlib.Core.Path.{◌≡◌, refl, sym, ap, ap₂, subst, ◌∙◌}
use mathlib.Core.List.{List, [], ◌++◌, flat_map, append-nil}
use lib.ListN.{length, get_or, take, drop, length-append, length-drop, drop_of_length-le}
use lib.Seq.{drop-drop, take-suc, take_all}
use borrow.Rule.Slice.PartMut.{mid_of, put_mid}
use Rattle.io.specs.Digits.{last_digits, IsDigitCount}
use Rattle.blocks.specs.Splice.{splice}
use Rattle.blocks.proofs.Splice.{splice_none, splice_behind, take_written}
use Rattle.verdict_line.specs.Text.{decimal, numbered, Put}
use Rattle.verdict_line.proofs.Decimal.{decimal_is, few_digits}
use Rattle.logic.proofs.Naturals.{flat_map_last}

-- ---- writes

pub put_as : {x y out out' : List ℕ} {at at' : ℕ} → x ≡ y → Put x out out' at at' → Put y out out' at at'
put_as {x} {y} {out} {out'} {at} {at'} e p = subst (λ z. Put z out out' at at') e p

pub put_none : (out : List ℕ) (at : ℕ) → Put [] out out at at
put_none out at = record { wrote = sym (splice_none out at); next = omega arith }

pub put_put : {x y o₀ o₁ o₂ : List ℕ} {a₀ a₁ a₂ : ℕ} → Put x o₀ o₁ a₀ a₁ → Put y o₁ o₂ a₁ a₂ → a₂ ≤ length o₀ → Put (x ++ y) o₀ o₂ a₀ a₂
put_put {x} {y} {o₀} {o₁} {o₂} {a₀} {a₁} {a₂} p q h =
    record {
      wrote = q.wrote ∙ ap₂ (λ o a. splice o a y) p.wrote p.next ∙ splice_behind o₀ a₀ x y (omega (arith, p.next, q.next));
      next = omega (arith, p.next, q.next, length-append x y);
    }

-- A text copied to the front of the part from a place on.
pub put_part : (x out part : List ℕ) (at : ℕ) → at + length x ≤ length out → part ≡ x ++ drop (length x) (mid_of at (length out - at) out)
    → Put x out (put_mid at (length out - at) out part) at (at + length x)
unfolding splice
put_part x out part at h e =
    let m : List ℕ = drop at out in
    let n : length m ≡ length out - at = length-drop at out in
    let mid : mid_of at (length out - at) out ≡ m = take_all (length out - at) m (omega arith) in
    let behind : drop (length out - at) m ≡ [] = drop_of_length-le m {i = length out - at} (omega arith) in
    record {
      wrote =
          ap₂ (λ p r. take at out ++ (p ++ r)) (e ∙ ap (λ m. x ++ drop (length x) m) mid) behind
          ∙ ap (λ z. take at out ++ z) (append-nil (x ++ drop (length x) m) ∙ ap (λ z. x ++ z) (drop-drop (length x) at out));
      next = refl;
    }

-- What is printed of a buffer that begins with a line.
pub put_line : {x out out' : List ℕ} {r : ℕ} → Put x out out' 0 r → (r ≤ length out') × (take r out' ≡ x)
unfolding splice
put_line {x} {out} {out'} {r} p =
    let n : r ≡ length x = omega (arith, p.next) in
    let e : out' ≡ x ++ drop (0 + length x) out = p.wrote in
    (omega (arith, ap length e, length-append x (drop (0 + length x) out)), ap₂ take p.next p.wrote ∙ take_written out 0 x (omega arith))

-- ---- numbers and choices

-- A number below 10 to the j + 1 takes at most j + 1 digits.
pub number_room : (j n : ℕ) (x : List ℕ) {out out' : List ℕ} {at at' : ℕ} → n < 10 ^ suc j → Put (x ++ decimal n) out out' at at' → at' ≤ at + (length x + suc j)
number_room j n x h p = omega (arith, p.next, length-append x (decimal n), few_digits j n h)

-- What `io::decimal` puts at the front of `digits` is the number.
pub decimal_put : (n r : ℕ) (l : List ℕ) {out out' : List ℕ} {at at' : ℕ} → n < 10 ^ 20 → IsDigitCount 10 1 n r → take r l ≡ last_digits 10 r n
    → Put (take r l) out out' at at' → Put (decimal n) out out' at at'
decimal_put n r l {out} {out'} {at} {at'} h f e p = subst (λ x. Put x out out' at at') (e ∙ decimal_is n r h f) p

-- The first i choices.
abbrev pub ChoicesPut : (cs out₀ out : List ℕ) (at next i : ℕ) → Type 0
ChoicesPut cs out₀ out at next i = Put (flat_map (numbered " ") (take i cs)) out₀ out at next

pub choices_more : (cs : List ℕ) (i : ℕ) {out₀ out out' : List ℕ} {at next next' : ℕ} → i < length cs → next' ≤ length out₀
    → ChoicesPut cs out₀ out at next i → Put (numbered " " (get_or cs i 0)) out out' next next' → ChoicesPut cs out₀ out' at next' (i + 1)
choices_more cs i {out₀} {out} {out'} {at} {next} {next'} l h p q =
    rw (add-one i, take-suc cs i 0 l, flat_map_last (numbered " ") (take i cs) (get_or cs i 0)) (put_put p q h)

pub choices_all : (cs : List ℕ) (i : ℕ) {out₀ out : List ℕ} {at next : ℕ} → i ≡ length cs → ChoicesPut cs out₀ out at next i
    → Put (flat_map (numbered " ") cs) out₀ out at next
choices_all cs i {out₀} {out} {at} {next} e p =
    subst (λ l. Put (flat_map (numbered " ") l) out₀ out at next) (take_all i cs (omega arith)) p
