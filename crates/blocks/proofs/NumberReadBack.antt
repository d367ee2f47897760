-- Numbers in bytes: the bytes of a number, lowest first, read back as the number.
use Prim.Native.Nat.{ℕ, zero, suc, ◌+◌, ◌*◌, ◌-◌, ◌/◌, ◌%◌, ◌^◌, ◌≤◌, ◌<◌}
use native.Mathlib.Nat.{mod-eq_of_lt}
use native.Mathlib.Omega.{arith}
use mathlib.Core.Path.{◌≡◌, refl, sym, ap, ap₂, ◌∙◌}
use mathlib.Core.List.{List, [], ◌∷◌, ◌++◌, append_assoc, append-nil}
use lib.ListN.{length, take, drop, get_or, set}
use lib.Seq.{get_or-drop, take_all}
use Rattle.std.proofs.lemmas.List.{take_more_set}
use Rattle.blocks.specs.Bytes.{AllBytes, u16, u32, u64, little_endian}

pub length_bytes : (k x : ℕ) → length (little_endian k x) ≡ k
unfolding little_endian
length_bytes zero x = refl
length_bytes (suc k) x = ap suc (length_bytes k (x / 256))

-- What a loop over the places of a number's bytes has written, and after it the bytes of `rest`, what is left of the number: the next byte
-- that it writes is the lowest of these.
pub one_byte_more : (l : List ℕ) (i n rest : ℕ) → i < n → i < length l
    → take (i + 1) (set l i (rest % 256)) ++ little_endian (n - (i + 1)) (rest / 256) ≡ take i l ++ little_endian (n - i) rest
unfolding little_endian
one_byte_more l i n rest below inside =
    let left : n - i ≡ suc (n - (i + 1)) = omega arith in
    rw (take_more_set, left) (append_assoc (take i l) (rest % 256 ∷ []) (little_endian (n - (i + 1)) (rest / 256)))

-- At the end no byte of `rest` is left.
pub all_bytes : (l : List ℕ) (i n rest : ℕ) → length l ≤ i → n ≤ i → l ≡ take i l ++ little_endian (n - i) rest
unfolding little_endian
all_bytes l i n rest all none =
    let left : n - i ≡ 0 = omega arith in
    rw (left, append-nil) (sym (take_all i l all))

-- Words of the same bytes are the same.
pub same_16 : (b l : List ℕ) (i j : ℕ) → get_or b i 0 ≡ get_or l j 0 → get_or b (i + 1) 0 ≡ get_or l (j + 1) 0 → u16 b i ≡ u16 l j
unfolding u16
same_16 b l i j p q = ap₂ (λ x y. x + 256 * y) p q

-- A word of bytes is below 65,536.
pub word_small : (b : List ℕ) → AllBytes b → (at : ℕ) → u16 b at < 65536
unfolding u16
word_small b h at = omega (arith, h at, h (at + 1))

-- A number of eight bytes is below 2 to the 64.
pub number_small : (b : List ℕ) → AllBytes b → (at : ℕ) → u64 b at < 2 ^ 64
unfolding u64 u32
number_small b h at = omega (arith, word_small b h at, word_small b h (at + 2), word_small b h (at + 4), word_small b h (at + 4 + 2))

-- The number that a number's lowest 2, 4 and 8 bytes make.
pub two_bytes : (x : ℕ) → x % 256 + 256 * (x / 256 % 256) ≡ x % 65536
two_bytes x = omega arith

four_bytes : (x : ℕ) → x % 65536 + 65536 * (x / 256 / 256 % 65536) ≡ x % 4294967296
four_bytes x = omega arith

eight_bytes : (x : ℕ) → x < 18446744073709551616 → x % 4294967296 + 4294967296 * (x / 256 / 256 / 256 / 256 % 4294967296) ≡ x
eight_bytes x h = omega arith

-- A field of 2 or of 8 bytes at a place, where the bytes from there on begin with a number's.
pub reads_16 : (b t : List ℕ) (i x : ℕ) → x < 65536 → drop i b ≡ little_endian 2 x ++ t → u16 b i ≡ x
unfolding u16 little_endian
reads_16 b t i x h e =
    let at : (j : ℕ) → get_or b (i + j) 0 ≡ get_or (little_endian 2 x ++ t) j 0 = λ j. sym (get_or-drop i b j 0) ∙ ap (λ l. get_or l j 0) e in
    let z : i + 0 ≡ i = omega arith in
    ap₂ (λ u v. u + 256 * v) (ap (λ k. get_or b k 0) (sym z) ∙ at 0) (at 1) ∙ two_bytes x ∙ mod-eq_of_lt h

pub reads_64 : (b t : List ℕ) (i x : ℕ) → x < 18446744073709551616 → drop i b ≡ little_endian 8 x ++ t → u64 b i ≡ x
unfolding u64 u32 u16 little_endian
reads_64 b t i x h e =
    let at : (j : ℕ) → get_or b (i + j) 0 ≡ get_or (little_endian 8 x ++ t) j 0 = λ j. sym (get_or-drop i b j 0) ∙ ap (λ l. get_or l j 0) e in
    let word : (j : ℕ) (y : ℕ) → get_or (little_endian 8 x ++ t) j 0 ≡ y % 256 → get_or (little_endian 8 x ++ t) (j + 1) 0 ≡ y / 256 % 256 → u16 b (i + j) ≡ y % 65536 =
    λ j y p q. let z : i + j + 1 ≡ i + (j + 1) = omega arith in ap₂ (λ u v. u + 256 * v) (at j ∙ p) (ap (λ k. get_or b k 0) z ∙ at (j + 1) ∙ q) ∙ two_bytes y in
    let z₀ : i ≡ i + 0 = omega arith in
    let z₆ : i + 4 + 2 ≡ i + 6 = omega arith in
    ap₂ (λ u v. u + 4294967296 * v)
    (ap₂ (λ u v. u + 65536 * v) (ap (u16 b) z₀ ∙ word 0 x refl refl) (word 2 (x / 256 / 256) refl refl) ∙ four_bytes x)
    (ap₂ (λ u v. u + 65536 * v) (word 4 (x / 256 / 256 / 256 / 256) refl refl) (ap (u16 b) z₆ ∙ word 6 (x / 256 / 256 / 256 / 256 / 256 / 256) refl refl) ∙ four_bytes (x / 256 / 256 / 256 / 256))
    ∙ eight_bytes x h
