-- The digits that `io::decimal` writes are those of the definition, and there are few of them: each step takes the last digit away.
use Prim.Native.Nat.{ℕ, zero, suc, ◌-◌, ◌/◌, ◌%◌, ◌^◌, ◌≤◌, ◌<◌}
use native.Mathlib.Decide.{dec_lt}
use native.Mathlib.Nat.{pow-suc, mod-lt, mod-eq_of_lt, div-lt_iff_lt-mul, le-div_iff_mul-le, one-le-pow, pow-le-pow_right}
use native.Mathlib.Omega.{arith}
use mathlib.Core.Path.{◌≡◌, refl, sym, ap, ap₂, subst, ◌∙◌}
use mathlib.Core.List.{[], ◌∷◌, ◌++◌}
use lib.ListN.{length, length-append}
use borrow.Author.Tests.{lt-ltb, le-ltb}
use Rattle.io.specs.Digits.{hex_digit_ascii, last_digits, IsDigitCount}
use Rattle.verdict_line.specs.Text.{digit, decimal_in, decimal}

-- ---- one digit, and one digit more

module _ (k n : ℕ) where
  decimal_one : n < 10 → decimal_in (suc k) n ≡ digit n ∷ []
  unfolding decimal_in
  decimal_one h = rw (lt-ltb n 10 h) refl

  decimal_more : 10 ≤ n → decimal_in (suc k) n ≡ decimal_in k (n / 10) ++ (digit (n % 10) ∷ [])
  unfolding decimal_in
  decimal_more h = rw (le-ltb n 10 h) refl

glyph_digit : (d : ℕ) → d < 10 → hex_digit_ascii d ≡ digit d
glyph_digit d h = rw (lt-ltb d 10 h) refl

-- ---- the digits are those of `io::decimal`

module _ (n j : ℕ) (f : IsDigitCount 10 1 n (suc (suc j))) where
  no_fewer : 10 ^ suc j ≤ n
  no_fewer = let e : suc (suc j) - 1 ≡ suc j = omega arith in subst (λ i. 10 ^ i ≤ n) e (f.2 (omega arith))

  two_digits : 10 ≤ n
  two_digits = omega (arith, no_fewer, pow-suc 10 j, one-le-pow j 10 (omega arith))

  -- Without the last digit.
  shorter : IsDigitCount 10 1 (n / 10) (suc j)
  shorter =
      let e : suc j - 1 ≡ j = omega arith in
      let low : 10 ^ j ≤ n / 10 = (le-div_iff_mul-le {k = 10} (omega arith)).1 (rw pow-suc at no_fewer) in (
        omega arith,
        (div-lt_iff_lt-mul {k = 10} (omega arith)).1 (rw pow-suc at f.1),
        λ h. subst (λ i. 10 ^ i ≤ n / 10) (sym e) low,
      )

digits_decimal : (k r n : ℕ) → r ≤ k → IsDigitCount 10 1 n r → last_digits 10 r n ≡ decimal_in k n
digits_decimal k zero n h f = absurd (omega (arith, f.0))
digits_decimal zero (suc r) n h f = absurd (omega arith)
digits_decimal (suc k) (suc zero) n h f =
    let low : n < 10 = f.1 in
    ap (λ d. d ∷ []) (ap hex_digit_ascii (mod-eq_of_lt low) ∙ glyph_digit n low) ∙ sym (decimal_one k n low)
digits_decimal (suc k) (suc (suc j)) n h f =
    ap₂ (λ l d. l ++ (d ∷ [])) (digits_decimal k (suc j) (n / 10) (omega arith) (shorter n j f)) (glyph_digit (n % 10) (mod-lt n {m = 10} (omega arith)))
    ∙ sym (decimal_more k n (two_digits n j f))

pub few_places : (j n r : ℕ) → n < 10 ^ suc j → IsDigitCount 10 1 n r → r ≤ suc j
few_places j n r h f = go (dec_lt (suc j) r)
  where
    go : Dec (suc j < r) → r ≤ suc j
    go (no l) = omega arith
    go (yes l) = absurd (omega (arith, f.2 (omega arith), pow-le-pow_right {n = 10} (omega arith) {i = suc j} {j = r - 1} (omega arith)))

-- What `io::decimal` writes.
pub decimal_is : (n r : ℕ) → n < 10 ^ 20 → IsDigitCount 10 1 n r → last_digits 10 r n ≡ decimal n
unfolding decimal
decimal_is n r h f = digits_decimal 20 r n (few_places 19 n r h f) f

-- ---- how many there are

few_more : (k j n : ℕ) → n < 10 ^ suc j → ((i : ℕ) → n / 10 < 10 ^ suc i → length (decimal_in k (n / 10)) ≤ suc i)
    → Dec (n < 10) → length (decimal_in (suc k) n) ≤ suc j
few_more k j n h less (yes l) = rw (decimal_one k n l) (omega arith)
few_more k zero n h less (no l) = absurd (l h)
few_more k (suc i) n h less (no l) =
    rw (decimal_more k n (omega arith), length-append)
    (omega (arith, less i ((div-lt_iff_lt-mul {k = 10} (omega arith)).1 (rw pow-suc at h))))

few_in : (k j n : ℕ) → n < 10 ^ suc j → length (decimal_in k n) ≤ suc j
unfolding decimal_in
few_in zero j n h = omega arith
few_in (suc k) j n h = few_more k j n h (λ i. few_in k i (n / 10)) (dec_lt n 10)

pub few_digits : (j n : ℕ) → n < 10 ^ suc j → length (decimal n) ≤ suc j
unfolding decimal
few_digits = few_in 20
