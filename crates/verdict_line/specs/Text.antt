-- Texts, as the ASCII codes of their characters, and where they stand in a buffer.
use Rattle.std.specs.Prelude.{ℕ, zero, suc, ◌+◌, ◌/◌, ◌%◌, ◌≡◌, cond, List, [], ◌∷◌, ◌++◌, ltb, ℤ, pos, negsuc, length}
use Prim.Native.Char.{code}
use Prim.Native.String.{String, [] as nothing, ◌∷◌ as ◌before◌}
use Rattle.blocks.specs.Splice.{splice}

unfoldable pub text : String → List ℕ
text nothing = []
text (c before s) = code c ∷ text s

abbrev pub digit : ℕ → ℕ
digit d = code "0" + d

-- A number in decimal with no leading zeros, if k digits are enough for it.
unfoldable pub decimal_in : ℕ → ℕ → List ℕ
decimal_in zero n = []
decimal_in (suc k) n = cond (ltb n 10) (digit n ∷ []) (decimal_in k (n / 10) ++ (digit (n % 10) ∷ []))

-- 20 digits are enough for 64 bits. That these are the digits that `io::decimal` writes is proved (`Decimal`).
unfoldable pub decimal : ℕ → List ℕ
decimal n = decimal_in 20 n

-- An integer: where it is below 0, a minus and how far it is below.
unfoldable pub signed_decimal : ℤ → List ℕ
signed_decimal (pos n) = decimal n
signed_decimal (negsuc n) = text "-" ++ decimal (n + 1)

-- A number after a text.
abbrev pub numbered : String → ℕ → List ℕ
numbered s n = text s ++ decimal n

-- x is written into a buffer at a place; the place after it.
pub record Put (x : List ℕ) (out out' : List ℕ) (at at' : ℕ) : Type 0 where
  pub wrote : out' ≡ splice out at x
  pub next : at' ≡ at + length x
