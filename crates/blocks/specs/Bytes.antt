-- Numbers stored in bytes. Document 01, "Blocks of 512 bytes": multi-byte fields are little_endian, signed ones in two's complement.
use Rattle.std.specs.Prelude.{ℕ, zero, suc, ◌+◌, ◌*◌, ◌-◌, ◌^◌, ◌/◌, ◌%◌, ◌<◌, Bool, cond, ◌&&◌, List, [], ◌∷◌, eqb, ltb, leb, ℤ, pos, negsuc, get_or}
use Rattle.logic.specs.Lists.{every}

abbrev pub Bytes : Type 0
Bytes = List ℕ

-- The byte at a place; 0 past the end.
abbrev pub byte : Bytes → ℕ → ℕ
byte b i = get_or b i 0

-- Every element is a byte: the lists here are of any numbers.
abbrev pub AllBytes : Bytes → Type 0
AllBytes b = (i : ℕ) → byte b i < 256

unfoldable pub u16 : Bytes → ℕ → ℕ
u16 b i = byte b i + 256 * byte b (i + 1)

unfoldable pub u32 : Bytes → ℕ → ℕ
u32 b i = u16 b i + 65536 * u16 b (i + 2)

unfoldable pub u64 : Bytes → ℕ → ℕ
u64 b i = u32 b i + 4294967296 * u32 b (i + 4)

-- The number that x stands for in two's complement of k + 1 bits.
unfoldable pub signed : ℕ → ℕ → ℤ
signed k x = cond (ltb x (2 ^ k)) (pos x) (negsuc (2 ^ (k + 1) - 1 - x))

unfoldable pub i16 : Bytes → ℕ → ℤ
i16 b i = signed 15 (u16 b i)

unfoldable pub i32 : Bytes → ℕ → ℤ
i32 b i = signed 31 (u32 b i)

unfoldable pub i64 : Bytes → ℕ → ℤ
i64 b i = signed 63 (u64 b i)

-- The number of k + 1 bits that stands for z in two's complement: `signed` the other way round, of every z that k + 1 bits hold (proved:
-- `signed_twos`).
unfoldable pub twos_complement : ℕ → ℤ → ℕ
twos_complement k (pos x) = x
twos_complement k (negsuc x) = 2 ^ (k + 1) - 1 - x

-- The lowest k bytes of a number, little_endian.
unfoldable pub little_endian : ℕ → ℕ → Bytes
little_endian zero x = []
little_endian (suc k) x = x % 256 ∷ little_endian k (x / 256)

-- The n bytes from a place on are zero.
unfoldable pub zeros : Bytes → ℕ → ℕ → Bool
zeros b from n = every n (λ i. eqb (byte b (from + i)) 0)

unfoldable pub within : ℕ → ℕ → ℕ → Bool
within least most x = leb least x && leb x most
