-- Numbers in records: unsigned, the high byte first. A byte past the end counts as 0.
use Rattle.std.specs.Prelude.{ℕ, ◌+◌, ◌*◌, ◌/◌, ◌%◌, List, [], ◌∷◌, ◌++◌, get_or}

-- the number of two bytes at an offset
unfoldable pub u16_at : List ℕ → ℕ → ℕ
u16_at b i = get_or b i 0 * 256 + get_or b (i + 1) 0

-- the number of four bytes at an offset
unfoldable pub u32_at : List ℕ → ℕ → ℕ
u32_at b i = u16_at b i * 65536 + u16_at b (i + 2)

-- the two bytes of a number below 65,536
unfoldable pub u16_bytes : ℕ → List ℕ
u16_bytes v = v / 256 ∷ v % 256 ∷ []

-- the four bytes of a number below 4,294,967,296
unfoldable pub u32_bytes : ℕ → List ℕ
unfolding u16_bytes
u32_bytes v = u16_bytes (v / 65536) ++ u16_bytes (v % 65536)
