-- Numbers as bytes, most significant byte first.
use Rattle.std.specs.Prelude.{ℕ, zero, suc, ◌+◌, ◌*◌, ◌/◌, ◌%◌, ◌<◌, List, [], ◌∷◌, ◌++◌, get_or}

-- The number that the w bytes from place i on spell.
unfoldable pub number_at : ℕ → List ℕ → ℕ → ℕ
number_at zero s i = 0
number_at (suc w) s i = number_at w s i * 256 + get_or s (i + w) 0

-- The number x in w bytes.
unfoldable pub bytes_of : ℕ → ℕ → List ℕ
bytes_of zero x = []
bytes_of (suc w) x = bytes_of w (x / 256) ++ (x % 256 ∷ [])

-- The numbers of v one after another, each in w bytes.
unfoldable pub fields_of : ℕ → List ℕ → List ℕ
fields_of w [] = []
fields_of w (x ∷ v) = bytes_of w x ++ fields_of w v

-- Every number of the list is a byte.
unfoldable pub Bytes : List ℕ → Type 0
Bytes s = (i : ℕ) → get_or s i 0 < 256
