-- Vectors: lists of 16 numbers. The entry of seat k stands at index k - 1, and those above n are 0.
use Rattle.std.specs.Prelude.{ℕ, zero, suc, ◌-◌, ◌<◌, max, ◌≡◌, Bool, true, cond, ◌&&◌, ◌||◌, List, [], ◌∷◌, ◌++◌, leb, ltb, eqb, length, get_or, replicate}
use Rattle.answers.specs.declared.SeatNo.{SeatNo}

-- The most seats that a session has.
abbrev pub seats_most : ℕ
seats_most = 16

-- Whether a test holds of every index below n.
unfoldable pub all : ℕ → (ℕ → Bool) → Bool
all zero test = true
all (suc n) test = all n test && test n

-- The numbers f 0, f 1, up to f (n - 1).
unfoldable pub table : ℕ → (ℕ → ℕ) → List ℕ
table zero f = []
table (suc n) f = table n f ++ (f n ∷ [])

-- The vector with f k at each index k below n, and 0 above.
unfoldable pub vector : ℕ → (ℕ → ℕ) → List ℕ
vector n f = table seats_most (λ k. cond (ltb k n) (f k) 0)

abbrev pub zeros : List ℕ
zeros = replicate seats_most 0

-- The entry of a seat.
abbrev pub entry : List ℕ → SeatNo → ℕ
entry v seat = get_or v (seat.0 - 1) 0

-- a[k] ≤ b[k] for each k.
unfoldable pub within : List ℕ → List ℕ → Bool
within a b = all seats_most (λ k. leb (get_or a k 0) (get_or b k 0))

-- a[k] equals b[k] for each k.
unfoldable pub same : List ℕ → List ℕ → Bool
same a b = all seats_most (λ k. eqb (get_or a k 0) (get_or b k 0))

-- Every entry above n is 0.
unfoldable pub zero_above : ℕ → List ℕ → Bool
zero_above n v = all seats_most (λ k. ltb k n || eqb (get_or v k 0) 0)

-- The entrywise maximum.
unfoldable pub maxes : List ℕ → List ℕ → List ℕ
maxes a b = vector seats_most (λ k. max (get_or a k 0) (get_or b k 0))

-- A vector of counts: 16 of them, each of 16 bits.
pub record Counts (v : List ℕ) : Type 0 where
  pub long : length v ≡ seats_most
  pub fits : (k : ℕ) → get_or v k 0 < 65536
