-- The line that answers a step (document 01, "The step-list program"): step number, answer, sender, sequence number.
use Rattle.std.specs.Prelude.{ℕ, zero, suc, ◌+◌, ◌/◌, ◌%◌, ◌≡◌, cond, List, [], ◌∷◌, ◌++◌, ltb, length}
use Rattle.std.proofs.lemmas.List.Edits.{sets}
use Rattle.lines.specs.Lines.{space, line_feed}

-- A decimal digit.
abbrev pub digit_of : ℕ → ℕ
digit_of d = 48 + d

-- A number in decimal, with no leading zeros. 20 digits hold every number of 64 bits.
unfoldable pub decimal_from : ℕ → ℕ → List ℕ
decimal_from zero n = []
decimal_from (suc more) n = cond (ltb n 10) (digit_of n ∷ []) (decimal_from more (n / 10) ++ (digit_of (n % 10) ∷ []))

abbrev pub decimal : ℕ → List ℕ
decimal n = decimal_from 20 n

-- The answer line: single spaces, and a line feed at the end.
abbrev pub spaced : ℕ → List ℕ
spaced n = space ∷ decimal n

unfoldable pub answer_line : ℕ → ℕ → ℕ → ℕ → List ℕ
answer_line number answer sender edit = decimal number ++ spaced answer ++ spaced sender ++ spaced edit ++ (line_feed ∷ [])

-- The longest answer line: 20, 3, 3 and 5 digits, with three spaces and the line feed.
abbrev pub answer_most : ℕ
answer_most = 35

-- What writing does: these bytes stand at `at` and on, and `next` is the place after them.
pub record Wrote (before : List ℕ) (at : ℕ) (bytes : List ℕ) (next : ℕ) (after : List ℕ) : Type 0 where
  pub ends : next ≡ at + length bytes
  pub holds : after ≡ sets before at bytes
