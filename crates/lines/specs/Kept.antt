-- What is known of a line while its bytes come in one by one.
use Rattle.std.specs.Prelude.{ℕ, ◌<◌, ◌≡◌, List, [], ◌∷◌, length, get_or}
use Rattle.lines.specs.Lines.{line_feed, lines_of}

-- A line is kept only so far: a readable one is shorter.
abbrev pub line_most : ℕ
line_most = 20

-- No line ends in these bytes.
pub record NoFeed (bytes : List ℕ) : Type 0 where
  pub none : (k : ℕ) → k < length bytes → get_or bytes k 0 ≡ line_feed → ⊥

-- The first line of a text, and the lines after it.
abbrev pub first_of : List (List ℕ) → List ℕ
first_of [] = []
first_of (line ∷ others) = line

abbrev pub others_of : List (List ℕ) → List (List ℕ)
others_of [] = []
others_of (line ∷ others) = others

unfoldable pub first_line : List ℕ → List ℕ
first_line text = first_of (lines_of text)

unfoldable pub other_lines : List ℕ → List (List ℕ)
other_lines text = others_of (lines_of text)
