-- The lines of a step list (document 01, "The step-list program"). A line is the bytes before its line feed.
use Rattle.std.specs.Prelude.{ℕ, zero, suc, ◌+◌, ◌*◌, ◌-◌, Bool, cond, ◌&&◌, List, [], ◌∷◌, leb, eqb, length, get_or, Option, Some, None}
use Rattle.vectors.specs.Vectors.{all}
use Rattle.lines.specs.declared.Letter.{Letter}
use Rattle.lines.specs.declared.Letter.TheVariants.{Ordinary, Causal}
use Rattle.lines.specs.declared.Step.{Step}
use Rattle.lines.specs.declared.Step.TheVariants.{Send, Arrive, Release}
use Rattle.lines.specs.declared.Opening.{Opening}

-- A line feed, a space, and the letters.
abbrev pub line_feed : ℕ
line_feed = 10

abbrev pub space : ℕ
space = 32

abbrev pub letter_s : ℕ
letter_s = 115

abbrev pub letter_a : ℕ
letter_a = 97

abbrev pub letter_r : ℕ
letter_r = 114

abbrev pub letter_o : ℕ
letter_o = 111

abbrev pub letter_c : ℕ
letter_c = 99

-- One byte more at the start of the first piece.
abbrev pub with_first : ℕ → List (List ℕ) → List (List ℕ)
with_first byte [] = (byte ∷ []) ∷ []
with_first byte (piece ∷ others) = (byte ∷ piece) ∷ others

-- The lines of a step list: each ends in a line feed, which the last may lack.
unfoldable pub lines_of : List ℕ → List (List ℕ)
lines_of [] = []
lines_of (byte ∷ rest) = cond (eqb byte line_feed) ([] ∷ lines_of rest) (with_first byte (lines_of rest))

-- The words of a line: what stands before, between and after its spaces.
unfoldable pub words : List ℕ → List (List ℕ)
words [] = [] ∷ []
words (byte ∷ rest) = cond (eqb byte space) ([] ∷ words rest) (with_first byte (words rest))

-- A decimal digit, and a word of digits alone.
abbrev pub is_digit : ℕ → Bool
is_digit byte = leb 48 byte && leb byte 57

unfoldable pub digits_alone : List ℕ → Bool
digits_alone word = all (length word) (λ k. is_digit (get_or word k 0))

-- A word is a decimal number of 1 to 5 digits.
unfoldable pub is_number : List ℕ → Bool
is_number word = leb 1 (length word) && leb (length word) 5 && digits_alone word

-- The value of the first k digits.
unfoldable pub value_of : ℕ → List ℕ → ℕ
value_of zero word = 0
value_of (suc k) word = value_of k word * 10 + (get_or word k 0 - 48)

abbrev pub number_in : List ℕ → ℕ
number_in word = value_of (length word) word

-- The number that a word is, if it is one.
abbrev pub number_of : List ℕ → Option ℕ
number_of word = cond (is_number word) (Some (number_in word)) None

-- A word is this one letter.
abbrev pub is_letter : ℕ → List ℕ → Bool
is_letter letter word = eqb (length word) 1 && eqb (get_or word 0 0) letter

-- The letter of a kind.
abbrev pub letter_of : List ℕ → Option Letter
letter_of word = cond (is_letter letter_o word) (Some Ordinary) (cond (is_letter letter_c word) (Some Causal) None)

-- What the words after the letter s say: a seat, and the kind's letter, which may be missing.
unfoldable pub read_send : List (List ℕ) → Option Step
read_send (seat ∷ []) = cond (is_number seat) (Some (Send (number_in seat) None)) None
read_send (seat ∷ kind ∷ []) =
    cond (is_number seat && is_letter letter_o kind) (Some (Send (number_in seat) (Some Ordinary)))
    (cond (is_number seat && is_letter letter_c kind) (Some (Send (number_in seat) (Some Causal))) None)
read_send [] = None
read_send (seat ∷ kind ∷ more ∷ others) = None

-- After the letter a: a seat, a sender and a number.
unfoldable pub read_arrival : List (List ℕ) → Option Step
read_arrival (seat ∷ sender ∷ number ∷ []) =
    cond (is_number seat && is_number sender && is_number number) (Some (Arrive (number_in seat) (number_in sender) (number_in number))) None
read_arrival [] = None
read_arrival (seat ∷ []) = None
read_arrival (seat ∷ sender ∷ []) = None
read_arrival (seat ∷ sender ∷ number ∷ more ∷ others) = None

-- After the letter r: a seat.
unfoldable pub read_release : List (List ℕ) → Option Step
read_release (seat ∷ []) = cond (is_number seat) (Some (Release (number_in seat))) None
read_release [] = None
read_release (seat ∷ more ∷ others) = None

-- A line after the first: a letter, then what it asks for.
unfoldable pub read_words : List (List ℕ) → Option Step
read_words [] = None
read_words (letter ∷ others) =
    cond (is_letter letter_s letter) (read_send others)
    (cond (is_letter letter_a letter) (read_arrival others)
    (cond (is_letter letter_r letter) (read_release others) None))

abbrev pub read_step : List ℕ → Option Step
read_step line = read_words (words line)

-- Line one: n and the slot count of every shelf.
unfoldable pub read_numbers : List (List ℕ) → Option Opening
read_numbers (n ∷ slots ∷ []) = cond (is_number n && is_number slots) (Some (record { n = number_in n; slots = number_in slots })) None
read_numbers [] = None
read_numbers (n ∷ []) = None
read_numbers (n ∷ slots ∷ more ∷ others) = None

abbrev pub read_opening : List ℕ → Option Opening
read_opening line = read_numbers (words line)
