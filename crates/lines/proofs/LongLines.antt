-- A line of 20 bytes or more is not readable: the longest that is has a letter and three numbers of 5 digits.
use Prim.Native.Nat.{ℕ, ◌+◌, ◌≤◌}
use mathlib.Core.Path.{◌≡◌, refl}
use mathlib.Core.Bool.{Bool, true, false, cond, ◌&&◌}
use mathlib.Core.List.{List, [], ◌∷◌}
use native.Mathlib.Omega.{arith}
use lib.Dec.{eqb}
use lib.ListN.{length, get_or}
use Rattle.std.proofs.lemmas.Bool.{eqb-true, and_parts}
use Rattle.std.specs.Prelude.{None}
use Rattle.lines.specs.Lines.{space, with_first, words, is_number, is_letter, read_send, read_arrival, read_release, read_words, read_step, read_numbers, read_opening}
use Rattle.lines.specs.Kept.{line_most}
use Rattle.lines.proofs.Numbers.{number_says}

-- ---- a line is as long as its words, each with the byte that ends it

abbrev span : List (List ℕ) → ℕ
span [] = 0
span (word ∷ others) = length word + 1 + span others

span_of_words : (line : List ℕ) → span (words line) ≡ length line + 1
unfolding words
span_of_words [] = refl
span_of_words (byte ∷ rest) = by_space (eqb byte space) (words rest) (span_of_words rest)
  where
    by_space : (is-space : Bool) (ws : List (List ℕ)) → span ws ≡ length rest + 1 → span (cond is-space ([] ∷ ws) (with_first byte ws)) ≡ length (byte ∷ rest) + 1
    by_space true ws e = omega arith
    by_space false [] e = absurd (omega arith)
    by_space false (word ∷ others) e = omega arith

-- ---- how long a number and a letter are

two_numbers : (a b : List ℕ) → (is_number a && is_number b) ≡ true → (is_number a ≡ true) × (is_number b ≡ true)
two_numbers a b e = and_parts (is_number a) (is_number b) e

three_numbers : (a b c : List ℕ) → (is_number a && is_number b && is_number c) ≡ true → (is_number a ≡ true) × (is_number b ≡ true) × (is_number c ≡ true)
three_numbers a b c e =
    let ab-c = and_parts (is_number a && is_number b) (is_number c) e in
    let a-b = two_numbers a b ab-c.0 in
    (a-b.0, a-b.1, ab-c.1)

number_short : (word : List ℕ) → is_number word ≡ true → length word ≤ 5
number_short word e = (number_says word e).few

letter_short : (letter : ℕ) (word : List ℕ) → is_letter letter word ≡ true → length word ≡ 1
letter_short letter word e = eqb-true _ _ (and_parts (eqb (length word) 1) (eqb (get_or word 0 0) letter) e).0

-- both ways lead to z
meets : {A : Type 0} {x y z : A} (test : Bool) → (test ≡ true → x ≡ z) → y ≡ z → cond test x y ≡ z
meets true x-is y-is = x-is refl
meets false x-is y-is = y-is

-- ---- long words are not readable

long_send : (ws : List (List ℕ)) → 19 ≤ span ws → read_send ws ≡ None
unfolding read_send
long_send [] h = refl
long_send (seat ∷ []) h = meets (is_number seat) (λ n. absurd (omega (arith, number_short seat n))) refl
long_send (seat ∷ kind ∷ []) h = meets _ (too_long 111) (meets _ (too_long 99) refl)
  where
    too_long : {A : Type 0} {x y : A} (letter : ℕ) → (is_number seat && is_letter letter kind) ≡ true → x ≡ y
    too_long letter e =
        let both = and_parts (is_number seat) (is_letter letter kind) e in
        absurd (omega (arith, number_short seat both.0, letter_short letter kind both.1))
long_send (seat ∷ kind ∷ more ∷ others) h = refl

long_arrival : (ws : List (List ℕ)) → 19 ≤ span ws → read_arrival ws ≡ None
unfolding read_arrival
long_arrival [] h = refl
long_arrival (seat ∷ []) h = refl
long_arrival (seat ∷ sender ∷ []) h = refl
long_arrival (seat ∷ sender ∷ number ∷ []) h =
    meets _
    (λ e.
    let each = three_numbers seat sender number e in
    absurd (omega (arith, number_short seat each.0, number_short sender each.1, number_short number each.2)))
    refl
long_arrival (seat ∷ sender ∷ number ∷ more ∷ others) h = refl

long_release : (ws : List (List ℕ)) → 19 ≤ span ws → read_release ws ≡ None
unfolding read_release
long_release [] h = refl
long_release (seat ∷ []) h = meets (is_number seat) (λ n. absurd (omega (arith, number_short seat n))) refl
long_release (seat ∷ more ∷ others) h = refl

long_words : (ws : List (List ℕ)) → 21 ≤ span ws → read_words ws ≡ None
unfolding read_words
long_words [] h = refl
long_words (letter ∷ others) h =
    meets (is_letter 115 letter) (λ e. long_send others (omega (arith, letter_short 115 letter e)))
    (meets (is_letter 97 letter) (λ e. long_arrival others (omega (arith, letter_short 97 letter e)))
    (meets (is_letter 114 letter) (λ e. long_release others (omega (arith, letter_short 114 letter e))) refl))

long_numbers : (ws : List (List ℕ)) → 21 ≤ span ws → read_numbers ws ≡ None
unfolding read_numbers
long_numbers [] h = refl
long_numbers (n ∷ []) h = refl
long_numbers (n ∷ slots ∷ []) h =
    meets _ (λ e. let both = two_numbers n slots e in absurd (omega (arith, number_short n both.0, number_short slots both.1))) refl
long_numbers (n ∷ slots ∷ more ∷ others) h = refl

-- ---- nor are long lines

pub long_step : (line : List ℕ) → line_most ≤ length line → read_step line ≡ None
long_step line h = long_words (words line) (omega (arith, span_of_words line))

pub long_opening : (line : List ℕ) → line_most ≤ length line → read_opening line ≡ None
long_opening line h = long_numbers (words line) (omega (arith, span_of_words line))
