-- What a line says, by its words. A number and a letter have no space, so a word that is one is the last.
use Prim.Native.Nat.{ℕ, suc, ◌≤◌, ◌<◌}
use mathlib.Core.Path.{◌≡◌, refl, sym, ap, ◌∙◌}
use mathlib.Core.Bool.{Bool, true, false, cond, ◌&&◌}
use mathlib.Core.List.{List, [], ◌∷◌}
use native.Mathlib.Omega.{arith}
use lib.Dec.{eqb}
use lib.ListN.{length, get_or, take}
use lib.Seq.{length-take-le}
use Rattle.std.proofs.lemmas.Bool.{eqb-true, and_parts}
use Rattle.std.specs.Prelude.{Option, Some, None, option_map, option_and_then}
use Rattle.std.proofs.lemmas.Bool.{false_from_ne_true}
use Rattle.lines.specs.Lines.{space, with_first, words, is_number, number_in, number_of, is_letter, letter_of, read_send, read_arrival, read_release, read_words, read_step, read_numbers, read_opening}
use Rattle.lines.specs.declared.Opening.{Opening}
use Rattle.lines.specs.declared.Letter.{Letter}
use Rattle.lines.specs.declared.Letter.TheVariants.{Ordinary, Causal}
use Rattle.lines.specs.declared.Step.{Step}
use Rattle.lines.specs.declared.Step.TheVariants.{Send, Arrive, Release}
use Rattle.lines.proofs.Numbers.{number_says}

-- ---- one word, or more

-- every line has a word
some_word : (line : List ℕ) → (word : List ℕ) × (others : List (List ℕ)) × (words line ≡ word ∷ others)
unfolding words
some_word [] = ([], [], refl)
some_word (byte ∷ rest) = by_space (eqb byte space) (some_word rest)
  where
    by_space : (is-space : Bool) → (word : List ℕ) × (others : List (List ℕ)) × (words rest ≡ word ∷ others)
        → (word : List ℕ) × (others : List (List ℕ)) × (cond is-space ([] ∷ words rest) (with_first byte (words rest)) ≡ word ∷ others)
    by_space true (word, others, e) = ([], words rest, refl)
    by_space false (word, others, e) = (byte ∷ word, others, ap (with_first byte) e)

data Worded : List ℕ → Type 0 where
  one : {line : List ℕ} → words line ≡ line ∷ [] → Worded line
  more : {line : List ℕ} (k : ℕ) → k < length line → get_or line k 0 ≡ space → (first next : List ℕ) (others : List (List ℕ))
      → words line ≡ first ∷ next ∷ others → Worded line

worded : (line : List ℕ) → Worded line
unfolding words
worded [] = one refl
worded (byte ∷ rest) = by_space (eqb byte space) refl (worded rest)
  where
    by_space : (is-space : Bool) → eqb byte space ≡ is-space → Worded rest → Worded (byte ∷ rest)
    by_space true e so = let s = some_word rest in more 0 (omega arith) (eqb-true byte space e) [] s.0 s.1 (rw (e, s.2))
    by_space false e (one w) = one (rw (e, w))
    by_space false e (more k h at first next others w) = more (suc k) (omega arith) at (byte ∷ first) next others (rw (e, w))

pub word_long : (line : List ℕ) (end : ℕ) → end ≤ length line → end ≡ length (take end line)
word_long line end inside = sym (length-take-le end line inside)

-- a word with a space is no number and no letter
spaced_number : (word : List ℕ) (k : ℕ) → k < length word → get_or word k 0 ≡ space → is_number word ≡ false
spaced_number word k h at = false_from_ne_true (is_number word) (λ e. absurd (omega (arith, (number_says word e).digits_low k h)))

spaced_letter : (letter : ℕ) → space < letter → (word : List ℕ) (k : ℕ) → k < length word → get_or word k 0 ≡ space → is_letter letter word ≡ false
spaced_letter letter low word k h at =
    false_from_ne_true (is_letter letter word)
    (λ e.
    let both = and_parts (eqb (length word) 1) (eqb (get_or word 0 0) letter) e in
    let first : k ≡ 0 = omega (arith, eqb-true _ _ both.0) in
    let is : get_or word k 0 ≡ letter = ap (λ (i : ℕ). get_or word i 0) first ∙ eqb-true _ _ both.1 in
    absurd (omega arith))

-- ---- the letter r

by_number : {A : Type 0} (number : Bool) (f : ℕ → A) (value : ℕ) → cond number (Some (f value)) None ≡ option_map f (cond number (Some value) None)
by_number true f value = refl
by_number false f value = refl

pub release_is : (rest : List ℕ) → read_release (words rest) ≡ option_map Release (number_of rest)
unfolding read_release
release_is rest = by_words (worded rest)
  where
    by_words : Worded rest → read_release (words rest) ≡ option_map Release (number_of rest)
    by_words (one w) = rw w (by_number (is_number rest) Release (number_in rest))
    by_words (more k h at first next others w) = rw (w, spaced_number rest k h at)

-- ---- the letter s

pub send_alone : (rest : List ℕ) → words rest ≡ rest ∷ [] → read_send (words rest) ≡ option_map (λ n. Send n None) (number_of rest)
unfolding read_send
send_alone rest w = rw w (by_number (is_number rest) (λ n. Send n None) (number_in rest))

-- the seat is read after the letter
abbrev pub send_of : Option Letter → Option ℕ → Option Step
send_of letter seat = option_and_then (λ l. option_map (λ n. Send n (Some l)) seat) letter

by_letter : (number o c : Bool) (seat : ℕ)
    → cond (number && o) (Some (Send seat (Some Ordinary))) (cond (number && c) (Some (Send seat (Some Causal))) None)
    ≡ send_of (cond o (Some Ordinary) (cond c (Some Causal) None)) (cond number (Some seat) None)
by_letter true true c seat = refl
by_letter true false true seat = refl
by_letter true false false seat = refl
by_letter false true c seat = refl
by_letter false false true seat = refl
by_letter false false false seat = refl

pub send_is : (rest seat kind : List ℕ) → words rest ≡ seat ∷ words kind → read_send (words rest) ≡ send_of (letter_of kind) (number_of seat)
unfolding read_send
send_is rest seat kind first = by_words (worded kind)
  where
    by_words : Worded kind → read_send (words rest) ≡ send_of (letter_of kind) (number_of seat)
    by_words (one w) = rw (first, w) (by_letter (is_number seat) (is_letter 111 kind) (is_letter 99 kind) (number_in seat))
    by_words (more k h at word next others w) =
        rw (first, w, spaced_letter 111 (omega arith) kind k h at, spaced_letter 99 (omega arith) kind k h at)

-- ---- the letter a

-- the numbers are read one after another
abbrev pub two_of : {A : Type 0} → (ℕ → ℕ → A) → Option ℕ → Option ℕ → Option A
two_of f first second = option_and_then (λ a. option_map (λ b. f a b) second) first

abbrev pub three_of : {A : Type 0} → (ℕ → ℕ → ℕ → A) → Option ℕ → Option ℕ → Option ℕ → Option A
three_of f first second third = option_and_then (λ a. two_of (λ b c. f a b c) second third) first

by_two : {A : Type 0} (a b : Bool) (f : ℕ → ℕ → A) (x y : ℕ) → cond (a && b) (Some (f x y)) None ≡ two_of f (cond a (Some x) None) (cond b (Some y) None)
by_two true b f x y = by_number b (f x) y
by_two false b f x y = refl

by_three : {A : Type 0} (a b c : Bool) (f : ℕ → ℕ → ℕ → A) (x y z : ℕ)
    → cond (a && b && c) (Some (f x y z)) None ≡ three_of f (cond a (Some x) None) (cond b (Some y) None) (cond c (Some z) None)
by_three true b c f x y z = by_two b c (f x) y z
by_three false b c f x y z = refl

-- where the last is none, so are all
two_none : {A : Type 0} (f : ℕ → ℕ → A) (first : Option ℕ) → two_of f first None ≡ None
two_none f None = refl
two_none f (Some a) = refl

three_none : {A : Type 0} (f : ℕ → ℕ → ℕ → A) (first second : Option ℕ) → three_of f first second None ≡ None
three_none f None second = refl
three_none f (Some a) second = two_none (f a) second

pub arrival_of_one : (rest : List ℕ) → words rest ≡ rest ∷ [] → read_arrival (words rest) ≡ None
unfolding read_arrival
arrival_of_one rest w = rw w

module _ (rest seat others : List ℕ) (first : words rest ≡ seat ∷ words others) where
  pub arrival_of_two : words others ≡ others ∷ [] → read_arrival (words rest) ≡ None
  unfolding read_arrival
  arrival_of_two w = rw (first, w)

  pub arrival_is : (sender number : List ℕ) → words others ≡ sender ∷ words number
      → read_arrival (words rest) ≡ three_of Arrive (number_of seat) (number_of sender) (number_of number)
  unfolding read_arrival
  arrival_is sender number second = by_words (worded number)
    where
      by_words : Worded number → read_arrival (words rest) ≡ three_of Arrive (number_of seat) (number_of sender) (number_of number)
      by_words (one w) =
          rw (first, second, w)
          (by_three (is_number seat) (is_number sender) (is_number number) Arrive (number_in seat) (number_in sender) (number_in number))
      by_words (more k h at word next more_words w) =
          rw (first, second, w, spaced_number number k h at) (sym (three_none Arrive (number_of seat) (number_of sender)))

-- ---- a line

by_letters : (s a r : Bool) → cond s (read_send []) (cond a (read_arrival []) (cond r (read_release []) None)) ≡ None
unfolding read_send read_arrival read_release
by_letters true a r = refl
by_letters false true r = refl
by_letters false false true = refl
by_letters false false false = refl

pub step_of_one : (line : List ℕ) → words line ≡ line ∷ [] → read_step line ≡ None
unfolding read_words
step_of_one line e = ap read_words e ∙ by_letters (is_letter 115 line) (is_letter 97 line) (is_letter 114 line)

pub step_is : (line letter rest : List ℕ) → words line ≡ letter ∷ words rest
    → read_step line
    ≡ cond (is_letter 115 letter) (read_send (words rest)) (cond (is_letter 97 letter) (read_arrival (words rest)) (cond (is_letter 114 letter) (read_release (words rest)) None))
unfolding read_words
step_is line letter rest first = rw first

-- ---- line one

abbrev pub opening : ℕ → ℕ → Opening
opening n slots = record { n = n; slots = slots }

module _ (line : List ℕ) where
  pub opening_of_one : words line ≡ line ∷ [] → read_opening line ≡ None
  unfolding read_numbers
  opening_of_one w = rw w

  pub opening_is : (n slots : List ℕ) → words line ≡ n ∷ words slots → read_opening line ≡ two_of opening (number_of n) (number_of slots)
  unfolding read_numbers
  opening_is n slots first = by_words (worded slots)
    where
      by_words : Worded slots → read_opening line ≡ two_of opening (number_of n) (number_of slots)
      by_words (one w) = rw (first, w) (by_two (is_number n) (is_number slots) opening (number_in n) (number_in slots))
      by_words (more k h at word next others w) = rw (first, w, spaced_number slots k h at) (sym (two_none opening (number_of n)))
