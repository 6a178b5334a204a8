-- Laws of numbers in decimal: the last digit, and how many digits there are.
use Prim.Native.Nat.{ℕ, zero, suc, ◌+◌, ◌/◌, ◌%◌, ◌^◌, ◌≤◌, ◌<◌}
use mathlib.Core.Path.{◌≡◌, refl, sym, ap, ◌∙◌}
use mathlib.Core.Bool.{Bool, true, false}
use mathlib.Core.Logic.{◌⊎◌, inl, inr}
use mathlib.Core.List.{List, [], ◌∷◌, ◌++◌}
use native.Mathlib.Nat.{pow-suc}
use native.Mathlib.Omega.{arith}
use lib.Dec.{ltb}
use lib.ListN.{length, length-append}
use borrow.Author.Tests.{ltb-true, ltb-false, lt-ltb, le-ltb}
use Rattle.lines.specs.AnswerLine.{digit_of, decimal_from, decimal}

-- ---- over the number of digits that there is room for

one_or_more : (n : ℕ) → (n < 10) ⊎ (10 ≤ n)
one_or_more n = by_test (ltb n 10) refl
  where
    by_test : (test : Bool) → ltb n 10 ≡ test → (n < 10) ⊎ (10 ≤ n)
    by_test true e = inl (ltb-true n 10 e)
    by_test false e = inr (ltb-false n 10 e)

one : (more n : ℕ) → n < 10 → decimal_from (suc more) n ≡ digit_of n ∷ []
unfolding decimal_from
one more n h = rw (lt-ltb n 10 h)

last : (more n : ℕ) → 10 ≤ n → decimal_from (suc more) n ≡ decimal_from more (n / 10) ++ (digit_of (n % 10) ∷ [])
unfolding decimal_from
last more n h = rw (le-ltb n 10 h)

-- the number without its last digit has a digit less
shorter : (k n : ℕ) → n < 10 ^ suc k → n / 10 < 10 ^ k
shorter k n h = omega (arith, pow-suc 10 k)

-- room for more digits than the number has changes nothing
more_room : (k n : ℕ) → n < 10 ^ suc k → decimal_from (suc (suc k)) n ≡ decimal_from (suc k) n
more_room zero n h = one 1 n (omega arith) ∙ sym (one 0 n (omega arith))
more_room (suc k) n h = by_size (one_or_more n) (more_room k (n / 10) (shorter (suc k) n h))
  where
    by_size : (n < 10) ⊎ (10 ≤ n) → decimal_from (suc (suc k)) (n / 10) ≡ decimal_from (suc k) (n / 10) → decimal_from (suc (suc (suc k))) n ≡ decimal_from (suc (suc k)) n
    by_size (inl small) rest = one (suc (suc k)) n small ∙ sym (one (suc k) n small)
    by_size (inr large) rest =
        last (suc (suc k)) n large ∙ ap (λ (high : List ℕ). high ++ (digit_of (n % 10) ∷ [])) rest ∙ sym (last (suc k) n large)

few_digits : (more k n : ℕ) → n < 10 ^ suc k → length (decimal_from more n) ≤ suc k
unfolding decimal_from
few_digits zero k n h = omega arith
few_digits (suc more) k n h = by_size k h (one_or_more n) (λ j g. few_digits more j (n / 10) g)
  where
    by_size : (k : ℕ) → n < 10 ^ suc k → (n < 10) ⊎ (10 ≤ n) → ((j : ℕ) → n / 10 < 10 ^ suc j → length (decimal_from more (n / 10)) ≤ suc j)
        → length (decimal_from (suc more) n) ≤ suc k
    by_size k h (inl small) rest = omega (arith, ap length (one more n small))
    by_size zero h (inr large) rest = absurd (omega arith)
    by_size (suc k) h (inr large) rest =
        omega (arith, ap length (last more n large), length-append (decimal_from more (n / 10)) (digit_of (n % 10) ∷ []), rest k (shorter (suc k) n h))

-- ---- a number of 64 bits

pub decimal_short : (k n : ℕ) → n < 10 ^ suc k → length (decimal n) ≤ suc k
decimal_short k n h = few_digits 20 k n h

pub one_digit : (n : ℕ) → n < 10 → decimal n ≡ digit_of n ∷ []
one_digit n h = one 19 n h

module _ (n : ℕ) (large : 10 ≤ n) (fits : n < 10 ^ 20) where
  pub last_digit : decimal n ≡ decimal (n / 10) ++ (digit_of (n % 10) ∷ [])
  last_digit = sym (more_room 19 n fits) ∙ last 20 n large

  pub digit_more : length (decimal n) ≡ length (decimal (n / 10)) + 1
  digit_more = ap length last_digit ∙ length-append (decimal (n / 10)) (digit_of (n % 10) ∷ [])
