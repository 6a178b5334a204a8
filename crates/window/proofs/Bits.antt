-- Laws of a word's bits: of a word moved down, of an or, of a power of two, and of the ones below the first zero.
use Prim.Native.Nat.{ℕ, zero, suc, ◌+◌, ◌-◌, ◌/◌, ◌%◌, ◌^◌, ◌≤◌, ◌<◌, max, zero-le}
use mathlib.Core.Path.{◌≡◌, refl, sym, ap, ◌∙◌}
use mathlib.Core.Bool.{true, false, cond, not, ◌||◌}
use mathlib.Core.Logic.{◌⊎◌, inl, inr, ⊎_elim}
use native.Mathlib.Nat.{not-suc-le-zero, pow-suc, div-one, zero-div, div-eq_of_lt, div-eq_of_lt-le, lt_of_lt_of_le}
use native.Mathlib.Numerals.{one-add}
use native.Mathlib.Omega.{arith}
use lib.Arith.{lt-one, digits_mod}
use lib.Bits.{bit_or, or_shr, or_step}
use lib.Count.{count_trailing_zeros, under}
use lib.Dec.{eqb, eqb-zero-suc, eqb-suc-zero, eqb-suc-suc}
use lib.Pow.{pow_mono, shr-shr}
use Rattle.std.proofs.lemmas.Bool.{cases_Bool}
use Rattle.window.specs.Window.{bit, trailing_ones}

digit : (d : ℕ) → d < 2 → (d ≡ 0) ⊎ (d ≡ 1)
digit zero h = inl refl
digit (suc d) h = inr (omega arith)

-- ---- one bit

pub lowest_bit : (word : ℕ) → bit word 0 ≡ eqb (word % 2) 1
unfolding bit
lowest_bit word = rw div-one

pub even_is_clear : (word : ℕ) → eqb (word % 2) 0 ≡ not (bit word 0)
even_is_clear word = rw lowest_bit (⊎_elim (λ e. rw e) (λ e. rw e) (digit (word % 2) (omega arith)))

pub bit_moved : (word t j : ℕ) → bit (word / 2 ^ t) j ≡ bit word (t + j)
unfolding bit
bit_moved word t j = rw shr-shr

bit_next : (word j : ℕ) → bit word (suc j) ≡ bit (word / 2) j
bit_next word j = rw (← one-add j) (sym (bit_moved word 1 j))

pub bit_none : (j : ℕ) → bit 0 j ≡ false
unfolding bit
bit_none j = rw zero-div

-- a word has no bit above its width, and the highest is set
pub bit_above : (word k j : ℕ) → word < 2 ^ k → k ≤ j → bit word j ≡ false
unfolding bit
bit_above word k j h l = rw (div-eq_of_lt (lt_of_lt_of_le h (pow_mono l)))

pub highest_is_set : (word j : ℕ) → 2 ^ j ≤ word → word < 2 ^ suc j → bit word j ≡ true
unfolding bit
highest_is_set word j h l =
    let one : word / 2 ^ j ≡ 1 = div-eq_of_lt-le {k = 1} (2 ^ j) (omega arith) (omega (arith, pow-suc 2 j)) in
    rw one

-- ---- an or, and a power of two

max_is_or : (d e : ℕ) → d < 2 → e < 2 → eqb (max d e) 1 ≡ (eqb d 1 || eqb e 1)
max_is_or d e h l =
    ⊎_elim (λ (a : d ≡ 0). ⊎_elim (λ (b : e ≡ 0). rw (a, b)) (λ (b : e ≡ 1). rw (a, b)) (digit e l))
    (λ (a : d ≡ 1). ⊎_elim (λ (b : e ≡ 0). rw (a, b)) (λ (b : e ≡ 1). rw (a, b)) (digit e l)) (digit d h)

lowest_of_or : (x y : ℕ) → bit_or x y % 2 ≡ max (x % 2) (y % 2)
lowest_of_or x y = ap (λ (n : ℕ). n % 2) (or_step x y) ∙ digits_mod (bit_or (x / 2) (y / 2)) (omega arith)

pub bit_of_or : (x y j : ℕ) → bit (bit_or x y) j ≡ (bit x j || bit y j)
unfolding bit
bit_of_or x y j = rw (or_shr x y j, lowest_of_or (x / 2 ^ j) (y / 2 ^ j)) (max_is_or (x / 2 ^ j % 2) (y / 2 ^ j % 2) (omega arith) (omega arith))

-- the one bit of a power of two
pub bit_power : (b j : ℕ) → bit (2 ^ b) j ≡ eqb j b
bit_power zero zero = lowest_bit 1
bit_power zero (suc j) = bit_next 1 j ∙ bit_none j ∙ sym (eqb-suc-zero j)
bit_power (suc b) zero =
    let even : 2 ^ suc b % 2 ≡ 0 = omega (arith, pow-suc 2 b) in
    lowest_bit (2 ^ suc b) ∙ rw even (sym (eqb-zero-suc b))
bit_power (suc b) (suc j) =
    let half : 2 ^ suc b / 2 ≡ 2 ^ b = omega (arith, pow-suc 2 b) in
    bit_next (2 ^ suc b) j ∙ rw half (bit_power b j ∙ sym (eqb-suc-suc j b))

-- ---- the ones below the first zero

ones_more : (k word : ℕ) → bit word 0 ≡ true → trailing_ones (suc k) word ≡ suc (trailing_ones k (word / 2))
unfolding trailing_ones
ones_more k word e = rw e

ones_end : (k word : ℕ) → bit word 0 ≡ false → trailing_ones (suc k) word ≡ 0
unfolding trailing_ones
ones_end k word e = rw e

pub ones_at_most : (k word : ℕ) → trailing_ones k word ≤ k
unfolding trailing_ones
ones_at_most zero word = zero-le
ones_at_most (suc k) word =
    ⊎_elim (λ e. omega (arith, ones_more k word e, ones_at_most k (word / 2))) (λ e. omega (arith, ones_end k word e)) (cases_Bool (bit word 0))

pub ones_are_set : (k word j : ℕ) → j < trailing_ones k word → bit word j ≡ true
unfolding trailing_ones
ones_are_set zero word j h = absurd (not-suc-le-zero h)
ones_are_set (suc k) word zero h = ⊎_elim (λ e. e) (λ e. absurd (omega (arith, ones_end k word e))) (cases_Bool (bit word 0))
ones_are_set (suc k) word (suc j) h =
    ⊎_elim (λ e. bit_next word j ∙ ones_are_set k (word / 2) j (omega (arith, ones_more k word e))) (λ e. absurd (omega (arith, ones_end k word e)))
    (cases_Bool (bit word 0))

pub next_is_clear : (k word : ℕ) → word < 2 ^ k → bit word (trailing_ones k word) ≡ false
unfolding trailing_ones
next_is_clear zero word h = rw (lt-one h) (bit_none 0)
next_is_clear (suc k) word h =
    ⊎_elim (λ e. rw (ones_more k word e) (bit_next word (trailing_ones k (word / 2)) ∙ next_is_clear k (word / 2) (omega (arith, pow-suc 2 k))))
    (λ e. rw (ones_end k word e) e) (cases_Bool (bit word 0))

-- they are the complement's zeros
under_complement : (d t : ℕ) → d < 2 → under (1 - d) t ≡ cond (eqb d 1) (suc t) 0
under_complement d t h = ⊎_elim (λ e. rw e) (λ e. rw e) (digit d h)

pub zeros_of_complement : (k word : ℕ) → word < 2 ^ k → count_trailing_zeros k ((2 ^ k - 1) - word) ≡ trailing_ones k word
unfolding count_trailing_zeros trailing_ones
zeros_of_complement zero word h = refl
zeros_of_complement (suc k) word h =
    let last : ((2 ^ suc k - 1) - word) % 2 ≡ 1 - word % 2 = omega (arith, pow-suc 2 k) in
    let half : ((2 ^ suc k - 1) - word) / 2 ≡ (2 ^ k - 1) - word / 2 = omega (arith, pow-suc 2 k) in
    let rest = zeros_of_complement k (word / 2) (omega (arith, pow-suc 2 k)) in
    rw (last, half, rest, lowest_bit word) (under_complement (word % 2) (trailing_ones k (word / 2)) (omega arith))
