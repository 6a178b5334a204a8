-- Laws of decimal numbers: what a number's digits are, and how large its value can be.
use Prim.Native.Nat.{ℕ, zero, suc, ◌+◌, ◌*◌, ◌-◌, ◌^◌, ◌≤◌, ◌<◌}
use mathlib.Core.Path.{◌≡◌, refl, sym, ap, ◌∙◌}
use mathlib.Core.Bool.{Bool, true, ◌&&◌}
use mathlib.Core.List.{List}
use native.Mathlib.Nat.{pow-suc}
use native.Mathlib.Numerals.{add-one}
use native.Mathlib.Omega.{arith}
use lib.Dec.{leb}
use lib.ListN.{length, get_or, take}
use lib.Seq.{take_all}
use Rattle.std.specs.List.{list_all}
use Rattle.std.proofs.lemmas.List.Folds.{list_all_more}
use Rattle.std.proofs.lemmas.Bool.{leb-true, and_parts}
use Rattle.vectors.proofs.Every.{all_at}
use Rattle.vectors.specs.Vectors.{all}
use Rattle.lines.specs.Lines.{is_digit, digits_alone, is_number, value_of}

-- the digits in order, and by index
listed : (word : List ℕ) (k : ℕ) → k ≤ length word → list_all (λ byte. is_digit byte) (take k word) ≡ all k (λ i. is_digit (get_or word i 0))
unfolding all
listed word zero h = refl
listed word (suc k) h =
    ap (λ (n : ℕ). list_all (λ byte. is_digit byte) (take n word)) (sym (add-one k))
    ∙ list_all_more (λ byte. is_digit byte) word k 0 (omega arith)
    ∙ ap (λ (b : Bool). b && is_digit (get_or word k 0)) (listed word k (omega arith))

pub listed_digits : (word : List ℕ) → list_all (λ byte. is_digit byte) word ≡ digits_alone word
unfolding digits_alone
listed_digits word =
    ap (list_all (λ byte. is_digit byte)) (sym (take_all (length word) word (omega arith))) ∙ listed word (length word) (omega arith)

-- a number of 1 to 5 digits
pub record IsNumber (word : List ℕ) : Type 0 where
  pub some : 1 ≤ length word
  pub few : length word ≤ 5
  pub digits_low : (k : ℕ) → k < length word → 48 ≤ get_or word k 0
  pub digits_high : (k : ℕ) → k < length word → get_or word k 0 ≤ 57

module _ (word : List ℕ) where
  pub number_says : is_number word ≡ true → IsNumber word
  unfolding is_number digits_alone
  number_says e =
      let ab = and_parts (leb 1 (length word) && leb (length word) 5) (digits_alone word) e in
      let a = and_parts (leb 1 (length word)) (leb (length word) 5) ab.0 in
      let digit : (k : ℕ) → k < length word → is_digit (get_or word k 0) ≡ true = λ k h. all_at _ (length word) k ab.1 h in
      record {
        some = leb-true _ _ a.0;
        few = leb-true _ _ a.1;
        digits_low = λ k h. leb-true _ _ (and_parts (leb 48 (get_or word k 0)) _ (digit k h)).0;
        digits_high = λ k h. leb-true _ _ (and_parts (leb 48 (get_or word k 0)) _ (digit k h)).1;
      }

  -- the value of k digits has at most k digits
  value_fits : IsNumber word → (k : ℕ) → k ≤ length word → value_of k word < 10 ^ k
  unfolding value_of
  value_fits n zero h = omega arith
  value_fits n (suc k) h =
      let less = value_fits n k (omega arith) in
      let high = n.digits_high k (omega arith) in
      omega (arith, pow-suc 10 k)

four_digits : (k : ℕ) → k ≤ 4 → 10 ^ k ≤ 10000
four_digits zero h = omega arith
four_digits (suc zero) h = omega arith
four_digits (suc (suc zero)) h = omega arith
four_digits (suc (suc (suc zero))) h = omega arith
four_digits (suc (suc (suc (suc zero)))) h = omega arith
four_digits (suc (suc (suc (suc (suc k))))) h = absurd (omega arith)

-- so there is room for one digit more
pub value_has_room : (word : List ℕ) → IsNumber word → (k : ℕ) → k < length word → value_of k word < 10000
value_has_room word n k h = let few = n.few in omega (arith, value_fits word n k (omega arith), four_digits k (omega arith))

-- one digit more
pub value_more : (word : List ℕ) (k : ℕ) → value_of k word * 10 + (get_or word k 0 - 48) ≡ value_of (k + 1) word
unfolding value_of
value_more word k = rw add-one
