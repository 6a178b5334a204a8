-- Laws of zeros: bytes that are all zero, and the number that gathers them.
use Prim.Native.Nat.{ℕ, zero, suc, ◌+◌, ◌-◌, ◌≤◌, ◌<◌}
use mathlib.Core.Path.{◌≡◌, refl, sym, ap, ap₂, ◌∙◌}
use mathlib.Core.Bool.{Bool, true, false, ◌&&◌, and-true, and_assoc}
use native.Mathlib.Numerals.{one-add}
use native.Mathlib.Nat.{add-zero, zero-add, sub-zero}
use lib.Bits.{bit_or}
use Rattle.std.specs.List.{fold, list_all, range_with_len}
use Rattle.std.proofs.lemmas.List.Folds.{list_all-append}
use Rattle.vectors.proofs.Tests.{or_is_zero}
use mathlib.Core.List.{List, [], ◌∷◌, ◌++◌}
use native.Mathlib.Decide.{dec_lt}
use native.Mathlib.Omega.{arith}
use lib.Dec.{eqb}
use lib.ListN.{length, get_or, take, drop, length-drop, replicate, length-append, length-take, length-replicate, get_or-replicate, take-append-drop, get_or-eq_default}
use lib.Seq.{length-take-le, ext_get_or, get_or-take, get_or-drop}
use borrow.Author.Tests.{eqb-true, eq-eqb, ne_eqb}
use Rattle.vectors.specs.Vectors.{all}
use Rattle.vectors.proofs.Every.{all_at, all_of, all_fails, all_same, all_split}
use Rattle.shelf.specs.Shelf.{all_zero}

module _ (s : List ℕ) where
  -- what is all zero is 0 everywhere, and the other way round
  pub all_zero_at : (k : ℕ) → all_zero s ≡ true → get_or s k 0 ≡ 0
  unfolding all_zero
  all_zero_at k e =
      elim (dec_lt k (length s)) [
        | yes inside ↦ eqb-true (get_or s k 0) 0 (all_at (λ j. eqb (get_or s j 0) 0) (length s) k e inside)
        | no past ↦ get_or-eq_default s 0 (omega arith)
      ]

  pub all_zero_of : ((k : ℕ) → k < length s → get_or s k 0 ≡ 0) → all_zero s ≡ true
  unfolding all_zero
  all_zero_of each = all_of (λ j. eqb (get_or s j 0) 0) (length s) (λ k h. eq-eqb (get_or s k 0) 0 (each k h))

  pub one_byte_not_zero : (k : ℕ) → k < length s → (get_or s k 0 ≡ 0 → ⊥) → all_zero s ≡ false
  unfolding all_zero
  one_byte_not_zero k h some = all_fails (λ j. eqb (get_or s j 0) 0) (length s) k h (ne_eqb (get_or s k 0) 0 some)

  pub first_byte_not_zero : 0 < length s → (get_or s 0 0 ≡ 0 → ⊥) → all_zero s ≡ false
  first_byte_not_zero h some = one_byte_not_zero 0 h some

  pub all_zero_are_zeros : all_zero s ≡ true → s ≡ replicate (length s) 0
  all_zero_are_zeros e =
      ext_get_or 0 s (replicate (length s) 0) (sym (length-replicate (length s) 0)) (λ k h. all_zero_at k e ∙ sym (get_or-replicate (length s) k 0 0 h))

-- the first places, and the part after them
pub all_zero_parts : (s : List ℕ) (at : ℕ) → at ≤ length s
    → all_zero s ≡ (all at (λ k. eqb (get_or s k 0) 0) && all_zero (take (length s - at) (drop at s)))
unfolding all_zero
all_zero_parts s at h =
    let test : ℕ → Bool = λ k. eqb (get_or s k 0) 0 in
    let rest = length s - at in
    let whole : length s ≡ at + rest = omega arith in
    let long : length (take rest (drop at s)) ≡ rest = length-take-le rest (drop at s) (omega (arith, length-drop at s)) in
    ap (λ (n : ℕ). all n test) whole
    ∙ all_split at rest test
    ∙ ap (λ (t : Bool). all at test && t)
    (all_same rest _ _ (λ k less. ap (λ (x : ℕ). eqb x 0) (sym (get_or-take rest (drop at s) k 0 less ∙ get_or-drop at s k 0)))
    ∙ ap (λ (n : ℕ). all n (λ k. eqb (get_or (take rest (drop at s)) k 0) 0)) (sym long))

pub zeros_are_all_zero : (n : ℕ) → all_zero (replicate n 0) ≡ true
zeros_are_all_zero n = all_zero_of (replicate n 0) (λ k h. get_or-replicate n k 0 0 (rw length-replicate at h))

pub part_is_all_zero : (s : List ℕ) (n from : ℕ) → all_zero s ≡ true → all_zero (take n (drop from s)) ≡ true
part_is_all_zero s n from e = all_zero_of (take n (drop from s)) each
  where
    each : (k : ℕ) → k < length (take n (drop from s)) → get_or (take n (drop from s)) k 0 ≡ 0
    each k h =
        let less : k < n = omega (arith, length-take n (drop from s)) in
        get_or-take n (drop from s) k 0 less ∙ get_or-drop from s k 0 ∙ all_zero_at s (from + k) e

-- a list that is all zero from place m on is its first m numbers, and zeros to its end
pub zeros_to_the_end : (s : List ℕ) (m : ℕ) → all_zero (drop m s) ≡ true → s ≡ take m s ++ replicate (length s - length (take m s)) 0
zeros_to_the_end s m rest =
    let both : length (take m s) + length (drop m s) ≡ length s = sym (length-append (take m s) (drop m s)) ∙ ap length (take-append-drop m s) in
    let many : length (drop m s) ≡ length s - length (take m s) = omega arith in
    sym (take-append-drop m s) ∙ ap (λ (l : List ℕ). take m s ++ l) (all_zero_are_zeros (drop m s) rest ∙ ap (λ (n : ℕ). replicate n 0) many)

-- ---- gathered

-- the first byte, and those after it
all_zero_first : (x : ℕ) (s : List ℕ) → all_zero (x ∷ s) ≡ (eqb x 0 && all_zero s)
unfolding all_zero all
all_zero_first x s = ap (λ (n : ℕ). all n (λ k. eqb (get_or (x ∷ s) k 0) 0)) (sym (one-add (length s))) ∙ all_split 1 (length s) (λ k. eqb (get_or (x ∷ s) k 0) 0)
    ∙ ap (λ (t : Bool). eqb x 0 && t) (all_same (length s) (λ k. eqb (get_or (x ∷ s) (1 + k) 0) 0) (λ k. eqb (get_or s k 0) 0) (λ k h. rw (one-add k)))

gathered_onto : (x : ℕ) (s : List ℕ) → eqb (fold bit_or x s) 0 ≡ (eqb x 0 && all_zero s)
unfolding all_zero all
gathered_onto x [] = sym (and-true (eqb x 0))
gathered_onto x (y ∷ s) =
    gathered_onto (bit_or x y) s ∙ ap (λ (t : Bool). t && all_zero s) (or_is_zero x y) ∙ and_assoc (eqb x 0) (eqb y 0) (all_zero s)
    ∙ ap (λ (t : Bool). eqb x 0 && t) (sym (all_zero_first y s))

-- bytes gathered in one are 0 exactly where each of them is
pub gathered_zero : (s : List ℕ) → eqb (fold bit_or 0 s) 0 ≡ all_zero s
gathered_zero s = gathered_onto 0 s

-- the same over any items: one item more
pub gathered_one_more : {A : Type 0} (test : A → Bool) (items : List A) (item : A) (before x next : ℕ) → eqb before 0 ≡ list_all test items → eqb x 0 ≡ test item → next ≡ bit_or before x
    → eqb next 0 ≡ list_all test (items ++ (item ∷ []))
gathered_one_more test items item before x next so here e =
    ap (λ (n : ℕ). eqb n 0) e ∙ or_is_zero before x ∙ ap₂ ◌&&◌ so (here ∙ sym (and-true (test item))) ∙ sym (list_all-append test items (item ∷ []))

-- a test of each number of a range
listed_from : (a n : ℕ) (test : ℕ → Bool) → list_all test (range_with_len a n) ≡ all n (λ k. test (a + k))
unfolding all
listed_from a zero test = refl
listed_from a (suc n) test =
    ap (λ (t : Bool). test a && t) (listed_from (a + 1) n test ∙ all_same n _ _ (λ k h. ap test (omega arith)))
    ∙ ap (λ (i : ℕ). test i && all n (λ k. test (a + (1 + k)))) (sym (add-zero a))
    ∙ sym (all_split 1 n (λ k. test (a + k))) ∙ ap (λ (m : ℕ). all m (λ k. test (a + k))) (one-add n)

pub listed : (n : ℕ) (test : ℕ → Bool) → list_all test (range_with_len 0 (n - 0)) ≡ all n test
listed n test = rw sub-zero (listed_from 0 n test ∙ all_same n _ _ (λ k h. ap test (zero-add k)))
