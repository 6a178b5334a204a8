-- Laws of the tests over vectors: what each says of every entry, and the other way round.
use Prim.Native.Nat.{ℕ, ◌+◌, ◌-◌, ◌≤◌, ◌<◌, min, max}
use mathlib.Core.Path.{◌≡◌, sym, ap, ap₂, ◌∙◌}
use mathlib.Core.List.{List, map}
use mathlib.Core.Bool.{Bool, true, ◌&&◌, ◌||◌, or-true}
use native.Mathlib.Decide.{ℕ_discrete, dec_lt}
use native.Mathlib.Omega.{arith}
use lib.Bits.{bit_or, or_zero_l, or_add_and, and_le_r}
use lib.Dec.{leb, ltb, eqb}
use lib.ListN.{length, get_or, take, drop, length-drop}
use lib.Seq.{ext_get_or, length-take-le, get_or-take, get_or-drop}
use borrow.Author.Tests.{lt-ltb, le-ltb, leb-true, eqb-true, le-leb, eq-eqb, ne_eqb}
use Rattle.vectors.specs.Vectors.{all, vector, within, same, zero_above, maxes}
use Rattle.std.specs.List.{fold, zip}
use Rattle.std.specs.Cmp.Lexicographic.{pointwise}
use Rattle.std.proofs.lemmas.Bool.Decides.{same_from_decides, Decides-eqb}
use Rattle.std.proofs.lemmas.Slice.Eq.{slice_eq-Decides}
use Rattle.std.proofs.lemmas.Slice.Zip.{length-zip, get_or-zip}
use Rattle.vectors.proofs.Every.{all_at, all_of, all_same, all_split, fold_is_all}
use Rattle.vectors.proofs.Vector.{length_vector, vector_below, vector_above, numbers_at}

-- two numbers gathered are 0 exactly where both are
pub or_is_zero : (a b : ℕ) → eqb (bit_or a b) 0 ≡ (eqb a 0 && eqb b 0)
or_is_zero a b =
    elim (ℕ_discrete a 0) [
      | yes zero ↦ rw (zero, or_zero_l b)
      | no some ↦ rw (ne_eqb a 0 some) (ne_eqb (bit_or a b) 0 (λ e. some (omega (arith, or_add_and a b, and_le_r a b))))
    ]

module _ (a b : List ℕ) where
  -- a test of two entries, gathered over both vectors
  pairs_folded : (test : ℕ → ℕ → Bool) → length a ≡ 16 → length b ≡ 16
      → fold (λ (ok : Bool) (p : ℕ × ℕ). ok && test p.0 p.1) true (zip a b) ≡ all 16 (λ k. test (get_or a k 0) (get_or b k 0))
  pairs_folded test la lb =
      let long : length (zip a b) ≡ 16 = length-zip a b ∙ ap₂ min la lb in
      fold_is_all (λ (p : ℕ × ℕ). test p.0 p.1) (0, 0) true (zip a b)
      ∙ ap (λ (n : ℕ). all n (λ k. test (get_or (zip a b) k (0, 0)).0 (get_or (zip a b) k (0, 0)).1)) long
      ∙ all_same 16 _ _ (λ k h. ap (λ (p : ℕ × ℕ). test p.0 p.1) (get_or-zip a b k (0, 0) (omega arith) (omega arith)))

  pub within_at : within a b ≡ true → (k : ℕ) → k < 16 → get_or a k 0 ≤ get_or b k 0
  unfolding within
  within_at e k h = leb-true _ _ (all_at _ 16 k e h)

  pub within_of : ((k : ℕ) → k < 16 → get_or a k 0 ≤ get_or b k 0) → within a b ≡ true
  unfolding within
  within_of each = all_of _ 16 (λ k h. le-leb _ _ (each k h))

  pub within_folded : length a ≡ 16 → length b ≡ 16 → fold (λ (ok : Bool) (p : ℕ × ℕ). ok && leb p.0 p.1) true (zip a b) ≡ within a b
  unfolding within
  within_folded = pairs_folded leb

  pub same_is : length a ≡ 16 → length b ≡ 16 → same a b ≡ true → a ≡ b
  unfolding same
  same_is la lb e = ext_get_or 0 a b (la ∙ sym lb) (λ k h. eqb-true _ _ (all_at _ 16 k e (rw la at h)))

  pub same_of : a ≡ b → same a b ≡ true
  unfolding same
  same_of e = all_of _ 16 (λ k h. eq-eqb _ _ (ap (λ (l : List ℕ). get_or l k 0) e))

  pub same_folded : length a ≡ 16 → length b ≡ 16 → fold (λ (ok : Bool) (p : ℕ × ℕ). ok && eqb p.0 p.1) true (zip a b) ≡ same a b
  unfolding same
  same_folded = pairs_folded eqb

  -- what `==` answers
  pub same_decided : (answer : Bool) → length a ≡ 16 → length b ≡ 16 → answer ≡ pointwise eqb a b → answer ≡ same a b
  same_decided answer la lb e = same_from_decides answer (same a b) (slice_eq-Decides Decides-eqb a b answer e) (same_is la lb, same_of)

module _ (n : ℕ) (v : List ℕ) where
  pub zero_above_at : zero_above n v ≡ true → (k : ℕ) → n ≤ k → k < 16 → get_or v k 0 ≡ 0
  unfolding zero_above
  zero_above_at e k h b = eqb-true _ _ (rw (le-ltb k n h) at (all_at _ 16 k e b))

  pub zero_above_of : ((k : ℕ) → n ≤ k → k < 16 → get_or v k 0 ≡ 0) → zero_above n v ≡ true
  unfolding zero_above
  zero_above_of each =
      all_of _ 16
      (λ k b.
      elim (dec_lt k n) [
        | yes less ↦ rw (lt-ltb k n less)
        | no more ↦ rw (eq-eqb (get_or v k 0) 0 (each k (omega arith) b)) (or-true (ltb k n))
      ])

-- the entries from n on are each 0
module _ (n : ℕ) (v : List ℕ) (h : n ≤ 16) where
  pub zero_above_is : zero_above n v ≡ all (16 - n) (λ k. eqb (get_or v (n + k) 0) 0)
  unfolding zero_above
  zero_above_is =
      let test : ℕ → Bool = λ k. ltb k n || eqb (get_or v k 0) 0 in
      let parts : n + (16 - n) ≡ 16 = omega arith in
      let free : all n test ≡ true = all_of test n (λ k less. rw (lt-ltb k n less)) in
      ap (λ (m : ℕ). all m test) (sym parts)
      ∙ all_split n (16 - n) test
      ∙ rw free (all_same (16 - n) (λ k. test (n + k)) (λ k. eqb (get_or v (n + k) 0) 0) (λ k less. rw (le-ltb (n + k) n (omega arith))))

-- the fold over the entries from n on
module _ {T : Type 0} (number : T → ℕ) (numbers : List T → List ℕ) (each : (v : List T) → numbers v ≡ map number v) where
  pub zero_above_folded : (n : ℕ) (v rest : List T) (d : T) → length v ≡ 16 → n ≤ 16 → rest ≡ take (length v - n) (drop n v)
      → fold (λ (ok : Bool) (x : T). ok && eqb (number x) 0) true rest ≡ zero_above n (numbers v)
  zero_above_folded n v rest d long most e =
      let left : length rest ≡ 16 - n = ap length e ∙ length-take-le (length v - n) (drop n v) (omega (arith, length-drop n v)) ∙ ap (λ (m : ℕ). m - n) long in
      fold_is_all (λ (x : T). eqb (number x) 0) d true rest
      ∙ ap (λ (m : ℕ). all m (λ k. eqb (number (get_or rest k d)) 0)) left
      ∙ all_same (16 - n) (λ k. eqb (number (get_or rest k d)) 0) (λ k. eqb (get_or (numbers v) (n + k) 0) 0) (λ k h. ap (λ (x : ℕ). eqb x 0) (here k h))
      ∙ sym (zero_above_is n (numbers v) most)
    where
      here : (k : ℕ) → k < 16 - n → number (get_or rest k d) ≡ get_or (numbers v) (n + k) 0
      here k h =
          ap (λ (l : List T). number (get_or l k d)) e
          ∙ ap number (get_or-take (length v - n) (drop n v) k d (omega arith) ∙ get_or-drop n v k d)
          ∙ sym (numbers_at number numbers each v (n + k) d (omega arith))

pub zero_above_vector : (n : ℕ) (f : ℕ → ℕ) → zero_above n (vector n f) ≡ true
zero_above_vector n f = zero_above_of n (vector n f) (vector_above n f)

module _ (a b : List ℕ) where
  pub length_maxes : length (maxes a b) ≡ 16
  unfolding maxes
  length_maxes = length_vector 16 _

  pub maxes_at : (k : ℕ) → k < 16 → get_or (maxes a b) k 0 ≡ max (get_or a k 0) (get_or b k 0)
  unfolding maxes
  maxes_at k h = vector_below 16 _ k h h
