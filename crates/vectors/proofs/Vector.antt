-- Laws of vectors: their entries, two that agree everywhere, and lists of a type of numbers.
use Prim.Native.Nat.{ℕ, zero, suc, ◌+◌, ◌-◌, ◌≤◌, ◌<◌}
use mathlib.Core.Path.{◌≡◌, refl, sym, ap, ◌∙◌}
use mathlib.Core.List.{List, [], ◌∷◌, ◌++◌, map}
use mathlib.Core.Bool.{cond}
use mathlib.Core.Logic.{⊎_elim}
use native.Mathlib.Nat.{not-suc-le-zero, le_of_suc-le-suc, eq-or-lt_of_le}
use native.Mathlib.Numerals.{add-one}
use native.Mathlib.Decide.{dec_lt}
use native.Mathlib.Omega.{arith}
use lib.Dec.{ltb}
use lib.ListN.{length, get_or, set, take, drop, replicate, length-drop, length-append, get_or-append}
use lib.Seq.{ext_get_or, get_or-drop, get_or-append-add, get_or_at, get_or-take, length-take-le}
use Rattle.std.proofs.lemmas.List.{map-set, get_or-map, get_or-replicate, length-map}
use Rattle.std.proofs.lemmas.List.Edits.{fill_by_more}
use borrow.Author.Tests.{lt-ltb, le-ltb}
use Rattle.vectors.specs.Vectors.{table, vector}

pub length_table : (n : ℕ) (f : ℕ → ℕ) → length (table n f) ≡ n
unfolding table
length_table zero f = refl
length_table (suc n) f = length-append (table n f) (f n ∷ []) ∙ ap (λ (x : ℕ). x + 1) (length_table n f) ∙ add-one n

pub get_or_table : (n : ℕ) (f : ℕ → ℕ) (k : ℕ) → k < n → get_or (table n f) k 0 ≡ f k
unfolding table
get_or_table zero f k h = absurd (not-suc-le-zero h)
get_or_table (suc n) f k h =
    ⊎_elim (λ (e : k ≡ n). get_or_at (table n f) (f n) [] 0 k (length_table n f ∙ sym e) ∙ ap f (sym e))
    (λ (less : k < n). get_or-append (table n f) (f n ∷ []) 0 k (rw length_table less) ∙ get_or_table n f k less)
    (eq-or-lt_of_le (le_of_suc-le-suc h))

module _ (n : ℕ) (f : ℕ → ℕ) where
  pub length_vector : length (vector n f) ≡ 16
  unfolding vector
  length_vector = length_table 16 _

  entry_of : (k : ℕ) → k < 16 → get_or (vector n f) k 0 ≡ cond (ltb k n) (f k) 0
  unfolding vector
  entry_of k h = get_or_table 16 _ k h

  pub vector_below : (k : ℕ) → k < n → k < 16 → get_or (vector n f) k 0 ≡ f k
  vector_below k h b = entry_of k b ∙ rw (lt-ltb k n h)

  pub vector_above : (k : ℕ) → n ≤ k → k < 16 → get_or (vector n f) k 0 ≡ 0
  vector_above k h b = entry_of k b ∙ rw (le-ltb k n h)

-- a list of 16 is the vector of its first n entries where the others are 0
pub is_vector : (n : ℕ) (f : ℕ → ℕ) (v : List ℕ) → length v ≡ 16 → ((k : ℕ) → k < n → k < 16 → get_or v k 0 ≡ f k)
    → ((k : ℕ) → n ≤ k → k < 16 → get_or v k 0 ≡ 0) → v ≡ vector n f
is_vector n f v long below above = ext_get_or 0 v (vector n f) (long ∙ sym (length_vector n f)) each
  where
    each : (k : ℕ) → k < length v → get_or v k 0 ≡ get_or (vector n f) k 0
    each k h =
        let b : k < 16 = rw long at h in
        elim (dec_lt k n) [
          | yes less ↦ below k less b ∙ sym (vector_below n f k less b)
          | no more ↦ above k (omega arith) b ∙ sym (vector_above n f k (omega arith) b)
        ]

-- lists of a type whose members are numbers
module _ {T : Type 0} (number : T → ℕ) (numbers : List T → List ℕ) (each : (v : List T) → numbers v ≡ map number v) where
  pub length_numbers : (v : List T) → length (numbers v) ≡ length v
  length_numbers v = ap length (each v) ∙ length-map v number

  pub numbers_at : (v : List T) (k : ℕ) (d : T) → k < length v → get_or (numbers v) k 0 ≡ number (get_or v k d)
  numbers_at v k d h = ap (λ (l : List ℕ). get_or l k 0) (each v) ∙ get_or-map number v k d 0 h

  pub numbers_set : (v : List T) (k : ℕ) (x : T) → numbers (set v k x) ≡ set (numbers v) k (number x)
  numbers_set v k x = each (set v k x) ∙ map-set number v k x ∙ ap (λ (l : List ℕ). set l k (number x)) (sym (each v))

  -- one number more, in order
  pub numbers_more : (f : ℕ → ℕ) (v : List T) (i : ℕ) (x : T) → i < length v → ((k : ℕ) → k < i → get_or (numbers v) k 0 ≡ f k) → number x ≡ f i
      → (k : ℕ) → k < i + 1 → get_or (numbers (set v i x)) k 0 ≡ f k
  numbers_more f v i x inside so_far e =
      rw (numbers_set v i x, e) (fill_by_more f (numbers v) i 0 (rw length_numbers inside) so_far)

  -- the first n of 16, and z above
  pub numbers_below : (f : ℕ → ℕ) (z : T) (v : List T) (n : ℕ) → number z ≡ 0 → n ≤ 16 → length v ≡ n → ((k : ℕ) → k < n → get_or (numbers v) k 0 ≡ f k)
      → numbers (v ++ drop n (replicate 16 z)) ≡ vector n f
  numbers_below f z v n nothing most long each_is = is_vector n f (numbers whole) (length_numbers whole ∙ whole_long) below above
    where
      whole : List T
      whole = v ++ drop n (replicate 16 z)

      whole_long : length whole ≡ 16
      whole_long = omega (arith, length-append v (drop n (replicate 16 z)), length-drop n (replicate 16 z))

      below : (k : ℕ) → k < n → k < 16 → get_or (numbers whole) k 0 ≡ f k
      below k h b =
          numbers_at whole k z (omega (arith, whole_long))
          ∙ ap number (get_or-append v (drop n (replicate 16 z)) z k (omega arith))
          ∙ sym (numbers_at v k z (omega arith))
          ∙ each_is k h

      above : (k : ℕ) → n ≤ k → k < 16 → get_or (numbers whole) k 0 ≡ 0
      above k h b =
          let at : k ≡ length v + (k - n) = omega arith in
          let here : n + (k - n) ≡ k = omega arith in
          numbers_at whole k z (omega (arith, whole_long))
          ∙ ap number
          (ap (λ (i : ℕ). get_or whole i z) at
          ∙ get_or-append-add v (drop n (replicate 16 z)) (k - n) z
          ∙ get_or-drop n (replicate 16 z) (k - n) z
          ∙ ap (λ (i : ℕ). get_or (replicate 16 z) i z) here
          ∙ get_or-replicate 16 k z z b)
          ∙ nothing

-- the first n entries of a vector are the table
pub take_vector : (n : ℕ) (f : ℕ → ℕ) → n ≤ 16 → take n (vector n f) ≡ table n f
take_vector n f most = ext_get_or 0 (take n (vector n f)) (table n f) (long ∙ sym (length_table n f)) each
  where
    long : length (take n (vector n f)) ≡ n
    long = length-take-le n (vector n f) (rw length_vector most)

    each : (k : ℕ) → k < length (take n (vector n f)) → get_or (take n (vector n f)) k 0 ≡ get_or (table n f) k 0
    each k h =
        let below : k < n = rw long at h in
        get_or-take n (vector n f) k 0 below ∙ vector_below n f k below (omega arith) ∙ sym (get_or_table n f k below)
