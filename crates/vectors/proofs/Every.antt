-- Laws of `all`: what it says of each index, and the fold that gathers a test over the entries of a list.
use Prim.Native.Nat.{ℕ, zero, suc, ◌+◌, ◌*◌, ◌<◌}
use mathlib.Core.Path.{◌≡◌, refl, sym, ap, ap₂, ◌∙◌}
use mathlib.Core.Bool.{Bool, true, false, ◌&&◌, and-false, and-true, and_assoc}
use mathlib.Core.Logic.{⊎_elim}
use mathlib.Core.List.{List, [], ◌∷◌}
use native.Mathlib.Nat.{add-zero, add-suc, mul-zero, mul-suc, not-suc-le-zero, le_of_suc-le-suc, eq-or-lt_of_le}
use native.Mathlib.Numerals.{one-add}
use native.Mathlib.Omega.{arith}
use lib.ListN.{length, get_or}
use Rattle.std.proofs.lemmas.Bool.{and_parts}
use Rattle.std.specs.List.{fold}
use Rattle.vectors.specs.Vectors.{all}

module _ (test : ℕ → Bool) where
  -- what holds of all holds of each, and the other way round
  pub all_at : (n k : ℕ) → all n test ≡ true → k < n → test k ≡ true
  unfolding all
  all_at zero k e h = absurd (not-suc-le-zero h)
  all_at (suc n) k e h =
      let both = and_parts (all n test) (test n) e in
      ⊎_elim (λ same. rw same both.1) (λ less. all_at n k both.0 less) (eq-or-lt_of_le (le_of_suc-le-suc h))

  pub all_of : (n : ℕ) → ((k : ℕ) → k < n → test k ≡ true) → all n test ≡ true
  unfolding all
  all_of zero each = refl
  all_of (suc n) each = rw (all_of n (λ k h. each k (omega arith))) (each n (omega arith))

  pub all_fails : (n k : ℕ) → k < n → test k ≡ false → all n test ≡ false
  unfolding all
  all_fails zero k h e = absurd (not-suc-le-zero h)
  all_fails (suc n) k h e =
      ⊎_elim (λ same. rw (← same, e) (and-false (all k test))) (λ less. rw (all_fails n k less e)) (eq-or-lt_of_le (le_of_suc-le-suc h))

-- two tests that agree below n
pub all_same : (n : ℕ) (one other : ℕ → Bool) → ((k : ℕ) → k < n → one k ≡ other k) → all n one ≡ all n other
unfolding all
all_same zero one other each = refl
all_same (suc n) one other each = ap₂ ◌&&◌ (all_same n one other (λ k h. each k (omega arith))) (each n (omega arith))

-- all of two parts, and all of n parts of w
pub all_split : (a b : ℕ) (test : ℕ → Bool) → all (a + b) test ≡ (all a test && all b (λ k. test (a + k)))
unfolding all
all_split a zero test = rw add-zero (sym (and-true (all a test)))
all_split a (suc b) test =
    rw add-suc (ap (λ (t : Bool). t && test (a + b)) (all_split a b test) ∙ and_assoc (all a test) (all b (λ k. test (a + k))) (test (a + b)))

pub all_parts : (w n : ℕ) (test : ℕ → Bool) → all n (λ k. all w (λ j. test (w * k + j))) ≡ all (w * n) test
unfolding all
all_parts w zero test = rw mul-zero
all_parts w (suc n) test =
    rw mul-suc (ap (λ (t : Bool). t && all w (λ j. test (w * n + j))) (all_parts w n test) ∙ sym (all_split (w * n) w test))

-- a fold over the entries of a list, without an early exit
pub fold_is_all : {X : Type 0} (test : X → Bool) (d : X) (ok : Bool) (xs : List X)
    → fold (λ (so_far : Bool) (x : X). so_far && test x) ok xs ≡ (ok && all (length xs) (λ k. test (get_or xs k d)))
unfolding all
fold_is_all test d ok [] = sym (and-true ok)
fold_is_all test d ok (x ∷ xs) =
    let entry : ℕ → Bool = λ k. test (get_or (x ∷ xs) k d) in
    let rest : all (length xs) (λ k. entry (1 + k)) ≡ all (length xs) (λ k. test (get_or xs k d))
    = all_same (length xs) (λ k. entry (1 + k)) (λ k. test (get_or xs k d)) (λ k h. ap entry (one-add k)) in
    fold_is_all test d (ok && test x) xs
    ∙ and_assoc ok (test x) (all (length xs) (λ k. test (get_or xs k d)))
    ∙ ap (λ (b : Bool). ok && b) (ap (λ (b : Bool). test x && b) (sym rest) ∙ sym (all_split 1 (length xs) entry) ∙ ap (λ (n : ℕ). all n entry) (one-add (length xs)))
