-- Laws of `list_of`: its length, what stands at an index, and two such lists that agree.
use Prim.Native.Nat.{ℕ, zero, suc, ◌+◌, ◌<◌}
use mathlib.Core.Path.{◌≡◌, refl, sym, ap, ◌∙◌}
use mathlib.Core.List.{[], ◌∷◌, ◌++◌}
use native.Mathlib.Nat.{not-suc-le-zero}
use native.Mathlib.Numerals.{add-one}
use native.Mathlib.Decide.{dec_lt}
use native.Mathlib.Omega.{arith}
use lib.ListN.{length, get_or, set, length-append, get_or-append}
use lib.Seq.{get_or_at, set_at, set-append_left}
use Rattle.steps.specs.Session.{list_of}

module _ {A : Type 0} where
  pub length_list_of : (n : ℕ) (f : ℕ → A) → length (list_of n f) ≡ n
  unfolding list_of
  length_list_of zero f = refl
  length_list_of (suc n) f = length-append (list_of n f) (f n ∷ []) ∙ ap (λ (k : ℕ). k + 1) (length_list_of n f) ∙ add-one n

  pub list_of_at : (n i : ℕ) (f : ℕ → A) (d : A) → i < n → get_or (list_of n f) i d ≡ f i
  unfolding list_of
  list_of_at zero i f d h = absurd (not-suc-le-zero h)
  list_of_at (suc n) i f d h =
      elim (dec_lt i n) [
        | yes below ↦ get_or-append (list_of n f) (f n ∷ []) d i (rw length_list_of below) ∙ list_of_at n i f d below
        | no above ↦ let e : i ≡ n = omega arith in
            rw e (get_or_at (list_of n f) (f n) [] d n (length_list_of n f))
      ]

  pub same_list_of : (n : ℕ) (f g : ℕ → A) → ((i : ℕ) → i < n → f i ≡ g i) → list_of n f ≡ list_of n g
  unfolding list_of
  same_list_of zero f g same = refl
  same_list_of (suc n) f g same = λ j. same_list_of n f g (λ i h. same i (omega arith)) j ++ (same n (omega arith) j ∷ [])

  pub set_list_of : (n k : ℕ) (f g : ℕ → A) → k < n → ((i : ℕ) → i < n → (i ≡ k → ⊥) → g i ≡ f i)
      → list_of n g ≡ set (list_of n f) k (g k)
  unfolding list_of
  set_list_of zero k f g h same = absurd (not-suc-le-zero h)
  set_list_of (suc n) k f g h same =
      elim (dec_lt k n) [
        | yes below ↦ (λ j. set_list_of n k f g below (λ i l. same i (omega arith)) j ++ (same n (omega arith) (λ e. omega arith) j ∷ []))
            ∙ sym (set-append_left (list_of n f) (f n ∷ []) k (g k) (rw length_list_of below))
        | no above ↦ let e : k ≡ n = omega arith in
            rw e ((λ j. same_list_of n g f (λ i l. same i (omega arith) (λ e2. omega arith)) j ++ (g n ∷ []))
            ∙ sym (set_at (list_of n f) (f n) [] (g n) n (length_list_of n f)))
      ]
