-- Laws of `lowest`: what the first index of which a test holds is, and that no other index is it.
use Prim.Native.Nat.{ℕ, zero, suc, ◌≤◌, ◌<◌}
use mathlib.Core.Path.{◌≡◌, refl, sym, ap, ◌∙◌}
use mathlib.Core.Bool.{Bool, true, false, cond}
use native.Mathlib.Nat.{not-suc-le-zero, le_of_suc-le-suc}
use native.Mathlib.Omega.{arith}
use borrow.Author.Tests.{ltb-true, ltb-false, lt-ltb, le-ltb}
use lib.Dec.{ltb}
use lib.ListN.{length, get_or}
use mathlib.Core.List.{List}
use Rattle.std.specs.List.{HoldsAt, AllWithin}
use Rattle.std.specs.Prelude.{Option, Some, None, MatchOption, IsSomeAnd, is_some}
use Rattle.vectors.proofs.Numbers.{whole_part}
use Rattle.shelf.specs.Shelf.{lowest, slot_or_none}

-- r is at most n, the test fails below it, and holds of it where it is below n
pub record Lowest (n : ℕ) (test : ℕ → Bool) (r : ℕ) : Type 0 where
  pub most : r ≤ n
  pub fails_below : (k : ℕ) → k < r → test k ≡ false
  pub holds : r < n → test r ≡ true

found_more : (n : ℕ) (test : ℕ → Bool) (r : ℕ) → Lowest n (λ k. test (suc k)) r → (first : Bool) → test 0 ≡ first → Lowest (suc n) test (cond first 0 (suc r))
found_more n test r so true e =
    record { most = omega arith; fails_below = λ k h. absurd (not-suc-le-zero h); holds = λ h. e }
found_more n test r so false e = record { most = omega arith; fails_below = below; holds = λ h. so.holds (omega arith) }
  where
    below : (k : ℕ) → k < suc r → test k ≡ false
    below zero h = e
    below (suc k) h = so.fails_below k (le_of_suc-le-suc h)

pub lowest_is_lowest : (n : ℕ) (test : ℕ → Bool) → Lowest n test (lowest n test)
unfolding lowest
lowest_is_lowest zero test =
    record { most = omega arith; fails_below = λ k h. absurd (not-suc-le-zero h); holds = λ h. absurd (not-suc-le-zero h) }
lowest_is_lowest (suc n) test =
    found_more n test (lowest n (λ k. test (suc k))) (lowest_is_lowest n (λ k. test (suc k))) (test 0) refl

-- no other index is it
pub only_lowest : (n : ℕ) (test : ℕ → Bool) (r : ℕ) → Lowest n test r → r ≡ lowest n test
unfolding lowest
only_lowest zero test r so = omega arith
only_lowest (suc n) test zero so = rw (so.holds (omega arith))
only_lowest (suc n) test (suc r) so =
    rw (so.fails_below 0 (omega arith))
    (ap suc
    (only_lowest n (λ k. test (suc k)) r
    (record { most = omega arith; fails_below = λ k h. so.fails_below (suc k) (omega arith); holds = λ h. so.holds (omega arith) })))

-- it is n exactly where the test fails everywhere below n
pub none_lowest : (n : ℕ) (test : ℕ → Bool) → ((k : ℕ) → k < n → test k ≡ false) → lowest n test ≡ n
none_lowest n test none =
    sym (only_lowest n test n (record { most = omega arith; fails_below = none; holds = λ h. absurd (omega arith) }))

pub lowest_none : (n : ℕ) (test : ℕ → Bool) → lowest n test ≡ n → (k : ℕ) → k < n → test k ≡ false
lowest_none n test e k h = (lowest_is_lowest n test).fails_below k (omega arith)

-- what a search of a list found is it, and where nothing was found there is none
pub found_is_lowest : {A : Type 0} (items : List A) (passes : A → Bool) (test : ℕ → Bool) (r : Option ℕ)
    → ((k : ℕ) (other : A) → k < length items → passes (get_or items k other) ≡ test k) → A
    → MatchOption r (AllWithin (λ x. passes x ≡ false) items 0 (length items))
    (λ i. (i < length items) × HoldsAt (λ x. passes x ≡ true) items i × AllWithin (λ x. passes x ≡ false) items 0 i)
    → r ≡ slot_or_none (length items) (lowest (length items) test)
found_is_lowest items passes test None same other none =
    let is : lowest (length items) test ≡ length items = none_lowest (length items) test (λ k h. sym (same k other h) ∙ none k other (omega arith) h) in
    rw (is, le-ltb (length items) (length items) (omega arith))
found_is_lowest items passes test (Some i) same other found =
    let is : i ≡ lowest (length items) test =
    only_lowest (length items) test i
    (record {
      most = omega (arith, found.0);
      fails_below = λ k h. sym (same k other (omega (arith, found.0))) ∙ found.2 k other (omega arith) h;
      holds = λ h. sym (same i other h) ∙ found.1 other;
    }) in
    rw (← is, lt-ltb i (length items) found.0)

-- ---- an index below n, or none

some_where_below : (i : ℕ) (below : Bool) → is_some (cond below (Some i) None) ≡ below
some_where_below i true = refl
some_where_below i false = refl

same_index : (i at : ℕ) (below : Bool) → cond below (Some i) None ≡ Some at → at ≡ i
same_index i at true e = cc
same_index i at false e = cc

pub none_of : (n i : ℕ) → n ≤ i → slot_or_none n i ≡ None
none_of n i h = rw (le-ltb i n h)

pub some_of : (n i : ℕ) → i < n → slot_or_none n i ≡ Some i
some_of n i h = rw (lt-ltb i n h)

module _ (n i : ℕ) (r : Option ℕ) (is : r ≡ slot_or_none n i) where
  pub none_is_past : is_some r ≡ false → n ≤ i
  none_is_past none = ltb-false i n (sym (ap is_some is ∙ some_where_below i _) ∙ none)

  pub some_is_below : is_some r ≡ true → i < n
  some_is_below some = ltb-true i n (sym (ap is_some is ∙ some_where_below i _) ∙ some)

  pub some_is_it : (at : ℕ) → r ≡ Some at → (at ≡ i) × (at < n)
  some_is_it at e =
      let same : at ≡ i = same_index i at (ltb i n) (sym is ∙ e) in
      (same, rw same (some_is_below (ap is_some e)))

-- ---- what is handed on as it stands, also where it goes through a range or a closure

-- an index that a closure answers as it was
pub mapped_to_itself : {Post : ℕ → ℕ → Type 0} (o r : Option ℕ) → MatchOption o (r ≡ None) (λ x. IsSomeAnd r (Post x)) → ((x y : ℕ) → Post x y → y ≡ x) → r ≡ o
mapped_to_itself None r e same = e
mapped_to_itself (Some x) None e same = elim e [ ]
mapped_to_itself (Some x) (Some y) e same = ap Some (same x y e)

pub ruleset as_it_stands = (whole_part, mapped_to_itself)
