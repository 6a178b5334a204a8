-- Where a byte first stands, and the bytes behind it.
use Prim.Native.Nat.{ℕ, suc, ◌+◌, ◌-◌, ◌≤◌, ◌<◌}
use mathlib.Core.Bool.{Bool, true, false, cond, not}
use mathlib.Core.Path.{◌≡◌, refl, subst, sym, ap, ◌∙◌}
use mathlib.Core.List.{List}
use native.Mathlib.Nat.{le_of_eq}
use native.Mathlib.Numerals.{add-one}
use native.Mathlib.Omega.{arith}
use lib.Dec.{eqb, ltb}
use lib.ListN.{length, get_or, take, drop, length-drop}
use lib.Seq.{take_all}
use borrow.Author.Tests.{eq-eqb, eqb-true, not-false, ltb-true, ltb-false}
use Rattle.std.specs.Prelude.{Option, Some, None, MatchOption}
use Rattle.std.specs.List.{position, position_or_len}
use Rattle.std.proofs.lemmas.List.Sums.{prefix_len-le-length, prefix_len_passes, prefix_len_stops}

-- the byte stands at no place before this one, and stands at this one or the text ends here
pub record FirstAt (byte : ℕ) (text : List ℕ) (place : ℕ) : Type 0 where
  pub inside : place ≤ length text
  pub not_before : (k : ℕ) → k < place → get_or text k 0 ≡ byte → ⊥
  pub there : place < length text → get_or text place 0 ≡ byte

never : ◌≡◌ {A = Bool} false true → ⊥
never e = let z : ◌≡◌ {A = ℕ} 0 1 = cc in omega arith

module _ (byte : ℕ) (text : List ℕ) where
  abbrev first : ℕ
  first = position_or_len (λ b. eqb b byte) text

  first_is : FirstAt byte text first
  first_is =
      record {
        inside = prefix_len-le-length (λ b. not (eqb b byte)) text;
        not_before = λ k h e. never (sym (ap not (eq-eqb _ _ e)) ∙ prefix_len_passes (λ b. not (eqb b byte)) text k 0 h);
        there = λ h. eqb-true _ _ (not-false _ (prefix_len_stops (λ b. not (eqb b byte)) text 0 h));
      }

  -- what a search for the byte says
  abbrev pub Searched : Option ℕ → Type 0
  Searched found = MatchOption found (FirstAt byte text (length text)) (λ place. (place < length text) × FirstAt byte text place)

  by_test : (test : Bool) → ltb first (length text) ≡ test → Searched (cond test (Some first) None)
  by_test true e = (ltb-true _ _ e, first_is)
  by_test false e = subst (FirstAt byte text) (let at = first_is.inside in omega (arith, ltb-false _ _ e)) first_is

  pub searched : (found : Option ℕ) → found ≡ position (λ b. eqb b byte) text → Searched found
  searched found e = subst Searched (sym e) (by_test (ltb first (length text)) refl)

-- what stands behind a place
abbrev pub behind : List ℕ → ℕ → List ℕ
behind text place = take (length text - (place + 1)) (drop (place + 1) text)

pub behind_is : (text : List ℕ) (place : ℕ) → behind text place ≡ drop (suc place) text
behind_is text place = rw add-one (take_all (length text - suc place) (drop (suc place) text) (le_of_eq (length-drop (suc place) text)))
