-- A table of answer numbers and their occasions: the occasion of a number, and that no other number is answered.
use Prim.Native.Nat.{ℕ}
use mathlib.Core.Path.{◌≡◌, refl}
use mathlib.Core.Logic.{inl, inr}
use mathlib.Core.Bool.{Bool, true, false, cond}
use mathlib.Core.List.{List, [], ◌∷◌}
use lib.Dec.{eqb}
use borrow.Author.Tests.{eqb-true}
use Rattle.promises.specs.Demand1.{OneOf}

-- the occasion of a number: none where it is not in the table
abbrev pub occasion_in : List (ℕ × Type 0) → ℕ → Type 0
occasion_in [] k = ⊥
occasion_in ((number, fact) ∷ rest) k = cond (eqb k number) fact (occasion_in rest k)

abbrev pub numbers_in : List (ℕ × Type 0) → List ℕ
numbers_in [] = []
numbers_in ((number, fact) ∷ rest) = number ∷ numbers_in rest

here_or_later : (number : ℕ) (fact : Type 0) (rest : List (ℕ × Type 0)) (k : ℕ) → (occasion_in rest k → OneOf k (numbers_in rest)) → (test : Bool) → eqb k number ≡ test
    → cond test fact (occasion_in rest k) → OneOf k (number ∷ numbers_in rest)
here_or_later number fact rest k later true is so = inl (eqb-true k number is)
here_or_later number fact rest k later false is so = inr (later so)

-- a number that has an occasion is in the table
pub in_the_table : (table : List (ℕ × Type 0)) (k : ℕ) → occasion_in table k → OneOf k (numbers_in table)
in_the_table [] k so = so
in_the_table ((number, fact) ∷ rest) k so = here_or_later number fact rest k (in_the_table rest k) (eqb k number) refl so
