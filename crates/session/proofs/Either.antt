-- Equivalences, put one after another and under "or".
use mathlib.Core.Logic.Iff
use mathlib.Core.Logic.{◌⊎◌, inl, inr, ◌↔◌, ⊎_elim, ⊎_map}
pub use mathlib.Core.Logic.Iff.{rfl as same}
pub use mathlib.Core.Logic.Iff.{symm as back}

infixr 1 ◌⨾◌
-- one equivalence after another
pub ◌⨾◌ : {A B C : Type 0} → A ↔ B → B ↔ C → A ↔ C
one ⨾ other = Iff.trans one other

pub either : {A B C D : Type 0} → A ↔ C → B ↔ D → (A ⊎ B) ↔ (C ⊎ D)
either left right = (⊎_map left.0 right.0, ⊎_map left.1 right.1)

pub or_else : {A B C : Type 0} → (B → C) → A ⊎ B → A ⊎ C
or_else = ⊎_map (λ a. a)

pub regroup : {A B C : Type 0} → ((A ⊎ B) ⊎ C) ↔ (A ⊎ (B ⊎ C))
regroup = (⊎_elim (⊎_elim inl (λ b. inr (inl b))) (λ c. inr (inr c)), ⊎_elim (λ a. inl (inl a)) (⊎_elim (λ b. inl (inr b)) inr))

-- what cannot be adds nothing
pub or_never : {A B : Type 0} → ¬ B → (A ⊎ B) ↔ A
or_never never = (⊎_elim (λ a. a) (λ b. absurd (never b)), inl)

pub never_or : {A B : Type 0} → ¬ A → (A ⊎ B) ↔ B
never_or never = (⊎_elim (λ a. absurd (never a)) (λ b. b), inr)
