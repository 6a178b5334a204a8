-- One seat goes on to a new place and the others stay; and the answers that leave no event.
use Prim.Native.Nat.{ℕ, zero, suc, ◌≤◌}
use mathlib.Core.Path.{◌≡◌, refl, sym, subst, ◌∙◌}
use mathlib.Core.Logic.{◌≢◌}
use native.Mathlib.Decide.{ℕ_discrete}
use native.Mathlib.Omega.{arith}
use borrow.Author.Tests.{eq-eqb, ne_eqb}
use Rattle.session.specs.Events.{Edit, Trace}
use Rattle.session.specs.Protocol.{Turn}
use Rattle.promises.specs.Demand3.{Place, moved_to, trace_after_arrival, trace_after_release}
use Rattle.promises.proofs.Model.{model}

module _ (j : ℕ) (place : Place) (places : ℕ → Place) where
  pub moved_here : moved_to j place places j ≡ place
  moved_here = rw (eq-eqb j j refl)

  pub stays_elsewhere : (i : ℕ) → i ≢ j → moved_to j place places i ≡ places i
  stays_elsewhere i away = rw (ne_eqb i j away)

  pub turn_of : (Step : Place → Place → Type 0) → Step (places j) place → Turn model j Step places (moved_to j place places)
  turn_of Step step = record { step = subst (Step (places j)) (sym moved_here) step; others = stays_elsewhere }

  -- a seat that stays where it is
  pub nothing_moved : place ≡ places j → moved_to j place places ≡ places
  nothing_moved same = λ i l. each l i
    where
      each : (l : ℕ) → moved_to j place places l ≡ places l
      each l =
          elim (ℕ_discrete l j) [
            | yes here ↦ rw here (moved_here ∙ same)
            | no away ↦ stays_elsewhere l away
          ]

pub refused_arrival_tells_nothing : (number : ℕ) → 10 ≤ number → (j : ℕ) (edit arrived : Edit) (trace : Trace) → trace_after_arrival number j edit arrived trace ≡ trace
refused_arrival_tells_nothing zero low j edit arrived trace = absurd (omega arith)
refused_arrival_tells_nothing (suc zero) low j edit arrived trace = absurd (omega arith)
refused_arrival_tells_nothing (suc (suc number)) low j edit arrived trace = refl

pub refused_release_tells_nothing : (number : ℕ) → 10 ≤ number → (j : ℕ) (edit : Edit) (trace : Trace) → trace_after_release number j edit trace ≡ trace
refused_release_tells_nothing zero low j edit trace = absurd (omega arith)
refused_release_tells_nothing (suc zero) low j edit trace = refl
refused_release_tells_nothing (suc (suc zero)) low j edit trace = absurd (omega arith)
refused_release_tells_nothing (suc (suc (suc number))) low j edit trace = refl
