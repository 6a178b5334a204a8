-- Laws of refusals in their order: the first that applies is the answer, and what an answer tells of those before it.
use Prim.Native.Nat.{◌≤◌, ◌<◌}
use mathlib.Core.Path.{◌≡◌, refl}
use mathlib.Core.Bool.{Bool, true, false}
use mathlib.Core.List.{List, [], ◌∷◌}
use native.Mathlib.Omega.{arith}
use Rattle.answers.specs.Answers.{report, refusal_number, first_of}
use Rattle.answers.specs.declared.Refusal.{Refusal}
use Rattle.answers.specs.declared.Refusal.TheVariants.{NotSound, BodyTooLong, CountFull, OutputTooShort, NotWellFormed, OtherSession, AboveOwnCount, Repeated, TooFarAhead, ShelfFull, NoSuchSeat, BarrierAbovePast}
use Rattle.answers.specs.declared.Answer.{Answer}
use Rattle.answers.specs.declared.Answer.TheVariants.{Opened, Done, Shelved, NothingReady, Refused}
use Rattle.answers.specs.declared.Edit.{Edit}

-- no refusal is this answer
abbrev pub NoRefusal : Answer → Type 0
NoRefusal answer = (refusal : Refusal) → Refused refusal ≡ answer → ⊥

pub done_is_no_refusal : (edit : Edit) → NoRefusal (Done edit)
done_is_no_refusal edit refusal e = cc

pub shelved_is_no_refusal : NoRefusal Shelved
shelved_is_no_refusal refusal e = cc

pub idle_is_no_refusal : NoRefusal NothingReady
idle_is_no_refusal refusal e = cc

pub opened_is_no_refusal : NoRefusal Opened
opened_is_no_refusal refusal e = cc

module _ (refusal : Refusal) (rest : List (Refusal × Bool)) (done : Answer) where
  pub refuses : (test : Bool) → test ≡ true → first_of ((refusal, test) ∷ rest) done ≡ Refused refusal
  unfolding first_of
  refuses test e = rw e

  pub goes_on : (test : Bool) → test ≡ false → first_of ((refusal, test) ∷ rest) done ≡ first_of rest done
  unfolding first_of
  goes_on test e = rw e

  -- an answer that is no refusal, or another one, passed this test
  pub passed : (test : Bool) (answer : Answer) → first_of ((refusal, test) ∷ rest) done ≡ answer → (Refused refusal ≡ answer → ⊥)
      → (test ≡ false) × (first_of rest done ≡ answer)
  unfolding first_of
  passed true answer e other = absurd (other e)
  passed false answer e other = (refl, e)

pub none_left : (done : Answer) → first_of [] done ≡ done
unfolding first_of
none_left done = refl

-- a number from 10 up is a refusal's
pub from_10_is_refused : (answer : Answer) → 10 ≤ (report answer).answer → (refusal : Refusal) × (answer ≡ Refused refusal)
from_10_is_refused Opened h = absurd (omega arith)
from_10_is_refused (Done edit) h = absurd (omega arith)
from_10_is_refused Shelved h = absurd (omega arith)
from_10_is_refused NothingReady h = absurd (omega arith)
from_10_is_refused (Refused refusal) h = (refusal, refl)

-- a refusal's number is from 10 up, and fits a byte
pub refusals_between : (refusal : Refusal) → (10 ≤ refusal_number refusal) × (refusal_number refusal < 256)
refusals_between NotSound = (omega arith, omega arith)
refusals_between BodyTooLong = (omega arith, omega arith)
refusals_between CountFull = (omega arith, omega arith)
refusals_between OutputTooShort = (omega arith, omega arith)
refusals_between NotWellFormed = (omega arith, omega arith)
refusals_between OtherSession = (omega arith, omega arith)
refusals_between AboveOwnCount = (omega arith, omega arith)
refusals_between Repeated = (omega arith, omega arith)
refusals_between TooFarAhead = (omega arith, omega arith)
refusals_between ShelfFull = (omega arith, omega arith)
refusals_between NoSuchSeat = (omega arith, omega arith)
refusals_between BarrierAbovePast = (omega arith, omega arith)
