-- Laws that the calls share: a report as one number, refusals in their order, and what is rewritten.
use Prim.Native.Nat.{ℕ, ◌≤◌, ◌<◌}
use mathlib.Core.Path.{◌≡◌, refl}
use mathlib.Core.Bool.{Bool, true, false}
use mathlib.Core.List.{List, [], ◌∷◌}
use native.Mathlib.Omega.{arith}
use borrow.Author.Tests.{le-leb, lt-leb}
use Rattle.answers.specs.Answers.{bare, report, refusal_number}
use Rattle.answers.specs.declared.Answer.{Answer}
use Rattle.answers.specs.declared.Answer.TheVariants.{Opened, Done, Shelved, NothingReady, Refused}
use Rattle.answers.specs.declared.Report.{Report}
use Rattle.answers.proofs.InOrder.{refusals_between}
use Rattle.tautrobin.specs.Calls.{packed, answer_number, sender_number, sequence_number, reported_length, first_report, rewritten}

-- ---- a report as one number

pub packed_bare : (number : ℕ) → packed (bare number) ≡ number
unfolding packed
packed_bare number = omega arith

-- the four values of a report are read back from its number
pub packed_answer : (told : Report) → told.answer < 256 → answer_number (packed told) ≡ told.answer
unfolding packed
packed_answer told small = omega arith

pub packed_edit : (told : Report) → told.answer < 256 → told.edit.sender.0 < 256 → told.edit.number.0 < 65536 → told.edit.length < 65536
    → (sender_number (packed told) ≡ told.edit.sender.0) × (sequence_number (packed told) ≡ told.edit.number.0) × (reported_length (packed told) ≡ told.edit.length)
unfolding packed
packed_edit told small sender number length = (omega arith, omega arith, omega arith)

report_is_small : (answer : Answer) → (report answer).answer < 256
report_is_small Opened = omega arith
report_is_small (Done edit) = omega arith
report_is_small Shelved = omega arith
report_is_small NothingReady = omega arith
report_is_small (Refused refusal) = (refusals_between refusal).1

-- ---- refusals in their order

module _ (number : ℕ) (rest : List (ℕ × Bool)) (step : Report) where
  pub refuses : (test : Bool) → test ≡ true → first_report ((number, test) ∷ rest) step ≡ bare number
  unfolding first_report
  refuses test e = rw e

  pub goes_on : (test : Bool) → test ≡ false → first_report ((number, test) ∷ rest) step ≡ first_report rest step
  unfolding first_report
  goes_on test e = rw e

  pub first_is_small : (test : Bool) → number < 256 → (first_report rest step).answer < 256 → (first_report ((number, test) ∷ rest) step).answer < 256
  unfolding first_report
  first_is_small true small others = small
  first_is_small false small others = others

pub none_left : (step : Report) → first_report [] step ≡ step
unfolding first_report
none_left step = refl

pub last_is_small : (answer : Answer) → (first_report [] (report answer)).answer < 256
unfolding first_report
last_is_small answer = report_is_small answer

-- ---- what is rewritten

pub left_alone : (told : Report) (next before : List ℕ) → 1 < told.answer → rewritten told next before ≡ before
unfolding rewritten
left_alone told next before h = rw (lt-leb told.answer 1 h)

-- where the answer number is not 0 or 1
pub told_large : (told : Report) (answer : ℕ) → answer ≡ packed told → told.answer < 256 → 1 < answer_number answer → 1 < told.answer
told_large told answer is small large = rw (is, packed_answer told small) at large

pub goes_in : (told : Report) (next before : List ℕ) → told.answer ≤ 1 → rewritten told next before ≡ next
unfolding rewritten
goes_in told next before h = rw (le-leb told.answer 1 h)

-- what a step leaves as it was where it is not done stands
pub stands : (answer : Answer) (next before : List ℕ) → (1 < (report answer).answer → next ≡ before) → next ≡ rewritten (report answer) next before
unfolding rewritten
stands Opened next before same = refl
stands (Done edit) next before same = refl
stands Shelved next before same = refl
stands NothingReady next before same = same (omega arith)
stands (Refused refusal) next before same = let large = (refusals_between refusal).0 in rw (lt-leb (refusal_number refusal) 1 (omega arith)) (same (omega arith))
