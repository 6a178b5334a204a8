-- Document 01's "Answer numbers": the number and the three values of each answer.
use Rattle.std.specs.Prelude.{ℕ, Bool, true, false, List, [], ◌∷◌}
use Rattle.answers.specs.declared.SeatNo.{SeatNo}
use Rattle.answers.specs.declared.EditNo.{EditNo}
use Rattle.answers.specs.declared.Report.{Report}
use Rattle.answers.specs.declared.Refusal.{Refusal}
use Rattle.answers.specs.declared.Refusal.TheVariants.{NotSound, BodyTooLong, CountFull, OutputTooShort, NotWellFormed, OtherSession, AboveOwnCount, Repeated, TooFarAhead, ShelfFull, NoSuchSeat, BarrierAbovePast}
use Rattle.answers.specs.declared.Answer.{Answer}
use Rattle.answers.specs.declared.Answer.TheVariants.{Opened, Done, Shelved, NothingReady, Refused}

-- A seat and an edit by their numbers.
abbrev pub seat_no : ℕ → SeatNo
seat_no k = record { 0 = k }

abbrev pub edit_no : ℕ → EditNo
edit_no s = record { 0 = s }

-- The number of each refusal.
abbrev pub refusal_number : Refusal → ℕ
refusal_number NotSound = 10
refusal_number BodyTooLong = 11
refusal_number CountFull = 12
refusal_number OutputTooShort = 13
refusal_number NotWellFormed = 14
refusal_number OtherSession = 15
refusal_number AboveOwnCount = 16
refusal_number Repeated = 17
refusal_number TooFarAhead = 18
refusal_number ShelfFull = 19
refusal_number NoSuchSeat = 20
refusal_number BarrierAbovePast = 23

-- An answer that reports three zeros.
abbrev pub bare : ℕ → Report
bare answer = record { answer = answer; edit = record { sender = seat_no 0; number = edit_no 0; length = 0 } }

-- The number of each answer, with sender, sequence number and length: those of the edit where there is one.
abbrev pub report : Answer → Report
report Opened = bare 0
report (Done edit) = record { answer = 0; edit = edit }
report Shelved = bare 1
report NothingReady = bare 2
report (Refused refusal) = bare (refusal_number refusal)

-- A call's refusals, in the order in which they are tested: the first that applies is the answer, else the call is done.
unfoldable pub first_of : List (Refusal × Bool) → Answer → Answer
first_of [] done = done
first_of ((refusal, true) ∷ rest) done = Refused refusal
first_of ((refusal, false) ∷ rest) done = first_of rest done
