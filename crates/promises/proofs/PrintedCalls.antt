-- The thirteen calls of document 01's printed session, computed: three seats with two slots each.
use Prim.Native.Nat.{ℕ}
use mathlib.Core.Path.{refl}
use mathlib.Core.List.{List, [], ◌∷◌, ◌++◌}
use lib.ListN.{replicate}
use Rattle.answers.specs.Answers.{seat_no, edit_no}
use Rattle.answers.specs.declared.Refusal.TheVariants.{Repeated}
use Rattle.answers.specs.declared.Answer.{Answer}
use Rattle.answers.specs.declared.Answer.TheVariants.{Done, Shelved, NothingReady, Refused}
use Rattle.shelf.specs.Shelf.{slot_of, free_slot}
use Rattle.seat.specs.Sending.{Sent}
use Rattle.seat.specs.Arriving.{Arrived}
use Rattle.seat.specs.Releasing.{Released}
use Rattle.seat.specs.declared.Seat.{Seat}
use Rattle.seat.specs.declared.Stepped.{Stepped}
use Rattle.seat.specs.declared.Wish.TheVariants.{Ordinary, Causal}
use Rattle.seat.proofs.Computed.{computed}

-- ---- packets, and the room of an output

unfoldable pub packet_1_1 : List ℕ
packet_1_1 = 0x12 ∷ 0x00 ∷ 0x00 ∷ 0x00 ∷ 0x01 ∷ 0x00 ∷ 0x00 ∷ 0x00 ∷ 0x00 ∷ 0x00 ∷ 0x00 ∷ 0x00 ∷ 0x00 ∷ 0x00 ∷ 0x00 ∷ []

unfoldable pub packet_1_2 : List ℕ
packet_1_2 = 0x12 ∷ 0x08 ∷ 0x00 ∷ 0x00 ∷ 0x02 ∷ 0x00 ∷ 0x00 ∷ 0x00 ∷ 0x00 ∷ 0x00 ∷ 0x01 ∷ 0x00 ∷ 0x00 ∷ 0x00 ∷ 0x00 ∷ []

unfoldable pub packet_2_1 : List ℕ
packet_2_1 = 0x12 ∷ 0x10 ∷ 0x00 ∷ 0x00 ∷ 0x02 ∷ 0x00 ∷ 0x01 ∷ 0x00 ∷ 0x00 ∷ 0x00 ∷ 0x02 ∷ 0x00 ∷ 0x00 ∷ 0x00 ∷ 0x00 ∷ []

unfoldable pub room : List ℕ
room = replicate 15 0

-- ---- states: own number, past, barrier and run

abbrev pub counts : ℕ → ℕ → ℕ → List ℕ
counts one two three = one ∷ two ∷ three ∷ 0 ∷ 0 ∷ 0 ∷ 0 ∷ 0 ∷ 0 ∷ 0 ∷ 0 ∷ 0 ∷ 0 ∷ 0 ∷ 0 ∷ 0 ∷ []

abbrev pub none : List ℕ
none = counts 0 0 0

abbrev pub state : ℕ → List ℕ → List ℕ → List ℕ → Seat
state own past barrier run = record { n = 3; own = seat_no own; past = past; barrier = barrier; run = run; ahead = none }

unfoldable pub one_0 : Seat
one_0 = state 1 none none none

unfoldable pub one_1 : Seat
one_1 = state 1 (counts 1 0 0) none none

unfoldable pub one_2 : Seat
one_2 = state 1 (counts 2 0 0) (counts 2 0 0) none

unfoldable pub two_0 : Seat
two_0 = state 2 none none none

unfoldable pub two_1 : Seat
two_1 = state 2 (counts 1 0 0) none (counts 1 0 0)

unfoldable pub two_2 : Seat
two_2 = state 2 (counts 2 0 0) (counts 2 0 0) (counts 2 0 0)

unfoldable pub two_3 : Seat
two_3 = state 2 (counts 2 1 0) (counts 2 0 0) (counts 2 0 0)

unfoldable pub three_0 : Seat
three_0 = state 3 none none none

unfoldable pub three_1 : Seat
three_1 = state 3 (counts 1 0 0) none (counts 1 0 0)

unfoldable pub three_2 : Seat
three_2 = state 3 (counts 2 0 0) (counts 2 0 0) (counts 2 0 0)

unfoldable pub three_3 : Seat
three_3 = state 3 (counts 2 1 0) (counts 2 0 0) (counts 2 1 0)

-- ---- shelves

unfoldable pub empty : List ℕ
empty = replicate 536 0

unfoldable pub shelf_2 : List ℕ
unfolding computed
shelf_2 = slot_of packet_1_2 ++ free_slot

unfoldable pub shelf_3a : List ℕ
unfolding computed
shelf_3a = slot_of packet_2_1 ++ free_slot

unfoldable pub shelf_3b : List ℕ
unfolding computed
shelf_3b = slot_of packet_2_1 ++ slot_of packet_1_2

-- ---- the calls

abbrev pub done : ℕ → ℕ → ℕ → Answer
done sender number length = Done (record { sender = seat_no sender; number = edit_no number; length = length })

abbrev pub gives : Seat → Answer → Stepped
gives seat answer = record { seat = seat; answer = answer }

-- all that stands above, at once
values : ℕ
unfolding computed packet_1_1 packet_1_2 packet_2_1 room one_0 one_1 one_2 two_0 two_1 two_2 two_3 three_0 three_1 three_2 three_3 empty shelf_2 shelf_3a shelf_3b
values = 0

pub call_1 : Sent one_0 Ordinary [] room (gives one_1 (done 1 1 15)) packet_1_1
unfolding values
call_1 = record { answered = refl; next = refl; output = refl }

pub call_2 : Sent one_1 Causal [] room (gives one_2 (done 1 2 15)) packet_1_2
unfolding values
call_2 = record { answered = refl; next = refl; output = refl }

pub call_3 : Arrived two_0 packet_1_2 empty (gives two_0 Shelved) shelf_2
unfolding values
call_3 = record { answered = refl; next = refl; shelf_after_is = refl }

pub call_4 : Arrived two_0 packet_1_1 shelf_2 (gives two_1 (done 1 1 0)) shelf_2
unfolding values
call_4 = record { answered = refl; next = refl; shelf_after_is = refl }

pub call_5 : Released two_1 shelf_2 [] (gives two_2 (done 1 2 0)) empty []
unfolding values
call_5 = record { answered = refl; next = refl; shelf_after_is = refl; output = refl }

pub call_6 : Sent two_2 Ordinary [] room (gives two_3 (done 2 1 15)) packet_2_1
unfolding values
call_6 = record { answered = refl; next = refl; output = refl }

pub call_7 : Arrived three_0 packet_2_1 empty (gives three_0 Shelved) shelf_3a
unfolding values
call_7 = record { answered = refl; next = refl; shelf_after_is = refl }

pub call_8 : Arrived three_0 packet_1_2 shelf_3a (gives three_0 Shelved) shelf_3b
unfolding values
call_8 = record { answered = refl; next = refl; shelf_after_is = refl }

pub call_9 : Arrived three_0 packet_1_2 shelf_3b (gives three_0 (Refused Repeated)) shelf_3b
unfolding values
call_9 = record { answered = refl; next = refl; shelf_after_is = refl }

pub call_10 : Arrived three_0 packet_1_1 shelf_3b (gives three_1 (done 1 1 0)) shelf_3b
unfolding values
call_10 = record { answered = refl; next = refl; shelf_after_is = refl }

pub call_11 : Released three_1 shelf_3b [] (gives three_2 (done 1 2 0)) shelf_3a []
unfolding values
call_11 = record { answered = refl; next = refl; shelf_after_is = refl; output = refl }

pub call_12 : Released three_2 shelf_3a [] (gives three_3 (done 2 1 0)) empty []
unfolding values
call_12 = record { answered = refl; next = refl; shelf_after_is = refl; output = refl }

pub call_13 : Released three_3 empty [] (gives three_3 NothingReady) empty []
unfolding values
call_13 = record { answered = refl; next = refl; shelf_after_is = refl; output = refl }
