-- Document 01's printed session is a session: three seats with two slots each, its thirteen steps, and what they print.
use Prim.Native.Nat.{ℕ, zero, suc}
use mathlib.Core.Path.{◌≡◌, refl}
use mathlib.Core.Bool.{true}
use mathlib.Core.List.Memᴰ
use mathlib.Core.List.{List, []}
use native.Mathlib.Omega.{arith}
use lib.ListN.{length, replicate}
use Rattle.answers.specs.Answers.{seat_no}
use Rattle.answers.specs.declared.Answer.TheVariants.{Opened}
use Rattle.packet.proofs.Writable.{range_holds}
use Rattle.shelf.specs.Shelf.{whole_slots}
use Rattle.seat.specs.State.{counting}
use Rattle.seat.proofs.OpenAnswers.{opening_answers_0, done_open}
use Rattle.session.specs.Protocol.{Seated}
use Rattle.promises.specs.Demand3.{Place, Letter, FreshlyOpened, Session, opening, sending, arriving, releasing}
use Rattle.promises.specs.Listing.{steps_of, answers_of, Walks, listed_steps, listed_answers, listed_events}
use Rattle.seat.proofs.Computed.{computed}
use Rattle.promises.proofs.PrintedCalls.{packet_1_1, packet_1_2, packet_2_1, none, state, one_0, two_0, three_0, empty}
use Rattle.promises.proofs.PrintedCalls.{call_1, call_2, call_3, call_4, call_5, call_6, call_7, call_8, call_9, call_10, call_11, call_12, call_13}

-- ---- the seats as they are opened

start : ℕ → Place
start j = record { seat = state j none none none; shelf = empty }

whole : whole_slots empty ≡ true
unfolding computed empty
whole = refl

cleared : empty ≡ replicate (length empty) 0
unfolding empty
cleared = refl

freshly_opened : (j : ℕ) → Seated 3 j → FreshlyOpened 3 j (start j)
unfolding start
freshly_opened j seated =
    let range =
    range_holds (record { n = 3; sender = seat_no j }) (record { seats_low = omega arith; seats_high = omega arith; sender_low = seated.0; sender_high = seated.1 }) in
    record {
      lent = empty;
      stepped = record { seat = counting 3 (seat_no j); answer = Opened };
      contract = done_open 3 (seat_no j) empty (counting 3 (seat_no j)) empty (opening_answers_0 3 (seat_no j) empty range whole) refl cleared;
      answered_0 = refl;
      state = refl;
    }

-- ---- the session

of_each_of_three : (P : ℕ → Type 0) → P 1 → P 2 → P 3 → (j : ℕ) → Seated 3 j → P j
of_each_of_three P one two three zero seated = absurd (omega (arith, seated.0))
of_each_of_three P one two three (suc zero) seated = one
of_each_of_three P one two three (suc (suc zero)) seated = two
of_each_of_three P one two three (suc (suc (suc zero))) seated = three
of_each_of_three P one two three (suc (suc (suc (suc j)))) seated = absurd (omega (arith, seated.1))

abbrev letter : ℕ → ℕ → List ℕ → Letter
letter by number bytes = record { edit = record { by = by; number = number }; bytes = bytes }

-- Document 01's printed session is one.
pub printed_session_is_a_session : Walks 3 2 listed_steps listed_answers listed_events
unfolding start packet_1_1 packet_1_2 packet_2_1 one_0 two_0 three_0 empty steps_of answers_of
printed_session_is_a_session =
    let at_1 : Seated 3 1 = (omega arith, omega arith) in
    let at_2 : Seated 3 2 = (omega arith, omega arith) in
    let at_3 : Seated 3 3 = (omega arith, omega arith) in
    let letter_1_1 = letter 1 1 packet_1_1 in
    let letter_1_2 = letter 1 2 packet_1_2 in
    let letter_2_1 = letter 2 1 packet_2_1 in
    let s0 : Session 3 start [] [] = opening freshly_opened in
    let s1 = sending 1 _ _ _ _ _ s0 at_1 call_1 in
    let s2 = sending 1 _ _ _ _ _ s1 at_1 call_2 in
    let s3 = arriving 2 letter_1_2 _ _ s2 at_2 (Memᴰ.head refl) call_3 in
    let s4 = arriving 2 letter_1_1 _ _ s3 at_2 (Memᴰ.tail (Memᴰ.head refl)) call_4 in
    let s5 = releasing 2 _ _ _ _ s4 at_2 call_5 in
    let s6 = sending 2 _ _ _ _ _ s5 at_2 call_6 in
    let s7 = arriving 3 letter_2_1 _ _ s6 at_3 (Memᴰ.head refl) call_7 in
    let s8 = arriving 3 letter_1_2 _ _ s7 at_3 (Memᴰ.tail (Memᴰ.head refl)) call_8 in
    let s9 = arriving 3 letter_1_2 _ _ s8 at_3 (Memᴰ.tail (Memᴰ.head refl)) call_9 in
    let s10 = arriving 3 letter_1_1 _ _ s9 at_3 (Memᴰ.tail (Memᴰ.tail (Memᴰ.head refl))) call_10 in
    let s11 = releasing 3 _ _ _ _ s10 at_3 call_11 in
    let s12 = releasing 3 _ _ _ _ s11 at_3 call_12 in
    let s13 = releasing 3 _ _ _ _ s12 at_3 call_13 in
    record { places = _; letters = _; session = s13; slots_are = of_each_of_three _ refl refl refl; steps_are = refl {a = listed_steps}; answers_are = refl {a = listed_answers} }
