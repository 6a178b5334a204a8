-- The three kinds of step: what a call leaves in memory is what the session is told.
use Prim.Native.Nat.{ℕ, ◌+◌, ◌*◌, ◌-◌, ◌≤◌, ◌<◌}
use mathlib.Core.Bool.{Bool, true, false, cond, ◌&&◌}
use mathlib.Core.Path.{◌≡◌, refl, subst, sym, ap, ◌∙◌}
use mathlib.Core.List.{List, []}
use native.Mathlib.Nat.{add-zero}
use native.Mathlib.Omega.{arith}
use Rattle.std.proofs.lemmas.Bool.{leb-true, lt-ltb, le-ltb, and_parts}
use lib.Dec.{leb, ltb}
use borrow.Rule.Slice.PartMut.{put_mid}
use lib.ListN.{length, take, drop}
use Rattle.answers.specs.Answers.{bare, report}
use Rattle.answers.specs.declared.Answer.{Answer}
use Rattle.answers.specs.declared.Answer.TheVariants.{Opened, Done, Shelved, NothingReady, Refused}
use Rattle.packet.specs.Packet.{past_of, barrier_of}
use Rattle.seat.specs.Sending.{seat_after}
use Rattle.seat.specs.HandingOver.{hand_over}
use Rattle.seat.specs.Arriving.{heading_of, arrive_answer, shelf_after, Arrived}
use Rattle.seat.specs.Releasing.{chosen_packet, release_answer, shelf_after_release, Released}
use Rattle.seat.specs.declared.Seat.{Seat}
use Rattle.seat.specs.declared.Stepped.{Stepped}
use Rattle.seat.proofs.HandedOver.{handing_over_keeps_seats}
use Rattle.steps.specs.Session.{packet_most, Letter, Told, unknown, seated, place_of, with_place, letter_at, found, arrived, arrived_packet, arrive_told, released, release_told}
use Rattle.steps.specs.Memory.{piece, with_piece, shelf_size, seat_in, shelf_in, place_in, packet_in, session_in, shelves_size, Bounded, Walks, is_seated, walked_to}
use Rattle.steps.specs.declared.walk.Walk.{Walk}
use Rattle.steps.specs.declared.walk.Walked.{Walked}
use Rattle.steps.proofs.Parts.{part_lent, part_kept}
use Rattle.steps.proofs.AtSeat.{ArrivedAt, ReleasedAt, arrived_at, released_at}
use Rattle.steps.proofs.Held.{found_in, back_as_long, shelf_inside, place_held, letters_held, letter_held, found_held, session_after, still_bounded}

-- a seat that steps stays in its session
pub steps_in_session : (answer : Answer) (next seat : Seat) → next.n ≡ seat.n → (seat_after answer next seat).n ≡ seat.n
steps_in_session (Done edit) next seat same = same
steps_in_session Opened next seat same = refl
steps_in_session Shelved next seat same = refl
steps_in_session NothingReady next seat same = refl
steps_in_session (Refused refusal) next seat same = refl

pub seated_is : (walk : Walk) (k : ℕ) → is_seated walk k ≡ true → (1 ≤ k) × (k ≤ walk.n)
seated_is walk k so = let both = and_parts (leb 1 k) (leb k walk.n) so in (leb-true 1 k both.0, leb-true k walk.n both.1)

pub is_seated_lem : (walk : Walk) (shelves packets : List ℕ) (k : ℕ) → is_seated walk k ≡ true → seated (session_in walk shelves packets) k ≡ true
unfolding session_in
is_seated_lem walk shelves packets k so = so

-- 21, and nothing has changed
pub unknown_walks : (walk : Walk) (shelves packets : List ℕ) (told : Told) (walked : Walked) → Bounded walk
    → told ≡ unknown (session_in walk shelves packets) → walked ≡ record { walk = walk; report = bare 21 } → Walks told walked shelves packets
unknown_walks walk shelves packets told walked bounded so is =
    record {
      report_is = ap (λ (w : Walked). w.report) is ∙ sym (ap (λ (t : Told). t.report) so);
      session_is = ap (λ (w : Walked). session_in w.walk shelves packets) is ∙ sym (ap (λ (t : Told). t.session) so);
      bounded = subst (λ (w : Walked). Bounded w.walk) (sym is) bounded;
    }

-- a call at one seat, which leaves another state and shelf there
module _ (walk : Walk) (bounded : Bounded walk) (shelves packets : List ℕ) (shelves-long : length shelves ≡ shelves_size)
    (k : ℕ) (low : 1 ≤ k) (high : k ≤ walk.n) where
  pub call_walks : (seat : Seat) (shelf : List ℕ) (answer : Answer) (walked : Walked) (shelves-left : List ℕ) (told : Told)
      → seat.n ≡ (seat_in walk (k - 1)).n
      → walked ≡ walked_to walk (k - 1) seat answer
      → shelves-left ≡ with_piece (shelf_size walk) shelves (k - 1) shelf
      → length shelves-left ≡ length shelves
      → told ≡ record { report = report answer; session = with_place (session_in walk shelves packets) k (record { seat = seat; shelf = shelf }) }
      → Walks told walked shelves-left packets
  call_walks seat shelf answer walked shelves-left told same is left long so =
      record {
        report_is = ap (λ (w : Walked). w.report) is ∙ sym (ap (λ (t : Told). t.report) so);
        session_is =
            (λ p. session_in (is p).walk (left p) packets)
            ∙ session_after walk shelves packets (k - 1) seat shelf (omega arith) bounded.seats_within_most bounded.seats_long inside as_long
            (λ j h. shelf_inside walk bounded shelves j shelves-long h) k refl
            ∙ sym (ap (λ (t : Told). t.session) so);
        bounded = subst (λ (w : Walked). Bounded w.walk) (sym is)
            (still_bounded walk bounded (k - 1) seat (same ∙ bounded.same_session (k - 1) (omega arith)));
      }
    where
      inside : shelf_size walk * (k - 1) + shelf_size walk ≤ length shelves
      inside = shelf_inside walk bounded shelves (k - 1) shelves-long (omega arith)

      as_long : length shelf ≡ shelf_size walk
      as_long = back_as_long (shelf_size walk) (k - 1) shelves shelf inside (sym (ap length left) ∙ long)

-- ---- an arrival

both_hold : (a b : Bool) (x y : Told) → a ≡ true → b ≡ true → cond (a && b) x y ≡ x
both_hold a b x y ha hb = (λ p. cond (ha p && hb p) x y)

second_fails : (a b : Bool) (x y : Told) → b ≡ false → cond (a && b) x y ≡ y
second_fails true b x y hb = λ p. cond (hb p) x y
second_fails false b x y hb = refl

module _ (walk : Walk) (shelves packets : List ℕ) (k sender number : ℕ) where
  pub nobody_there : is_seated walk k ≡ false → arrive_told (session_in walk shelves packets) k sender number ≡ unknown (session_in walk shelves packets)
  unfolding arrive_told session_in
  nobody_there so = rw so

  test_held : ltb (found (session_in walk shelves packets) sender number) (length (session_in walk shelves packets).letters) ≡ ltb (found_in walk sender number) walk.letters
  test_held = λ p. ltb (found_held walk shelves packets sender number p) (letters_held walk shelves packets p)

  pub nothing_there : found_in walk sender number ≡ walk.letters
      → arrive_told (session_in walk shelves packets) k sender number ≡ unknown (session_in walk shelves packets)
  unfolding arrive_told
  nothing_there none =
      let session = session_in walk shelves packets in
      second_fails (seated session k) _ (arrived_packet session k (letter_at session (found session sender number)).bytes) _
      (test_held ∙ le-ltb (found_in walk sender number) walk.letters (omega arith))

  arriving : Told
  arriving =
      arrived (session_in walk shelves packets) k (place_in walk shelves (k - 1)) (packet_in walk packets (found_in walk sender number))
      (arrive_answer (seat_in walk (k - 1)) (shelf_in walk shelves (k - 1)) (packet_in walk packets (found_in walk sender number)))

  module _ (so : is_seated walk k ≡ true) (there : found_in walk sender number < walk.letters) where
    place : place_of (session_in walk shelves packets) k ≡ place_in walk shelves (k - 1)
    place = place_held walk shelves packets k (seated_is walk k so).0 (seated_is walk k so).1

    packet : (letter_at (session_in walk shelves packets) (found (session_in walk shelves packets) sender number)).bytes ≡ packet_in walk packets (found_in walk sender number)
    packet =
        ap (λ (i : ℕ). (letter_at (session_in walk shelves packets) i).bytes) (found_held walk shelves packets sender number)
        ∙ ap (λ (l : Letter). l.bytes) (letter_held walk shelves packets (found_in walk sender number) there)

    packet_there : arrive_told (session_in walk shelves packets) k sender number ≡ arriving
    unfolding arrive_told arriving
    packet_there =
        both_hold _ _ _ _ (is_seated_lem walk shelves packets k so) (test_held ∙ lt-ltb _ _ there)
        ∙ (λ p. arrived (session_in walk shelves packets) k (place p) (packet p) (arrive_answer (place p).seat (place p).shelf (packet p)))

  pub arrival_walks : Bounded walk → length shelves ≡ shelves_size → is_seated walk k ≡ true → found_in walk sender number < walk.letters
      → (walked : Walked) (shelves-left : List ℕ) → ArrivedAt walk (k - 1) (packet_in walk packets (found_in walk sender number)) shelves walked shelves-left
      → length shelves-left ≡ length shelves
      → Walks (arrive_told (session_in walk shelves packets) k sender number) walked shelves-left packets
  unfolding arriving arrived
  arrival_walks bounded shelves-long so there walked shelves-left at long =
      let packet = packet_in walk packets (found_in walk sender number) in
      let seat = seat_in walk (k - 1) in
      let answer = arrive_answer seat (shelf_in walk shelves (k - 1)) packet in
      call_walks walk bounded shelves packets shelves-long k (seated_is walk k so).0 (seated_is walk k so).1
      (seat_after answer (hand_over seat (heading_of packet) (past_of packet) (barrier_of packet)) seat) (shelf_after answer packet (shelf_in walk shelves (k - 1)))
      answer walked shelves-left _
      (steps_in_session answer _ seat (handing_over_keeps_seats seat (heading_of packet) (past_of packet) (barrier_of packet)))
      at.walked_is at.shelves_are long (packet_there so there)

-- ---- a release

module _ (walk : Walk) (shelves packets : List ℕ) (k : ℕ) where
  pub nobody_releases : is_seated walk k ≡ false → release_told (session_in walk shelves packets) k ≡ unknown (session_in walk shelves packets)
  unfolding release_told session_in
  nobody_releases so = rw so

  releasing : Told
  releasing =
      released (session_in walk shelves packets) k (place_in walk shelves (k - 1)) (chosen_packet (seat_in walk (k - 1)) (shelf_in walk shelves (k - 1)))
      (release_answer (seat_in walk (k - 1)) (shelf_in walk shelves (k - 1)) [])

  somebody_releases : is_seated walk k ≡ true → release_told (session_in walk shelves packets) k ≡ releasing
  unfolding release_told releasing
  somebody_releases so =
      let place = place_held walk shelves packets k (seated_is walk k so).0 (seated_is walk k so).1 in
      (λ p. cond (seated_held p)
      (released (session_in walk shelves packets) k (place p) (chosen_packet (place p).seat (place p).shelf) (release_answer (place p).seat (place p).shelf []))
      (unknown (session_in walk shelves packets)))
    where
      seated_held : seated (session_in walk shelves packets) k ≡ true
      seated_held = is_seated_lem walk shelves packets k so

  pub release_walks : Bounded walk → length shelves ≡ shelves_size → is_seated walk k ≡ true
      → (walked : Walked) (shelves-left : List ℕ) → ReleasedAt walk (k - 1) shelves walked shelves-left
      → length shelves-left ≡ length shelves
      → Walks (release_told (session_in walk shelves packets) k) walked shelves-left packets
  unfolding releasing released
  release_walks bounded shelves-long so walked shelves-left at long =
      let seat = seat_in walk (k - 1) in
      let shelf = shelf_in walk shelves (k - 1) in
      let packet = chosen_packet seat shelf in
      let answer = release_answer seat shelf [] in
      call_walks walk bounded shelves packets shelves-long k (seated_is walk k so).0 (seated_is walk k so).1
      (seat_after answer (hand_over seat (heading_of packet) (past_of packet) (barrier_of packet)) seat) (shelf_after_release answer seat shelf)
      answer walked shelves-left _
      (steps_in_session answer _ seat (handing_over_keeps_seats seat (heading_of packet) (past_of packet) (barrier_of packet)))
      at.walked_is at.shelves_are long (somebody_releases so)

-- the packet at i, of the room that is lent from start to end
pub packet_lent : (walk : Walk) (packets : List ℕ) (i start end : ℕ) → start ≡ packet_most * i → end ≡ packet_most * i + packet_most
    → take (3 + 4 * walk.n) (take (end - start) (drop start packets)) ≡ packet_in walk packets i
packet_lent walk packets i start end starts ends =
    ap (take (3 + 4 * walk.n)) (part_lent packet_most i packets start end starts ends)
    ∙ ap (λ (k : ℕ). take k (piece packet_most packets i)) (sym (add-zero (3 + 4 * walk.n)))

-- ---- a call at the seat at an index, which is lent its shelf from start to end

module _ (walk : Walk) (bounded : Bounded walk) (shelves packets : List ℕ) (shelves-long : length shelves ≡ shelves_size)
    (k i : ℕ) (so : (is_seated walk k ≡ true) × (i ≡ k - 1)) (stepped : Stepped) (after : List ℕ) (walked : Walked) (start end : ℕ)
    (starts : start ≡ shelf_size walk * i) (ends : end ≡ shelf_size walk * i + shelf_size walk)
    (as-long : length after ≡ length (take (end - start) (drop start shelves))) (moved : walked ≡ walked_to walk i stepped.seat stepped.answer) where
  there : i < walk.n
  there = let seated = seated_is walk k so.0 in omega (arith, so.1)

  kept : length (put_mid start (end - start) shelves after) ≡ length shelves
  kept = part_kept (shelf_size walk) i shelves start end starts ends after (shelf_inside walk bounded shelves i shelves-long there) as-long

  pub released_walks : (out : List ℕ) → Released (seat_in walk i) (take (end - start) (drop start shelves)) [] stepped after out
      → Walks (release_told (session_in walk shelves packets) k) walked (put_mid start (end - start) shelves after) packets
  released_walks out released =
      release_walks walk shelves packets k bounded shelves-long so.0 walked _
      (subst (λ (j : ℕ). ReleasedAt walk j shelves walked (put_mid start (end - start) shelves after)) so.1
      (released_at walk i shelves stepped after walked start end starts ends moved out released))
      kept

  pub arrived_walks : (sender number j : ℕ) → (j < walk.letters) × (j ≡ found_in walk sender number) → (packet : List ℕ) → packet ≡ packet_in walk packets j
      → Arrived (seat_in walk i) packet (take (end - start) (drop start shelves)) stepped after
      → Walks (arrive_told (session_in walk shelves packets) k sender number) walked (put_mid start (end - start) shelves after) packets
  arrived_walks sender number j found packet is arrived =
      arrival_walks walk shelves packets k sender number bounded shelves-long so.0 (omega (arith, found.0, found.1)) walked _
      (subst (λ (m : ℕ). ArrivedAt walk m (packet_in walk packets (found_in walk sender number)) shelves walked (put_mid start (end - start) shelves after)) so.1
      (subst (λ (bytes : List ℕ). ArrivedAt walk i bytes shelves walked (put_mid start (end - start) shelves after)) (is ∙ ap (packet_in walk packets) found.1)
      (arrived_at walk i shelves stepped after walked start end starts ends moved packet arrived)))
      kept
