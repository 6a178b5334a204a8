-- A send: what the call leaves in memory is what the session is told.
use Prim.Native.Nat.{ℕ, suc, ◌+◌, ◌*◌, ◌-◌, ◌≤◌, ◌<◌}
use mathlib.Core.Bool.{true, false, cond}
use mathlib.Core.Path.{◌≡◌, refl, subst, sym, ap, ◌∙◌}
use mathlib.Core.List.{List, [], ◌∷◌, ◌++◌}
use native.Mathlib.Numerals.{add-one}
use native.Mathlib.Nat.{mul-suc, mul-le-mul_left}
use native.Mathlib.Omega.{arith}
use borrow.Author.Tests.{le-leb, lt-leb}
use lib.Dec.{leb}
use lib.ListN.{length, set, take, drop, length-set}
use borrow.Rule.Slice.PartMut.{put_mid}
use lib.Seq.{get_or-set_same, get_or-set_other, take_at}
use Rattle.answers.specs.Answers.{report}
use Rattle.answers.specs.declared.Answer.{Answer}
use Rattle.answers.specs.declared.Answer.TheVariants.{Opened, Done, Shelved, NothingReady, Refused}
use Rattle.answers.specs.declared.Edit.{Edit}
use Rattle.packet.specs.Packet.{packet_length}
use Rattle.packet.specs.Writing.{output_after}
use Rattle.shelf.proofs.Pieces.{length_piece, put_reads_back, put_keeps_others}
use Rattle.seat.specs.Sending.{kind_of, packet_sent, sent_seat, send_refusals, send_answer, seat_after}
use Rattle.seat.specs.declared.Seat.{Seat}
use Rattle.seat.specs.declared.Stepped.{Stepped}
use Rattle.seat.specs.declared.Wish.{Wish}
use Rattle.seat.proofs.Sent.{sending_keeps_seats}
use Rattle.steps.specs.Session.{Letter, Session, Told, unknown, nobody, sends_most, packet_most, room, counted, letters_after, sent, send_told, list_of}
use Rattle.steps.specs.Memory.{piece, with_piece, seat_in, shelf_in, place_in, packet_in, no_edit, edit_in, letter_in, session_in, packets_size, Bounded, Walks, is_seated, with_send, with_seat, with_edit, walked_to, SentEmpty}
use Rattle.steps.specs.declared.walk.Walk.{Walk}
use Rattle.steps.specs.declared.walk.Walked.{Walked}
use Rattle.steps.proofs.Parts.{part_kept}
use Rattle.steps.proofs.AtSeat.{SentAt, sent_at}
use Rattle.steps.proofs.ListOf.{same_list_of, set_list_of}
use Rattle.steps.proofs.Held.{back_as_long, place_held, still_bounded}
use Rattle.steps.proofs.Walking.{steps_in_session, seated_is, is_seated_lem}

-- of the output a send looks at the length alone
length_decides : (seat : Seat) (body out other : List ℕ) → length out ≡ length other → send_answer seat body out ≡ send_answer seat body other
unfolding send_answer send_refusals
length_decides seat body out other same = rw same

module _ (walk : Walk) (shelves packets : List ℕ) (k : ℕ) (wish : Wish) where
  pub too_many_sends : sends_most ≤ walk.sends → send_told (session_in walk shelves packets) k wish ≡ unknown (session_in walk shelves packets)
  unfolding send_told session_in
  too_many_sends many = rw (le-leb sends_most walk.sends many)

  pub nobody_sends : walk.sends < sends_most → is_seated walk k ≡ false
      → send_told (session_in walk shelves packets) k wish ≡ unknown (session_in (with_send walk) shelves packets)
  unfolding send_told session_in
  nobody_sends few so = rw (lt-leb sends_most walk.sends few, so)

  few_sends : walk.sends < sends_most → leb sends_most (session_in walk shelves packets).sends ≡ false
  unfolding session_in
  few_sends few = lt-leb sends_most walk.sends few

  sending : Told
  sending = sent (counted (session_in walk shelves packets)) k wish (place_in walk shelves (k - 1)) (send_answer (seat_in walk (k - 1)) [] room)

  somebody_sends : walk.sends < sends_most → is_seated walk k ≡ true → send_told (session_in walk shelves packets) k wish ≡ sending
  unfolding send_told sending
  somebody_sends few so =
      let place = place_held walk shelves packets k (seated_is walk k so).0 (seated_is walk k so).1 in
      (λ p. cond (few_sends few p) (unknown (session_in walk shelves packets))
      (cond (is_seated_lem walk shelves packets k so p)
      (sent (counted (session_in walk shelves packets)) k wish (place p) (send_answer (place p).seat [] room))
      (unknown (counted (session_in walk shelves packets)))))

-- the packet that was sent last, and those before it
module _ (walk : Walk) (shelves packets : List ℕ) (i : ℕ) (next : Seat) (packet : List ℕ) (there : i < walk.n) (seats_within_most : walk.n ≤ 16) (room-left : walk.letters < 256)
    (seats_long : length walk.seats ≡ 16) (edits_long : length walk.edits ≡ 256) (packets-long : length packets ≡ packets_size)
    (packet_long : length packet ≡ packet_length walk.n 0) where
  inside : (j : ℕ) → j < 256 → packet_most * j + packet_most ≤ length packets
  inside j h = let fewer : suc j ≤ 256 = h in omega (arith, mul-suc packet_most j, mul-le-mul_left packet_most fewer)

  places_sent : list_of walk.n (place_in (with_seat walk i next) shelves)
      ≡ set (list_of walk.n (place_in walk shelves)) i (record { seat = next; shelf = shelf_in walk shelves i })
  places_sent =
      set_list_of walk.n i (place_in walk shelves) (place_in (with_seat walk i next) shelves) there
      (λ j h other. λ p. record { seat = get_or-set_other walk.seats i j next nobody other p; shelf = shelf_in walk shelves j })
      ∙ ap (set (list_of walk.n (place_in walk shelves)) i)
      (λ p. record { seat = get_or-set_same walk.seats i next nobody (omega arith) p; shelf = shelf_in walk shelves i })

  module _ (bytes : List ℕ) (long : length bytes ≡ packet_most) where
    kept_packet : (j : ℕ) → j < walk.letters → packet_in walk (with_piece packet_most packets walk.letters bytes) j ≡ packet_in walk packets j
    kept_packet j h =
        ap (take (packet_length walk.n 0))
        (put_keeps_others packet_most packets walk.letters bytes (inside walk.letters room-left) long j (λ e. omega arith) (inside j (omega arith)))

    letters_kept : list_of walk.letters (letter_in walk (with_piece packet_most packets walk.letters bytes)) ≡ list_of walk.letters (letter_in walk packets)
    letters_kept =
        same_list_of walk.letters (letter_in walk (with_piece packet_most packets walk.letters bytes)) (letter_in walk packets)
        (λ j h. λ p. record { sender = (edit_in walk j).sender.0; number = (edit_in walk j).number.0; bytes = kept_packet j h p })

    new_packet : (rest : List ℕ) → bytes ≡ packet ++ rest → packet_in walk (with_piece packet_most packets walk.letters bytes) walk.letters ≡ packet
    new_packet rest is =
        ap (take (packet_length walk.n 0)) (put_reads_back packet_most packets walk.letters bytes (inside walk.letters room-left) long ∙ is)
        ∙ take_at packet rest (packet_length walk.n 0) packet_long

    letters_more : (edit : Edit) (rest : List ℕ) → bytes ≡ packet ++ rest
        → list_of (walk.letters + 1) (letter_in (with_edit walk (Done edit)) (with_piece packet_most packets walk.letters bytes))
        ≡ letters_after (Done edit) packet (list_of walk.letters (letter_in walk packets))
    unfolding list_of
    letters_more edit rest is =
        ap (λ (n : ℕ). list_of n after) (add-one walk.letters)
        ∙ (λ p. same_list_of walk.letters after (letter_in walk packets) kept p ++ (last p ∷ []))
      where
        after : ℕ → Letter
        after = letter_in (with_edit walk (Done edit)) (with_piece packet_most packets walk.letters bytes)

        kept : (j : ℕ) → j < walk.letters → after j ≡ letter_in walk packets j
        kept j h =
            λ p. record {
              sender = (get_or-set_other walk.edits walk.letters j edit no_edit (λ e. omega arith) p).sender.0;
              number = (get_or-set_other walk.edits walk.letters j edit no_edit (λ e. omega arith) p).number.0;
              bytes = kept_packet j h p;
            }

        last : after walk.letters ≡ record { sender = edit.sender.0; number = edit.number.0; bytes = packet }
        last =
            λ p. record {
              sender = (get_or-set_same walk.edits walk.letters edit no_edit (omega arith) p).sender.0;
              number = (get_or-set_same walk.edits walk.letters edit no_edit (omega arith) p).number.0;
              bytes = new_packet rest is p;
            }

  -- the session after a send that was answered so
  after_send : Answer → Session
  after_send answer =
      record {
        n = walk.n;
        sends = walk.sends + 1;
        places = set (list_of walk.n (place_in walk shelves)) i (record { seat = next; shelf = shelf_in walk shelves i });
        letters = letters_after answer packet (list_of walk.letters (letter_in walk packets));
      }

  unsent : (bytes : List ℕ) → length bytes ≡ packet_most
      → session_in (with_seat (with_send walk) i next) shelves (with_piece packet_most packets walk.letters bytes) ≡ after_send NothingReady
  unfolding session_in after_send
  unsent bytes long = λ p. record { n = walk.n; sends = walk.sends + 1; places = places_sent p; letters = letters_kept bytes long p }

  session_sent : (answer : Answer) → length (output_after answer packet (piece packet_most packets walk.letters)) ≡ packet_most
      → session_in (with_seat (with_edit (with_send walk) answer) i next) shelves
      (with_piece packet_most packets walk.letters (output_after answer packet (piece packet_most packets walk.letters)))
      ≡ after_send answer
  unfolding session_in after_send
  session_sent (Done edit) long =
      λ p. record { n = walk.n; sends = walk.sends + 1; places = places_sent p; letters = letters_more _ long edit _ refl p }
  session_sent Opened long = unsent (piece packet_most packets walk.letters) long
  session_sent Shelved long = unsent (piece packet_most packets walk.letters) long
  session_sent NothingReady long = unsent (piece packet_most packets walk.letters) long
  session_sent (Refused refusal) long = unsent (piece packet_most packets walk.letters) long

module _ (walk : Walk) (bounded : Bounded walk) (few : walk.sends < sends_most) where
  pub counted_bounded : Bounded (with_send walk)
  counted_bounded =
      record {
        seats_within_most = bounded.seats_within_most;
        slots_within_most = bounded.slots_within_most;
        letters_most = omega (arith, bounded.letters_most);
        sends_within_most = omega arith;
        same_session = bounded.same_session;
        seats_long = bounded.seats_long;
        edits_long = bounded.edits_long;
      }

  keeps_n : (answer : Answer) → (with_edit (with_send walk) answer).n ≡ walk.n
  keeps_n (Done edit) = refl
  keeps_n Opened = refl
  keeps_n Shelved = refl
  keeps_n NothingReady = refl
  keeps_n (Refused refusal) = refl

  still_bounded_sent : (answer : Answer) → Bounded (with_edit (with_send walk) answer)
  still_bounded_sent (Done edit) =
      record {
        seats_within_most = bounded.seats_within_most;
        slots_within_most = bounded.slots_within_most;
        letters_most = omega (arith, bounded.letters_most);
        sends_within_most = omega arith;
        same_session = bounded.same_session;
        seats_long = bounded.seats_long;
        edits_long = length-set walk.edits walk.letters edit ∙ bounded.edits_long;
      }
  still_bounded_sent Opened = counted_bounded
  still_bounded_sent Shelved = counted_bounded
  still_bounded_sent NothingReady = counted_bounded
  still_bounded_sent (Refused refusal) = counted_bounded

module _ (walk : Walk) (bounded : Bounded walk) (few : walk.sends < sends_most) (shelves packets : List ℕ) (k : ℕ) (so : is_seated walk k ≡ true) (wish : Wish)
    (packets-long : length packets ≡ packets_size) (walked : Walked) (packets-left : List ℕ) (at : SentAt (with_send walk) (k - 1) wish packets walked packets-left) (as_long : length packets-left ≡ length packets) where
  there : k - 1 < walk.n
  there = let z = seated_is walk k so in omega arith

  in_session : (seat_in walk (k - 1)).n ≡ walk.n
  in_session = bounded.same_session (k - 1) there

  inside_it : packet_most * walk.letters + packet_most ≤ length packets
  inside_it =
      let fewer : suc walk.letters ≤ 256 = omega (arith, bounded.letters_most) in
      omega (arith, mul-suc packet_most walk.letters, mul-le-mul_left packet_most fewer)

  same_answer : send_answer (seat_in walk (k - 1)) [] (piece packet_most packets walk.letters) ≡ send_answer (seat_in walk (k - 1)) [] room
  same_answer = length_decides (seat_in walk (k - 1)) [] (piece packet_most packets walk.letters) room (length_piece packet_most packets walk.letters inside_it)

  pub send_walks : Walks (send_told (session_in walk shelves packets) k wish) walked shelves packets-left
  unfolding sending sent after_send session_in
  send_walks =
      let ans = send_answer (seat_in walk (k - 1)) [] (piece packet_most packets walk.letters) in
      let packet = packet_sent (seat_in walk (k - 1)) (kind_of wish) [] in
      let next = seat_after ans (sent_seat (seat_in walk (k - 1)) (kind_of wish)) (seat_in walk (k - 1)) in
      let same : next.n ≡ walk.n = steps_in_session ans _ (seat_in walk (k - 1)) (sending_keeps_seats (seat_in walk (k - 1)) (kind_of wish)) ∙ in_session in
      let packet_long : length packet ≡ packet_length walk.n 0 = at.packet_long (rw in_session bounded.seats_within_most) ∙ ap (λ (n : ℕ). packet_length n 0) in_session in
      let out-long : length (output_after ans packet (piece packet_most packets walk.letters)) ≡ packet_most
      = back_as_long packet_most walk.letters packets (output_after ans packet (piece packet_most packets walk.letters)) inside_it (sym (ap length at.packets_are) ∙ as_long) in
      let told = somebody_sends walk shelves packets k wish few so in
      record {
        report_is = ap (λ (w : Walked). w.report) at.walked_is ∙ ap report same_answer ∙ sym (ap (λ (t : Told). t.report) told);
        session_is = (λ p. session_in (at.walked_is p).walk shelves (at.packets_are p))
            ∙ session_sent walk shelves packets (k - 1) next packet there bounded.seats_within_most (omega (arith, bounded.letters_most)) bounded.seats_long bounded.edits_long packets-long packet_long ans out-long
            ∙ (λ p. record {
              n = walk.n;
              sends = walk.sends + 1;
              places = set (list_of walk.n (place_in walk shelves)) (k - 1)
                  (record { seat = seat_after (same_answer p) (sent_seat (seat_in walk (k - 1)) (kind_of wish)) (seat_in walk (k - 1)); shelf = shelf_in walk shelves (k - 1) });
              letters = letters_after (same_answer p) packet (list_of walk.letters (letter_in walk packets));
            })
            ∙ sym (ap (λ (t : Told). t.session) told);
        bounded = subst (λ (w : Walked). Bounded w.walk) (sym at.walked_is)
            (still_bounded (with_edit (with_send walk) ans) (still_bounded_sent walk bounded few ans) (k - 1) next (same ∙ sym (keeps_n walk bounded few ans)));
      }

-- a send at the seat at an index, which is lent room from start to end
pub sent_walks : (walk : Walk) → Bounded walk → walk.sends < sends_most → (shelves packets : List ℕ) → length packets ≡ packets_size
    → (k i : ℕ) → (is_seated walk k ≡ true) × (i ≡ k - 1) → (wish : Wish) (noted : Walk) (stepped : Stepped) (after : List ℕ) (walked : Walked) (start end : ℕ)
    → start ≡ packet_most * walk.letters → end ≡ packet_most * walk.letters + packet_most
    → length after ≡ length (take (end - start) (drop start packets))
    → SentEmpty (seat_in walk i) wish (take (end - start) (drop start packets)) stepped after
    → noted ≡ with_edit (with_send walk) stepped.answer → walked ≡ walked_to noted i stepped.seat stepped.answer
    → Walks (send_told (session_in walk shelves packets) k wish) walked shelves (put_mid start (end - start) packets after)
sent_walks walk bounded few shelves packets packets-long k i so wish noted stepped after walked start end starts ends as-long sent noting moved =
    send_walks walk bounded few shelves packets k so.0 wish packets-long walked _
    (subst (λ (j : ℕ). SentAt (with_send walk) j wish packets walked (put_mid start (end - start) packets after)) so.1
    (sent_at (with_send walk) i packets stepped after walked start end wish noted starts ends sent noting moved))
    (part_kept packet_most walk.letters packets start end starts ends after inside as-long)
  where
    inside : packet_most * walk.letters + packet_most ≤ length packets
    inside =
        let fewer : suc walk.letters ≤ 256 = omega (arith, bounded.letters_most) in
        omega (arith, mul-suc packet_most walk.letters, mul-le-mul_left packet_most fewer)
