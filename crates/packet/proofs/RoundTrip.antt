-- Reading undoes writing, and writing undoes reading (demand 2).
use Prim.Native.Nat.{ℕ, ◌+◌, ◌*◌, ◌-◌, ◌/◌, ◌%◌, ◌≤◌, ◌<◌}
use mathlib.Core.Path.{◌≡◌, refl, sym, ap, ◌∙◌}
use mathlib.Core.Bool.{true}
use mathlib.Core.List.{List, [], ◌∷◌, ◌++◌, append_assoc}
use native.Mathlib.Decide.{ℕ_discrete}
use native.Mathlib.Omega.{arith}
use lib.ListN.{length, get_or, take, drop, length-append, length-drop, take-append-drop}
use lib.Seq.{get_or-take, length-take-le, take_at, drop_at, drop-drop, take-add}
use borrow.Author.Tests.{eq-eqb, ne_eqb}
use Rattle.answers.specs.Answers.{edit_no}
use Rattle.answers.specs.declared.Edit.{Edit}
use Rattle.answers.specs.declared.Answer.TheVariants.{Done}
use Rattle.vectors.specs.Vectors.{entry, Counts}
use Rattle.vectors.specs.Bytes.{number_at, fields_of, Bytes}
use Rattle.vectors.proofs.Vector.{is_vector, take_vector}
use Rattle.vectors.proofs.Numbers.{length_fields, field_written, fields_read}
use Rattle.vectors.proofs.Tests.{zero_above_at, zero_above_vector}
use Rattle.packet.specs.Packet.{version_of, seats_of, sender_of, kind_bit, kind_of, zero_bits_of, body_length_of, past_of, barrier_of, body_at, packet_length, vectors_point, first_bad_point}
use Rattle.packet.specs.Reading.{message, header_of, header_in, read_of, body_of}
use Rattle.packet.specs.Writing.{bit_of, head_of, packet_of, writable, edit_of, write_answer, write_output, at_start}
use Rattle.packet.specs.declared.Kind.{Kind}
use Rattle.packet.specs.declared.Kind.TheVariants.{Ordinary, Causal}
use Rattle.packet.specs.declared.Header.{Header}
use Rattle.packet.specs.declared.Heading.{Heading}
use Rattle.std.specs.Prelude.{Ok}
use Rattle.packet.proofs.Formed.{Head, Formed, formed, well, vectors_have, vectors_pass}
use Rattle.packet.proofs.Told.{told, read_formed, body_formed}
use Rattle.packet.proofs.Writable.{InRange, is_in_range, range_holds, Writable, can_be_written, writable_holds}
use Rattle.packet.proofs.Laid.{length_packet, answer_0, done_tells}

-- ---- written, then read

kind_back : (kind : Kind) (s : ℕ) → kind_bit ((s - 1) * 16 + bit_of kind * 8) ≡ kind
kind_back Ordinary s = simp (ne_eqb (((s - 1) * 16 + 0 * 8) / 8 % 2) 1 (omega arith))
kind_back Causal s = simp (eq-eqb (((s - 1) * 16 + 1 * 8) / 8 % 2) 1 (omega arith))

bit_small : (kind : Kind) → bit_of kind ≤ 1
bit_small Ordinary = omega arith
bit_small Causal = omega arith

module _ (kind : Kind) (header : Header) (past barrier body : List ℕ) (p : Counts past) (b : Counts barrier)
    (w : Writable kind header past barrier) (short : length body ≤ 200) where
  abbrev written : List ℕ
  written = packet_of kind header past barrier body

  range : InRange header
  range = is_in_range header w.range

  abbrev past_fields : List ℕ
  past_fields = fields_of 2 (take header.n past)

  abbrev barrier_fields : List ℕ
  barrier_fields = fields_of 2 (take header.n barrier)

  seats_back : seats_of written ≡ header.n
  unfolding packet_of
  seats_back = let r = range in omega arith

  version_back : version_of written ≡ 1
  unfolding packet_of
  version_back = let r = range in omega arith

  sender_back : (sender_of written).0 ≡ header.sender.0
  unfolding packet_of
  sender_back = let r = range in let bit = bit_small kind in omega arith

  zero_bits_back : zero_bits_of written ≡ 0
  unfolding packet_of
  zero_bits_back = let bit = bit_small kind in omega arith

  kind_same : kind_of written ≡ kind
  unfolding packet_of
  kind_same = kind_back kind header.sender.0

  body_length_back : body_length_of written ≡ length body
  unfolding packet_of
  body_length_back = refl

  -- the packet, seen from its past and from its barrier
  from_past : written ≡ head_of kind header (length body) ++ (past_fields ++ (barrier_fields ++ body))
  unfolding packet_of
  from_past = simp append_assoc

  from_barrier : written ≡ (head_of kind header (length body) ++ past_fields) ++ (barrier_fields ++ body)
  unfolding packet_of
  from_barrier = simp append_assoc

  -- n fields that stand at a place are the vector's entries
  fields_back : (v before after : List ℕ) (at : ℕ) → Counts v → length before ≡ at → written ≡ before ++ (fields_of 2 (take header.n v) ++ after)
      → (k : ℕ) → k < header.n → k < 16 → get_or v k 0 ≡ number_at 2 written (at + 2 * k)
  fields_back v before after at c here is k h b =
      let r = range in
      let long : length (take header.n v) ≡ header.n = length-take-le header.n v (omega (arith, c.long)) in
      let same : get_or (take header.n v) k 0 ≡ get_or v k 0 = get_or-take header.n v k 0 h in
      sym (rw is (field_written 2 before (take header.n v) after at k here (omega arith) (omega (arith, same, c.fits k))) ∙ same)

  past_back : past_of written ≡ past
  past_back =
      rw seats_back
      (sym (is_vector header.n _ past p.long (fields_back past (head_of kind header (length body)) (barrier_fields ++ body) 3 p refl from_past)
      (zero_above_at header.n past w.past_zero)))

  barrier_back : barrier_of written ≡ barrier
  barrier_back =
      let r = range in
      let long : length past_fields ≡ 2 * header.n = length_fields 2 header.n past (omega (arith, p.long)) in
      rw seats_back
      (sym (is_vector header.n _ barrier b.long (fields_back barrier (head_of kind header (length body) ++ past_fields) body (3 + 2 * header.n) b (omega arith) from_barrier)
      (zero_above_at header.n barrier w.barrier_zero)))

  formed_back : Formed written
  formed_back =
      let r = range in
      let long : length written ≡ packet_length header.n (length body) = length_packet kind header past barrier body (omega (arith, p.long)) (omega (arith, b.long)) in
      let points : vectors_point (kind_of written) (sender_of written) (past_of written) (barrier_of written) ≡ 0 =
      (λ i. vectors_point (kind_same i) (record { 0 = sender_back i }) (past_back i) (barrier_back i)) ∙ w.points in
      record {
        head = record {
          long = omega arith;
          version = version_back;
          zero_bits = zero_bits_back;
          sender = omega (arith, sender_back, seats_back);
          body = rw body_length_back short;
          exact = rw (seats_back, body_length_back) long;
        };
        ordered = vectors_have (sender_of written) (past_of written) (barrier_of written) (ap length past_back ∙ p.long) (ap length barrier_back ∙ b.long) (kind_of written) points;
      }

  pub packet_reads_back : read_of written ≡ message kind header past barrier
  packet_reads_back =
      read_formed written (well written formed_back)
      ∙ (λ i. message (kind_same i) (record { n = seats_back i; sender = record { 0 = sender_back i } }) (past_back i) (barrier_back i))

  behind_vectors : drop (body_at header.n) written ≡ body
  unfolding packet_of
  behind_vectors =
      let r = range in
      let lp : length past_fields ≡ 2 * header.n = length_fields 2 header.n past (omega (arith, p.long)) in
      let lb : length barrier_fields ≡ 2 * header.n = length_fields 2 header.n barrier (omega (arith, b.long)) in
      let both = length-append past_fields barrier_fields in
      drop_at (head_of kind header (length body) ++ past_fields ++ barrier_fields) body (body_at header.n) (omega arith)

  pub packet_body_back : body_of written ≡ body
  packet_body_back = body_formed written (well written formed_back) ∙ rw seats_back behind_vectors

-- A packet that was written reads back as the same message. It stands at the output's start, as long as the answer says.
pub record ReadsBack (kind : Kind) (header : Header) (past barrier body out : List ℕ) (edit : Edit) : Type 0 where
  pub answer : edit ≡ edit_of header past body
  pub reading : read_of (take edit.length (write_output kind header past barrier body out)) ≡ message kind header past barrier
  pub body_same : body_of (take edit.length (write_output kind header past barrier body out)) ≡ body

pub written_reads_back : (kind : Kind) (header : Header) (past barrier body out : List ℕ) (edit : Edit) → Counts past → Counts barrier
    → write_answer kind header past barrier body out ≡ Done edit → ReadsBack kind header past barrier body out edit
written_reads_back kind header past barrier body out edit p b e =
    let d = done_tells kind header past barrier body out edit e in
    let w = can_be_written kind header past barrier d.good in
    let r = is_in_range header w.range in
    let packet = packet_of kind header past barrier body in
    let long : length packet ≡ edit.length =
    length_packet kind header past barrier body (omega (arith, p.long)) (omega (arith, b.long)) ∙ sym (ap (λ (x : Edit). x.length) d.edit_is) in
    let written : take edit.length (write_output kind header past barrier body out) ≡ packet =
    ap (take edit.length) d.output_is ∙ take_at packet (drop (length packet) out) edit.length long in
    record {
      answer = d.edit_is;
      reading = rw written (packet_reads_back kind header past barrier body p b w d.short);
      body_same = rw written (packet_body_back kind header past barrier body p b w d.short);
    }

-- ---- read, then written

bit_of_kind : (byte : ℕ) → bit_of (kind_bit byte) ≡ byte / 8 % 2
bit_of_kind byte =
    elim (ℕ_discrete (byte / 8 % 2) 1) [
      | yes e ↦ simp (eq-eqb _ _ e) (sym e)
      | no ne ↦ simp (ne_eqb _ _ ne) (omega arith)
    ]

three : (s : List ℕ) → 3 ≤ length s → get_or s 0 0 ∷ get_or s 1 0 ∷ get_or s 2 0 ∷ drop 3 s ≡ s
three [] h = absurd (omega arith)
three (a ∷ []) h = absurd (omega arith)
three (a ∷ b ∷ []) h = absurd (omega arith)
three (a ∷ b ∷ c ∷ rest) h = refl

-- head, past, barrier and body are the whole packet
pieces : (s : List ℕ) (n : ℕ) → 3 ≤ length s
    → get_or s 0 0 ∷ get_or s 1 0 ∷ get_or s 2 0 ∷ (take (2 * n) (drop 3 s) ++ take (2 * n) (drop (3 + 2 * n) s) ++ drop (body_at n) s) ≡ s
pieces s n h =
    let at : 3 + 4 * n ≡ 3 + (2 * n + 2 * n) = omega arith in
    let behind : take (2 * n) (drop 3 s) ++ take (2 * n) (drop (3 + 2 * n) s) ++ drop (body_at n) s ≡ drop 3 s =
    rw (at, ← drop-drop (2 * n + 2 * n) 3 s, ← drop-drop (2 * n) 3 s, ← take-add (2 * n) (2 * n) (drop 3 s)) (take-append-drop (2 * n + 2 * n) (drop 3 s)) in
    ap (λ (t : List ℕ). get_or s 0 0 ∷ get_or s 1 0 ∷ get_or s 2 0 ∷ t) behind ∙ three s h

module _ (packet : List ℕ) (bytes : Bytes packet) (z : first_bad_point packet ≡ 0) where
  head_holds : Head packet
  head_holds = (formed packet z).head

  writable_again : writable (kind_of packet) (header_of packet) (past_of packet) (barrier_of packet) ≡ true
  writable_again =
      let h = head_holds in
      writable_holds (kind_of packet) (header_of packet) (past_of packet) (barrier_of packet)
      (record {
        range = range_holds (header_of packet) (record { seats_low = omega arith; seats_high = omega arith; sender_low = omega arith; sender_high = h.sender });
        points = vectors_pass (sender_of packet) (past_of packet) (barrier_of packet) (kind_of packet) (formed packet z).ordered;
        past_zero = zero_above_vector _ _;
        barrier_zero = zero_above_vector _ _;
      })

  body_long : length (body_of packet) ≡ body_length_of packet
  body_long = let h = head_holds in ap length (body_formed packet z) ∙ length-drop (body_at (seats_of packet)) packet ∙ omega arith

  packet_again : packet_of (kind_of packet) (header_of packet) (past_of packet) (barrier_of packet) (body_of packet) ≡ packet
  unfolding packet_of
  packet_again =
      let h = head_holds in
      let bit = bit_of_kind (get_or packet 1 0) in
      let first : 16 + (seats_of packet - 1) ≡ get_or packet 0 0 = omega (arith, h.version) in
      let second : ((sender_of packet).0 - 1) * 16 + bit_of (kind_of packet) * 8 ≡ get_or packet 1 0 = omega (arith, h.zero_bits) in
      let pasts : fields_of 2 (take (seats_of packet) (past_of packet)) ≡ take (2 * seats_of packet) (drop 3 packet) =
      rw (take_vector (seats_of packet) _ (omega arith)) (fields_read 2 (seats_of packet) packet 3 bytes (omega arith)) in
      let barriers : fields_of 2 (take (seats_of packet) (barrier_of packet)) ≡ take (2 * seats_of packet) (drop (3 + 2 * seats_of packet) packet) =
      rw (take_vector (seats_of packet) _ (omega arith)) (fields_read 2 (seats_of packet) packet (3 + 2 * seats_of packet) bytes (omega arith)) in
      (λ i. first i ∷ second i ∷ body_long i ∷ (pasts i ++ barriers i ++ body_formed packet z i)) ∙ pieces packet (seats_of packet) h.long

  again_done : (out : List ℕ) → length packet ≤ length out
      → write_answer (kind_of packet) (header_of packet) (past_of packet) (barrier_of packet) (body_of packet) out
      ≡ Done (record { sender = sender_of packet; number = edit_no (entry (past_of packet) (sender_of packet)); length = length packet })
  again_done out room =
      let h = head_holds in
      let l = body_long in
      let whole : packet_length (seats_of packet) (length (body_of packet)) ≡ length packet = omega arith in
      answer_0 (kind_of packet) (header_of packet) (past_of packet) (barrier_of packet) (body_of packet) out (omega arith) writable_again (omega arith)
      ∙ ap (λ (long : ℕ). Done (record { sender = sender_of packet; number = edit_no (entry (past_of packet) (sender_of packet)); length = long })) whole

  again_output : (out : List ℕ) → length packet ≤ length out
      → write_output (kind_of packet) (header_of packet) (past_of packet) (barrier_of packet) (body_of packet) out ≡ at_start packet out
  again_output out room =
      (done_tells (kind_of packet) (header_of packet) (past_of packet) (barrier_of packet) (body_of packet) out _ (again_done out room)).output_is
      ∙ ap (λ (p : List ℕ). at_start p out) packet_again

-- A packet that was read and is written again, into an output with room for it, is the same bytes, and that write is answered 0.
pub record WritesAgain (packet out : List ℕ) (heading : Heading) : Type 0 where
  pub answered : write_answer heading.kind (header_in heading) (read_of packet).past (read_of packet).barrier (body_of packet) out
      ≡ Done (record { sender = heading.sender; number = edit_no (entry (read_of packet).past heading.sender); length = length packet })
  pub output : write_output heading.kind (header_in heading) (read_of packet).past (read_of packet).barrier (body_of packet) out ≡ at_start packet out

pub read_writes_again : (packet out : List ℕ) (heading : Heading) → Bytes packet → length packet ≤ length out → (read_of packet).answer ≡ Ok heading
    → WritesAgain packet out heading
read_writes_again packet out heading bytes room answered =
    let t = told packet (read_of packet) refl heading answered in
    record {
      answered = rw (t.heading_is, t.past, t.barrier) (again_done packet bytes t.is_well_formed out room);
      output = rw (t.heading_is, t.past, t.barrier) (again_output packet bytes t.is_well_formed out room);
    }
