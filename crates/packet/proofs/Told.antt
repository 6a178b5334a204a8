-- Reading as plain facts: what it answers in each case, and what a caller knows once it has matched on the answer.
use Prim.Native.Nat.{ℕ, ◌≤◌}
use mathlib.Core.Path.{◌≡◌, refl, sym, ap, ◌∙◌}
use mathlib.Core.Bool.{true}
use mathlib.Core.List.{List, []}
use native.Mathlib.Decide.{ℕ_discrete}
use native.Mathlib.Omega.{arith}
use lib.ListN.{length, drop}
use borrow.Author.Tests.{eq-eqb, ne_eqb}
use Rattle.std.specs.Prelude.{Result, Ok}
use Rattle.answers.specs.declared.Refusal.{Refusal}
use Rattle.vectors.specs.Vectors.{zero_above}
use Rattle.vectors.proofs.Vector.{length_vector}
use Rattle.vectors.proofs.Tests.{zero_above_vector}
use Rattle.packet.specs.Packet.{seats_of, sender_of, kind_of, body_length_of, past_of, barrier_of, body_at, packet_length, first_bad_point}
use Rattle.packet.specs.Reading.{refused, message, header_of, headed, read_of, body_of}
use Rattle.packet.specs.declared.Heading.{Heading}
use Rattle.packet.specs.declared.Reading.{Reading}
use Rattle.packet.proofs.Formed.{Ordered, formed}

-- ---- each case

module _ (packet : List ℕ) where
  pub read_formed : first_bad_point packet ≡ 0 → read_of packet ≡ message (kind_of packet) (header_of packet) (past_of packet) (barrier_of packet)
  unfolding read_of
  read_formed e = simp (eq-eqb _ _ e)

  pub read_refused : (first_bad_point packet ≡ 0 → ⊥) → read_of packet ≡ refused
  unfolding read_of
  read_refused h = simp (ne_eqb _ _ h)

  pub body_formed : first_bad_point packet ≡ 0 → body_of packet ≡ drop (body_at (seats_of packet)) packet
  unfolding body_of
  body_formed e = simp (eq-eqb _ _ e)

  pub body_refused : (first_bad_point packet ≡ 0 → ⊥) → body_of packet ≡ []
  unfolding body_of
  body_refused h = simp (ne_eqb _ _ h)

-- ---- once the answer is matched on

-- what a good answer tells of the packet, its heading and the vectors beside it
pub record Told (packet : List ℕ) (reading : Reading) (heading : Heading) : Type 0 where
  pub is_well_formed : first_bad_point packet ≡ 0
  pub is : reading ≡ message (kind_of packet) (header_of packet) (past_of packet) (barrier_of packet)
  pub heading_is : heading ≡ headed (kind_of packet) (header_of packet)
  pub n : heading.n ≡ seats_of packet
  pub sender : heading.sender ≡ sender_of packet
  pub kind : heading.kind ≡ kind_of packet
  pub past : reading.past ≡ past_of packet
  pub barrier : reading.barrier ≡ barrier_of packet
  pub seats_low : 1 ≤ heading.n
  pub seats_high : heading.n ≤ 16
  pub sender_low : 1 ≤ heading.sender.0
  pub sender_high : heading.sender.0 ≤ heading.n
  pub body_short : body_length_of packet ≤ 200
  pub exact : length packet ≡ packet_length heading.n (body_length_of packet)
  pub past_long : length reading.past ≡ 16
  pub barrier_long : length reading.barrier ≡ 16
  pub past_zero : zero_above heading.n reading.past ≡ true
  pub barrier_zero : zero_above heading.n reading.barrier ≡ true
  pub ordered : Ordered heading.kind heading.sender reading.past reading.barrier

pub told_of : (packet : List ℕ) → first_bad_point packet ≡ 0
    → Told packet (message (kind_of packet) (header_of packet) (past_of packet) (barrier_of packet)) (headed (kind_of packet) (header_of packet))
told_of packet z =
    let f = formed packet z in
    let h = f.head in
    record {
      is_well_formed = z;
      is = refl;
      heading_is = refl;
      n = refl;
      sender = refl;
      kind = refl;
      past = refl;
      barrier = refl;
      seats_low = omega arith;
      seats_high = omega arith;
      sender_low = omega arith;
      sender_high = h.sender;
      body_short = h.body;
      exact = h.exact;
      past_long = length_vector _ _;
      barrier_long = length_vector _ _;
      past_zero = zero_above_vector _ _;
      barrier_zero = zero_above_vector _ _;
      ordered = f.ordered;
    }

pub told : (packet : List ℕ) (reading : Reading) → reading ≡ read_of packet → (heading : Heading) → reading.answer ≡ Ok heading → Told packet reading heading
told packet reading is heading answered =
    elim (ℕ_discrete (first_bad_point packet) 0) [
      | yes z ↦
          (let good = is ∙ read_formed packet z in
          let same : ◌≡◌ {A = Result Heading Refusal} (Ok heading) (Ok (headed (kind_of packet) (header_of packet))) = sym answered ∙ ap (λ (r : Reading). r.answer) good in
          let same_heading : heading ≡ headed (kind_of packet) (header_of packet) = cc in
          rw (same_heading, good) (told_of packet z))
      | no bad ↦ (let clash : ◌≡◌ {A = Result Heading Refusal} (Ok heading) refused.answer = sym answered ∙ ap (λ (r : Reading). r.answer) (is ∙ read_refused packet bad) in cc)
    ]

-- ---- a message that was read

pub message_is_read : (packet : List ℕ) (heading : Heading) (past barrier : List ℕ) → first_bad_point packet ≡ 0 → heading ≡ headed (kind_of packet) (header_of packet)
    → past ≡ past_of packet → barrier ≡ barrier_of packet → record { answer = Ok heading; past = past; barrier = barrier } ≡ read_of packet
message_is_read packet heading past barrier well h p b = (λ i. record { answer = Ok (h i); past = p i; barrier = b i }) ∙ sym (read_formed packet well)
