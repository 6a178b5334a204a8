-- Demand 2: the two rules of document 000, section 3.2, on plain vectors and sets, line by line; and that the steps are
-- these rules. `Held`, `Counts` and `Bytes` are what the types of arrays and slices say, and a step has no other premise:
-- that state, shelf and packet are good follows from its answer.
use Rattle.std.specs.Prelude.{Ok, ℕ, ◌+◌, ◌≤◌, max, ◌≡◌, ◌↔◌, ◌⊎◌, true, List, length, take}
use Rattle.answers.specs.Answers.{seat_no, edit_no}
use Rattle.answers.specs.declared.Edit.{Edit}
use Rattle.answers.specs.declared.Answer.TheVariants.{Done}
use Rattle.vectors.specs.Vectors.{entry, Counts}
use Rattle.vectors.specs.Bytes.{Bytes}
use Rattle.window.specs.Window.{handed}
use Rattle.packet.specs.Packet.{sender_of, kind_of, past_of, barrier_of}
use Rattle.packet.specs.Reading.{headed, header_in, message, read_of, body_of}
use Rattle.packet.specs.Writing.{write_answer, write_output, at_start}
use Rattle.packet.specs.declared.Kind.{Kind}
use Rattle.packet.specs.declared.Kind.TheVariants.{Ordinary, Causal}
use Rattle.packet.specs.declared.Header.{Header}
use Rattle.packet.specs.declared.Heading.{Heading}
use Rattle.shelf.specs.Shelf.{slot_of, laid, free_slot, lowest_free}
use Rattle.seat.specs.State.{header_of, window_of, SoundState, Held}
use Rattle.seat.specs.Stock.{packet_at}
use Rattle.seat.specs.Sending.{kind_of as kind_wished, Sent}
use Rattle.seat.specs.Arriving.{Arrived}
use Rattle.seat.specs.Releasing.{Released}
use Rattle.seat.specs.declared.Seat.{Seat}
use Rattle.seat.specs.declared.Wish.{Wish}
use Rattle.seat.specs.declared.Stepped.{Stepped}
use Rattle.promises.specs.Demand1.{answer_number, SameSession, Ready, Next, RefusalsChangeNothing}

-- ---- the paper's rules

-- The arrays of a controller, by seat: past and barrier, and the sets of the numbers handed over.
pub record Controller : Type 1 where
  pub past : ℕ → ℕ
  pub barrier : ℕ → ℕ
  pub del : ℕ → ℕ → Type 0

-- For every seat 1 to n.
abbrev pub Each : ℕ → (ℕ → Type 0) → Type 0
Each n fact = (k : ℕ) → 1 ≤ k → k ≤ n → fact k

-- Seat i of n sends a message of kind x, which carries past_m and barrier_m.
pub record SendingRule (n i : ℕ) (x : Kind) (before : Controller) (past_m barrier_m : ℕ → ℕ) (after : Controller) : Type 0 where
  -- 1: if the kind is causal, barrier becomes past
  pub line_1_causal : x ≡ Causal → Each n (λ k. barrier_m k ≡ before.past k)
  pub line_1_ordinary : x ≡ Ordinary → Each n (λ k. barrier_m k ≡ before.barrier k)
  -- 2: past rises by one at i
  pub line_2_own : after.past i ≡ before.past i + 1
  pub line_2_others : Each n (λ k. (k ≡ i → ⊥) → after.past k ≡ before.past k)
  -- 3: the message goes out with past and barrier as they stand now
  pub line_3 : Each n (λ k. past_m k ≡ after.past k)
  -- 4: if the kind is causal, barrier becomes past again
  pub line_4_causal : x ≡ Causal → Each n (λ k. after.barrier k ≡ after.past k)
  pub line_4_ordinary : x ≡ Ordinary → Each n (λ k. after.barrier k ≡ barrier_m k)
  -- the sets are left
  pub sets_stay : Each n (λ k. (t : ℕ) → after.del k t ↔ before.del k t)

-- 5: of every seat, all edits 1 up to barrier_m are in the set.
abbrev pub Line5 : ℕ → Controller → (ℕ → ℕ) → Type 0
Line5 n before barrier_m = Each n (λ k. (t : ℕ) → 1 ≤ t → t ≤ barrier_m k → before.del k t)

-- A message of kind x from seat j is handed over at a seat of n; line 6 is the hand-over itself.
pub record DeliveryRule (n j : ℕ) (x : Kind) (past_m barrier_m : ℕ → ℕ) (before after : Controller) : Type 0 where
  -- 5: the message waited for this
  pub line_5 : Line5 n before barrier_m
  -- 7: its number joins the set of its sender
  pub line_7 : Each n (λ k. (t : ℕ) → after.del k t ↔ (before.del k t ⊎ ((k ≡ j) × (t ≡ past_m j))))
  -- 8: past is raised by the message's past
  pub line_8 : Each n (λ k. after.past k ≡ max (before.past k) (past_m k))
  -- 9: if causal, barrier is raised by the message's past
  pub line_9 : x ≡ Causal → Each n (λ k. after.barrier k ≡ max (before.barrier k) (past_m k))
  -- 10: if ordinary, barrier is raised by the message's barrier
  pub line_10 : x ≡ Ordinary → Each n (λ k. after.barrier k ≡ max (before.barrier k) (barrier_m k))

-- ---- a seat as the paper's controller

-- A vector by seat.
abbrev pub vector_of : List ℕ → ℕ → ℕ
vector_of v k = entry v (seat_no k)

-- past and barrier are the seat's; in del are the numbers at most run or marked in ahead.
abbrev pub controller_of : Seat → Controller
controller_of seat =
    record { past = vector_of seat.past; barrier = vector_of seat.barrier; del = λ k t. handed (window_of seat (seat_no k)) t ≡ true }

-- ---- the steps are the rules

-- A send that is done: its packet stands at the start of the output and reads as the message that the rule sends.
pub record SendDone (seat : Seat) (kind : Kind) (body out : List ℕ) (next : Seat) (after : List ℕ) : Type 0 where
  pub packet : List ℕ
  pub laid : after ≡ at_start packet out
  pub says : (read_of packet).answer ≡ Ok (headed kind (header_of seat))
  pub carries : body_of packet ≡ body
  pub rule : SendingRule seat.n seat.own.0 kind (controller_of seat) (vector_of (read_of packet).past) (vector_of (read_of packet).barrier) (controller_of next)

-- A packet is handed over by the rule; n and own number stay.
pub record HandOverDone (seat : Seat) (packet : List ℕ) (next : Seat) : Type 0 where
  pub rule : DeliveryRule seat.n (sender_of packet).0 (kind_of packet) (vector_of (past_of packet)) (vector_of (barrier_of packet)) (controller_of seat) (controller_of next)
  pub seats_stay : next.n ≡ seat.n
  pub own_stays : next.own ≡ seat.own

pub record Demand2 : Type 0 where
  -- at a sound seat, the test of a packet of its session against run is line 5
  pub ready_is_line_5 : (seat : Seat) (packet : List ℕ) → SoundState seat → SameSession seat packet
      → Ready seat packet ↔ Line5 seat.n (controller_of seat) (vector_of (barrier_of packet))
  -- a send answered 0 is lines 1 to 4
  pub send_is_the_rule : (seat : Seat) (wish : Wish) (body out : List ℕ) (stepped : Stepped) (after : List ℕ) → Held seat
      → Sent seat wish body out stepped after → answer_number stepped.answer ≡ 0 → SendDone seat (kind_wished wish) body out stepped.seat after
  -- an arrival answered 0 is lines 5 to 10, and leaves the shelf
  pub arrival_is_the_rule : (seat : Seat) (packet shelf : List ℕ) (stepped : Stepped) (after : List ℕ) → Held seat
      → Arrived seat packet shelf stepped after → answer_number stepped.answer ≡ 0 → HandOverDone seat packet stepped.seat × (after ≡ shelf)
  -- an arrival answered 1 does none of them: line 5 does not hold yet, the state stays, and the packet is laid in the
  -- lowest free slot
  pub shelving_hands_nothing_over : (seat : Seat) (packet shelf : List ℕ) (stepped : Stepped) (after : List ℕ)
      → Arrived seat packet shelf stepped after → answer_number stepped.answer ≡ 1
      → (stepped.seat ≡ seat)
      × (Line5 seat.n (controller_of seat) (vector_of (barrier_of packet)) → ⊥)
      × (after ≡ laid shelf (lowest_free shelf) (slot_of packet))
  -- a release answered 0 is lines 5 to 10 for the next packet on the shelf: its body goes to the start of the output, and
  -- its slot is zeroed
  pub release_is_the_rule : (seat : Seat) (shelf out : List ℕ) (stepped : Stepped) (shelf_left out_left : List ℕ) → Held seat
      → Released seat shelf out stepped shelf_left out_left → answer_number stepped.answer ≡ 0
      → (i : ℕ) × Next seat shelf i × HandOverDone seat (packet_at shelf i) stepped.seat × (out_left ≡ at_start (body_of (packet_at shelf i)) out)
      × (shelf_left ≡ laid shelf i free_slot)
  -- a release answered 2 changes nothing
  pub idle_release_does_nothing : (seat : Seat) (shelf out : List ℕ) (stepped : Stepped) (shelf_left out_left : List ℕ)
      → Released seat shelf out stepped shelf_left out_left → answer_number stepped.answer ≡ 2
      → (stepped.seat ≡ seat) × (shelf_left ≡ shelf) × (out_left ≡ out)
  -- and neither does a refusal
  pub refusals_do_nothing : RefusalsChangeNothing
  -- what is written reads back as the same message
  pub written_reads_back : (kind : Kind) (header : Header) (past barrier body out : List ℕ) (edit : Edit) → Counts past → Counts barrier
      → write_answer kind header past barrier body out ≡ Done edit
      → (read_of (take edit.length (write_output kind header past barrier body out)) ≡ message kind header past barrier)
      × (body_of (take edit.length (write_output kind header past barrier body out)) ≡ body)
  -- what is read and written again is the same bytes
  pub read_writes_again : (packet out : List ℕ) (heading : Heading) → Bytes packet → length packet ≤ length out → (read_of packet).answer ≡ Ok heading
      → (write_answer heading.kind (header_in heading) (read_of packet).past (read_of packet).barrier (body_of packet) out
      ≡ Done (record { sender = heading.sender; number = edit_no (entry (read_of packet).past heading.sender); length = length packet }))
      × (write_output heading.kind (header_in heading) (read_of packet).past (read_of packet).barrier (body_of packet) out ≡ at_start packet out)
