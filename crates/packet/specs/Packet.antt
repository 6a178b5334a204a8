-- The packet: its fields, bit-packed with the most significant first, and the eight points of well-formedness in
-- document 01's order. A packet is the list of its bytes.
use Rattle.std.specs.Prelude.{ℕ, suc, ◌+◌, ◌*◌, ◌-◌, ◌/◌, ◌%◌, Bool, true, false, cond, ◌&&◌, List, [], ◌∷◌, ◌++◌, leb, ltb, eqb, length, get_or, set}
use Rattle.answers.specs.Answers.{seat_no}
use Rattle.answers.specs.declared.SeatNo.{SeatNo}
use Rattle.vectors.specs.Vectors.{vector, entry, within, same}
use Rattle.vectors.specs.Bytes.{number_at}
use Rattle.packet.specs.declared.Kind.{Kind}
use Rattle.packet.specs.declared.Kind.TheVariants.{Ordinary, Causal}

-- The bytes before past, and the most that a body has.
abbrev pub head_len : ℕ
head_len = 3

abbrev pub body_most : ℕ
body_most = 200

-- The fields: version; n; sender; kind; the zero bits; body length; past and barrier.
abbrev pub version_of : List ℕ → ℕ
version_of packet = get_or packet 0 0 / 16

abbrev pub seats_of : List ℕ → ℕ
seats_of packet = get_or packet 0 0 % 16 + 1

abbrev pub sender_of : List ℕ → SeatNo
sender_of packet = seat_no (get_or packet 1 0 / 16 + 1)

abbrev pub kind_bit : ℕ → Kind
kind_bit byte = cond (eqb (byte / 8 % 2) 1) Causal Ordinary

abbrev pub kind_of : List ℕ → Kind
kind_of packet = kind_bit (get_or packet 1 0)

abbrev pub zero_bits_of : List ℕ → ℕ
zero_bits_of packet = get_or packet 1 0 % 8

abbrev pub body_length_of : List ℕ → ℕ
body_length_of packet = get_or packet 2 0

abbrev pub past_of : List ℕ → List ℕ
past_of packet = vector (seats_of packet) (λ k. number_at 2 packet (head_len + 2 * k))

abbrev pub barrier_of : List ℕ → List ℕ
barrier_of packet = vector (seats_of packet) (λ k. number_at 2 packet (head_len + 2 * seats_of packet + 2 * k))

-- Where the body starts, and the length of a packet, by n and the body's length.
abbrev pub body_at : ℕ → ℕ
body_at n = head_len + 4 * n

abbrev pub packet_length : ℕ → ℕ → ℕ
packet_length n body = body_at n + body

-- Points 1 to 6.
unfoldable pub head_tests : List ℕ → List Bool
head_tests packet =
    leb head_len (length packet)
    ∷ eqb (version_of packet) 1
    ∷ eqb (zero_bits_of packet) 0
    ∷ leb (sender_of packet).0 (seats_of packet)
    ∷ leb (body_length_of packet) body_most
    ∷ eqb (length packet) (packet_length (seats_of packet) (body_length_of packet))
    ∷ []

-- Point 7: barrier is within past, and smaller at the sender.
unfoldable pub point_seven : SeatNo → List ℕ → List ℕ → Bool
point_seven sender past barrier = within barrier past && ltb (entry barrier sender) (entry past sender)

-- The vector less 1 at the sender.
abbrev pub less_one : List ℕ → SeatNo → List ℕ
less_one v sender = set v (sender.0 - 1) (entry v sender - 1)

-- Point 8: if causal, barrier equals past less 1 at the sender.
unfoldable pub point_eight : Kind → SeatNo → List ℕ → List ℕ → Bool
point_eight Ordinary sender past barrier = true
point_eight Causal sender past barrier = same barrier (less_one past sender)

-- Points 7 and 8.
unfoldable pub vector_tests : Kind → SeatNo → List ℕ → List ℕ → List Bool
vector_tests kind sender past barrier = point_seven sender past barrier ∷ point_eight kind sender past barrier ∷ []

-- The number of the first test that fails, where the first has number k; 0 where all pass.
unfoldable pub first_failing : ℕ → List Bool → ℕ
first_failing k [] = 0
first_failing k (true ∷ tests) = first_failing (suc k) tests
first_failing k (false ∷ tests) = k

abbrev pub head_point : List ℕ → ℕ
head_point packet = first_failing 1 (head_tests packet)

abbrev pub vectors_point : Kind → SeatNo → List ℕ → List ℕ → ℕ
vectors_point kind sender past barrier = first_failing 7 (vector_tests kind sender past barrier)

-- The first of the eight points that fails; 0 where the packet is well formed.
unfoldable pub first_bad_point : List ℕ → ℕ
first_bad_point packet =
    first_failing 1
    (head_tests packet ++ vector_tests (kind_of packet) (sender_of packet) (past_of packet) (barrier_of packet))

abbrev pub well_formed : List ℕ → Bool
well_formed packet = eqb (first_bad_point packet) 0
