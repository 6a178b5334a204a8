-- The state as it crosses to C: an image of 225 bytes, bit-packed, most significant first (document 01, "For the
-- package, which is written in C").
use Rattle.std.specs.Prelude.{ℕ, ◌+◌, ◌*◌, ◌-◌, ◌/◌, ◌%◌, ◌≤◌, ◌≡◌, List, [], ◌∷◌, ◌++◌, get_or}
use Rattle.answers.specs.Answers.{seat_no}
use Rattle.vectors.specs.Vectors.{seats_most, vector}
use Rattle.vectors.specs.Bytes.{number_at, fields_of}
use Rattle.seat.specs.declared.Seat.{Seat}

abbrev pub image_size : ℕ
image_size = 225

-- Where the fields of past, barrier, run and ahead start, after the byte with n and own number.
abbrev pub past_at : ℕ
past_at = 1

abbrev pub barrier_at : ℕ
barrier_at = 33

abbrev pub run_at : ℕ
run_at = 65

abbrev pub ahead_at : ℕ
ahead_at = 97

-- The 16 fields of w bytes each from a place on.
abbrev pub fields_at : ℕ → List ℕ → ℕ → List ℕ
fields_at w image at = vector seats_most (λ k. number_at w image (at + w * k))

-- The state that an image says.
unfoldable pub decoded : List ℕ → Seat
decoded image =
    record {
      n = get_or image 0 0 / 16 + 1;
      own = seat_no (get_or image 0 0 % 16 + 1);
      past = fields_at 2 image past_at;
      barrier = fields_at 2 image barrier_at;
      run = fields_at 2 image run_at;
      ahead = fields_at 8 image ahead_at;
    }

-- n − 1 and own number − 1, 4 bits each.
abbrev pub numbers_byte : Seat → ℕ
numbers_byte seat = (seat.n - 1) * 16 + (seat.own.0 - 1)

-- The image of a state.
unfoldable pub encoded : Seat → List ℕ
encoded seat =
    (numbers_byte seat ∷ [])
    ++ fields_of 2 seat.past
    ++ fields_of 2 seat.barrier
    ++ fields_of 2 seat.run
    ++ fields_of 8 seat.ahead

-- The next state is another in past and barrier alone.
pub record Recounted (next seat : Seat) : Type 0 where
  pub same_seats : next.n ≡ seat.n
  pub same_own : next.own ≡ seat.own
  pub same_run : next.run ≡ seat.run
  pub same_ahead : next.ahead ≡ seat.ahead

-- n and own number are among the 16 that 4 bits tell apart.
pub record Numbered (seat : Seat) : Type 0 where
  pub seats_low : 1 ≤ seat.n
  pub seats_high : seat.n ≤ seats_most
  pub own_low : 1 ≤ seat.own.0
  pub own_high : seat.own.0 ≤ seats_most
