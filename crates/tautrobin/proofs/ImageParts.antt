-- The image part by part: the state that is built of the fields read, and the bytes that stand after the parts were put
-- down one after another.
use Prim.Native.Nat.{ℕ, ◌+◌, ◌*◌, ◌/◌, ◌%◌, ◌<◌, ◌^◌}
use mathlib.Core.Path.{◌≡◌, refl, ap, ◌∙◌}
use mathlib.Core.List.{List, [], ◌∷◌, ◌++◌, append-nil}
use native.Mathlib.Nat.{zero-add}
use native.Mathlib.Decide.{dec_lt}
use native.Mathlib.Omega.{arith}
use lib.ListN.{length, get_or, set, drop, length-append, get_or-eq_default}
use lib.Seq.{sets, sets-eq, drop-length}
use Rattle.answers.specs.Answers.{seat_no}
use Rattle.vectors.specs.Bytes.{number_at, fields_of, Bytes}
use Rattle.vectors.proofs.Vector.{length_vector, vector_below}
use Rattle.vectors.proofs.Numbers.{length_fields_of, number_fits, sets_then}
use Rattle.tautrobin.specs.Image.{image_size, past_at, barrier_at, run_at, ahead_at, fields_at, decoded, numbers_byte, encoded}
use Rattle.seat.specs.State.{Held}
use Rattle.seat.specs.declared.Seat.{Seat}

-- ---- a state that was read

pub decoded_is : (image past barrier run ahead : List ℕ) → past ≡ fields_at 2 image past_at → barrier ≡ fields_at 2 image barrier_at
    → run ≡ fields_at 2 image run_at → ahead ≡ fields_at 8 image ahead_at
    → ◌≡◌ {A = Seat}
    (record { n = get_or image 0 0 / 16 + 1; own = seat_no (get_or image 0 0 % 16 + 1); past = past; barrier = barrier; run = run; ahead = ahead })
    (decoded image)
unfolding decoded
decoded_is image past barrier run ahead is-past is-barrier is-run is-ahead = rw (is-past, is-barrier, is-run, is-ahead)

module _ (image : List ℕ) (bytes : Bytes image) where
  field_fits : (w at k : ℕ) → get_or (fields_at w image at) k 0 < 256 ^ w
  field_fits w at k =
      let long = length_vector 16 (λ j. number_at w image (at + w * j)) in
      elim (dec_lt k 16) [
        | yes inside ↦ rw (vector_below 16 (λ j. number_at w image (at + w * j)) k inside inside) (number_fits w image (at + w * k) bytes)
        | no above ↦ rw (get_or-eq_default (fields_at w image at) 0 {n = k} (omega arith)) (omega (arith, number_fits w image at bytes))
      ]

  pub decoded_is_held : Held (decoded image)
  unfolding decoded
  decoded_is_held =
      record {
        past_long = length_vector 16 _;
        barrier_long = length_vector 16 _;
        run_long = length_vector 16 _;
        ahead_long = length_vector 16 _;
        past_fits = field_fits 2 past_at;
        barrier_fits = field_fits 2 barrier_at;
        run_fits = field_fits 2 run_at;
        ahead_fits = field_fits 8 ahead_at;
      }

-- ---- a state that is written

-- a state's arrays have 16 entries each
pub record Long (seat : Seat) : Type 0 where
  pub past : length seat.past ≡ 16
  pub barrier : length seat.barrier ≡ 16
  pub run : length seat.run ≡ 16
  pub ahead : length seat.ahead ≡ 16

-- the image's parts, with their lengths
pub record Parts (seat : Seat) : Type 0 where
  pub past : length (fields_of 2 seat.past) ≡ 32
  pub barrier : length (fields_of 2 seat.barrier) ≡ 32
  pub run : length (fields_of 2 seat.run) ≡ 32
  pub ahead : length (fields_of 8 seat.ahead) ≡ 128

module _ (seat : Seat) (long : Long seat) where
  pub parts : Parts seat
  parts =
      record {
        past = length_fields_of 2 seat.past ∙ ap (λ (k : ℕ). 2 * k) long.past;
        barrier = length_fields_of 2 seat.barrier ∙ ap (λ (k : ℕ). 2 * k) long.barrier;
        run = length_fields_of 2 seat.run ∙ ap (λ (k : ℕ). 2 * k) long.run;
        ahead = length_fields_of 8 seat.ahead ∙ ap (λ (k : ℕ). 8 * k) long.ahead;
      }

  -- what stands after the five parts were put down
  pub five_parts : (image a₁ a₂ a₃ a₄ a₅ : List ℕ) → length image ≡ image_size → a₁ ≡ set image 0 (numbers_byte seat)
      → a₂ ≡ sets a₁ past_at (fields_of 2 seat.past) → a₃ ≡ sets a₂ barrier_at (fields_of 2 seat.barrier)
      → a₄ ≡ sets a₃ run_at (fields_of 2 seat.run) → a₅ ≡ sets a₄ ahead_at (fields_of 8 seat.ahead)
      → a₅ ≡ encoded seat
  unfolding encoded
  five_parts image a₁ a₂ a₃ a₄ a₅ right e₁ e₂ e₃ e₄ e₅ =
      let part = parts in
      let H = numbers_byte seat ∷ [] in
      let P = fields_of 2 seat.past in
      let B = fields_of 2 seat.barrier in
      let R = fields_of 2 seat.run in
      let A = fields_of 8 seat.ahead in
      let hp = length-append H P in
      let hpb = length-append (H ++ P) B in
      let hpbr = length-append (H ++ P ++ B) R in
      let hpbra = length-append (H ++ P ++ B ++ R) A in
      let all : a₅ ≡ sets image 0 (H ++ P ++ B ++ R ++ A) =
      rw (e₅, e₄, e₃, e₂, e₁)
      (ap (λ (x : List ℕ). sets (sets (sets x barrier_at B) run_at R) ahead_at A) (sets_then image 0 H P past_at refl)
      ∙ ap (λ (x : List ℕ). sets (sets x run_at R) ahead_at A) (sets_then image 0 (H ++ P) B barrier_at (omega arith))
      ∙ ap (λ (x : List ℕ). sets x ahead_at A) (sets_then image 0 (H ++ P ++ B) R run_at (omega arith))
      ∙ sets_then image 0 (H ++ P ++ B ++ R) A ahead_at (omega arith)) in
      all ∙ covers (H ++ P ++ B ++ R ++ A) image (omega arith)
    where
      covers : (bytes image : List ℕ) → length bytes ≡ length image → sets image 0 bytes ≡ bytes
      covers bytes image e =
          sets-eq bytes image 0 (omega arith) ∙ ap (λ (l : List ℕ). bytes ++ l) (ap (λ (n : ℕ). drop n image) (zero-add (length bytes) ∙ e) ∙ drop-length image) ∙ append-nil bytes
