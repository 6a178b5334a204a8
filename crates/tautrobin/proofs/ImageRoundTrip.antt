-- Image to state and back are inverse to each other.
use Prim.Native.Nat.{ℕ, ◌+◌, ◌*◌, ◌-◌, ◌/◌, ◌%◌, ◌≤◌, ◌<◌, ◌^◌}
use mathlib.Core.Path.{◌≡◌, refl, sym, ap, ap₂, ◌∙◌}
use mathlib.Core.List.{List, [], ◌∷◌, ◌++◌, append_assoc, append-nil}
use native.Mathlib.Omega.{arith}
use lib.ListN.{length, get_or, take, drop, length-append, length-drop}
use lib.Seq.{sets, sets-eq, take_all, take-add, take-suc, drop-drop}
use Rattle.answers.specs.Answers.{seat_no}
use Rattle.answers.specs.declared.SeatNo.{SeatNo}
use Rattle.vectors.specs.Vectors.{vector, table}
use Rattle.vectors.specs.Bytes.{fields_of, Bytes}
use Rattle.vectors.proofs.Vector.{length_vector, is_vector, take_vector}
use Rattle.vectors.proofs.Numbers.{length_fields_of, sets_then, field_written, fields_read}
use Rattle.tautrobin.specs.Image.{image_size, past_at, barrier_at, run_at, ahead_at, fields_at, decoded, numbers_byte, encoded, Recounted, Numbered}
use Rattle.seat.specs.State.{Held}
use Rattle.seat.specs.declared.Seat.{Seat}
use Rattle.tautrobin.proofs.ImageParts.{Long, parts}

-- ---- written, then read

pub held_is_long : (seat : Seat) → Held seat → Long seat
held_is_long seat held = record { past = held.past_long; barrier = held.barrier_long; run = held.run_long; ahead = held.ahead_long }

-- fields between what stands before and what stands after
fields_back : (w : ℕ) (before v after : List ℕ) (at : ℕ) → length before ≡ at → length v ≡ 16 → ((k : ℕ) → get_or v k 0 < 256 ^ w)
    → fields_at w (before ++ (fields_of w v ++ after)) at ≡ v
fields_back w before v after at here long fits =
    sym
    (is_vector 16 _ v long (λ k h b. sym (field_written w before v after at k here (omega arith) (fits k)))
    (λ k h b. absurd (omega arith)))

seat_is : (seat : Seat) (n own : ℕ) (past barrier run ahead : List ℕ) → n ≡ seat.n → own ≡ seat.own.0 → past ≡ seat.past → barrier ≡ seat.barrier
    → run ≡ seat.run → ahead ≡ seat.ahead
    → ◌≡◌ {A = Seat} (record { n = n; own = seat_no own; past = past; barrier = barrier; run = run; ahead = ahead }) seat
seat_is seat n own past barrier run ahead is-n is-own is-past is-barrier is-run is-ahead = rw (is-n, is-own, is-past, is-barrier, is-run, is-ahead)

module _ (seat : Seat) (held : Held seat) (numbered : Numbered seat) where
  pub image_reads_back : decoded (encoded seat) ≡ seat
  unfolding decoded encoded
  image_reads_back =
      let part = parts seat (held_is_long seat held) in
      let H = numbers_byte seat ∷ [] in
      let P = fields_of 2 seat.past in
      let B = fields_of 2 seat.barrier in
      let R = fields_of 2 seat.run in
      let A = fields_of 8 seat.ahead in
      let at-barrier : length (H ++ P) ≡ barrier_at = omega (arith, length-append H P) in
      let at-run : length (H ++ P ++ B) ≡ run_at = omega (arith, length-append (H ++ P) B) in
      let at_ahead : length (H ++ P ++ B ++ R) ≡ ahead_at = omega (arith, length-append (H ++ P ++ B) R) in
      let from-run : H ++ P ++ B ++ R ++ A ≡ (H ++ P ++ B) ++ (R ++ A) = append_assoc (H ++ P ++ B) R A in
      let from_barrier : H ++ P ++ B ++ R ++ A ≡ (H ++ P) ++ (B ++ (R ++ A)) = from-run ∙ append_assoc (H ++ P) B (R ++ A) in
      let from_past : H ++ P ++ B ++ R ++ A ≡ H ++ (P ++ (B ++ (R ++ A))) = from_barrier ∙ append_assoc H P (B ++ (R ++ A)) in
      let to_end : H ++ P ++ B ++ R ++ A ≡ (H ++ P ++ B ++ R) ++ (A ++ []) = ap (λ (l : List ℕ). (H ++ P ++ B ++ R) ++ l) (sym (append-nil A)) in
      seat_is seat _ _ _ _ _ _ (omega (arith, numbered)) (omega (arith, numbered))
      (ap (λ (l : List ℕ). fields_at 2 l past_at) from_past ∙ fields_back 2 H seat.past (B ++ (R ++ A)) past_at refl held.past_long held.past_fits)
      (ap (λ (l : List ℕ). fields_at 2 l barrier_at) from_barrier ∙ fields_back 2 (H ++ P) seat.barrier (R ++ A) barrier_at at-barrier held.barrier_long held.barrier_fits)
      (ap (λ (l : List ℕ). fields_at 2 l run_at) from-run ∙ fields_back 2 (H ++ P ++ B) seat.run A run_at at-run held.run_long held.run_fits)
      (ap (λ (l : List ℕ). fields_at 8 l ahead_at) to_end ∙ fields_back 8 (H ++ P ++ B ++ R) seat.ahead [] ahead_at at_ahead held.ahead_long held.ahead_fits)

-- ---- read, then written

whole_vector : (f : ℕ → ℕ) → vector 16 f ≡ table 16 f
whole_vector f = sym (take_all 16 (vector 16 f) (omega (arith, length_vector 16 f))) ∙ take_vector 16 f (omega arith)

module _ (image : List ℕ) (right : length image ≡ image_size) (bytes : Bytes image) where
  fields_again : (w at : ℕ) → at + w * 16 ≤ image_size → fields_of w (fields_at w image at) ≡ take (w * 16) (drop at image)
  fields_again w at inside = ap (fields_of w) (whole_vector _) ∙ fields_read w 16 image at bytes (omega arith)

  first_byte : (((get_or image 0 0 / 16 + 1 - 1) * 16 + (get_or image 0 0 % 16 + 1 - 1)) ∷ []) ≡ take 1 image
  unfolding Bytes
  first_byte =
      let first = bytes 0 in
      let same : (get_or image 0 0 / 16 + 1 - 1) * 16 + (get_or image 0 0 % 16 + 1 - 1) ≡ get_or image 0 0 = omega arith in
      rw same (sym (take-suc image 0 0 (omega arith)))

  -- what stands after past and barrier were put down over the state's own
  module _ (seat : Seat) (same : Recounted seat (decoded image)) (long-past : length seat.past ≡ 16) (long-barrier : length seat.barrier ≡ 16) where
    numbers_stand : take 1 image ≡ numbers_byte seat ∷ []
    unfolding decoded
    numbers_stand = sym first_byte ∙ ap₂ (λ (n own : ℕ). ((n - 1) * 16 + (own - 1)) ∷ []) (sym same.same_seats) (ap (λ (own : SeatNo). own.0) (sym same.same_own))

    windows_stand : drop 65 image ≡ fields_of 2 seat.run ++ fields_of 8 seat.ahead
    unfolding decoded
    windows_stand =
        sym (take_all 160 (drop 65 image) (omega (arith, length-drop 65 image)))
        ∙ take-add 32 128 (drop 65 image)
        ∙ ap (λ (l : List ℕ). take 32 (drop 65 image) ++ take 128 l) (drop-drop 32 65 image)
        ∙ sym
        (ap₂ (λ (a b : List ℕ). a ++ b) (ap (fields_of 2) same.same_run ∙ fields_again 2 run_at (omega arith))
        (ap (fields_of 8) same.same_ahead ∙ fields_again 8 ahead_at (omega arith)))

    pub counts_written : (first second : List ℕ) → first ≡ sets image past_at (fields_of 2 seat.past)
        → second ≡ sets first barrier_at (fields_of 2 seat.barrier) → second ≡ encoded seat
    unfolding encoded
    counts_written first second is_first is-second =
        let H = numbers_byte seat ∷ [] in
        let P = fields_of 2 seat.past in
        let B = fields_of 2 seat.barrier in
        let R = fields_of 2 seat.run in
        let A = fields_of 8 seat.ahead in
        let p : length P ≡ 32 = length_fields_of 2 seat.past ∙ ap (λ (k : ℕ). 2 * k) long-past in
        let b : length B ≡ 32 = length_fields_of 2 seat.barrier ∙ ap (λ (k : ℕ). 2 * k) long-barrier in
        let pb : length (P ++ B) ≡ 64 = omega (arith, length-append P B) in
        rw (is-second, is_first)
        (sets_then image past_at P B barrier_at (omega arith))
        ∙ sets-eq (P ++ B) image past_at (omega arith)
        ∙ ap (λ (n : ℕ). take 1 image ++ (P ++ B) ++ drop (1 + n) image) pb
        ∙ ap₂ (λ (a c : List ℕ). a ++ (P ++ B) ++ c) numbers_stand windows_stand
        ∙ ap (λ (l : List ℕ). l ++ (R ++ A)) (sym (append_assoc H P B))
        ∙ sym (append_assoc (H ++ P ++ B) R A)

  pub image_writes_again : encoded (decoded image) ≡ image
  unfolding decoded encoded
  image_writes_again =
      ap₂ (λ (a b : List ℕ). a ++ b)
      (ap₂ (λ (a b : List ℕ). a ++ b)
      (ap₂ (λ (a b : List ℕ). a ++ b)
      (ap₂ (λ (a b : List ℕ). a ++ b) first_byte (fields_again 2 past_at (omega arith)) ∙ sym (take-add past_at 32 image))
      (fields_again 2 barrier_at (omega arith))
      ∙ sym (take-add barrier_at 32 image))
      (fields_again 2 run_at (omega arith))
      ∙ sym (take-add run_at 32 image))
      (fields_again 8 ahead_at (omega arith))
      ∙ sym (take-add ahead_at 128 image)
      ∙ take_all image_size image (omega arith)
