-- One slot more is looked at: what is found where it is free, where it is not sound, and where its packet is counted in.
use Prim.Native.Nat.{ℕ, ◌+◌, ◌≤◌}
use mathlib.Core.Path.{◌≡◌, sym, ap, ap₂, ◌∙◌}
use mathlib.Core.Bool.{Bool, true, false, not, ◌&&◌, ◌||◌, or-false, or_assoc}
use mathlib.Core.List.{List}
use native.Mathlib.Omega.{arith}
use lib.Dec.{eqb}
use lib.ListN.{length}
use Rattle.std.specs.Prelude.{None}
use Rattle.answers.specs.declared.SeatNo.{SeatNo}
use Rattle.vectors.specs.Vectors.{entry}
use Rattle.window.specs.Window.{handed}
use Rattle.packet.specs.Packet.{sender_of}
use Rattle.packet.specs.Reading.{read_of}
use Rattle.packet.specs.declared.Heading.{Heading}
use Rattle.std.specs.Prelude.{Result, Ok, Err}
use Rattle.answers.specs.declared.Refusal.{Refusal}
use Rattle.packet.specs.declared.Reading.{Reading}
use Rattle.packet.proofs.Told.{Told, told}
use Rattle.shelf.specs.Shelf.{slots, is_free}
use Rattle.seat.specs.Stock.{packet_at, number_of, other_session, above_own_count, is_handed, too_far_ahead, passes_as, passes, is_edit, on_slots, sound_slots}
use Rattle.seat.specs.Survey.{window_with, passes_beside, Counted, FirstReady, Looked, Surveyed}
use Rattle.seat.specs.declared.Seat.{Seat}
use Rattle.seat.specs.declared.stock.Stock.{Stock}
use Rattle.seat.proofs.SlotBySlot.{nothing_on_no_slots, free_slot_adds_no_edit, used_slot_adds_its_edit, no_slots_are_sound, free_slot_is_sound, used_slot_is_sound}
use Rattle.seat.proofs.Beside.{beside, passed_is_in_window}
use Rattle.seat.proofs.Marks.{marking_adds_the_edit}
use Rattle.seat.proofs.FirstReady.{slot_not_ready, used_slot_counted, free_slot_is_not_ready, first_is_chosen}

-- ---- the start and the end

module _ (choosing : Bool) (seat : Seat) (shelf : List ℕ) where
  pub looked_at_none : Looked choosing 0 seat shelf (record { marks = seat.ahead; first = None })
  looked_at_none =
      record {
        sound = no_slots_are_sound 0 shelf seat;
        marks_are = λ sender number low high. rw (nothing_on_no_slots 0 shelf sender number) (sym (or-false _));
        first_is = λ some k h. absurd (omega arith);
      }

  pub looked_at_all : (n : ℕ) (stock : Stock) → Looked choosing n seat shelf stock → n ≡ slots shelf → Surveyed choosing seat shelf stock
  looked_at_all n stock so all =
      let here : Looked choosing (slots shelf) seat shelf stock = rw all at so in
      record { sound = here.sound; marks_are = here.marks_are; first_is = λ some. first_is_chosen seat shelf stock.first (here.first_is some) }

  -- ---- one slot more

  module _ (i : ℕ) (stock : Stock) (so : Looked choosing i seat shelf stock) where
    pub slot_is_free : is_free shelf i ≡ true → Looked choosing (i + 1) seat shelf stock
    slot_is_free free =
        record {
          sound = free_slot_is_sound i shelf seat free ∙ so.sound;
          marks_are = λ sender number low high. rw (free_slot_adds_no_edit i shelf sender number free) (so.marks_are sender number low high);
          first_is = λ some. slot_not_ready seat shelf i stock.first (so.first_is some) (free_slot_is_not_ready seat shelf i free);
        }

    module _ (reading : Reading) (is : reading ≡ read_of (packet_at shelf i)) (used : is_free shelf i ≡ false) where
      -- the slots stay sound where the packet passes and is on no slot before
      sound_so_far : sound_slots (i + 1) seat shelf
          ≡ (passes_as seat reading.past reading.answer && not (on_slots i shelf (sender_of (packet_at shelf i)) (number_of (packet_at shelf i))))
      unfolding passes
      sound_so_far = rw is (used_slot_is_sound i shelf seat used ∙ rw so.sound)

      pub refused_is_bad : (refusal : Refusal) → reading.answer ≡ Err refusal → sound_slots (i + 1) seat shelf ≡ false
      refused_is_bad refusal refused = sound_so_far ∙ rw refused

      module _ (heading : Heading) (answered : reading.answer ≡ Ok heading) where
        facts : Told (packet_at shelf i) reading heading
        facts = told (packet_at shelf i) reading is heading answered

        abbrev packet : List ℕ
        packet = packet_at shelf i

        pub sound_where_passed : sound_slots (i + 1) seat shelf ≡ passes_beside seat stock.marks heading reading.past
        unfolding passes_beside
        sound_where_passed =
            let t = facts in
            let number = entry reading.past heading.sender in
            let marks = so.marks_are heading.sender number t.sender_low (omega arith) in
            let before : on_slots i shelf (sender_of packet) (number_of packet) ≡ on_slots i shelf heading.sender number =
            ap₂ (λ (sender : SeatNo) (past : List ℕ). on_slots i shelf sender (entry past sender)) (sym t.sender) (sym t.past) in
            sound_so_far
            ∙ ap₂ (λ (answer : Result Heading Refusal) (repeated : Bool). passes_as seat reading.past answer && not repeated) answered before
            ∙ sym
            (rw marks
            (beside (other_session seat heading) (above_own_count seat reading.past) (is_handed seat heading.sender number) (on_slots i shelf heading.sender number)
            (too_far_ahead seat heading.sender number)))

        module _ (passed : passes_beside seat stock.marks heading reading.past ≡ true) (next : Stock)
            (counted : Counted choosing seat stock i heading.sender reading.past reading.barrier next)
            (long : length stock.marks ≡ 16) where
          marks_more : (sender : SeatNo) (number : ℕ) → 1 ≤ sender.0 → sender.0 ≤ 16
              → handed (window_with seat.run next.marks sender) number ≡ (is_handed seat sender number || on_slots (i + 1) shelf sender number)
          unfolding is_edit
          marks_more sender number low high =
              let t = facts in
              let own = entry reading.past heading.sender in
              let edit : (eqb heading.sender.0 sender.0 && eqb own number) ≡ is_edit packet sender number =
              ap₂ (λ (from : SeatNo) (past : List ℕ). eqb from.0 sender.0 && eqb (entry past from) number) t.sender t.past in
              ap (λ (words : List ℕ). handed (window_with seat.run words sender) number) counted.marks_are
              ∙ marking_adds_the_edit seat stock.marks heading.sender own long t.sender_low (omega arith)
              (passed_is_in_window seat stock.marks heading reading.past passed).0 sender number low
              ∙ ap₂ ◌||◌ (so.marks_are sender number low high) edit
              ∙ or_assoc (is_handed seat sender number) (on_slots i shelf sender number) (is_edit packet sender number)
              ∙ ap (λ (b : Bool). is_handed seat sender number || b) (sym (used_slot_adds_its_edit i shelf sender number used))

          first_more : choosing ≡ true → FirstReady (i + 1) seat shelf next.first
          first_more some =
              let t = facts in
              let own = entry reading.past heading.sender in
              let number : own ≡ number_of packet = ap₂ (λ (from : SeatNo) (past : List ℕ). entry past from) t.sender t.past in
              rw (counted.first_is some, t.barrier)
              (used_slot_counted seat shelf i heading.sender own (ap (λ (from : SeatNo). from.0) t.sender) number stock.first (so.first_is some) used)

          pub packet_is_counted : Looked choosing (i + 1) seat shelf next
          packet_is_counted = record { sound = sound_where_passed ∙ passed; marks_are = marks_more; first_is = first_more }
