-- Laws of the first n slots with one slot more: the edits on them, and whether they are sound.
use Prim.Native.Nat.{ℕ, ◌+◌, ◌≤◌}
use mathlib.Core.Path.{◌≡◌, refl, sym, ◌∙◌}
use mathlib.Core.Bool.{Bool, true, false, not, ◌&&◌, ◌||◌, true≢false}
use mathlib.Core.List.{List}
use native.Mathlib.Numerals.{add-one}
use native.Mathlib.Omega.{arith}
use Rattle.std.proofs.lemmas.Bool.{and_parts}
use Rattle.answers.specs.declared.SeatNo.{SeatNo}
use Rattle.vectors.specs.Vectors.{all}
use Rattle.vectors.proofs.Every.{all_at, all_of}
use Rattle.packet.specs.Packet.{sender_of}
use Rattle.packet.specs.Reading.{read_of}
use Rattle.shelf.specs.Shelf.{is_free}
use Rattle.seat.specs.Stock.{packet_at, number_of, passes, sound_slot, is_edit, on_slots, distinct, sound_slots}
use Rattle.seat.specs.declared.Seat.{Seat}

-- ---- tests

not_and_true : (rest : Bool) → not (rest && true) ≡ not rest
not_and_true true = refl
not_and_true false = refl

not_and_not : (rest here : Bool) → not (rest && not here) ≡ (not rest || here)
not_and_not true true = refl
not_and_not true false = refl
not_and_not false true = refl
not_and_not false false = refl

both_and_true : (a b : Bool) → ((a && true) && (b && true)) ≡ (a && b)
both_and_true true true = refl
both_and_true true false = refl
both_and_true false b = refl

and_in_turn : (a p b q : Bool) → ((a && p) && (b && q)) ≡ ((a && b) && (p && q))
and_in_turn true true true q = refl
and_in_turn true true false q = refl
and_in_turn true false true q = refl
and_in_turn true false false q = refl
and_in_turn false p b q = refl

pub false_unless : (b : Bool) → (b ≡ true → ⊥) → b ≡ false
false_unless true h = absurd (h refl)
false_unless false h = refl

-- ---- one slot more

-- a slot does not have this edit, and a slot's packet is on no slot before it
abbrev lacks : List ℕ → SeatNo → ℕ → ℕ → Bool
lacks shelf sender number i = is_free shelf i || not (is_edit (packet_at shelf i) sender number)

abbrev pub is_new : List ℕ → ℕ → Bool
is_new shelf i = is_free shelf i || not (on_slots i shelf (sender_of (packet_at shelf i)) (number_of (packet_at shelf i)))

module _ (n : ℕ) (shelf : List ℕ) where
  module _ (sender : SeatNo) (number : ℕ) where
    pub nothing_on_no_slots : on_slots 0 shelf sender number ≡ false
    unfolding on_slots all
    nothing_on_no_slots = refl

    pub free_slot_adds_no_edit : is_free shelf n ≡ true → on_slots (n + 1) shelf sender number ≡ on_slots n shelf sender number
    unfolding on_slots all
    free_slot_adds_no_edit free = rw (add-one, free) (not_and_true (all n (lacks shelf sender number)))

    pub used_slot_adds_its_edit : is_free shelf n ≡ false → on_slots (n + 1) shelf sender number ≡ (on_slots n shelf sender number || is_edit (packet_at shelf n) sender number)
    unfolding on_slots all
    used_slot_adds_its_edit used = rw (add-one, used) (not_and_not (all n (lacks shelf sender number)) (is_edit (packet_at shelf n) sender number))

  module _ (seat : Seat) where
    pub no_slots_are_sound : sound_slots 0 seat shelf ≡ true
    unfolding sound_slots distinct all
    no_slots_are_sound = refl

    pub free_slot_is_sound : is_free shelf n ≡ true → sound_slots (n + 1) seat shelf ≡ sound_slots n seat shelf
    unfolding sound_slots distinct all
    free_slot_is_sound free = rw (add-one, free) (both_and_true (all n (sound_slot seat shelf)) (all n (is_new shelf)))

    -- a slot in use is sound where its packet passes and is no repeat
    pub used_slot_is_sound : is_free shelf n ≡ false
        → sound_slots (n + 1) seat shelf
        ≡ (sound_slots n seat shelf
        && (passes seat (read_of (packet_at shelf n)) && not (on_slots n shelf (sender_of (packet_at shelf n)) (number_of (packet_at shelf n)))))
    unfolding sound_slots distinct all
    used_slot_is_sound used = rw (add-one, used)
        (and_in_turn (all n (sound_slot seat shelf)) (passes seat (read_of (packet_at shelf n))) (all n (is_new shelf))
        (not (on_slots n shelf (sender_of (packet_at shelf n)) (number_of (packet_at shelf n)))))

-- fewer slots of sound ones are sound
pub fewer_are_sound : (m n : ℕ) (seat : Seat) (shelf : List ℕ) → m ≤ n → sound_slots n seat shelf ≡ true → sound_slots m seat shelf ≡ true
unfolding sound_slots distinct
fewer_are_sound m n seat shelf fewer sound =
    let both = and_parts (all n (sound_slot seat shelf)) (all n (is_new shelf)) sound in
    rw (all_of (sound_slot seat shelf) m (λ k h. all_at (sound_slot seat shelf) n k both.0 (omega arith)))
    (all_of (is_new shelf) m (λ k h. all_at (is_new shelf) n k both.1 (omega arith)))

pub more_stay_unsound : (m n : ℕ) (seat : Seat) (shelf : List ℕ) → m ≤ n → sound_slots m seat shelf ≡ false → sound_slots n seat shelf ≡ false
more_stay_unsound m n seat shelf fewer unsound =
    false_unless (sound_slots n seat shelf) (λ sound. true≢false (sym (fewer_are_sound m n seat shelf fewer sound) ∙ unsound))
