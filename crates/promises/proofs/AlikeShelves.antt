-- On shelves that are alike but for bodies the tests say the same, and the same slots are free and chosen.
use Prim.Native.Nat.{ℕ, zero, suc, ◌/◌, ◌%◌, ◌≤◌, ◌<◌}
use mathlib.Core.Path.{◌≡◌, refl, ap, ap₂, ◌∙◌}
use mathlib.Core.Bool.{Bool, true, false, cond, not, ◌&&◌, ◌||◌}
use mathlib.Core.List.{List}
use native.Mathlib.Omega.{arith}
use lib.Dec.{leb, ltb, eqb}
use Rattle.std.proofs.lemmas.Bool.{not-true, not-false}
use Rattle.answers.specs.declared.SeatNo.{SeatNo}
use Rattle.vectors.proofs.Every.{all_same}
use Rattle.shelf.specs.Shelf.{slot_size, slots, whole_slots, is_free, lowest, lowest_free}
use Rattle.seat.specs.State.{sound_state}
use Rattle.seat.specs.Stock.{packet_at, passes, is_edit, on_slots, on_shelf, distinct, sound_slots, sound_shelf}
use Rattle.seat.specs.HandingOver.{ready}
use Rattle.seat.specs.Arriving.{sound_both}
use Rattle.seat.specs.Releasing.{ready_at, no_later, comes_first, chosen}
use Rattle.seat.specs.declared.Seat.{Seat}
use Rattle.seat.proofs.Chosen.{ready_slot_is_used}
use Rattle.promises.specs.BodyUnread.{Alike, AlikeShelves}
use Rattle.promises.proofs.AlikePackets.{same_sender, same_number, same_barrier, same_reading}

-- ---- tests that agree

or_same : (a b c d : Bool) → a ≡ b → (a ≡ false → c ≡ d) → (a || c) ≡ (b || d)
or_same true b c d e same = ap (λ (x : Bool). x || d) e
or_same false b c d e same = same refl ∙ ap (λ (x : Bool). x || d) e

and_same : (a b c d : Bool) → a ≡ b → (a ≡ true → c ≡ d) → (a && c) ≡ (b && d)
and_same true b c d e same = same refl ∙ ap (λ (x : Bool). x && d) e
and_same false b c d e same = ap (λ (x : Bool). x && d) e

lowest_same : (n : ℕ) (f g : ℕ → Bool) → ((k : ℕ) → k < n → f k ≡ g k) → lowest n f ≡ lowest n g
unfolding lowest
lowest_same zero f g each = refl
lowest_same (suc n) f g each =
    λ i. cond (each 0 (omega arith) i) 0 (suc (lowest_same n (λ k. f (suc k)) (λ k. g (suc k)) (λ k h. each (suc k) (omega arith)) i))

-- ---- shelves

module _ (one other : List ℕ) (alike : AlikeShelves one other) where
  pub same_slots : slots one ≡ slots other
  same_slots = ap (λ (n : ℕ). n / slot_size) alike.same_length

  packets : (i : ℕ) → i < slots one → is_free one i ≡ false → Alike (packet_at one i) (packet_at other i)
  packets = alike.same_packets

  same_whole : whole_slots one ≡ whole_slots other
  unfolding whole_slots
  same_whole = ap (λ (n : ℕ). eqb (n % slot_size) 0 && leb (n / slot_size) 32) alike.same_length

  same_is_edit : (i : ℕ) → i < slots one → is_free one i ≡ false → (sender : SeatNo) (number : ℕ)
      → is_edit (packet_at one i) sender number ≡ is_edit (packet_at other i) sender number
  unfolding is_edit
  same_is_edit i there used sender number =
      let p = packets i there used in λ j. eqb (same_sender _ _ p j).0 sender.0 && eqb (same_number _ _ p j) number

  same_on_slots : (n : ℕ) → n ≤ slots one → (sender : SeatNo) (number : ℕ) → on_slots n one sender number ≡ on_slots n other sender number
  unfolding on_slots
  same_on_slots n most sender number =
      ap not
      (all_same n _ _ (λ i below.
      let there : i < slots one = omega arith in or_same _ _ _ _ (alike.same_free i there) (λ used. ap not (same_is_edit i there used sender number))))

  pub same_on_shelf : (sender : SeatNo) (number : ℕ) → on_shelf one sender number ≡ on_shelf other sender number
  same_on_shelf sender number = same_on_slots (slots one) (omega arith) sender number ∙ ap (λ (n : ℕ). on_slots n other sender number) same_slots

  pub same_lowest_free : lowest_free one ≡ lowest_free other
  same_lowest_free = lowest_same (slots one) (is_free one) (is_free other) alike.same_free ∙ ap (λ (n : ℕ). lowest n (is_free other)) same_slots

  module _ (seat : Seat) where
    same_sound_slots : sound_slots (slots one) seat one ≡ sound_slots (slots one) seat other
    unfolding sound_slots distinct
    same_sound_slots =
        ap₂ ◌&&◌ (all_same _ _ _ (λ k there. or_same _ _ _ _ (alike.same_free k there) (λ used. ap (passes seat) (same_reading _ _ (packets k there used)))))
        (all_same _ _ _ (λ j there. or_same _ _ _ _ (alike.same_free j there) (λ used.
        let p = packets j there used in ap not (same_on_slots j (omega arith) _ _ ∙ (λ d. on_slots j other (same_sender _ _ p d) (same_number _ _ p d))))))

    pub same_sound : sound_both seat one ≡ sound_both seat other
    unfolding sound_shelf
    same_sound =
        λ i. sound_state seat && (same_whole i && (same_sound_slots ∙ ap (λ (n : ℕ). sound_slots n seat other) same_slots) i)

    same_ready_at : (i : ℕ) → i < slots one → ready_at seat one i ≡ ready_at seat other i
    unfolding ready_at
    same_ready_at i there =
        and_same _ _ _ _ (ap not (alike.same_free i there)) (λ used. ap (ready seat) (same_barrier _ _ (packets i there (not-true _ used))))

    same_no_later : (i j : ℕ) → i < slots one → j < slots one → is_free one i ≡ false → is_free one j ≡ false
        → no_later (packet_at one i) (packet_at one j) ≡ no_later (packet_at other i) (packet_at other j)
    unfolding no_later
    same_no_later i j there here used also =
        let p = packets i there used in
        let q = packets j here also in
        λ d.
        ltb (same_sender _ _ p d).0 (same_sender _ _ q d).0
        || (eqb (same_sender _ _ p d).0 (same_sender _ _ q d).0 && leb (same_number _ _ p d) (same_number _ _ q d))

    same_comes_first : (i : ℕ) → i < slots one → comes_first (slots one) seat one i ≡ comes_first (slots one) seat other i
    unfolding comes_first
    same_comes_first i there =
        and_same _ _ _ _ (same_ready_at i there)
        (λ is.
        all_same _ _ _ (λ j here.
        or_same _ _ _ _ (ap not (same_ready_at j here))
        (λ also. same_no_later i j there here (ready_slot_is_used seat one i is) (ready_slot_is_used seat one j (not-false _ also)))))

    pub same_chosen : chosen seat one ≡ chosen seat other
    unfolding chosen
    same_chosen =
        lowest_same (slots one) _ _ same_comes_first ∙ ap (λ (n : ℕ). lowest n (comes_first n seat other)) same_slots
