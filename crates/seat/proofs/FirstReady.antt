-- Laws of the ready packet that comes first on the first n slots: one slot more, and at the end of the shelf.
use Prim.Native.Nat.{ℕ, ◌+◌, ◌<◌}
use mathlib.Core.Path.{◌≡◌, refl, sym, ◌∙◌}
use mathlib.Core.Bool.{Bool, true, false, cond, not, ◌&&◌, ◌||◌, true≢false}
use mathlib.Core.List.{List}
use mathlib.Core.Logic.{inl, inr}
use native.Mathlib.Decide.{dec_lt}
use native.Mathlib.Nat.{le_antisymm}
use native.Mathlib.Omega.{arith}
use lib.Dec.{leb, ltb, eqb}
use borrow.Author.Count.{below_more}
use borrow.Author.Tests.{eq-eqb, ne_eqb, lt-ltb, le-ltb, le-leb, lt-leb}
use Rattle.std.specs.Prelude.{Option, Some, None, is_some}
use Rattle.answers.specs.Answers.{edit_no}
use Rattle.answers.specs.declared.SeatNo.{SeatNo}
use Rattle.vectors.proofs.Every.{all_of, all_fails}
use Rattle.packet.specs.Packet.{sender_of, barrier_of}
use Rattle.shelf.specs.Shelf.{slots, is_free, slot_or_none}
use Rattle.shelf.proofs.Lowest.{only_lowest, none_of, some_of, none_is_past}
use Rattle.seat.specs.Stock.{packet_at, number_of}
use Rattle.seat.specs.HandingOver.{ready}
use Rattle.seat.specs.Releasing.{ready_at, no_later, comes_first, chosen}
use Rattle.seat.specs.Survey.{is_sooner, first_with, first_slot, ComesFirst, FirstReady}
use Rattle.seat.specs.declared.Seat.{Seat}
use Rattle.seat.specs.declared.stock.Ready.{Ready}
use Rattle.seat.proofs.SlotBySlot.{false_unless}
use Rattle.seat.proofs.Chosen.{no_later_says, no_later_of, one_is_no_later, in_turn, chosen_is_at_most_slots, none_ready_is_none_chosen}

-- ---- the order of release

own_turn : (one : List ℕ) → no_later one one ≡ true
own_turn one = elim (one_is_no_later one one) [ inl e ↦ no_later_of one one e | inr e ↦ no_later_of one one e ]

turned : (one other : List ℕ) → no_later one other ≡ false → no_later other one ≡ true
turned one other later =
    elim (one_is_no_later one other) [
      | inl e ↦ absurd (true≢false (sym (no_later_of one other e) ∙ later))
      | inr e ↦ no_later_of other one e
    ]

in_order : (one other third : List ℕ) → no_later one other ≡ true → no_later other third ≡ true → no_later one third ≡ true
in_order one other third h k = no_later_of one third (in_turn one other third (no_later_says one other h) (no_later_says other third k))

-- what comes no sooner than the later of two comes later than the sooner
later_still : (one other third : List ℕ) → no_later one other ≡ false → no_later one third ≡ true → no_later third other ≡ false
later_still one other third later h =
    false_unless (no_later third other) (λ e. true≢false (sym (in_order one third other h e) ∙ later))

-- the test of two packets that were read is their order
sooner_is_not_later : (s n t m : ℕ) → (ltb s t || (eqb s t && ltb n m)) ≡ not (ltb t s || (eqb t s && leb m n))
sooner_is_not_later s n t m =
    elim (dec_lt s t) [
      | yes less ↦ rw (lt-ltb s t less, le-ltb t s (omega arith), ne_eqb t s (λ e. omega arith))
      | no more ↦ elim (dec_lt t s) [
        | yes greater ↦ rw (le-ltb s t (omega arith), ne_eqb s t (λ e. omega arith), lt-ltb t s greater)
        | no fewer ↦ elim (dec_lt n m) [
          | yes low ↦ rw (le-ltb s t (omega arith), le-ltb t s (omega arith), eq-eqb s t (omega arith), eq-eqb t s (omega arith), lt-ltb n m low, lt-leb m n low)
          | no high ↦ rw (le-ltb s t (omega arith), le-ltb t s (omega arith), eq-eqb s t (omega arith), eq-eqb t s (omega arith), le-ltb n m (omega arith), le-leb m n (omega arith))
        ]
      ]
    ]

sooner_is : (one other : Ready) (p q : List ℕ) → one.sender.0 ≡ (sender_of p).0 → one.number.0 ≡ number_of p → other.sender.0 ≡ (sender_of q).0 → other.number.0 ≡ number_of q
    → is_sooner one other ≡ not (no_later q p)
unfolding no_later
sooner_is one other p q s n t m =
    (λ i. ltb (s i) (t i) || (eqb (s i) (t i) && ltb (n i) (m i))) ∙ sooner_is_not_later (sender_of p).0 (number_of p) (sender_of q).0 (number_of q)

turned_not : (b c : Bool) → b ≡ not c → b ≡ true → c ≡ false
turned_not b true e is = absurd (true≢false (sym is ∙ e))
turned_not b false e is = refl

stays_not : (b c : Bool) → b ≡ not c → b ≡ false → c ≡ true
stays_not b true e is = refl
stays_not b false e is = absurd (true≢false (sym e ∙ is))

-- ---- one slot more

module _ (seat : Seat) (shelf : List ℕ) (i : ℕ) where
  pub slot_not_ready : (first : Option Ready) → FirstReady i seat shelf first → ready_at seat shelf i ≡ false → FirstReady (i + 1) seat shelf first
  slot_not_ready None so waits = below_more _ i so waits
  slot_not_ready (Some first) so waits =
      record {
        there = omega (arith, so.there);
        is_ready = so.is_ready;
        sender_is = so.sender_is;
        number_is = so.number_is;
        least = below_more _ i so.least (λ is. absurd (true≢false (sym is ∙ waits)));
        lowest = so.lowest;
      }

  module _ (sender : SeatNo) (number : ℕ) (from : sender.0 ≡ (sender_of (packet_at shelf i)).0) (own : number ≡ number_of (packet_at shelf i)) where
    abbrev next : Ready
    next = record { slot = i; sender = sender; number = edit_no number }

    alone : ((k : ℕ) → k < i → ready_at seat shelf k ≡ false) → ready_at seat shelf i ≡ true → ComesFirst (i + 1) seat shelf next
    alone none is =
        record {
          there = omega arith;
          is_ready = is;
          sender_is = from;
          number_is = own;
          least = below_more _ i (λ k h also. absurd (true≢false (sym also ∙ none k h))) (λ also. own_turn (packet_at shelf i));
          lowest = λ k h also. absurd (true≢false (sym also ∙ none k h));
        }

    module _ (first : Ready) (so : ComesFirst i seat shelf first) where
      stays_first : no_later (packet_at shelf first.slot) (packet_at shelf i) ≡ true → ComesFirst (i + 1) seat shelf first
      stays_first later =
          record {
            there = omega (arith, so.there);
            is_ready = so.is_ready;
            sender_is = so.sender_is;
            number_is = so.number_is;
            least = below_more _ i so.least (λ is. later);
            lowest = so.lowest;
          }

      now_first : ready_at seat shelf i ≡ true → no_later (packet_at shelf first.slot) (packet_at shelf i) ≡ false → ComesFirst (i + 1) seat shelf next
      now_first is sooner =
          record {
            there = omega arith;
            is_ready = is;
            sender_is = from;
            number_is = own;
            least = below_more _ i
                (λ k h also. in_order (packet_at shelf i) (packet_at shelf first.slot) (packet_at shelf k) (turned (packet_at shelf first.slot) (packet_at shelf i) sooner) (so.least k h also))
                (λ also. own_turn (packet_at shelf i));
            lowest = λ k h also. later_still (packet_at shelf first.slot) (packet_at shelf i) (packet_at shelf k) sooner (so.least k h also);
          }

      order : is_sooner next first ≡ not (no_later (packet_at shelf first.slot) (packet_at shelf i))
      order = sooner_is next first (packet_at shelf i) (packet_at shelf first.slot) from own so.sender_is so.number_is

      compared : (is sooner : Bool) → ready_at seat shelf i ≡ is → is_sooner next first ≡ sooner → FirstReady (i + 1) seat shelf (cond (is && sooner) (Some next) (Some first))
      compared true true is e = now_first is (turned_not _ _ order e)
      compared true false is e = stays_first (stays_not _ _ order e)
      compared false sooner is e = slot_not_ready (Some first) so is

    counted : (first : Option Ready) → FirstReady i seat shelf first → (is : Bool) → ready_at seat shelf i ≡ is → FirstReady (i + 1) seat shelf (first_with is first next)
    counted None so true is = alone so is
    counted None so false is = slot_not_ready None so is
    counted (Some first) so is e = compared first so is (is_sooner next first) e refl

    pub used_slot_counted : (first : Option Ready) → FirstReady i seat shelf first → is_free shelf i ≡ false
        → FirstReady (i + 1) seat shelf (first_with (ready seat (barrier_of (packet_at shelf i))) first next)
    unfolding ready_at
    used_slot_counted first so used = counted first so (ready seat (barrier_of (packet_at shelf i))) (rw used)

-- ---- the end of the shelf

no_slot : (first : Option Ready) → ((one : Ready) → first ≡ Some one → ⊥) → is_some (first_slot first) ≡ false
no_slot None none = refl
no_slot (Some one) none = absurd (none one refl)

module _ (seat : Seat) (shelf : List ℕ) where
  pub free_slot_is_not_ready : (i : ℕ) → is_free shelf i ≡ true → ready_at seat shelf i ≡ false
  unfolding ready_at
  free_slot_is_not_ready i free = rw free

  module _ (first : Ready) (so : ComesFirst (slots shelf) seat shelf first) where
    no_later_than : (j : ℕ) → j < slots shelf → (is : Bool) → ready_at seat shelf j ≡ is → (not is || no_later (packet_at shelf first.slot) (packet_at shelf j)) ≡ true
    no_later_than j h false is = refl
    no_later_than j h true is = so.least j h is

    is_first : comes_first (slots shelf) seat shelf first.slot ≡ true
    unfolding comes_first
    is_first = rw so.is_ready (all_of _ (slots shelf) (λ j h. no_later_than j h (ready_at seat shelf j) refl))

    fails_as : (k : ℕ) → k < first.slot → (is : Bool) → ready_at seat shelf k ≡ is → comes_first (slots shelf) seat shelf k ≡ false
    unfolding comes_first
    fails_as k h false is = rw is
    fails_as k h true is = rw is (all_fails _ (slots shelf) first.slot so.there (rw so.is_ready (so.lowest k h is)))

    found_is_chosen : first.slot ≡ chosen seat shelf
    unfolding chosen
    found_is_chosen =
        only_lowest (slots shelf) (comes_first (slots shelf) seat shelf) first.slot
        (record { most = omega (arith, so.there); fails_below = λ k h. fails_as k h (ready_at seat shelf k) refl; holds = λ h. is_first })

  pub first_is_chosen : (first : Option Ready) → FirstReady (slots shelf) seat shelf first → first_slot first ≡ slot_or_none (slots shelf) (chosen seat shelf)
  first_is_chosen None none = sym (none_of (slots shelf) (chosen seat shelf) (rw (none_ready_is_none_chosen seat shelf none) (omega arith)))
  first_is_chosen (Some first) so =
      rw (← found_is_chosen first so) (sym (some_of (slots shelf) first.slot so.there))

  -- what a look answers for the ready packet that comes first
  module _ (first : Option Ready) (is : first_slot first ≡ slot_or_none (slots shelf) (chosen seat shelf)) where
    pub none_is_chosen : ((one : Ready) → first ≡ Some one → ⊥) → chosen seat shelf ≡ slots shelf
    none_is_chosen none =
        le_antisymm (chosen_is_at_most_slots seat shelf) (none_is_past (slots shelf) (chosen seat shelf) (first_slot first) is (no_slot first none))
