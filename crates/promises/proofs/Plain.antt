-- The plain facts of demand 1 hold exactly where the tests of the definitions do.
use Prim.Native.Nat.{ℕ, ◌<◌}
use mathlib.Core.Path.{◌≡◌, refl, sym, ap, ◌∙◌}
use mathlib.Core.Logic.{◌↔◌, ◌⊎◌, inl, inr}
use mathlib.Core.Bool.{Bool, true, false, not, true≢false, or-true}
use mathlib.Core.List.{List, [], ◌∷◌}
use native.Mathlib.Decide.{dec_lt}
use native.Mathlib.Omega.{arith}
use lib.ListN.{get_or}
use Rattle.std.proofs.lemmas.Bool.{leb-true, eqb-true, lt-ltb, le-leb, eq-eqb, and_parts, or_cases, not-true}
use Rattle.answers.specs.declared.SeatNo.{SeatNo}
use Rattle.vectors.specs.Vectors.{within, same, maxes}
use Rattle.vectors.proofs.Every.{all_at, all_of}
use Rattle.vectors.proofs.Tests.{within_at, within_of, zero_above_at, zero_above_of, maxes_at}
use Rattle.packet.specs.Packet.{sender_of, kind_of, past_of, barrier_of, less_one, point_seven, point_eight, vector_tests, first_failing, vectors_point, first_bad_point, well_formed}
use Rattle.packet.specs.Writing.{in_range, writable}
use Rattle.packet.specs.declared.Kind.{Kind}
use Rattle.packet.specs.declared.Kind.TheVariants.{Ordinary, Causal}
use Rattle.packet.specs.declared.Header.{Header}
use Rattle.packet.proofs.Formed.{point_seven_lem, formed, head_passes, bad_vectors}
use Rattle.packet.proofs.Writable.{is_in_range, range_holds, can_be_written, writable_holds}
use Rattle.shelf.specs.Shelf.{slots, whole_slots, is_free, lowest_free}
use Rattle.shelf.proofs.Lowest.{lowest_is_lowest, lowest_none}
use Rattle.seat.specs.State.{sound_state, SoundState}
use Rattle.seat.specs.Stock.{packet_at, number_of, is_handed, on_shelf, sound_shelf}
use Rattle.seat.specs.HandingOver.{ready, raised_by, barrier_above_past}
use Rattle.seat.specs.Arriving.{heading_of, sound_both, repeats}
use Rattle.seat.specs.Releasing.{ready_at}
use Rattle.seat.specs.declared.Seat.{Seat}
use Rattle.seat.proofs.Sound.{sound_says, sound_passes}
use Rattle.seat.proofs.SoundShelf.{sound_shelf_says, sound_shelf_passes}
use Rattle.seat.proofs.OnSlots.{edit_is_its_numbers, its_numbers_are_the_edit, on_shelf_is_on_a_slot, on_a_slot_is_on_shelf}
use Rattle.promises.specs.Demand1.{SeatOf, InOrder, WellFormed, CanBeWritten, WholeSlots, Sound, OnShelf, Repeats, Ready, BarrierStays, FreeSlot, ReadySlot}

-- ---- a fact that a test decides

pub decided : {P : Type 0} (test : Bool) → (P ↔ (test ≡ true)) → P ⊎ (P → ⊥)
decided true agree = inl (agree.1 refl)
decided false agree = inr (λ fact. true≢false (sym (agree.0 fact)))

pub fails : {P : Type 0} (test : Bool) → (P ↔ (test ≡ true)) → (P → ⊥) → test ≡ false
fails true agree never = absurd (never (agree.1 refl))
fails false agree never = refl

-- ---- packets

pub range_agrees : (header : Header) → SeatOf header.sender header.n ↔ (in_range header ≡ true)
range_agrees header = (
  λ facts. range_holds header (record { seats_low = facts.0; seats_high = facts.1; sender_low = facts.2; sender_high = facts.3 }),
  λ e. let range = is_in_range header e in (range.seats_low, range.seats_high, range.sender_low, range.sender_high),
)

module _ (sender : SeatNo) (past barrier : List ℕ) where
  both_pass : (seven eight : Bool) → first_failing 7 (seven ∷ eight ∷ []) ≡ 0 → (seven ≡ true) × (eight ≡ true)
  unfolding first_failing
  both_pass true true e = (refl, refl)
  both_pass true false e = absurd (omega arith)
  both_pass false eight e = absurd (omega arith)

  eight_says : (kind : Kind) → point_eight kind sender past barrier ≡ true → kind ≡ Causal → (k : ℕ) → k < 16 → get_or barrier k 0 ≡ get_or (less_one past sender) k 0
  unfolding point_eight same
  eight_says Ordinary e is = cc
  eight_says Causal e is = λ k h. eqb-true _ _ (all_at _ 16 k e h)

  eight_holds : (kind : Kind) → (kind ≡ Causal → (k : ℕ) → k < 16 → get_or barrier k 0 ≡ get_or (less_one past sender) k 0) → point_eight kind sender past barrier ≡ true
  unfolding point_eight same
  eight_holds Ordinary each = refl
  eight_holds Causal each = all_of _ 16 (λ k h. eq-eqb _ _ (each refl k h))

  seven_holds : {kind : Kind} → InOrder kind sender past barrier → point_seven sender past barrier ≡ true
  unfolding point_seven
  seven_holds facts = simp (within_of barrier past facts.within_past, lt-ltb _ _ facts.smaller)

  pub order_agrees : (kind : Kind) → InOrder kind sender past barrier ↔ (vectors_point kind sender past barrier ≡ 0)
  unfolding vector_tests first_failing
  order_agrees kind = (
    λ facts. simp (seven_holds facts, eight_holds kind facts.causal),
    λ e.
        let both = both_pass (point_seven sender past barrier) (point_eight kind sender past barrier) e in
        let seven = point_seven_lem sender past barrier both.0 in
        record { within_past = seven.0; smaller = seven.1; causal = eight_says kind both.1 },
  )

module _ (packet : List ℕ) where
  pub formed_agrees : WellFormed packet ↔ (first_bad_point packet ≡ 0)
  formed_agrees = (
    λ facts.
        let head =
        head_passes packet
        (record { long = facts.point_1; version = facts.point_2; zero_bits = facts.point_3; sender = facts.point_4; body = facts.point_5; exact = facts.point_6 }) in
        bad_vectors packet head ∙ (order_agrees (sender_of packet) (past_of packet) (barrier_of packet) (kind_of packet)).0 facts.points_7_8,
    λ well.
        let head = (formed packet well).head in
        let passed = head_passes packet head in
        record {
          point_1 = head.long;
          point_2 = head.version;
          point_3 = head.zero_bits;
          point_4 = head.sender;
          point_5 = head.body;
          point_6 = head.exact;
          points_7_8 = (order_agrees (sender_of packet) (past_of packet) (barrier_of packet) (kind_of packet)).1 (sym (bad_vectors packet passed) ∙ well);
        },
  )

  pub well_formed_agrees : WellFormed packet ↔ (well_formed packet ≡ true)
  well_formed_agrees = (λ facts. eq-eqb _ _ (formed_agrees.0 facts), λ e. formed_agrees.1 (eqb-true _ _ e))

pub writable_agrees : (kind : Kind) (header : Header) (past barrier : List ℕ) → CanBeWritten kind header past barrier ↔ (writable kind header past barrier ≡ true)
writable_agrees kind header past barrier = (
  λ facts.
      writable_holds kind header past barrier
      (record {
        range = (range_agrees header).0 facts.is_in_range;
        points = (order_agrees header.sender past barrier kind).0 facts.in_order;
        past_zero = zero_above_of header.n past facts.past_above;
        barrier_zero = zero_above_of header.n barrier facts.barrier_above;
      }),
  λ e.
      let good = can_be_written kind header past barrier e in
      record {
        is_in_range = (range_agrees header).1 good.range;
        in_order = (order_agrees header.sender past barrier kind).1 good.points;
        past_above = zero_above_at header.n past good.past_zero;
        barrier_above = zero_above_at header.n barrier good.barrier_zero;
      },
)

-- ---- state and shelf

pub whole_agrees : (shelf : List ℕ) → WholeSlots shelf ↔ (whole_slots shelf ≡ true)
unfolding whole_slots
whole_agrees shelf = (
  λ facts. simp (eq-eqb _ _ facts.0, le-leb _ _ facts.1),
  λ e. let both = and_parts _ _ e in (eqb-true _ _ both.0, leb-true _ _ both.1),
)

pub state_agrees : (seat : Seat) → SoundState seat ↔ (sound_state seat ≡ true)
state_agrees seat = (sound_passes seat, sound_says seat)

module _ (seat : Seat) (shelf : List ℕ) where
  pub sound_agrees : Sound seat shelf ↔ (sound_both seat shelf ≡ true)
  sound_agrees = (
    λ facts. simp (sound_passes seat facts.0, sound_shelf_passes seat shelf facts.1),
    λ e. let both = and_parts (sound_state seat) (sound_shelf seat shelf) e in (sound_says seat both.0, sound_shelf_says seat shelf both.1),
  )

  module _ (packet : List ℕ) where
    on_shelf_agrees : OnShelf shelf packet ↔ (on_shelf shelf (sender_of packet) (number_of packet) ≡ true)
    on_shelf_agrees = (
      λ on.
          on_a_slot_is_on_shelf shelf (sender_of packet) (number_of packet) on.0 on.1 on.2
          (its_numbers_are_the_edit (packet_at shelf on.0) (sender_of packet) (number_of packet) on.3 on.4),
      λ e.
          let on = on_shelf_is_on_a_slot shelf (sender_of packet) (number_of packet) e in
          let same = edit_is_its_numbers (packet_at shelf on.0) (sender_of packet) (number_of packet) on.3 in
          (on.0, on.1, on.2, same.0, same.1),
    )

    pub repeats_agrees : Repeats seat shelf packet ↔ (repeats seat shelf packet ≡ true)
    repeats_agrees = (
      λ facts. elim facts [ inl over ↦ rw over | inr on ↦ rw (on_shelf_agrees.0 on) (or-true (is_handed seat (sender_of packet) (number_of packet))) ],
      λ e.
          elim (or_cases (is_handed seat (sender_of packet) (number_of packet)) (on_shelf shelf (sender_of packet) (number_of packet)) e) [
            | inl over ↦ inl over
            | inr on ↦ inr (on_shelf_agrees.1 on)
          ],
    )

-- ---- ready, and what handing over would make of barrier

module _ (seat : Seat) (packet : List ℕ) where
  pub ready_agrees : Ready seat packet ↔ (ready seat (barrier_of packet) ≡ true)
  ready_agrees = (within_of (barrier_of packet) seat.run, within_at (barrier_of packet) seat.run)

  abbrev raised : List ℕ
  raised = raised_by (kind_of packet) (past_of packet) (barrier_of packet)

  stays_within : BarrierStays seat packet ↔ (within (maxes seat.barrier raised) (maxes seat.past (past_of packet)) ≡ true)
  stays_within = (
    λ stays. within_of (maxes seat.barrier raised) (maxes seat.past (past_of packet)) (λ k h. rw (maxes_at seat.barrier raised k h, maxes_at seat.past (past_of packet) k h) (stays k h)),
    λ e k h. rw (maxes_at seat.barrier raised k h, maxes_at seat.past (past_of packet) k h) at (within_at (maxes seat.barrier raised) (maxes seat.past (past_of packet)) e k h),
  )

  pub stays_decided : BarrierStays seat packet ⊎ (BarrierStays seat packet → ⊥)
  stays_decided = decided _ stays_within

  pub stays_is_not_above : BarrierStays seat packet → barrier_above_past seat (heading_of packet) (past_of packet) (barrier_of packet) ≡ false
  stays_is_not_above stays = ap not (stays_within.0 stays)

  pub leaves_is_above : (BarrierStays seat packet → ⊥) → barrier_above_past seat (heading_of packet) (past_of packet) (barrier_of packet) ≡ true
  leaves_is_above leaves = ap not (fails _ stays_within leaves)

-- ---- slots

module _ (shelf : List ℕ) where
  pub free_or_full : FreeSlot shelf ⊎ (lowest_free shelf ≡ slots shelf)
  free_or_full =
      let low = lowest_is_lowest (slots shelf) (is_free shelf) in
      elim (dec_lt (lowest_free shelf) (slots shelf)) [
        | yes below ↦ inl (lowest_free shelf, below, low.holds below)
        | no above ↦ inr (omega (arith, low.most))
      ]

  pub full_has_no_free_slot : lowest_free shelf ≡ slots shelf → FreeSlot shelf → ⊥
  full_has_no_free_slot full free = true≢false (sym free.2 ∙ lowest_none (slots shelf) (is_free shelf) full free.0 free.1)

  pub no_free_slot_is_full : (FreeSlot shelf → ⊥) → lowest_free shelf ≡ slots shelf
  no_free_slot_is_full none = elim free_or_full [ inl free ↦ absurd (none free) | inr full ↦ full ]

module _ (seat : Seat) (shelf : List ℕ) (i : ℕ) where
  pub ready_slot_tests : ReadySlot seat shelf i → ready_at seat shelf i ≡ true
  unfolding ready_at
  ready_slot_tests slot = simp (slot.1, (ready_agrees seat (packet_at shelf i)).0 slot.2)

  pub tested_slot_is_ready : i < slots shelf → ready_at seat shelf i ≡ true → ReadySlot seat shelf i
  unfolding ready_at
  tested_slot_is_ready there e = let both = and_parts (not (is_free shelf i)) _ e in (there, not-true _ both.0, (ready_agrees seat (packet_at shelf i)).1 both.1)
