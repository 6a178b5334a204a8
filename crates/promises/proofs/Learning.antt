-- Handing a packet over does to counts and marks what lines 7 to 10 say.
use Prim.Native.Nat.{ℕ, max}
use mathlib.Core.Path.{◌≡◌, refl, sym, ap, subst, ◌∙◌}
use mathlib.Core.List.{List}
use mathlib.Core.Logic.{◌⊎◌, inl, inr}
use native.Mathlib.Omega.{arith}
use lib.ListN.{length}
use Rattle.vectors.specs.Vectors.{entry}
use Rattle.vectors.proofs.Vector.{length_vector}
use Rattle.packet.specs.Packet.{sender_of, kind_of, past_of, barrier_of}
use Rattle.packet.specs.declared.Kind.{Kind}
use Rattle.packet.specs.declared.Kind.TheVariants.{Ordinary, Causal}
use Rattle.seat.specs.HandingOver.{raised_by, hand_over}
use Rattle.seat.specs.Arriving.{heading_of}
use Rattle.seat.specs.declared.Seat.{Seat}
use Rattle.seat.proofs.HandedOver.{handing_over_raises_past, handing_over_raises_barrier}
use Rattle.seat.proofs.HandingOverSound.{CanHandOver}
use Rattle.seat.proofs.HandedSet.{handed_after_was_handed_or_is_it, handed_stays_handed, handed_over_is_handed}
use Rattle.session.specs.Events.{Edit}
use Rattle.session.specs.Protocol.{by_kind, edit, Learns}
use Rattle.promises.specs.Demand3.{Place, kind_as}
use Rattle.promises.proofs.Model.{model, count_of, MarkedAt, edit_is, same_edit, count_of_maxes}

module _ (seat : Seat) (packet : List ℕ) (can : CanHandOver seat (heading_of packet) (past_of packet) (barrier_of packet)) (shelf left : List ℕ) where
  abbrev next : Seat
  next = hand_over seat (heading_of packet) (past_of packet) (barrier_of packet)

  abbrev before : Place
  before = record { seat = seat; shelf = shelf }

  abbrev after : Place
  after = record { seat = next; shelf = left }

  marked_was_or_is_it : (e : Edit) → MarkedAt after e → MarkedAt before e ⊎ (e ≡ edit model packet)
  marked_was_or_is_it e marked =
      elim (handed_after_was_handed_or_is_it seat (heading_of packet) (past_of packet) (barrier_of packet) can e.by e.number marked.by_low marked.is) [
        | inl was ↦ inl (record { by_low = marked.by_low; number_low = marked.number_low; is = was })
        | inr (by, number) ↦ inr (same_edit e (record { by = (sender_of packet).0; number = entry (past_of packet) (sender_of packet) }) by number ∙ sym (edit_is packet))
      ]

  marked_stays : (e : Edit) → MarkedAt before e → MarkedAt after e
  marked_stays e marked =
      record {
        by_low = marked.by_low;
        number_low = marked.number_low;
        is = handed_stays_handed seat (heading_of packet) (past_of packet) (barrier_of packet) can e.by e.number marked.by_low marked.is;
      }

  it_is_marked : (e : Edit) → e ≡ edit model packet → MarkedAt after e
  it_is_marked e is =
      subst (MarkedAt after) (sym (is ∙ edit_is packet))
      (record {
        by_low = can.sender_low;
        number_low = omega (arith, can.new);
        is = handed_over_is_handed seat (heading_of packet) (past_of packet) (barrier_of packet) can;
      })

  raised_count : (kind : Kind) (i : ℕ) → count_of (raised_by kind (past_of packet) (barrier_of packet)) i ≡ by_kind (kind_as kind) (count_of (barrier_of packet) i) (count_of (past_of packet) i)
  raised_count Ordinary i = refl
  raised_count Causal i = refl

  raised_long : (kind : Kind) → length (raised_by kind (past_of packet) (barrier_of packet)) ≡ 16
  raised_long Ordinary = length_vector _ _
  raised_long Causal = length_vector _ _

  pub handing_over_learns : Learns model packet before after
  handing_over_learns =
      let raised = raised_by (kind_of packet) (past_of packet) (barrier_of packet) in
      record {
        marks_after = λ e. (
          marked_was_or_is_it e,
          λ either. elim either [ inl was ↦ marked_stays e was | inr is ↦ it_is_marked e is ],
        );
        past_after = λ i.
            ap (λ (v : List ℕ). count_of v i) (handing_over_raises_past seat (heading_of packet) (past_of packet) (barrier_of packet))
            ∙ count_of_maxes seat.past (past_of packet) can.held.past_long (length_vector _ _) i;
        barrier_after_is = λ i.
            ap (λ (v : List ℕ). count_of v i) (handing_over_raises_barrier seat (heading_of packet) (past_of packet) (barrier_of packet))
            ∙ count_of_maxes seat.barrier raised can.held.barrier_long (raised_long (kind_of packet)) i
            ∙ ap (λ (x : ℕ). max (count_of seat.barrier i) x) (raised_count (kind_of packet) i);
      }
