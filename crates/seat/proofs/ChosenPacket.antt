-- The packet that a release takes: what is known of it, and each answer with what it leaves.
use Prim.Native.Nat.{ℕ, ◌≤◌, ◌<◌}
use mathlib.Core.Path.{◌≡◌, ◌∙◌}
use mathlib.Core.Bool.{false}
use mathlib.Core.List.{List}
use lib.ListN.{length, drop}
use Rattle.std.proofs.lemmas.Bool.{and_parts}
use Rattle.vectors.specs.Vectors.{entry}
use Rattle.window.proofs.Handed.{not_handed_is_above_run}
use Rattle.packet.specs.Packet.{sender_of, body_at}
use Rattle.packet.specs.Reading.{body_of}
use Rattle.packet.specs.declared.Heading.{Heading}
use Rattle.packet.proofs.Told.{body_formed}
use Rattle.shelf.specs.Shelf.{slots, is_free}
use Rattle.seat.specs.State.{window_of, sound_state, SoundState}
use Rattle.seat.specs.Stock.{number_of, packet_at, sound_shelf, Passing, SoundShelf}
use Rattle.seat.specs.HandingOver.{Due}
use Rattle.seat.specs.Arriving.{edit_handed}
use Rattle.seat.specs.Releasing.{chosen}
use Rattle.seat.specs.Steps.{Chosen, ChosenRead}
use Rattle.seat.specs.declared.Seat.{Seat}
use Rattle.seat.proofs.Sound.{sound_says}
use Rattle.seat.proofs.SoundShelf.{sound_shelf_says}
use Rattle.seat.proofs.Chosen.{chosen_is_ready, ready_slot_is_used}
use Rattle.seat.proofs.WellRead.{Sizes, carried, read_sizes, carried_is, marks_are_low}

-- ---- what is known of the packet

module _ (seat : Seat) (shelf : List ℕ) (i : ℕ) (c : Chosen seat shelf i) where
  state_is_sound : SoundState seat
  state_is_sound = sound_says seat (and_parts (sound_state seat) (sound_shelf seat shelf) c.sound).0

  shelf_is_sound : SoundShelf seat shelf
  shelf_is_sound = sound_shelf_says seat shelf (and_parts (sound_state seat) (sound_shelf seat shelf) c.sound).1

  is_used : is_free shelf i ≡ false
  is_used =
      let there : chosen seat shelf < slots shelf = rw (← c.chosen_is) c.there in
      rw c.chosen_is (ready_slot_is_used seat shelf (chosen seat shelf) (chosen_is_ready seat shelf there))

  pub chosen_passes : Passing seat (packet_at shelf i)
  chosen_passes = shelf_is_sound.passing i c.there is_used

module _ (seat : Seat) (shelf : List ℕ) (i : ℕ) (heading : Heading) (past barrier : List ℕ) (r : ChosenRead seat shelf i heading past barrier) where
  abbrev packet : List ℕ
  packet = packet_at shelf i

  pub chosen_sizes : Sizes heading packet
  chosen_sizes = read_sizes packet heading r.is_well_formed r.heading_is

  pub chosen_is_due : entry seat.past heading.sender ≤ 65535 → Due seat heading past
  chosen_is_due fits =
      let z = chosen_sizes in
      let p = chosen_passes seat shelf i r.chosen in
      record {
        sender_low = z.sender_low;
        sender_high = z.sender_high;
        new = rw (r.heading_is, r.past_is) (not_handed_is_above_run (window_of seat (sender_of packet)) (number_of packet) p.not_handed);
        near = rw (r.heading_is, r.past_is) p.near;
        marks_low = marks_are_low seat heading.sender (state_is_sound seat shelf i r.chosen) z.sender_low z.sender_high fits;
      }

  pub chosen_edit : carried heading past (length packet) ≡ edit_handed packet
  chosen_edit = carried_is packet heading r.is_well_formed r.heading_is past r.past_is

  pub chosen_body : body_of packet ≡ drop (body_at heading.n) packet
  chosen_body = body_formed packet r.is_well_formed ∙ rw r.heading_is
