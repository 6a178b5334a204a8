-- What every well formed packet has, once it was read: ranges, lengths, and the edit that it carries.
use Prim.Native.Nat.{ℕ, ◌-◌, ◌≤◌}
use mathlib.Core.Path.{◌≡◌, ap, ◌∙◌}
use mathlib.Core.Bool.{true}
use mathlib.Core.List.{List}
use native.Mathlib.Omega.{arith}
use lib.ListN.{length, length-drop}
use Rattle.answers.specs.Answers.{edit_no}
use Rattle.answers.specs.declared.SeatNo.{SeatNo}
use Rattle.answers.specs.declared.Edit.{Edit}
use Rattle.vectors.specs.Vectors.{entry}
use Rattle.window.specs.Window.{none_above}
use Rattle.window.proofs.Sound.{sound_has_none_above, sound_passes}
use Rattle.packet.specs.Packet.{seats_of, past_of, body_at, first_bad_point}
use Rattle.packet.specs.Reading.{body_of}
use Rattle.packet.specs.declared.Heading.{Heading}
use Rattle.packet.proofs.Told.{told_of, body_formed}
use Rattle.seat.specs.State.{window_of, SoundState}
use Rattle.seat.specs.Arriving.{heading_of, edit_handed}
use Rattle.seat.specs.declared.Seat.{Seat}

-- the body's length, by the packet's
pub body_length : (packet : List ℕ) → first_bad_point packet ≡ 0 → length (body_of packet) ≡ length packet - body_at (seats_of packet)
body_length packet well = ap length (body_formed packet well) ∙ length-drop (body_at (seats_of packet)) packet

-- ranges and lengths
pub record Sizes (heading : Heading) (packet : List ℕ) : Type 0 where
  pub sender_low : 1 ≤ heading.sender.0
  pub sender_high : heading.sender.0 ≤ 16
  pub seats_high : heading.n ≤ 16
  pub body_inside : body_at heading.n ≤ length packet
  pub short : length packet ≤ 267

-- the edit that a packet carries, by its heading, past and length
abbrev pub carried : Heading → List ℕ → ℕ → Edit
carried heading past packet = record { sender = heading.sender; number = edit_no (entry past heading.sender); length = packet - body_at heading.n }

module _ (packet : List ℕ) (heading : Heading) (well : first_bad_point packet ≡ 0) (is : heading ≡ heading_of packet) where
  pub read_sizes : Sizes heading packet
  read_sizes =
      let t = told_of packet well in
      record {
        sender_low = rw is t.sender_low;
        sender_high = rw is (omega (arith, t.sender_high, t.seats_high));
        seats_high = rw is t.seats_high;
        body_inside = rw is (omega (arith, t.exact));
        short = omega (arith, t.exact, t.body_short, t.seats_high);
      }

  pub carried_is : (past : List ℕ) → past ≡ past_of packet → carried heading past (length packet) ≡ edit_handed packet
  carried_is past same = rw (is, same, body_length packet well)

-- no number above 65,535 is marked in a sound seat's windows
pub marks_are_low : (seat : Seat) (sender : SeatNo) → SoundState seat → 1 ≤ sender.0 → sender.0 ≤ 16 → entry seat.past sender ≤ 65535
    → none_above 65535 (window_of seat sender) ≡ true
marks_are_low seat sender sound low high fits =
    sound_has_none_above (entry seat.past sender) 65535 (window_of seat sender)
    (sound_passes (entry seat.past sender) (window_of seat sender) (sound.windows (sender.0 - 1) (omega arith))) fits
