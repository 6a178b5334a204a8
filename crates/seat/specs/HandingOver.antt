-- Readiness (line 5 of document 000, section 3.2), and handing over an edit (lines 7 to 10).
use Rattle.std.specs.Prelude.{ℕ, ◌+◌, ◌-◌, ◌≤◌, ◌<◌, ◌≡◌, Bool, true, not, List, set}
use Rattle.answers.specs.declared.SeatNo.{SeatNo}
use Rattle.vectors.specs.Vectors.{entry, within, maxes}
use Rattle.window.specs.Window.{none_above, handed_over}
use Rattle.window.specs.declared.Window.{Window}
use Rattle.packet.specs.declared.Kind.{Kind}
use Rattle.packet.specs.declared.Kind.TheVariants.{Ordinary, Causal}
use Rattle.packet.specs.declared.Heading.{Heading}
use Rattle.seat.specs.State.{window_of}
use Rattle.seat.specs.declared.Seat.{Seat}

-- Line 5: barrier_m[k] ≤ run[k] for every k.
abbrev pub ready : Seat → List ℕ → Bool
ready seat barrier = within barrier seat.run

-- What raises barrier: past_m if the edit is causal, barrier_m if ordinary.
abbrev pub raised_by : Kind → List ℕ → List ℕ → List ℕ
raised_by Ordinary past barrier = barrier
raised_by Causal past barrier = past

-- The sender's window with the edit's number marked, and run advanced.
abbrev pub next_window : Seat → SeatNo → List ℕ → Window
next_window seat sender past = handed_over (window_of seat sender) (entry past sender)

-- The state after handing over: the number marked and run advanced, past and barrier raised entrywise.
unfoldable pub hand_over : Seat → Heading → List ℕ → List ℕ → Seat
hand_over seat heading past barrier =
    record {
      n = seat.n;
      own = seat.own;
      past = maxes seat.past past;
      barrier = maxes seat.barrier (raised_by heading.kind past barrier);
      run = set seat.run (heading.sender.0 - 1) (next_window seat heading.sender past).run;
      ahead = set seat.ahead (heading.sender.0 - 1) (next_window seat heading.sender past).ahead;
    }

-- What handing over takes for granted: the sender is a seat, the edit is new and in the sender's window, and no number
-- above 65,535 is marked there.
pub record Due (seat : Seat) (heading : Heading) (past : List ℕ) : Type 0 where
  pub sender_low : 1 ≤ heading.sender.0
  pub sender_high : heading.sender.0 ≤ 16
  pub new : entry seat.run heading.sender < entry past heading.sender
  pub near : entry past heading.sender ≤ entry seat.run heading.sender + 64
  pub marks_low : none_above 65535 (window_of seat heading.sender) ≡ true

-- Barrier would stand above past after handing over.
abbrev pub barrier_above_past : Seat → Heading → List ℕ → List ℕ → Bool
barrier_above_past seat heading past barrier =
    not (within (maxes seat.barrier (raised_by heading.kind past barrier)) (maxes seat.past past))
