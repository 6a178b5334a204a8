-- The state after sending: one count more of its own in past, barrier as the kind has it, and the rest as it was.
use Prim.Native.Nat.{ℕ, ◌+◌, ◌-◌, ◌≤◌, ◌<◌}
use mathlib.Core.Path.{◌≡◌, refl, ◌∙◌}
use mathlib.Core.Bool.{true}
use mathlib.Core.List.{List}
use native.Mathlib.Decide.{ℕ_discrete}
use native.Mathlib.Omega.{arith}
use lib.ListN.{get_or, length-set}
use lib.Seq.{get_or-set_same, get_or-set_other}
use Rattle.vectors.specs.Vectors.{entry, Counts}
use Rattle.packet.specs.declared.Kind.{Kind}
use Rattle.packet.specs.declared.Kind.TheVariants.{Ordinary, Causal}
use Rattle.seat.specs.State.{own_count, window_at, sound_state, Held}
use Rattle.seat.specs.HandingOver.{raised_by}
use Rattle.seat.specs.Sending.{barrier_sent, past_sent, barrier_after, sent_seat}
use Rattle.seat.specs.declared.Seat.{Seat}
use Rattle.seat.proofs.Sound.{sound_says}

-- ---- part by part

pub raised_is_sent : (seat : Seat) (kind : Kind) → raised_by kind seat.past seat.barrier ≡ barrier_sent seat kind
raised_is_sent seat Ordinary = refl
raised_is_sent seat Causal = refl

pub raised_is_after : (seat : Seat) (kind : Kind) (past : List ℕ) → past ≡ past_sent seat → raised_by kind past seat.barrier ≡ barrier_after seat kind
raised_is_after seat Ordinary past is-past = refl
raised_is_after seat Causal past is-past = is-past

module _ (seat : Seat) (kind : Kind) where
  -- the state that is built of its parts
  pub sent_seat_is : (past barrier : List ℕ) → past ≡ past_sent seat → barrier ≡ barrier_after seat kind
      → ◌≡◌ {A = Seat} (record { n = seat.n; own = seat.own; past = past; barrier = barrier; run = seat.run; ahead = seat.ahead }) (sent_seat seat kind)
  unfolding sent_seat
  sent_seat_is past barrier is-past is-barrier = rw (is-past, is-barrier)

  pub sending_keeps_seats : (sent_seat seat kind).n ≡ seat.n
  unfolding sent_seat
  sending_keeps_seats = refl

  pub sending_keeps_own : (sent_seat seat kind).own ≡ seat.own
  unfolding sent_seat
  sending_keeps_own = refl

  pub sending_sets_past : (sent_seat seat kind).past ≡ past_sent seat
  unfolding sent_seat
  sending_sets_past = refl

  pub sending_sets_barrier : (sent_seat seat kind).barrier ≡ barrier_after seat kind
  unfolding sent_seat
  sending_sets_barrier = refl

  pub sending_keeps_windows : (k : ℕ) → window_at (sent_seat seat kind) k ≡ window_at seat k
  unfolding sent_seat
  sending_keeps_windows k = refl

-- ---- the new past

pub other_counts_stay : (seat : Seat) (k : ℕ) → (k ≡ seat.own.0 - 1 → ⊥) → get_or (past_sent seat) k 0 ≡ get_or seat.past k 0
other_counts_stay seat k other = get_or-set_other seat.past (seat.own.0 - 1) k (own_count seat + 1) 0 other

module _ (seat : Seat) (sound : sound_state seat ≡ true) (held : Held seat) where
  pub own_count_rises : entry (past_sent seat) seat.own ≡ own_count seat + 1
  own_count_rises =
      let s = sound_says seat sound in
      get_or-set_same seat.past (seat.own.0 - 1) (own_count seat + 1) 0 (omega (arith, held.past_long))

  pub no_count_falls : (k : ℕ) → get_or seat.past k 0 ≤ get_or (past_sent seat) k 0
  no_count_falls k =
      elim (ℕ_discrete k (seat.own.0 - 1)) [
        | yes here ↦ rw here (omega (arith, own_count_rises))
        | no other ↦ omega (arith, other_counts_stay seat k other)
      ]

  pub past_sent_is_zero_above : (k : ℕ) → seat.n ≤ k → k < 16 → get_or (past_sent seat) k 0 ≡ 0
  past_sent_is_zero_above k h b =
      let s = sound_says seat sound in
      other_counts_stay seat k (λ e. omega arith) ∙ s.past_above k h b

  pub past_sent_is_counts : own_count seat < 65535 → Counts (past_sent seat)
  past_sent_is_counts not_full =
      record {
        long = length-set seat.past (seat.own.0 - 1) (own_count seat + 1) ∙ held.past_long;
        fits = λ k.
            elim (ℕ_discrete k (seat.own.0 - 1)) [
              | yes here ↦ rw here (omega (arith, own_count_rises))
              | no other ↦ omega (arith, other_counts_stay seat k other, held.past_fits k)
            ];
      }
