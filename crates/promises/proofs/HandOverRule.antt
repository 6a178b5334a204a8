-- Handing over an admitted, ready packet is the paper's delivery rule.
use Prim.Native.Nat.{ℕ, ◌-◌, ◌≤◌, ◌<◌, max}
use mathlib.Core.Path.{◌≡◌, refl, sym, ap, subst, ◌∙◌}
use mathlib.Core.Logic.{◌↔◌, ◌⊎◌, inl, inr}
use mathlib.Core.Bool.{Bool, true, false, ◌||◌, true≢false}
use mathlib.Core.List.{List}
use native.Mathlib.Decide.{ℕ_discrete}
use native.Mathlib.Omega.{arith}
use lib.Dec.{eqb}
use lib.ListN.{get_or}
use Rattle.std.proofs.lemmas.Bool.{eqb-true, eq-eqb, false_from_ne_true}
use Rattle.vectors.proofs.Tests.{maxes_at}
use Rattle.window.specs.Window.{handed}
use Rattle.window.specs.declared.Window.{Window}
use Rattle.window.proofs.Handed.{not_handed_is_above_run, handing_over_adds_one}
use Rattle.packet.specs.Packet.{sender_of, kind_of, past_of, barrier_of}
use Rattle.packet.specs.declared.Kind.{Kind}
use Rattle.packet.specs.declared.Kind.TheVariants.{Ordinary, Causal}
use Rattle.seat.specs.State.{window_at, SoundState, Held}
use Rattle.seat.specs.Stock.{number_of, is_handed}
use Rattle.seat.specs.HandingOver.{raised_by, hand_over}
use Rattle.seat.specs.Arriving.{heading_of}
use Rattle.seat.specs.declared.Seat.{Seat}
use Rattle.seat.proofs.HandedOver.{handing_over_keeps_seats, handing_over_keeps_own, handing_over_raises_past, handing_over_raises_barrier, other_windows_stay, senders_window_takes_the_number}
use Rattle.promises.specs.Demand1.{Ready}
use Rattle.promises.specs.Demand2.{controller_of, vector_of, HandOverDone}
use Rattle.promises.proofs.Sets.{ready_is_line_5}

-- one number more in a set
one_more : (before after : Bool) (t s : ℕ) → after ≡ (before || eqb t s) → (after ≡ true) ↔ ((before ≡ true) ⊎ (t ≡ s))
one_more true after t s e = (λ is. inl refl, λ is. e)
one_more false after t s e = (
  λ is. inr (eqb-true t s (sym e ∙ is)),
  λ is. elim is [ inl never ↦ absurd (true≢false (sym never)) | inr same ↦ e ∙ eq-eqb t s same ],
)

module _ (seat : Seat) (packet : List ℕ) (sound : SoundState seat) (held : Held seat) (low : 1 ≤ (sender_of packet).0) (high : (sender_of packet).0 ≤ seat.n)
    (is_new : is_handed seat (sender_of packet) (number_of packet) ≡ true → ⊥) (is_ready : Ready seat packet) where
  abbrev next : Seat
  next = hand_over seat (heading_of packet) (past_of packet) (barrier_of packet)

  abbrev sender : ℕ
  sender = (sender_of packet).0

  abbrev In : Seat → ℕ → ℕ → Type 0
  In one k t = (controller_of one).del k t

  at_sender : (t : ℕ) → In next sender t ↔ (In seat sender t ⊎ (t ≡ number_of packet))
  at_sender t =
      let w = window_at seat (sender - 1) in
      let above = not_handed_is_above_run w (number_of packet) (false_from_ne_true _ is_new) in
      let is = senders_window_takes_the_number seat (heading_of packet) (past_of packet) (barrier_of packet) held low (omega (arith, sound.seats_high)) in
      one_more (handed w t) (handed (window_at next (sender - 1)) t) t (number_of packet)
      (ap (λ (x : Window). handed x t) is ∙ handing_over_adds_one w (number_of packet) t above)

  set_grows : (k : ℕ) → 1 ≤ k → k ≤ seat.n → (t : ℕ) → In next k t ↔ (In seat k t ⊎ ((k ≡ sender) × (t ≡ vector_of (past_of packet) sender)))
  set_grows k from to t =
      elim (ℕ_discrete k sender) [
        | yes here ↦ (
          λ is. elim ((at_sender t).0 (subst (λ (x : ℕ). In next x t) here is)) [
            | inl before ↦ inl (subst (λ (x : ℕ). In seat x t) (sym here) before)
            | inr same ↦ inr (here, same)
          ],
          λ is. subst (λ (x : ℕ). In next x t) (sym here)
              (elim is [
                | inl before ↦ (at_sender t).1 (inl (subst (λ (x : ℕ). In seat x t) here before))
                | inr same ↦ (at_sender t).1 (inr same.1)
              ]),
        )
        | no other ↦ let apart : k - 1 ≡ sender - 1 → ⊥ = λ same. other (omega arith) in
            let is = ap (λ (x : Window). handed x t) (other_windows_stay seat (heading_of packet) (past_of packet) (barrier_of packet) (k - 1) apart) in
            (λ after. inl (sym is ∙ after), λ either. elim either [ inl before ↦ is ∙ before | inr same ↦ absurd (other same.0) ])
      ]

  inside : (k : ℕ) → k ≤ seat.n → 1 ≤ k → k - 1 < 16
  inside k to from = omega (arith, sound.seats_high)

  past_raised : (k : ℕ) → 1 ≤ k → k ≤ seat.n → vector_of next.past k ≡ max (vector_of seat.past k) (vector_of (past_of packet) k)
  past_raised k from to =
      ap (λ (v : List ℕ). get_or v (k - 1) 0) (handing_over_raises_past seat (heading_of packet) (past_of packet) (barrier_of packet))
      ∙ maxes_at seat.past (past_of packet) (k - 1) (inside k to from)

  barrier_raised : (k : ℕ) → 1 ≤ k → k ≤ seat.n → (kind : Kind) → kind_of packet ≡ kind
      → vector_of next.barrier k ≡ max (vector_of seat.barrier k) (vector_of (raised_by kind (past_of packet) (barrier_of packet)) k)
  barrier_raised k from to kind is =
      ap (λ (v : List ℕ). get_or v (k - 1) 0) (handing_over_raises_barrier seat (heading_of packet) (past_of packet) (barrier_of packet))
      ∙ maxes_at seat.barrier (raised_by (kind_of packet) (past_of packet) (barrier_of packet)) (k - 1) (inside k to from)
      ∙ ap (λ (x : Kind). max (vector_of seat.barrier k) (vector_of (raised_by x (past_of packet) (barrier_of packet)) k)) is

  pub handing_over_is_the_rule : HandOverDone seat packet next
  handing_over_is_the_rule =
      record {
        rule =
            record {
              line_5 = ready_is_line_5 seat packet sound is_ready;
              line_7 = set_grows;
              line_8 = past_raised;
              line_9 = λ is k from to. barrier_raised k from to Causal is;
              line_10 = λ is k from to. barrier_raised k from to Ordinary is;
            };
        seats_stay = handing_over_keeps_seats seat (heading_of packet) (past_of packet) (barrier_of packet);
        own_stays = handing_over_keeps_own seat (heading_of packet) (past_of packet) (barrier_of packet);
      }
