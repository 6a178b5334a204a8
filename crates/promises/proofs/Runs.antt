-- Every session is a run of the protocol of source document 000, and in it every seat's state and shelf stay sound.
use Prim.Native.Nat.{ℕ}
use mathlib.Core.List.Memᴰ
use mathlib.Core.List.{List}
use Rattle.session.specs.Events.{Trace}
use Rattle.session.specs.Protocol.{opened}
use Rattle.promises.specs.Demand3.{Place, Letter}
use Rattle.promises.specs.Demand3.{Session, opening, sending, arriving, releasing}
use Rattle.promises.proofs.Opening.{opened_is_sound, opened_is_numbered, opened_is_fresh}
use Rattle.promises.proofs.Goes.{Goes}
use Rattle.promises.proofs.AfterSend.{after_a_send}
use Rattle.promises.proofs.AfterArrival.{after_an_arrival}
use Rattle.promises.proofs.AfterRelease.{after_a_release}

pub session_goes : {n : ℕ} {places : ℕ → Place} {letters : List Letter} {trace : Trace} → Session n places letters trace → Goes n places letters trace
session_goes {n} (opening {places} fresh) =
    record {
      run = opened (λ j seated. opened_is_fresh n j (places j) (fresh j seated));
      placed = λ j seated. record { sound = opened_is_sound n j (places j) (fresh j seated); numbered = opened_is_numbered n j (places j) (fresh j seated) };
      posted = λ letter none. absurd (Memᴰ.not-nil none);
    }
session_goes (sending j wish body out output stepped session seated meets) = after_a_send (session_goes session) j seated wish body out stepped output meets
session_goes (arriving j letter shelf stepped session seated mail meets) = after_an_arrival (session_goes session) j seated letter mail stepped shelf meets
session_goes (releasing j out shelf output stepped session seated meets) = after_a_release (session_goes session) j seated out stepped shelf output meets
