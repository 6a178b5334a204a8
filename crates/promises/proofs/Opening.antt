-- A freshly opened seat: it is sound, all its counts are zero, and nothing is marked or on its shelf.
use Prim.Native.Nat.{ℕ, zero, suc, ◌-◌}
use mathlib.Core.Path.{◌≡◌, refl, sym, ◌∙◌}
use mathlib.Core.Bool.{true≢false}
use mathlib.Core.List.{List}
use native.Mathlib.Omega.{arith}
use lib.ListN.{length, replicate}
use Rattle.answers.specs.Answers.{seat_no, report}
use Rattle.answers.specs.declared.Answer.{Answer}
use Rattle.answers.specs.declared.Answer.TheVariants.{Opened}
use Rattle.vectors.specs.Vectors.{zeros}
use Rattle.window.specs.Window.{fresh_window}
use Rattle.window.proofs.Sound.{fresh_holds_nothing}
use Rattle.seat.specs.State.{window_at, counting}
use Rattle.seat.specs.Opening.{open_answer}
use Rattle.seat.proofs.Opened.{zeros_at}
use Rattle.seat.proofs.OpenAnswers.{OpenOccasion, opened, no_such_seat, broken_shelf, open_tells_its_occasion}
use Rattle.seat.proofs.LaidShelf.{zeros_hold_nothing}
use Rattle.seat.proofs.SteppingSound.{SoundPlace, opening_makes_sound}
use Rattle.session.specs.Protocol.{Fresh}
use Rattle.promises.specs.Demand3.{Place, FreshlyOpened}
use Rattle.promises.proofs.Model.{model, count_of}

no_counts : (i : ℕ) → count_of zeros i ≡ 0
no_counts zero = refl
no_counts (suc k) = zeros_at k

no_windows : (n j k : ℕ) → window_at (counting n (seat_no j)) k ≡ fresh_window
no_windows n j k = λ i. record { run = zeros_at k i; ahead = zeros_at k i }

-- an open that answers 0 is done
zero_is_opened : (n j : ℕ) (shelf : List ℕ) {answer : Answer} → OpenOccasion n (seat_no j) shelf answer → (report answer).answer ≡ 0 → answer ≡ Opened
zero_is_opened n j shelf (opened range whole) is_0 = refl
zero_is_opened n j shelf (no_such_seat range) is_0 = absurd (omega arith)
zero_is_opened n j shelf (broken_shelf range whole) is_0 = absurd (omega arith)

module _ (n j : ℕ) (place : Place) (fresh : FreshlyOpened n j place) where
  is_opened : fresh.stepped.answer ≡ Opened
  is_opened =
      zero_is_opened n j fresh.lent (open_tells_its_occasion n (seat_no j) fresh.lent fresh.stepped.answer (sym fresh.contract.answered)) fresh.answered_0

  answer_is : open_answer n (seat_no j) fresh.lent ≡ Opened
  answer_is = sym fresh.contract.answered ∙ is_opened

  state_is : place.seat ≡ counting n (seat_no j)
  state_is = fresh.state ∙ rw answer_is at fresh.contract.next

  shelf_is : place.shelf ≡ replicate (length fresh.lent) 0
  shelf_is = rw answer_is at fresh.contract.shelf_after_is

  pub opened_is_sound : SoundPlace place.seat place.shelf
  opened_is_sound = rw fresh.state (opening_makes_sound n (seat_no j) fresh.lent fresh.stepped place.shelf fresh.contract is_opened)

  pub opened_is_numbered : place.seat.own.0 ≡ j
  opened_is_numbered = rw state_is

  pub opened_is_fresh : Fresh model place
  opened_is_fresh =
      record {
        no_past = λ i. rw state_is (no_counts i);
        no_barrier = λ i. rw state_is (no_counts i);
        none_marked = λ e marked.
            true≢false
            (sym marked.is ∙ rw (state_is, no_windows n j (e.by - 1)) (fresh_holds_nothing e.number marked.number_low));
        none_shelved = λ packet on. zeros_hold_nothing (length fresh.lent) packet (rw shelf_is at on);
      }
