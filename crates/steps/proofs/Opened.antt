-- Opening a session: each seat is opened, and so are all.
use Prim.Native.Nat.{ℕ, suc, ◌+◌, ◌*◌, ◌-◌, ◌≤◌, ◌<◌}
use mathlib.Core.Bool.{true}
use mathlib.Core.Path.{◌≡◌, subst, sym, ap, ◌∙◌}
use mathlib.Core.List.{List, []}
use native.Mathlib.Nat.{mul-suc, mul-le-mul_left, mul-mod_left, mul-div_cancel, not-suc-le-zero}
use native.Mathlib.Numerals.{add-one}
use native.Mathlib.Decide.{ℕ_discrete}
use native.Mathlib.Omega.{arith}
use borrow.Author.Tests.{le-leb}
use borrow.Rule.Slice.PartMut.{put_mid}
use lib.ListN.{length, get_or, set, take, drop, replicate, length-set, length-replicate}
use lib.Seq.{get_or-set_same, get_or-set_other}
use Rattle.answers.specs.Answers.{seat_no}
use Rattle.answers.specs.declared.Answer.TheVariants.{Opened}
use Rattle.answers.specs.declared.Edit.{Edit}
use Rattle.packet.specs.Writing.{in_range}
use Rattle.shelf.specs.Shelf.{slot_size, whole_slots}
use Rattle.shelf.proofs.Pieces.{length_piece, length_put, put_reads_back, put_keeps_others}
use Rattle.seat.specs.State.{counting}
use Rattle.seat.specs.Opening.{open_answer, opened_seat, opened_shelf, OpenedAs}
use Rattle.seat.specs.declared.Seat.{Seat}
use Rattle.seat.specs.declared.Stepped.{Stepped}
use Rattle.seat.proofs.OpenAnswers.{opening_answers_0}
use Rattle.steps.specs.Session.{nobody, opened_place, opened, list_of}
use Rattle.steps.specs.Memory.{piece, with_piece, place_in, session_in, shelves_size, OpenedIn, AllOpened}
use Rattle.steps.specs.declared.opening.Size.{Size}
use Rattle.steps.specs.declared.walk.Walk.{Walk}
use Rattle.steps.proofs.Parts.{part_lent, part_back}
use Rattle.steps.proofs.ListOf.{same_list_of}

pub opened_long : (n slots i : ℕ) (shelves : List ℕ) {seat : Seat} {shelves-left : List ℕ} → slots * slot_size * i + slots * slot_size ≤ length shelves
    → OpenedIn n slots i shelves seat shelves-left → length shelves-left ≡ length shelves
opened_long n slots i shelves inside at =
    ap length at.shelves_are ∙ length_put (slots * slot_size) shelves i (replicate (slots * slot_size) 0) inside (length-replicate {A = ℕ} (slots * slot_size) 0)

pub none_opened : (n slots : ℕ) (seats : List Seat) (shelves : List ℕ) → length seats ≡ 16 → AllOpened 0 n slots seats shelves
none_opened n slots seats shelves long =
    record { long = long; seat_is = λ i h. absurd (not-suc-le-zero h); shelf_is = λ i h. absurd (not-suc-le-zero h) }

module _ (size : Size) where
  -- the bytes of a shelf
  abbrev bytes : ℕ
  bytes = size.slots * slot_size

  abbrev zeros : List ℕ
  zeros = replicate bytes 0

  zeros_long : length zeros ≡ bytes
  zeros_long = length-replicate {A = ℕ} bytes 0

  whole_shelf : (shelf : List ℕ) → length shelf ≡ bytes → whole_slots shelf ≡ true
  unfolding whole_slots
  whole_shelf shelf long =
      rw (long, mul-mod_left size.slots slot_size, mul-div_cancel size.slots {n = slot_size} (omega arith)) (le-leb size.slots 32 (omega (arith, size.slots_high)))

  module _ (i : ℕ) (there : i < size.n) where
    seat_in_range : in_range (record { n = size.n; sender = seat_no (suc i) }) ≡ true
    unfolding in_range
    seat_in_range =
        rw (le-leb 1 size.n (omega arith), le-leb size.n 16 size.seats_high, le-leb 1 (suc i) (omega arith), le-leb (suc i) size.n there)

    opens : (shelf : List ℕ) → length shelf ≡ bytes → open_answer size.n (seat_no (suc i)) shelf ≡ Opened
    opens shelf long = opening_answers_0 size.n (seat_no (suc i)) shelf seat_in_range (whole_shelf shelf long)

    opened_place_is : opened_place size.n size.slots (suc i) ≡ record { seat = counting size.n (seat_no (suc i)); shelf = zeros }
    opened_place_is =
        (λ p. record { seat = opened_seat (opens zeros zeros_long p) size.n (seat_no (suc i)); shelf = opened_shelf (opens zeros zeros_long p) zeros })
        ∙ (λ p. record { seat = counting size.n (seat_no (suc i)); shelf = replicate (zeros_long p) 0 })

    pub opened_at : (shelves : List ℕ) (start end : ℕ) (stepped : Stepped) (after : List ℕ) → bytes * i + bytes ≤ length shelves
        → start ≡ bytes * i → end ≡ bytes * i + bytes
        → OpenedAs size.n (seat_no (i + 1)) (take (end - start) (drop start shelves)) stepped after
        → OpenedIn size.n size.slots i shelves stepped.seat (put_mid start (end - start) shelves after)
    opened_at shelves start end stepped after inside starts ends lent =
        let long = length_piece bytes shelves i inside in
        let at : OpenedAs size.n (seat_no (suc i)) (piece bytes shelves i) stepped after
        = subst (λ (k : ℕ). OpenedAs size.n (seat_no k) (piece bytes shelves i) stepped after) (add-one i)
        (subst (λ (shelf : List ℕ). OpenedAs size.n (seat_no (i + 1)) shelf stepped after) (part_lent bytes i shelves start end starts ends) lent) in
        let yields = opens (piece bytes shelves i) long in
        record {
          seat_is = at.next ∙ (λ p. opened_seat (yields p) size.n (seat_no (suc i)));
          shelves_are = part_back bytes i shelves start end starts ends after
              ∙ ap (with_piece bytes shelves i) (at.shelf_after_is ∙ (λ p. opened_shelf (yields p) (piece bytes shelves i)) ∙ ap (λ (k : ℕ). replicate {A = ℕ} k 0) long);
        }

  pub opened_inside : (shelves : List ℕ) (i : ℕ) → length shelves ≡ shelves_size → i < size.n → bytes * i + bytes ≤ length shelves
  opened_inside shelves i long h =
      let fewer : suc i ≤ 16 = omega (arith, size.seats_high) in
      omega (arith, size.slots_high, mul-suc bytes i, mul-le-mul_left bytes fewer)

  -- ---- one seat after another

  pub one_more_opened : (k : ℕ) (seats : List Seat) (shelves : List ℕ) (seat : Seat) (shelves-left : List ℕ) → k < size.n → length shelves ≡ shelves_size
      → AllOpened k size.n size.slots seats shelves → OpenedIn size.n size.slots k shelves seat shelves-left
      → AllOpened (k + 1) size.n size.slots (set seats k seat) shelves-left
  one_more_opened k seats shelves seat shelves-left h long so at =
      record { long = length-set seats k seat ∙ so.long; seat_is = seat_is; shelf_is = shelf_is }
    where
      seat_is : (i : ℕ) → i < k + 1 → get_or (set seats k seat) i nobody ≡ counting size.n (seat_no (suc i))
      seat_is i l =
          elim (ℕ_discrete i k) [
            | yes here ↦ rw here (get_or-set_same seats k seat nobody (omega (arith, so.long, size.seats_high)) ∙ at.seat_is)
            | no other ↦ get_or-set_other seats k i seat nobody other ∙ so.seat_is i (omega arith)
          ]

      shelf_is : (i : ℕ) → i < k + 1 → piece bytes shelves-left i ≡ zeros
      shelf_is i l =
          let inside = opened_inside shelves k long h in
          rw at.shelves_are
          (elim (ℕ_discrete i k) [
            | yes here ↦ rw here (put_reads_back bytes shelves k zeros inside zeros_long)
            | no other ↦ put_keeps_others bytes shelves k zeros inside zeros_long i other (opened_inside shelves i long (omega arith)) ∙ so.shelf_is i (omega arith)
          ])

  -- ---- the session

  module _ (seats : List Seat) (edits : List Edit) (shelves : List ℕ) (all : AllOpened size.n size.n size.slots seats shelves) where
    abbrev walk : Walk
    walk = record { n = size.n; slots = size.slots; sends = 0; letters = 0; seats = seats; edits = edits }

    place_is : (i : ℕ) → i < size.n → place_in walk shelves i ≡ opened_place size.n size.slots (suc i)
    place_is i h = (λ p. record { seat = all.seat_is i h p; shelf = all.shelf_is i h p }) ∙ sym (opened_place_is i h)

    pub opened_session : (packets : List ℕ) → session_in walk shelves packets ≡ opened size.n size.slots
    unfolding session_in opened list_of
    opened_session packets =
        (λ p. record {
          n = size.n;
          sends = 0;
          places = same_list_of size.n (place_in walk shelves) (λ i. opened_place size.n size.slots (suc i)) place_is p;
          letters = [];
        })
