-- The session that is held: its places and letters, and what another state, shelf or packet makes of it.
use Prim.Native.Nat.{ℕ, suc, ◌+◌, ◌*◌, ◌-◌, ◌≤◌, ◌<◌}
use mathlib.Core.Bool.{Bool, true, false, cond, not, ◌&&◌}
use mathlib.Core.Path.{◌≡◌, refl, subst, sym, ap, ◌∙◌}
use mathlib.Core.List.{List, ◌++◌}
use native.Mathlib.Nat.{mul-suc, mul-le-mul_left}
use native.Mathlib.Decide.{ℕ_discrete}
use native.Mathlib.Omega.{arith}
use borrow.Author.Tests.{ltb-true, ltb-false, not-true, not-false}
use lib.Dec.{eqb, ltb}
use lib.ListN.{length, get_or, set, take, drop, length-set, length-append, length-drop}
use lib.Seq.{get_or-set_same, get_or-set_other, get_or-take, length-take-le}
use Rattle.std.specs.Prelude.{Option, Some, None, MatchOption}
use Rattle.std.specs.List.{position, position_or_len}
use Rattle.std.proofs.lemmas.List.Sums.{prefix_len-le-length, prefix_len_passes, prefix_len_stops}
use Rattle.answers.specs.declared.Edit.{Edit}
use Rattle.shelf.specs.Shelf.{lowest}
use Rattle.shelf.proofs.Lowest.{lowest_is_lowest, only_lowest}
use Rattle.shelf.proofs.Pieces.{put_reads_back, put_keeps_others}
use Rattle.seat.specs.declared.Seat.{Seat}
use Rattle.steps.specs.Session.{Letter, place_of, no_place, nobody, letter_at, no_letter, found, with_place, list_of}
use Rattle.steps.specs.Memory.{with_piece, shelf_size, place_in, no_edit, edit_in, letter_in, session_in, shelves_size, Bounded, is_seated, index_in, with_seat}
use Rattle.steps.specs.declared.walk.Walk.{Walk}
use Rattle.steps.proofs.ListOf.{length_list_of, list_of_at, set_list_of}

-- the first packet that carries this edit, or the number of packets
abbrev pub found_in : Walk → ℕ → ℕ → ℕ
found_in walk sender number =
    lowest walk.letters (λ i. eqb (edit_in walk i).sender.0 sender && eqb (edit_in walk i).number.0 number)

-- what comes back into a buffer that keeps its length is as long as the piece was
pub back_as_long : (size i : ℕ) (buffer bytes : List ℕ) → size * i + size ≤ length buffer
    → length (with_piece size buffer i bytes) ≡ length buffer → length bytes ≡ size
back_as_long size i buffer bytes inside same =
    let front : length (take (size * i) buffer) ≡ size * i = length-take-le (size * i) buffer (omega arith) in
    let all = length-append (take (size * i) buffer) (bytes ++ drop (size * i + size) buffer) in
    let rest = length-append bytes (drop (size * i + size) buffer) in
    omega (arith, length-drop (size * i + size) buffer)

module _ (walk : Walk) (bounded : Bounded walk) where
  pub shelf_inside : (shelves : List ℕ) (i : ℕ) → length shelves ≡ shelves_size → i < walk.n → shelf_size walk * i + shelf_size walk ≤ length shelves
  shelf_inside shelves i long h =
      let fewer : suc i ≤ 16 = omega (arith, bounded.seats_within_most) in
      omega (arith, bounded.slots_within_most, mul-suc (shelf_size walk) i, mul-le-mul_left (shelf_size walk) fewer)

-- ---- the index of a seat

by_seated : (seated : Bool) (at : ℕ) (found : Option ℕ) → found ≡ cond seated (Some at) None → MatchOption found (seated ≡ false) (λ i. (seated ≡ true) × (i ≡ at))
by_seated true at found e = subst (λ (o : Option ℕ). MatchOption o (true ≡ false) (λ i. (true ≡ true) × (i ≡ at))) (sym e) (refl, refl)
by_seated false at found e = subst (λ (o : Option ℕ). MatchOption o (false ≡ false) (λ i. (false ≡ true) × (i ≡ at))) (sym e) refl

pub indexed : (walk : Walk) (k : ℕ) (found : Option ℕ) → found ≡ index_in walk k → MatchOption found (is_seated walk k ≡ false) (λ i. (is_seated walk k ≡ true) × (i ≡ k - 1))
indexed walk k found e = by_seated (is_seated walk k) (k - 1) found e

-- ---- the packet that carries an edit

module _ (walk : Walk) (sender number : ℕ) (short : walk.letters ≤ length walk.edits) where
  abbrev test : Edit → Bool
  test edit = eqb edit.sender.0 sender && eqb edit.number.0 number

  abbrev sent : List Edit
  sent = take walk.letters walk.edits

  abbrev first : ℕ
  first = position_or_len test sent

  sent_long : length sent ≡ walk.letters
  sent_long = length-take-le walk.letters walk.edits short

  same_edit : (k : ℕ) → k < walk.letters → get_or sent k no_edit ≡ edit_in walk k
  same_edit k h = get_or-take walk.letters walk.edits k no_edit h

  first_most : first ≤ walk.letters
  first_most = omega (arith, prefix_len-le-length (λ e. not (test e)) sent, sent_long)

  first_lowest : first ≡ found_in walk sender number
  first_lowest =
      only_lowest walk.letters (λ i. test (edit_in walk i)) first
      (record {
        most = first_most;
        fails_below = λ k h. ap test (sym (same_edit k (omega (arith, first_most)))) ∙ not-true _ (prefix_len_passes (λ e. not (test e)) sent k no_edit h);
        holds = λ h. ap test (sym (same_edit first h)) ∙ not-false _ (prefix_len_stops (λ e. not (test e)) sent no_edit (omega (arith, sent_long)));
      })

  abbrev Found : Option ℕ → Type 0
  Found found = MatchOption found (found_in walk sender number ≡ walk.letters) (λ i. (i < walk.letters) × (i ≡ found_in walk sender number))

  by_test : (there : Bool) → ltb first (length sent) ≡ there → Found (cond there (Some first) None)
  by_test true e = (omega (arith, ltb-true _ _ e, sent_long), first_lowest)
  by_test false e = omega (arith, ltb-false _ _ e, sent_long, first_lowest, first_most)

  pub found_by : (found : Option ℕ) → found ≡ position test sent → Found found
  found_by found e = subst Found (sym e) (by_test (ltb first (length sent)) refl)

module _ (walk : Walk) (shelves packets : List ℕ) where
  pub place_held : (k : ℕ) → 1 ≤ k → k ≤ walk.n → place_of (session_in walk shelves packets) k ≡ place_in walk shelves (k - 1)
  unfolding session_in
  place_held k low high = list_of_at walk.n (k - 1) (place_in walk shelves) no_place (omega arith)

  pub letters_held : length (session_in walk shelves packets).letters ≡ walk.letters
  unfolding session_in
  letters_held = length_list_of walk.letters (letter_in walk packets)

  pub letter_held : (i : ℕ) → i < walk.letters → letter_at (session_in walk shelves packets) i ≡ letter_in walk packets i
  unfolding session_in
  letter_held i h = list_of_at walk.letters i (letter_in walk packets) no_letter h

  carries : ℕ → ℕ → Letter → Bool
  carries sender number letter = eqb letter.sender sender && eqb letter.number number

  same_lowest : (n : ℕ) (test other : ℕ → Bool) → ((i : ℕ) → i < n → test i ≡ other i) → lowest n test ≡ lowest n other
  same_lowest n test other same =
      let l = lowest_is_lowest n test in
      only_lowest n other (lowest n test)
      (record {
        most = l.most;
        fails_below = λ k h. sym (same k (omega (arith, l.most))) ∙ l.fails_below k h;
        holds = λ h. sym (same (lowest n test) h) ∙ l.holds h;
      })

  pub found_held : (sender number : ℕ) → found (session_in walk shelves packets) sender number ≡ found_in walk sender number
  unfolding found carries
  found_held sender number =
      ap (λ (n : ℕ). lowest n (λ i. carries sender number (letter_at (session_in walk shelves packets) i))) letters_held
      ∙ same_lowest walk.letters (λ i. carries sender number (letter_at (session_in walk shelves packets) i)) (λ i. carries sender number (letter_in walk packets i))
      (λ i h. ap (carries sender number) (letter_held i h))

  -- another state, and another shelf, for the seat at i
  module _ (i : ℕ) (seat : Seat) (shelf : List ℕ) (there : i < walk.n) (seats_within_most : walk.n ≤ 16) (seats_long : length walk.seats ≡ 16)
      (inside : shelf_size walk * i + shelf_size walk ≤ length shelves) (long : length shelf ≡ shelf_size walk)
      (insides : (j : ℕ) → j < walk.n → shelf_size walk * j + shelf_size walk ≤ length shelves) where
    other_places : (j : ℕ) → j < walk.n → (j ≡ i → ⊥)
        → place_in (with_seat walk i seat) (with_piece (shelf_size walk) shelves i shelf) j ≡ place_in walk shelves j
    other_places j h other =
        λ p. record {
          seat = get_or-set_other walk.seats i j seat nobody other p;
          shelf = put_keeps_others (shelf_size walk) shelves i shelf inside long j other (insides j h) p;
        }

    this_place : place_in (with_seat walk i seat) (with_piece (shelf_size walk) shelves i shelf) i ≡ record { seat = seat; shelf = shelf }
    this_place =
        λ p. record {
          seat = get_or-set_same walk.seats i seat nobody (omega arith) p;
          shelf = put_reads_back (shelf_size walk) shelves i shelf inside long p;
        }

    pub places_after : list_of walk.n (place_in (with_seat walk i seat) (with_piece (shelf_size walk) shelves i shelf))
        ≡ set (list_of walk.n (place_in walk shelves)) i (record { seat = seat; shelf = shelf })
    places_after =
        set_list_of walk.n i (place_in walk shelves) (place_in (with_seat walk i seat) (with_piece (shelf_size walk) shelves i shelf)) there other_places
        ∙ ap (set (list_of walk.n (place_in walk shelves)) i) this_place

    pub session_after : (k : ℕ) → k - 1 ≡ i
        → session_in (with_seat walk i seat) (with_piece (shelf_size walk) shelves i shelf) packets
        ≡ with_place (session_in walk shelves packets) k (record { seat = seat; shelf = shelf })
    unfolding session_in
    session_after k e =
        (λ p. record { n = walk.n; sends = walk.sends; places = places_after p; letters = list_of walk.letters (letter_in walk packets) })
        ∙ ap (λ (j : ℕ). record {
          n = walk.n;
          sends = walk.sends;
          places = set (list_of walk.n (place_in walk shelves)) j (record { seat = seat; shelf = shelf });
          letters = list_of walk.letters (letter_in walk packets);
        }) (sym e)

module _ (walk : Walk) (bounded : Bounded walk) (i : ℕ) (seat : Seat) (same : seat.n ≡ walk.n) where
  pub still_bounded : Bounded (with_seat walk i seat)
  still_bounded =
      record {
        seats_within_most = bounded.seats_within_most;
        slots_within_most = bounded.slots_within_most;
        letters_most = bounded.letters_most;
        sends_within_most = bounded.sends_within_most;
        same_session = each;
        seats_long = length-set walk.seats i seat ∙ bounded.seats_long;
        edits_long = bounded.edits_long;
      }
    where
      each : (j : ℕ) → j < walk.n → (get_or (set walk.seats i seat) j nobody).n ≡ walk.n
      each j h =
          elim (ℕ_discrete j i) [
            | yes here ↦ rw here (ap (λ (s : Seat). s.n) (get_or-set_same walk.seats i seat nobody (omega (arith, bounded.seats_within_most, bounded.seats_long))) ∙ same)
            | no other ↦ ap (λ (s : Seat). s.n) (get_or-set_other walk.seats i j seat nobody other) ∙ bounded.same_session j h
          ]
