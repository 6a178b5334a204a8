-- Laws of the slot that is released: it is ready and comes first, and there is one exactly where some slot is ready.
use Prim.Native.Nat.{ℕ, zero, suc, ◌≤◌, ◌<◌}
use mathlib.Core.Path.{◌≡◌, refl, sym, ◌∙◌}
use mathlib.Core.Bool.{Bool, true, false, not, ◌&&◌, ◌||◌, true≢false}
use mathlib.Core.List.{List}
use mathlib.Core.Logic.{◌⊎◌, inl, inr}
use native.Mathlib.Decide.{dec_lt, dec_le}
use native.Mathlib.Nat.{le_of_suc-le-suc, eq-or-lt_of_le}
use native.Mathlib.Omega.{arith}
use lib.Dec.{leb, ltb, eqb}
use Rattle.std.proofs.lemmas.Bool.{eq-eqb, lt-ltb, le-ltb, le-leb, ltb-true, leb-true, eqb-true, and_parts, cases_Bool}
use Rattle.vectors.specs.Vectors.{all}
use Rattle.vectors.proofs.Every.{all_at, all_of}
use Rattle.packet.specs.Packet.{sender_of}
use Rattle.shelf.specs.Shelf.{slots, is_free}
use Rattle.shelf.proofs.Lowest.{lowest_is_lowest, none_lowest, lowest_none}
use Rattle.seat.specs.Stock.{packet_at, number_of}
use Rattle.seat.specs.Releasing.{ready_at, no_later, comes_first, chosen}
use Rattle.seat.specs.declared.Seat.{Seat}
use Rattle.seat.proofs.SlotBySlot.{false_unless}

-- ---- the order of release, in plain facts

-- by lowest sender, then lowest number
abbrev pub NoLater : List ℕ → List ℕ → Type 0
NoLater one other = ((sender_of one).0 < (sender_of other).0) ⊎ (((sender_of one).0 ≡ (sender_of other).0) × (number_of one ≤ number_of other))

one_of_both : (a b : Bool) → (a || b) ≡ true → (a ≡ true) ⊎ (b ≡ true)
one_of_both true b e = inl refl
one_of_both false b e = inr e

module _ (one other : List ℕ) where
  pub no_later_says : no_later one other ≡ true → NoLater one other
  unfolding no_later
  no_later_says e =
      elim (one_of_both (ltb (sender_of one).0 (sender_of other).0) (eqb (sender_of one).0 (sender_of other).0 && leb (number_of one) (number_of other)) e) [
        | inl less ↦ inl (ltb-true (sender_of one).0 (sender_of other).0 less)
        | inr same ↦ let both = and_parts (eqb (sender_of one).0 (sender_of other).0) (leb (number_of one) (number_of other)) same in
            inr (eqb-true (sender_of one).0 (sender_of other).0 both.0, leb-true (number_of one) (number_of other) both.1)
      ]

  pub no_later_of : NoLater one other → no_later one other ≡ true
  unfolding no_later
  no_later_of (inl less) = rw (lt-ltb (sender_of one).0 (sender_of other).0 less)
  no_later_of (inr (same, low)) =
      rw (le-ltb (sender_of one).0 (sender_of other).0 (omega arith), eq-eqb (sender_of one).0 (sender_of other).0 same) (le-leb (number_of one) (number_of other) low)

  pub one_is_no_later : NoLater one other ⊎ NoLater other one
  one_is_no_later =
      elim (dec_lt (sender_of one).0 (sender_of other).0) [
        | yes less ↦ inl (inl less)
        | no more ↦ elim (dec_lt (sender_of other).0 (sender_of one).0) [
          | yes greater ↦ inr (inl greater)
          | no fewer ↦ elim (dec_le (number_of one) (number_of other)) [
            | yes low ↦ inl (inr (omega arith, low))
            | no high ↦ inr (inr (omega arith, omega arith))
          ]
        ]
      ]

pub in_turn : (one other third : List ℕ) → NoLater one other → NoLater other third → NoLater one third
in_turn one other third (inl less) (inl also) = inl (omega arith)
in_turn one other third (inl less) (inr (same, low)) = inl (omega arith)
in_turn one other third (inr (same, low)) (inl less) = inl (omega arith)
in_turn one other third (inr (same, low)) (inr (also, lower)) = inr (omega arith, omega arith)

-- ---- one of the first n slots comes first

module _ (seat : Seat) (shelf : List ℕ) where
  -- slot i is ready, and no later than any ready slot of the first n
  abbrev First : ℕ → ℕ → Type 0
  First n i =
      (i < n) × (ready_at seat shelf i ≡ true) × ((j : ℕ) → j < n → ready_at seat shelf j ≡ true → NoLater (packet_at shelf i) (packet_at shelf j))

  below_or_last : (n j : ℕ) → j < suc n → (j ≡ n) ⊎ (j < n)
  below_or_last n j h = eq-or-lt_of_le (le_of_suc-le-suc h)

  first_stays : (n i : ℕ) → First n i → (ready_at seat shelf n ≡ true → NoLater (packet_at shelf i) (packet_at shelf n)) → First (suc n) i
  first_stays n i so last =
      (omega (arith, so.0), so.1, λ j h is. elim (below_or_last n j h) [ inl same ↦ rw same (last (rw same at is)) | inr below ↦ so.2 j below is ])

  last_is_first : (n i : ℕ) → First n i → ready_at seat shelf n ≡ true → NoLater (packet_at shelf n) (packet_at shelf i) → First (suc n) n
  last_is_first n i so is sooner = (
    omega arith,
    is,
    λ j h also.
        elim (below_or_last n j h) [
          | inl same ↦ rw same (inr (refl, omega arith))
          | inr below ↦ in_turn (packet_at shelf n) (packet_at shelf i) (packet_at shelf j) sooner (so.2 j below also)
        ],
  )

  alone_is_first : (n : ℕ) → ((j : ℕ) → j < n → ready_at seat shelf j ≡ false) → ready_at seat shelf n ≡ true → First (suc n) n
  alone_is_first n none is = (
    omega arith,
    is,
    λ j h also.
        elim (below_or_last n j h) [
          | inl same ↦ rw same (inr (refl, omega arith))
          | inr below ↦ absurd (true≢false (sym also ∙ none j below))
        ],
  )

  none_more : (n : ℕ) → ((j : ℕ) → j < n → ready_at seat shelf j ≡ false) → ready_at seat shelf n ≡ false → (j : ℕ) → j < suc n → ready_at seat shelf j ≡ false
  none_more n none last j h = elim (below_or_last n j h) [ inl same ↦ rw same last | inr below ↦ none j below ]

  first_or_none : (n : ℕ) → ((i : ℕ) × First n i) ⊎ ((j : ℕ) → j < n → ready_at seat shelf j ≡ false)
  first_or_none zero = inr (λ j h. absurd (omega arith))
  first_or_none (suc n) =
      elim (first_or_none n) [
        | inl one ↦ elim (cases_Bool (ready_at seat shelf n)) [
          | inl is ↦ elim (one_is_no_later (packet_at shelf one.0) (packet_at shelf n)) [
            | inl stays ↦ inl (one.0, first_stays n one.0 one.1 (λ here. stays))
            | inr sooner ↦ inl (n, last_is_first n one.0 one.1 is sooner)
          ]
          | inr waits ↦ inl (one.0, first_stays n one.0 one.1 (λ is. absurd (true≢false (sym is ∙ waits))))
        ]
        | inr none ↦ elim (cases_Bool (ready_at seat shelf n)) [
          | inl is ↦ inl (n, alone_is_first n none is)
          | inr waits ↦ inr (none_more n none waits)
        ]
      ]

  -- ---- the test

  ready_and_no_later : (i j : ℕ) (is : Bool) → ready_at seat shelf j ≡ is → (ready_at seat shelf j ≡ true → NoLater (packet_at shelf i) (packet_at shelf j))
      → (not is || no_later (packet_at shelf i) (packet_at shelf j)) ≡ true
  ready_and_no_later i j true e each = no_later_of (packet_at shelf i) (packet_at shelf j) (each e)
  ready_and_no_later i j false e each = refl

  first_comes_first : (n i : ℕ) → First n i → comes_first n seat shelf i ≡ true
  unfolding comes_first
  first_comes_first n i so = rw so.1 (all_of _ n (λ j h. ready_and_no_later i j (ready_at seat shelf j) refl (so.2 j h)))

  comes_first_parts : (n i : ℕ) → comes_first n seat shelf i ≡ true
      → (ready_at seat shelf i ≡ true) × ((j : ℕ) → j < n → ready_at seat shelf j ≡ true → no_later (packet_at shelf i) (packet_at shelf j) ≡ true)
  unfolding comes_first
  comes_first_parts n i e =
      let test : ℕ → Bool = λ j. not (ready_at seat shelf j) || no_later (packet_at shelf i) (packet_at shelf j) in
      let both = and_parts (ready_at seat shelf i) (all n test) e in
      (both.0, λ j h is. rw is at (all_at test n j both.1 h))

  -- ---- the slot that is released

  pub chosen_is_at_most_slots : chosen seat shelf ≤ slots shelf
  unfolding chosen
  chosen_is_at_most_slots = (lowest_is_lowest (slots shelf) (comes_first (slots shelf) seat shelf)).most

  module _ (there : chosen seat shelf < slots shelf) where
    parts : (ready_at seat shelf (chosen seat shelf) ≡ true)
        × ((j : ℕ) → j < slots shelf → ready_at seat shelf j ≡ true → no_later (packet_at shelf (chosen seat shelf)) (packet_at shelf j) ≡ true)
    unfolding chosen
    parts = comes_first_parts (slots shelf) (chosen seat shelf) ((lowest_is_lowest (slots shelf) (comes_first (slots shelf) seat shelf)).holds there)

    pub chosen_is_ready : ready_at seat shelf (chosen seat shelf) ≡ true
    chosen_is_ready = parts.0

    pub chosen_is_no_later : (j : ℕ) → j < slots shelf → ready_at seat shelf j ≡ true → no_later (packet_at shelf (chosen seat shelf)) (packet_at shelf j) ≡ true
    chosen_is_no_later = parts.1

  pub none_chosen_is_none_ready : chosen seat shelf ≡ slots shelf → (j : ℕ) → j < slots shelf → ready_at seat shelf j ≡ false
  unfolding chosen
  none_chosen_is_none_ready e =
      elim (first_or_none (slots shelf)) [
        | inl one ↦ absurd (true≢false (sym (first_comes_first (slots shelf) one.0 one.1) ∙ lowest_none (slots shelf) (comes_first (slots shelf) seat shelf) e one.0 one.1.0))
        | inr none ↦ none
      ]

  pub none_ready_is_none_chosen : ((j : ℕ) → j < slots shelf → ready_at seat shelf j ≡ false) → chosen seat shelf ≡ slots shelf
  unfolding chosen comes_first
  none_ready_is_none_chosen none = none_lowest (slots shelf) (comes_first (slots shelf) seat shelf) (λ j h. rw (none j h))

  -- a ready slot is one in use
  pub ready_slot_is_used : (i : ℕ) → ready_at seat shelf i ≡ true → is_free shelf i ≡ false
  unfolding ready_at
  ready_slot_is_used i is = false_unless (is_free shelf i) (λ free. true≢false (sym is ∙ rw free))
