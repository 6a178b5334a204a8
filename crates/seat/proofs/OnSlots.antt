-- Laws of the edits on a shelf: one is on it exactly where a slot in use has it.
use Prim.Native.Nat.{ℕ, zero, suc, ◌<◌}
use mathlib.Core.Path.{◌≡◌, refl, sym, ap, ◌∙◌}
use mathlib.Core.Bool.{Bool, true, false, not, ◌&&◌, ◌||◌, true≢false}
use mathlib.Core.List.{List}
use mathlib.Core.Logic.{◌⊎◌, inl, inr}
use native.Mathlib.Omega.{arith}
use lib.Dec.{eqb}
use Rattle.std.proofs.lemmas.Bool.{eq-eqb, eqb-true, not-true, and_parts}
use Rattle.answers.specs.declared.SeatNo.{SeatNo}
use Rattle.vectors.specs.Vectors.{all}
use Rattle.vectors.proofs.Every.{all_fails}
use Rattle.packet.specs.Packet.{sender_of}
use Rattle.shelf.specs.Shelf.{slots, is_free}
use Rattle.seat.specs.Stock.{packet_at, number_of, is_edit, on_slots, on_shelf}

-- ---- tests

-- where a test does not hold of all, it fails of one
fails_here_or_below : (rest here : Bool) → (rest && here) ≡ false → (rest ≡ false) ⊎ (here ≡ false)
fails_here_or_below true here e = inr e
fails_here_or_below false here e = inl refl

pub all_fails_somewhere : (n : ℕ) (test : ℕ → Bool) → all n test ≡ false → (k : ℕ) × (k < n) × (test k ≡ false)
unfolding all
all_fails_somewhere zero test e = absurd (true≢false e)
all_fails_somewhere (suc n) test e =
    elim (fails_here_or_below (all n test) (test n) e) [
      | inl below ↦ let one = all_fails_somewhere n test below in (one.0, omega (arith, one.1), one.2)
      | inr here ↦ (n, omega arith, here)
    ]

neither : (a b : Bool) → (a || not b) ≡ false → (a ≡ false) × (b ≡ true)
neither true b e = absurd (true≢false e)
neither false true e = (refl, refl)
neither false false e = absurd (true≢false e)

-- ---- an edit

module _ (packet : List ℕ) (sender : SeatNo) (number : ℕ) where
  pub edit_is_its_numbers : is_edit packet sender number ≡ true → ((sender_of packet).0 ≡ sender.0) × (number_of packet ≡ number)
  unfolding is_edit
  edit_is_its_numbers e =
      let both = and_parts (eqb (sender_of packet).0 sender.0) (eqb (number_of packet) number) e in
      (eqb-true (sender_of packet).0 sender.0 both.0, eqb-true (number_of packet) number both.1)

  pub its_numbers_are_the_edit : (sender_of packet).0 ≡ sender.0 → number_of packet ≡ number → is_edit packet sender number ≡ true
  unfolding is_edit
  its_numbers_are_the_edit s m = rw (eq-eqb (sender_of packet).0 sender.0 s) (eq-eqb (number_of packet) number m)

-- ---- on slots

module _ (n : ℕ) (shelf : List ℕ) (sender : SeatNo) (number : ℕ) where
  pub on_slots_is_on_one : on_slots n shelf sender number ≡ true → (i : ℕ) × (i < n) × (is_free shelf i ≡ false) × (is_edit (packet_at shelf i) sender number ≡ true)
  unfolding on_slots
  on_slots_is_on_one e =
      let test : ℕ → Bool = λ i. is_free shelf i || not (is_edit (packet_at shelf i) sender number) in
      let one = all_fails_somewhere n test (not-true (all n test) e) in
      let both = neither (is_free shelf one.0) (is_edit (packet_at shelf one.0) sender number) one.2 in
      (one.0, one.1, both.0, both.1)

  pub on_one_is_on_slots : (i : ℕ) → i < n → is_free shelf i ≡ false → is_edit (packet_at shelf i) sender number ≡ true → on_slots n shelf sender number ≡ true
  unfolding on_slots
  on_one_is_on_slots i h used e =
      ap not (all_fails (λ k. is_free shelf k || not (is_edit (packet_at shelf k) sender number)) n i h (rw (used, e)))

  pub on_none_is_not_on_slots : on_slots n shelf sender number ≡ false → (i : ℕ) → i < n → is_free shelf i ≡ false → is_edit (packet_at shelf i) sender number ≡ true → ⊥
  on_none_is_not_on_slots e i h used is = true≢false (sym (on_one_is_on_slots i h used is) ∙ e)

module _ (shelf : List ℕ) (sender : SeatNo) (number : ℕ) where
  pub on_shelf_is_on_a_slot : on_shelf shelf sender number ≡ true
      → (i : ℕ) × (i < slots shelf) × (is_free shelf i ≡ false) × (is_edit (packet_at shelf i) sender number ≡ true)
  on_shelf_is_on_a_slot = on_slots_is_on_one (slots shelf) shelf sender number

  pub on_a_slot_is_on_shelf : (i : ℕ) → i < slots shelf → is_free shelf i ≡ false → is_edit (packet_at shelf i) sender number ≡ true → on_shelf shelf sender number ≡ true
  on_a_slot_is_on_shelf = on_one_is_on_slots (slots shelf) shelf sender number
