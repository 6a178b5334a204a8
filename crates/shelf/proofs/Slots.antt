-- Laws of slots: a shelf with other bytes in place of a slot, read slot by slot.
use Prim.Native.Nat.{ℕ, zero, suc, ◌+◌, ◌-◌, ◌*◌, ◌/◌, ◌%◌, ◌≤◌, ◌<◌}
use mathlib.Core.Path.{◌≡◌, ap, ◌∙◌}
use mathlib.Core.Bool.{true}
use mathlib.Core.List.{List, ◌++◌}
use native.Mathlib.Omega.{arith}
use lib.Dec.{eqb, leb}
use lib.ListN.{length, get_or, take, drop}
use lib.Seq.{drop-drop}
use borrow.Rule.Slice.PartMut.{put_mid, Post-is}
use borrow.Author.Tests.{eqb-true, leb-true}
use Rattle.std.proofs.lemmas.Bool.{and_parts}
use Rattle.std.specs.Simd.{first_chunks}
use Rattle.shelf.specs.Shelf.{slot_size, slots_most, slots, whole_slots, slot_at, laid}
use Rattle.shelf.proofs.Pieces.{length_piece, length_put, put_reads_back, put_keeps_others, same_pieces_same_list}

-- what the test of whole slots says
pub whole_is_slots : (shelf : List ℕ) → whole_slots shelf ≡ true → (length shelf ≡ slot_size * slots shelf) × (slots shelf ≤ slots_most)
unfolding whole_slots
whole_is_slots shelf whole =
    let both = and_parts (eqb (length shelf % slot_size) 0) (leb (slots shelf) slots_most) whole in
    let even = eqb-true (length shelf % slot_size) 0 both.0 in
    (omega arith, leb-true (slots shelf) slots_most both.1)

-- a slot that is there ends inside the shelf
pub slot_inside : (shelf : List ℕ) (i : ℕ) → i < slots shelf → slot_size * i + slot_size ≤ length shelf
slot_inside shelf i there = omega arith

pub length_slot_at : (shelf : List ℕ) (i : ℕ) → i < slots shelf → length (slot_at shelf i) ≡ slot_size
unfolding slot_at
length_slot_at shelf i there = length_piece slot_size shelf i (slot_inside shelf i there)

-- slot i of the slots that a shelf is cut into
chunk_at : (n k i : ℕ) (xs other : List ℕ) → i < k → get_or (first_chunks n k xs) i other ≡ take n (drop (n * i) xs)
chunk_at n zero i xs other h = absurd (omega arith)
chunk_at n (suc k) zero xs other h = let none : 0 ≡ n * 0 = omega arith in ap (λ (m : ℕ). take n (drop m xs)) none
chunk_at n (suc k) (suc i) xs other h =
    let place : n + n * i ≡ n * suc i = omega arith in
    chunk_at n k i (drop n xs) other (omega arith) ∙ ap (take n) (drop-drop (n * i) n xs ∙ ap (λ (m : ℕ). drop m xs) place)

pub slot_in_chunks : (shelf : List ℕ) (i : ℕ) (other : List ℕ) → i < slots shelf → get_or (first_chunks slot_size (slots shelf) shelf) i other ≡ slot_at shelf i
unfolding slot_at
slot_in_chunks shelf i other there = chunk_at slot_size (slots shelf) i shelf other there

-- slot i as it is lent, and the shelf when other bytes come back in its place
pub slot_lent : (shelf : List ℕ) (i : ℕ) → take (slot_size * i + slot_size - slot_size * i) (drop (slot_size * i) shelf) ≡ slot_at shelf i
unfolding slot_at
slot_lent shelf i = let long : slot_size * i + slot_size - slot_size * i ≡ slot_size = omega arith in rw long

pub slot_back : (shelf : List ℕ) (i : ℕ) (slot : List ℕ) → put_mid (slot_size * i) (slot_size * i + slot_size - slot_size * i) shelf slot ≡ laid shelf i slot
unfolding laid
slot_back shelf i slot =
    ap (λ (rest : List ℕ). take (slot_size * i) shelf ++ (slot ++ rest)) (Post-is (slot_size * i) (slot_size * i + slot_size) shelf (omega arith))

module _ (shelf : List ℕ) (i : ℕ) (slot : List ℕ) (there : i < slots shelf) (long : length slot ≡ slot_size) where
  pub laying_keeps_length : length (laid shelf i slot) ≡ length shelf
  unfolding laid
  laying_keeps_length = length_put slot_size shelf i slot (slot_inside shelf i there) long

  pub laying_keeps_slots : slots (laid shelf i slot) ≡ slots shelf
  laying_keeps_slots = ap (λ (n : ℕ). n / slot_size) laying_keeps_length

  pub laying_keeps_whole : whole_slots (laid shelf i slot) ≡ whole_slots shelf
  unfolding whole_slots
  laying_keeps_whole = rw laying_keeps_length

  pub laid_reads_back : slot_at (laid shelf i slot) i ≡ slot
  unfolding slot_at laid
  laid_reads_back = put_reads_back slot_size shelf i slot (slot_inside shelf i there) long

  pub laying_keeps_others : (j : ℕ) → (j ≡ i → ⊥) → j < slots shelf → slot_at (laid shelf i slot) j ≡ slot_at shelf j
  unfolding slot_at laid
  laying_keeps_others j other also =
      put_keeps_others slot_size shelf i slot (slot_inside shelf i there) long j other (slot_inside shelf j also)

-- shelves of whole slots with the same slots are the same
pub same_slots_same_shelf : (a b : List ℕ) → whole_slots a ≡ true → length a ≡ length b → ((i : ℕ) → i < slots a → slot_at a i ≡ slot_at b i) → a ≡ b
unfolding slot_at
same_slots_same_shelf a b whole long each = same_pieces_same_list slot_size (slots a) a b (omega arith) (whole_is_slots a whole).0 long each
