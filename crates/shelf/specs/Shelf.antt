-- The shelf: a buffer of whole slots. A slot is all zero (free), or a byte 1, a packet, and zeros to its end. What a
-- packet says is not known here.
use Rattle.std.specs.Prelude.{ℕ, zero, suc, ◌+◌, ◌*◌, ◌-◌, ◌/◌, ◌%◌, Bool, cond, ◌&&◌, List, ◌∷◌, ◌++◌, leb, ltb, eqb, Option, Some, None, length, get_or, take, drop, replicate}
use Rattle.vectors.specs.Vectors.{all}

-- The bytes of a slot.
abbrev pub slot_size : ℕ
slot_size = 268

-- The most slots that a shelf has.
abbrev pub slots_most : ℕ
slots_most = 32

-- The number of a shelf's slots.
abbrev pub slots : List ℕ → ℕ
slots shelf = length shelf / slot_size

-- The shelf is whole slots, and not too many of them.
unfoldable pub whole_slots : List ℕ → Bool
whole_slots shelf = eqb (length shelf % slot_size) 0 && leb (slots shelf) slots_most

-- The bytes of slot i.
unfoldable pub slot_at : List ℕ → ℕ → List ℕ
slot_at shelf i = take slot_size (drop (slot_size * i) shelf)

-- Every byte is 0.
unfoldable pub all_zero : List ℕ → Bool
all_zero s = all (length s) (λ k. eqb (get_or s k 0) 0)

-- Slot i is all zero.
abbrev pub is_free : List ℕ → ℕ → Bool
is_free shelf i = all_zero (slot_at shelf i)

-- The slot that holds a packet: a byte 1, the packet, and zeros to the slot's end.
unfoldable pub slot_of : List ℕ → List ℕ
slot_of packet = 1 ∷ (packet ++ replicate (slot_size - 1 - length packet) 0)

-- The shelf with the bytes of a slot in place of slot i.
unfoldable pub laid : List ℕ → ℕ → List ℕ → List ℕ
laid shelf i slot = take (slot_size * i) shelf ++ (slot ++ drop (slot_size * i + slot_size) shelf)

-- A slot that is all zero.
unfoldable pub free_slot : List ℕ
free_slot = replicate slot_size 0

-- The first index below n of which a test holds, or n.
unfoldable pub lowest : ℕ → (ℕ → Bool) → ℕ
lowest zero test = 0
lowest (suc n) test = cond (test 0) 0 (suc (lowest n (λ k. test (suc k))))

-- The first free slot, or the number of slots where there is none.
abbrev pub lowest_free : List ℕ → ℕ
lowest_free shelf = lowest (slots shelf) (is_free shelf)

-- Slot i where it is one of n, and else none.
abbrev pub slot_or_none : ℕ → ℕ → Option ℕ
slot_or_none n i = cond (ltb i n) (Some i) None

-- A slot has zeros alone from place `at` on.
abbrev pub rest_zero : List ℕ → ℕ → Bool
rest_zero slot at = all_zero (drop at slot)
