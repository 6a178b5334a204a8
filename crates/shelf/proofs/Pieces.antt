-- Laws of a list in pieces of one size: a list with other numbers in place of a piece, and two lists with the same pieces.
use Prim.Native.Nat.{ℕ, ◌+◌, ◌*◌, ◌-◌, ◌/◌, ◌%◌, ◌≤◌, ◌<◌}
use mathlib.Core.Path.{◌≡◌, sym, ap, ◌∙◌}
use mathlib.Core.List.{List, ◌++◌}
use native.Mathlib.Nat.{mul-suc, mul_comm, mul-le-mul_left, div-add-mod, div-lt_iff_lt-mul, mod-lt}
use native.Mathlib.Decide.{dec_lt}
use native.Mathlib.Omega.{arith}
use lib.ListN.{length, get_or, take, drop, length-append, length-drop, get_or-append}
use lib.Seq.{length-take-le, take_at, drop_at, get_or-take, get_or-drop, get_or-append-add, ext_get_or}

module _ (size : ℕ) where
  -- the piece at i
  abbrev pub piece : List ℕ → ℕ → List ℕ
  piece l i = take size (drop (size * i) l)

  -- the list with s in place of the piece at i
  abbrev pub put : List ℕ → ℕ → List ℕ → List ℕ
  put l i s = take (size * i) l ++ (s ++ drop (size * i + size) l)

  pub length_piece : (l : List ℕ) (i : ℕ) → size * i + size ≤ length l → length (piece l i) ≡ size
  length_piece l i inside = length-take-le size (drop (size * i) l) (rw length-drop (omega arith))

  -- the places of two pieces do not meet
  piece_before : (i j : ℕ) → i < j → size * i + size ≤ size * j
  piece_before i j less = rw mul-suc at (mul-le-mul_left size less)

  module _ (l : List ℕ) (i : ℕ) (s : List ℕ) (inside : size * i + size ≤ length l) (long : length s ≡ size) where
    front : length (take (size * i) l) ≡ size * i
    front = length-take-le (size * i) l (omega arith)

    pub length_put : length (put l i s) ≡ length l
    length_put = simp (length-append, length-drop, front) (omega arith)

    pub put_reads_back : piece (put l i s) i ≡ s
    put_reads_back =
        ap (take size) (drop_at (take (size * i) l) (s ++ drop (size * i + size) l) (size * i) front) ∙ take_at s (drop (size * i + size) l) size long

    byte_before : (k : ℕ) → k < size * i → get_or (put l i s) k 0 ≡ get_or l k 0
    byte_before k h = get_or-append (take (size * i) l) (s ++ drop (size * i + size) l) 0 k (omega (arith, front)) ∙ get_or-take (size * i) l k 0 h

    byte_after : (k : ℕ) → get_or (put l i s) (size * i + size + k) 0 ≡ get_or l (size * i + size + k) 0
    byte_after k =
        let tail = drop (size * i + size) l in
        let e : size * i + size + k ≡ length (take (size * i) l) + (length s + k) = omega (arith, front) in
        ap (λ (p : ℕ). get_or (put l i s) p 0) e ∙ get_or-append-add (take (size * i) l) (s ++ tail) (length s + k) 0 ∙ get_or-append-add s tail k 0
        ∙ get_or-drop (size * i + size) l k 0

    pub put_keeps_others : (j : ℕ) → (j ≡ i → ⊥) → size * j + size ≤ length l → piece (put l i s) j ≡ piece l j
    put_keeps_others j other there =
        ext_get_or 0 (piece (put l i s) j) (piece l j) (length_piece (put l i s) j (rw length_put there) ∙ sym (length_piece l j there)) each
      where
        same : (k : ℕ) → k < size → get_or (put l i s) (size * j + k) 0 ≡ get_or l (size * j + k) 0
        same k h =
            elim (dec_lt j i) [
              | yes before ↦ byte_before (size * j + k) (omega (arith, piece_before j i before))
              | no after ↦ let le = piece_before i j (omega arith) in
                  let e : size * j + k ≡ size * i + size + (size * j + k - (size * i + size)) = omega arith in
                  rw e (byte_after (size * j + k - (size * i + size)))
            ]

        each : (k : ℕ) → k < length (piece (put l i s) j) → get_or (piece (put l i s) j) k 0 ≡ get_or (piece l j) k 0
        each k h =
            let less : k < size = rw (length_piece (put l i s) j (rw length_put there)) at h in
            get_or-take size (drop (size * j) (put l i s)) k 0 less ∙ get_or-drop (size * j) (put l i s) k 0 ∙ same k less
            ∙ sym (get_or-take size (drop (size * j) l) k 0 less ∙ get_or-drop (size * j) l k 0)

  -- lists of whole pieces with the same pieces are the same
  pub same_pieces_same_list : (n : ℕ) (a b : List ℕ) → 0 < size → length a ≡ size * n → length a ≡ length b → ((i : ℕ) → i < n → piece a i ≡ piece b i) → a ≡ b
  same_pieces_same_list n a b some whole long pieces = ext_get_or 0 a b long each
    where
      byte_of : (l : List ℕ) (k : ℕ) → get_or l k 0 ≡ get_or (piece l (k / size)) (k % size) 0
      byte_of l k =
          ap (λ (p : ℕ). get_or l p 0) (sym (div-add-mod k size)) ∙ sym (get_or-drop (size * (k / size)) l (k % size) 0)
          ∙ sym (get_or-take size (drop (size * (k / size)) l) (k % size) 0 (mod-lt k some))

      each : (k : ℕ) → k < length a → get_or a k 0 ≡ get_or b k 0
      each k h =
          let less : k / size < n = (div-lt_iff_lt-mul some).1 (rw mul_comm (omega arith)) in
          byte_of a k ∙ ap (λ (l : List ℕ). get_or l (k % size) 0) (pieces (k / size) less) ∙ sym (byte_of b k)
