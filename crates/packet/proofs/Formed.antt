-- The eight points as plain facts: each first failing point from what leads to it, and what a well formed packet has.
use Prim.Native.Nat.{ℕ, suc, ◌+◌, ◌≤◌, ◌<◌}
use mathlib.Core.Path.{◌≡◌, refl, sym, ◌∙◌}
use mathlib.Core.Bool.{Bool, true, false}
use mathlib.Core.List.{List, [], ◌∷◌, ◌++◌}
use native.Mathlib.Decide.{ℕ_discrete}
use native.Mathlib.Omega.{arith}
use native.Mathlib.Nat.{add-zero}
use lib.ListN.{length, get_or, length-set}
use Rattle.std.proofs.lemmas.Bool.{le-leb, lt-leb, lt-ltb, eq-eqb, ne_eqb, leb-true, ltb-true, eqb-true, and_parts}
use Rattle.answers.specs.declared.SeatNo.{SeatNo}
use Rattle.vectors.specs.Vectors.{entry, within, same}
use Rattle.vectors.proofs.Vector.{length_vector}
use Rattle.vectors.proofs.Tests.{within_at, within_of, same_is, same_of}
use Rattle.packet.specs.Packet.{version_of, seats_of, sender_of, kind_of, zero_bits_of, body_length_of, past_of, barrier_of, packet_length, head_tests, point_seven, point_eight, less_one, vector_tests, first_failing, head_point, vectors_point, first_bad_point}
use Rattle.packet.specs.declared.Kind.{Kind}
use Rattle.packet.specs.declared.Kind.TheVariants.{Ordinary, Causal}

-- ---- the first failing test

passes : (k : ℕ) (test : Bool) (tests : List Bool) → first_failing (suc k) (test ∷ tests) ≡ 0 → (test ≡ true) × (first_failing (suc (suc k)) tests ≡ 0)
unfolding first_failing
passes k true tests e = (refl, e)
passes k false tests e = absurd (omega arith)

first_in_front : (k : ℕ) (xs ys : List Bool) → (first_failing (suc k) xs ≡ 0 → ⊥) → first_failing (suc k) (xs ++ ys) ≡ first_failing (suc k) xs
unfolding first_failing
first_in_front k [] ys h = absurd (h refl)
first_in_front k (true ∷ xs) ys h = first_in_front (suc k) xs ys h
first_in_front k (false ∷ xs) ys h = refl

first_behind : (k : ℕ) (xs ys : List Bool) → first_failing (suc k) xs ≡ 0 → first_failing (suc k) (xs ++ ys) ≡ first_failing (suc k + length xs) ys
unfolding first_failing
first_behind k [] ys e = rw add-zero
first_behind k (true ∷ xs) ys e =
    let behind : suc (suc k) + length xs ≡ suc k + suc (length xs) = omega arith in
    first_behind (suc k) xs ys e ∙ rw behind
first_behind k (false ∷ xs) ys e = absurd (omega arith)

-- ---- points 1 to 6

-- what a packet has whose head passes
pub record Head (packet : List ℕ) : Type 0 where
  pub long : 3 ≤ length packet
  pub version : version_of packet ≡ 1
  pub zero_bits : zero_bits_of packet ≡ 0
  pub sender : (sender_of packet).0 ≤ seats_of packet
  pub body : body_length_of packet ≤ 200
  pub exact : length packet ≡ packet_length (seats_of packet) (body_length_of packet)

module _ (packet : List ℕ) where
  pub head_1 : length packet < 3 → head_point packet ≡ 1
  unfolding head_tests first_failing
  head_1 a = simp (lt-leb 3 (length packet) a)

  pub head_2 : 3 ≤ length packet → (version_of packet ≡ 1 → ⊥) → head_point packet ≡ 2
  unfolding head_tests first_failing
  head_2 a b = simp (le-leb 3 (length packet) a, ne_eqb _ _ b)

  pub head_3 : 3 ≤ length packet → version_of packet ≡ 1 → (zero_bits_of packet ≡ 0 → ⊥) → head_point packet ≡ 3
  unfolding head_tests first_failing
  head_3 a b c = simp (le-leb 3 (length packet) a, eq-eqb _ _ b, ne_eqb _ _ c)

  pub head_4 : 3 ≤ length packet → version_of packet ≡ 1 → zero_bits_of packet ≡ 0 → seats_of packet < (sender_of packet).0 → head_point packet ≡ 4
  unfolding head_tests first_failing
  head_4 a b c d = simp (le-leb 3 (length packet) a, eq-eqb _ _ b, eq-eqb _ _ c, lt-leb _ _ d)

  pub head_5 : 3 ≤ length packet → version_of packet ≡ 1 → zero_bits_of packet ≡ 0 → (sender_of packet).0 ≤ seats_of packet → 200 < body_length_of packet
      → head_point packet ≡ 5
  unfolding head_tests first_failing
  head_5 a b c d e = simp (le-leb 3 (length packet) a, eq-eqb _ _ b, eq-eqb _ _ c, le-leb _ _ d, lt-leb _ _ e)

  pub head_6 : 3 ≤ length packet → version_of packet ≡ 1 → zero_bits_of packet ≡ 0 → (sender_of packet).0 ≤ seats_of packet → body_length_of packet ≤ 200
      → (length packet ≡ packet_length (seats_of packet) (body_length_of packet) → ⊥) → head_point packet ≡ 6
  unfolding head_tests first_failing
  head_6 a b c d e f = simp (le-leb 3 (length packet) a, eq-eqb _ _ b, eq-eqb _ _ c, le-leb _ _ d, le-leb _ _ e, ne_eqb _ _ f)

  pub head_passes : Head packet → head_point packet ≡ 0
  unfolding head_tests first_failing
  head_passes h =
      simp (le-leb 3 (length packet) h.long, eq-eqb _ _ h.version, eq-eqb _ _ h.zero_bits, le-leb _ _ h.sender, le-leb _ _ h.body, eq-eqb _ _ h.exact)

  pub head_has : head_point packet ≡ 0 → Head packet
  unfolding head_tests
  head_has z =
      let p1 = passes 0 _ _ z in
      let p2 = passes 1 _ _ p1.1 in
      let p3 = passes 2 _ _ p2.1 in
      let p4 = passes 3 _ _ p3.1 in
      let p5 = passes 4 _ _ p4.1 in
      let p6 = passes 5 _ _ p5.1 in
      record {
        long = leb-true _ _ p1.0;
        version = eqb-true _ _ p2.0;
        zero_bits = eqb-true _ _ p3.0;
        sender = leb-true _ _ p4.0;
        body = leb-true _ _ p5.0;
        exact = eqb-true _ _ p6.0;
      }

-- ---- points 7 and 8

-- what the vectors of a well formed packet have
pub record Ordered (kind : Kind) (sender : SeatNo) (past barrier : List ℕ) : Type 0 where
  pub within_past : (k : ℕ) → k < 16 → get_or barrier k 0 ≤ get_or past k 0
  pub smaller : entry barrier sender < entry past sender
  pub causal : kind ≡ Causal → barrier ≡ less_one past sender

module _ (sender : SeatNo) (past barrier : List ℕ) where
  pub point_seven_lem : point_seven sender past barrier ≡ true
      → ((k : ℕ) → k < 16 → get_or barrier k 0 ≤ get_or past k 0) × (entry barrier sender < entry past sender)
  unfolding point_seven
  point_seven_lem e = let both = and_parts (within barrier past) _ e in (within_at barrier past both.0, ltb-true _ _ both.1)

  module _ (p16 : length past ≡ 16) (b16 : length barrier ≡ 16) where
    pub point_eight_lem : (kind : Kind) → point_eight kind sender past barrier ≡ true → kind ≡ Causal → barrier ≡ less_one past sender
    unfolding point_eight
    point_eight_lem Ordinary e c = cc
    point_eight_lem Causal e c = same_is barrier (less_one past sender) b16 (length-set past _ _ ∙ p16) e

    pub vectors_have : (kind : Kind) → vectors_point kind sender past barrier ≡ 0 → Ordered kind sender past barrier
    unfolding vector_tests
    vectors_have kind z =
        let p7 = passes 6 _ _ z in
        let p8 = passes 7 _ _ p7.1 in
        let seven = point_seven_lem p7.0 in
        record { within_past = seven.0; smaller = seven.1; causal = point_eight_lem kind p8.0 }

  eight_of : (kind : Kind) → (kind ≡ Causal → barrier ≡ less_one past sender) → point_eight kind sender past barrier ≡ true
  unfolding point_eight
  eight_of Ordinary h = refl
  eight_of Causal h = same_of barrier (less_one past sender) (h refl)

  seven_of : {kind : Kind} → Ordered kind sender past barrier → point_seven sender past barrier ≡ true
  unfolding point_seven
  seven_of o = simp (within_of barrier past o.within_past, lt-ltb _ _ o.smaller)

  pub vectors_pass : (kind : Kind) → Ordered kind sender past barrier → vectors_point kind sender past barrier ≡ 0
  unfolding vector_tests first_failing
  vectors_pass kind o = simp (seven_of o, eight_of kind o.causal)

module _ (sender : SeatNo) (past barrier : List ℕ) where
  pub vectors_7 : (kind : Kind) → point_seven sender past barrier ≡ false → vectors_point kind sender past barrier ≡ 7
  unfolding vector_tests first_failing
  vectors_7 kind seven = simp seven

  pub vectors_8 : point_seven sender past barrier ≡ true → same barrier (less_one past sender) ≡ false → vectors_point Causal sender past barrier ≡ 8
  unfolding vector_tests first_failing point_eight
  vectors_8 seven eight = simp (seven, eight)

  pub vectors_ordinary : point_seven sender past barrier ≡ true → vectors_point Ordinary sender past barrier ≡ 0
  unfolding vector_tests first_failing point_eight
  vectors_ordinary seven = simp seven

  pub vectors_causal : point_seven sender past barrier ≡ true → same barrier (less_one past sender) ≡ true → vectors_point Causal sender past barrier ≡ 0
  unfolding vector_tests first_failing point_eight
  vectors_causal seven eight = simp (seven, eight)

-- ---- all eight

-- what a well formed packet has
pub record Formed (packet : List ℕ) : Type 0 where
  pub head : Head packet
  pub ordered : Ordered (kind_of packet) (sender_of packet) (past_of packet) (barrier_of packet)

module _ (packet : List ℕ) where
  pub bad_head : (head_point packet ≡ 0 → ⊥) → first_bad_point packet ≡ head_point packet
  unfolding first_bad_point
  bad_head h = first_in_front 0 (head_tests packet) _ h

  pub bad_vectors : head_point packet ≡ 0 → first_bad_point packet ≡ vectors_point (kind_of packet) (sender_of packet) (past_of packet) (barrier_of packet)
  unfolding first_bad_point head_tests
  bad_vectors z = first_behind 0 (head_tests packet) _ z

  first_good : Dec (head_point packet ≡ 0) → first_bad_point packet ≡ 0 → head_point packet ≡ 0
  first_good (yes z) e = z
  first_good (no f) e = absurd (f (sym (bad_head f) ∙ e))

  pub formed : first_bad_point packet ≡ 0 → Formed packet
  formed e =
      let z = first_good (ℕ_discrete (head_point packet) 0) e in
      record {
        head = head_has packet z;
        ordered = vectors_have (sender_of packet) (past_of packet) (barrier_of packet) (length_vector _ _) (length_vector _ _) (kind_of packet) (sym (bad_vectors z) ∙ e);
      }

  pub well : Formed packet → first_bad_point packet ≡ 0
  well f =
      bad_vectors (head_passes packet f.head)
      ∙ vectors_pass (sender_of packet) (past_of packet) (barrier_of packet) (kind_of packet) f.ordered
