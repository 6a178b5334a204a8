-- The packet's bytes: how long it is, its parts put down one after the other, and writing's answers as plain facts.
use Prim.Native.Nat.{ℕ, ◌+◌, ◌*◌, ◌≤◌, ◌<◌}
use mathlib.Core.Path.{◌≡◌, refl, sym, ap, ◌∙◌}
use mathlib.Core.Bool.{Bool, true, false, not}
use mathlib.Core.List.{List, [], ◌∷◌, ◌++◌}
use native.Mathlib.Nat.{zero-add}
use native.Mathlib.Omega.{arith}
use lib.ListN.{length, take, length-append}
use lib.Seq.{sets, sets-eq}
use lib.Dec.{ltb}
use borrow.Author.Tests.{lt-ltb, le-ltb, ltb-false}
use Rattle.answers.specs.Answers.{first_of}
use Rattle.answers.specs.declared.Edit.{Edit}
use Rattle.answers.specs.declared.Answer.TheVariants.{Done, Refused}
use Rattle.answers.specs.declared.Refusal.TheVariants.{BodyTooLong, NotWellFormed, OutputTooShort}
use Rattle.vectors.specs.Bytes.{fields_of}
use Rattle.vectors.proofs.Numbers.{length_fields, sets_then}
use Rattle.packet.specs.Packet.{packet_length}
use Rattle.packet.specs.Writing.{head_of, packet_of, writable, write_refusals, edit_of, write_answer, at_start, write_output, Written}
use Rattle.packet.specs.declared.Kind.{Kind}
use Rattle.packet.specs.declared.Header.{Header}

module _ (kind : Kind) (header : Header) (past barrier body : List ℕ) where
  module _ (p : header.n ≤ length past) (b : header.n ≤ length barrier) where
    pub length_packet : length (packet_of kind header past barrier body) ≡ packet_length header.n (length body)
    unfolding packet_of
    length_packet =
        let P = fields_of 2 (take header.n past) in
        let B = fields_of 2 (take header.n barrier) in
        let lp : length P ≡ 2 * header.n = length_fields 2 header.n past p in
        let lb : length B ≡ 2 * header.n = length_fields 2 header.n barrier b in
        let pb = length-append P B in
        let all = length-append (P ++ B) body in
        omega arith

    -- what stands after the four parts were put down
    pub four_parts : (out a₁ a₂ a₃ a₄ : List ℕ) (seats : ℕ) → seats ≡ header.n → a₁ ≡ sets out 0 (head_of kind header (length body))
        → a₂ ≡ sets a₁ 3 (fields_of 2 (take seats past)) → a₃ ≡ sets a₂ (3 + 2 * seats) (fields_of 2 (take seats barrier)) → a₄ ≡ sets a₃ (3 + 4 * seats) body
        → a₄ ≡ sets out 0 (packet_of kind header past barrier body)
    unfolding packet_of
    four_parts out a₁ a₂ a₃ a₄ seats e e₁ e₂ e₃ e₄ =
        let H = head_of kind header (length body) in
        let P = fields_of 2 (take header.n past) in
        let B = fields_of 2 (take header.n barrier) in
        let lp : length P ≡ 2 * header.n = length_fields 2 header.n past p in
        let lb : length B ≡ 2 * header.n = length_fields 2 header.n barrier b in
        let pb = length-append P B in
        rw (e₄, e₃, e₂, e₁, e)
        (ap (λ (x : List ℕ). sets (sets x (3 + 2 * header.n) B) (3 + 4 * header.n) body) (sets_then out 0 H P 3 refl)
        ∙ ap (λ (x : List ℕ). sets x (3 + 4 * header.n) body) (sets_then out 0 (H ++ P) B (3 + 2 * header.n) (omega arith))
        ∙ sets_then out 0 (H ++ P ++ B) body (3 + 4 * header.n) (omega arith))

    pub at_start_lem : (out : List ℕ) → packet_length header.n (length body) ≤ length out
        → sets out 0 (packet_of kind header past barrier body) ≡ at_start (packet_of kind header past barrier body) out
    at_start_lem out room =
        let long = length_packet in
        sets-eq (packet_of kind header past barrier body) out 0 (omega arith) ∙ rw zero-add

  -- ---- each answer

  module _ (out : List ℕ) where
    pub answer_11 : 200 < length body → write_answer kind header past barrier body out ≡ Refused BodyTooLong
    unfolding write_answer write_refusals first_of
    answer_11 long = simp (lt-ltb _ _ long)

    pub answer_14 : length body ≤ 200 → writable kind header past barrier ≡ false → write_answer kind header past barrier body out ≡ Refused NotWellFormed
    unfolding write_answer write_refusals first_of
    answer_14 short bad = simp (le-ltb _ _ short, bad)

    pub answer_13 : length body ≤ 200 → writable kind header past barrier ≡ true → length out < packet_length header.n (length body)
        → write_answer kind header past barrier body out ≡ Refused OutputTooShort
    unfolding write_answer write_refusals first_of
    answer_13 short good no_room = simp (le-ltb _ _ short, good, lt-ltb _ _ no_room)

    pub answer_0 : length body ≤ 200 → writable kind header past barrier ≡ true → packet_length header.n (length body) ≤ length out
        → write_answer kind header past barrier body out ≡ Done (edit_of header past body)
    unfolding write_answer write_refusals first_of
    answer_0 short good room = simp (le-ltb _ _ short, good, le-ltb _ _ room)

    -- what a refusal and a done write leave
    pub refused_write : {refusal : _} → write_answer kind header past barrier body out ≡ Refused refusal → Written kind header past barrier body out (Refused refusal) out
    unfolding write_output
    refused_write e = record { answered = sym e; output = rw e }

    pub done_write : (after : List ℕ) → write_answer kind header past barrier body out ≡ Done (edit_of header past body)
        → after ≡ at_start (packet_of kind header past barrier body) out → Written kind header past barrier body out (Done (edit_of header past body)) after
    unfolding write_output
    done_write after e a = record { answered = sym e; output = rw e a }

    -- a body that is too long
    pub long_leaves_output : 200 < length body → write_output kind header past barrier body out ≡ out
    long_leaves_output long = sym (refused_write (answer_11 long)).output

-- ---- what an answer tells

done_tests : (long good full : Bool) (edit told : Edit) → first_of ((BodyTooLong, long) ∷ (NotWellFormed, not good) ∷ (OutputTooShort, full) ∷ []) (Done edit) ≡ Done told
    → (long ≡ false) × (good ≡ true) × (full ≡ false) × (told ≡ edit)
unfolding first_of
done_tests true good full edit told e = absurd cc
done_tests false false full edit told e = absurd cc
done_tests false true true edit told e = absurd cc
done_tests false true false edit told e = (refl, refl, refl, cc)

-- a write that was done
pub record DoneWrite (kind : Kind) (header : Header) (past barrier body out : List ℕ) (edit : Edit) : Type 0 where
  pub short : length body ≤ 200
  pub good : writable kind header past barrier ≡ true
  pub room : packet_length header.n (length body) ≤ length out
  pub edit_is : edit ≡ edit_of header past body
  pub output_is : write_output kind header past barrier body out ≡ at_start (packet_of kind header past barrier body) out

module _ (kind : Kind) (header : Header) (past barrier body out : List ℕ) (edit : Edit) where
  pub done_tells : write_answer kind header past barrier body out ≡ Done edit → DoneWrite kind header past barrier body out edit
  unfolding write_answer write_refusals write_output
  done_tells e =
      let t = done_tests (ltb 200 (length body)) (writable kind header past barrier) (ltb (length out) (packet_length header.n (length body))) (edit_of header past body) edit e in
      record { short = ltb-false _ _ t.0; good = t.1; room = ltb-false _ _ t.2; edit_is = t.3; output_is = rw e }
