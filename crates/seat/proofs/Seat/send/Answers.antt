-- `Seat::send` meets its contract: each way out is a law of sending's answers.
use Rattle.std.proofs.Common.{◌≡◌, ◌-◌, ◌<◌, get_or, sym, ap, ◌∙◌, Fits, w16, w64, rules, arith}
use Rattle.answers.specs.declared.Answer.TheVariants.{Done}
use Rattle.packet.specs.Reading.{headed}
use Rattle.packet.specs.declared.Kind.{Kind}
use Rattle.seat.specs.State.{own_count, header_of, Held}
use Rattle.seat.specs.Sending.{barrier_sent, sent_seat}
use Rattle.seat.proofs.Sound.{sound_says}
use Rattle.seat.proofs.SentPacket.{sent_edit_is, sent_packet_is_put}
use Rattle.seat.proofs.SendAnswers.{not_sound_answers_10, long_body_answers_11, full_count_answers_12, short_output_answers_13, sending_answers_0, refused_send, done_send}
use Rattle.seat.proofs.Seat.send.Goals as goal

pub returns-then-not-is_sound : goal.returns-then-not-is_sound
returns-then-not-is_sound c =
    rw c.refuse.ensures
    (refused_send _ _ _ _ _ (not_sound_answers_10 _ _ _ (sym c.is_sound.ensures ∙ c.if-not-is_sound.true)))

pub returns-then-body-gt-BODY_MOST : goal.returns-then-body-gt-BODY_MOST
returns-then-body-gt-BODY_MOST c =
    rw c.refuse-then-body-gt-BODY_MOST.ensures
    (refused_send _ _ _ _ _ (long_body_answers_11 _ _ _ (sym c.is_sound.ensures ∙ c.if-not-is_sound.false) c.if-body-gt-BODY_MOST.true))

pub own_count-count-requires : goal.own_count-count-requires
own_count-count-requires c = let s = sound_says _ (sym c.is_sound.ensures ∙ c.if-not-is_sound.false) in (s.own_low, omega arith)

pub returns-then-count : goal.returns-then-count
returns-then-count c =
    rw c.refuse-then-count.ensures
    (refused_send _ _ _ _ _
    (full_count_answers_12 _ _ _ (sym c.is_sound.ensures ∙ c.if-not-is_sound.false) c.if-body-gt-BODY_MOST.false (sym c.own_count-count.ensures ∙ c.if-count.true)))

pub returns-then-out-length : goal.returns-then-out-length
returns-then-out-length c =
    rw c.refuse-then-out-length.ensures
    (refused_send _ _ _ _ _
    (short_output_answers_13 _ _ _ (sym c.is_sound.ensures ∙ c.if-not-is_sound.false) c.if-body-gt-BODY_MOST.false (λ e. c.if-count.false (c.own_count-count.ensures ∙ e))
    c.if-out-length.true))

pub past_sent-past-requires : goal.past_sent-past-requires
past_sent-past-requires c =
    let s = sound_says _ (sym c.is_sound.ensures ∙ c.if-not-is_sound.false) in
    let fits : Fits w16 (get_or c.args.self.past (c.args.self.own.0 - 1) 0) = search rules in
    let not_full : own_count c.args.self ≡ 65535 → ⊥ = λ e. c.if-count.false (c.own_count-count.ensures ∙ e) in
    (s.own_low, omega arith, omega (arith, not_full, fits))

pub returns : goal.returns
returns c =
    let a = c.args in
    let ok = sym c.is_sound.ensures ∙ c.if-not-is_sound.false in
    let held : Held a.self = record {
      past_long = search rules;
      barrier_long = search rules;
      run_long = search rules;
      ahead_long = search rules;
      past_fits = λ k. let f : Fits w16 (get_or a.self.past k 0) = search rules in omega arith;
      barrier_fits = λ k. let f : Fits w16 (get_or a.self.barrier k 0) = search rules in omega arith;
      run_fits = λ k. let f : Fits w16 (get_or a.self.run k 0) = search rules in omega arith;
      ahead_fits = λ k. let f : Fits w64 (get_or a.self.ahead k 0) = search rules in omega arith;
    } in
    let not_full : own_count a.self ≡ 65535 → ⊥ = λ e. c.if-count.false (c.own_count-count.ensures ∙ e) in
    let below : own_count a.self < 65535 = omega (arith, not_full, held.past_fits (a.self.own.0 - 1)) in
    done_send a.self a.body.now a.out.now a.wish _ _ _
    (sending_answers_0 _ _ _ ok c.if-body-gt-BODY_MOST.false not_full c.if-out-length.false
    ∙ ap Done (sent_edit_is a.self ok held a.body.now _ c.own_count-count.ensures))
    (c.after_sending.ensures ∙ ap (sent_seat a.self) c.from-kind.ensures)
    (sent_packet_is_put a.self ok held below _ _ _ _ a.body.now a.out.now _
    (c.message_sent.ensures.heading ∙ ap (λ (k : Kind). headed k (header_of a.self)) c.from-kind.ensures)
    c.message_sent.ensures.past (c.message_sent.ensures.barrier ∙ ap (barrier_sent a.self) c.from-kind.ensures) c.put.ensures c.if-out-length.false)
