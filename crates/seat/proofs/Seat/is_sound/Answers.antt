-- `is_sound` meets its contract: past alone is tested for zeros above n.
use Rattle.std.proofs.Common.{ℕ, ◌≡◌, ◌<◌, Bool, ◌&&◌, get_or, sym, ap, ◌∙◌, Fits, w64, rules, arith}
use Rattle.packet.specs.Writing.{in_range}
use Rattle.packet.proofs.Writable.{is_in_range}
use Rattle.seat.specs.State.{sound_windows, sound_state}
use Rattle.seat.proofs.Sound.{out_of_range_is_not_sound, past_alone_is_tested, sound_without_marks}
use Rattle.seat.proofs.Seat.is_sound.Goals as goal

pub returns-then-not-is_in_range : goal.returns-then-not-is_in_range
returns-then-not-is_in_range c = sym (out_of_range_is_not_sound _ (sym (c.is_in_range.ensures ∙ ap in_range c.header.ensures) ∙ c.if-not-is_in_range.true))

pub is_zero_above-requires : goal.is_zero_above-requires
is_zero_above-requires c = let r = is_in_range _ (sym (c.is_in_range.ensures ∙ ap in_range c.header.ensures) ∙ c.if-not-is_in_range.false) in omega arith

pub returns-then-not-is_zero_above-is_within : goal.returns-then-not-is_zero_above-is_within
returns-then-not-is_zero_above-is_within c =
    let seat = c.args.self in
    let ranged = sym (c.is_in_range.ensures ∙ ap in_range c.header.ensures) ∙ c.if-not-is_in_range.false in
    let fit : (k : ℕ) → get_or seat.ahead k 0 < 18446744073709551616 = λ k. let f : Fits w64 (get_or seat.ahead k 0) = search rules in omega arith in
    ap (λ (b : Bool). b && sound_windows seat) (sym c.if-not-is_zero_above-is_within.true)
    ∙ (λ i. (c.is_zero_above.ensures i && c.is_within.ensures i) && sound_windows seat)
    ∙ past_alone_is_tested seat fit ranged

pub returns-then-is_zero : goal.returns-then-is_zero
returns-then-is_zero c =
    let seat = c.args.self in
    let ranged = sym (c.is_in_range.ensures ∙ ap in_range c.header.ensures) ∙ c.if-not-is_in_range.false in
    let fit : (k : ℕ) → get_or seat.ahead k 0 < 18446744073709551616 = λ k. let f : Fits w64 (get_or seat.ahead k 0) = search rules in omega arith in
    let decide : sound_windows seat ≡ sound_state seat =
    ap (λ (b : Bool). b && sound_windows seat) (sym c.if-not-is_zero_above-is_within.false)
    ∙ (λ i. (c.is_zero_above.ensures i && c.is_within.ensures i) && sound_windows seat)
    ∙ past_alone_is_tested seat fit ranged in
    c.is_within-then-is_zero.ensures ∙ sound_without_marks _ (sym c.is_zero.ensures ∙ c.if-is_zero.true) ∙ decide

pub returns : goal.returns
returns c =
    let seat = c.args.self in
    let ranged = sym (c.is_in_range.ensures ∙ ap in_range c.header.ensures) ∙ c.if-not-is_in_range.false in
    let fit : (k : ℕ) → get_or seat.ahead k 0 < 18446744073709551616 = λ k. let f : Fits w64 (get_or seat.ahead k 0) = search rules in omega arith in
    let decide : sound_windows seat ≡ sound_state seat =
    ap (λ (b : Bool). b && sound_windows seat) (sym c.if-not-is_zero_above-is_within.false)
    ∙ (λ i. (c.is_zero_above.ensures i && c.is_within.ensures i) && sound_windows seat)
    ∙ past_alone_is_tested seat fit ranged in
    c.has_sound_windows.ensures ∙ decide
