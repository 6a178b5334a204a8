-- `put_number` meets its contract. The measure is the number, which loses its last digit.
use Rattle.std.proofs.Common.{length, ap, arith}
use Rattle.lines.proofs.Decimal.{one_digit, digit_more}
use Rattle.lines.proofs.Writing.{wrote_one_digit, wrote_last_digit, wrote_long}
use Rattle.lines.proofs.answer.+put_number.Goals as goal

pub bounds-out-at : goal.bounds-out-at
bounds-out-at t c = omega (arith, ap length (one_digit c.args.number (omega arith)))

pub returns-then-one_digit : goal.returns-then-one_digit
returns-then-one_digit t c = wrote_one_digit _ _ _ (omega arith)

pub put_number-last-requires : goal.put_number-last-requires
put_number-last-requires t c = (omega arith, omega (arith, digit_more c.args.number (omega arith) (omega arith)))

pub bounds-out-last : goal.bounds-out-last
bounds-out-last t c =
    omega (arith, c.put_number-last.ensures.ends, wrote_long c.put_number-last.ensures, digit_more c.args.number (omega arith) (omega arith))

pub overflow_add-result-2 : goal.overflow_add-result-2
overflow_add-result-2 t c = omega (arith, c.put_number-last.ensures.ends, digit_more c.args.number (omega arith) (omega arith))

pub returns : goal.returns
returns t c = wrote_last_digit _ _ _ _ _ (omega arith) (omega arith) c.put_number-last.ensures
