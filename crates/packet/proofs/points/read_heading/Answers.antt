-- `read_heading` meets its contract: each way out is a law of the first failing point.
use Rattle.std.proofs.Common.{sym, arith}
use Rattle.packet.proofs.Formed.{head_1, head_2, head_3, head_4, head_5, head_6, head_passes}
use Rattle.packet.proofs.points.read_heading.Goals as goal

pub returns-then-packet-lt-HEAD_LEN-clause-point : goal.returns-then-packet-lt-HEAD_LEN-clause-point
returns-then-packet-lt-HEAD_LEN-clause-point c = sym (head_1 _ (omega arith))

pub returns-then-first-ne1-clause-point : goal.returns-then-first-ne1-clause-point
returns-then-first-ne1-clause-point c = sym (head_2 _ (omega arith) (omega arith))

pub returns-then-second-ne0-clause-point : goal.returns-then-second-ne0-clause-point
returns-then-second-ne0-clause-point c = sym (head_3 _ (omega arith) (omega arith) (omega arith))

pub returns-then-first-second-clause-point : goal.returns-then-first-second-clause-point
returns-then-first-second-clause-point c = sym (head_4 _ (omega arith) (omega arith) (omega arith) (omega arith))

pub returns-then-body-gt-BODY_MOST-clause-point : goal.returns-then-body-gt-BODY_MOST-clause-point
returns-then-body-gt-BODY_MOST-clause-point c = sym (head_5 _ (omega arith) (omega arith) (omega arith) (omega arith) (omega arith))

pub returns-then-packet-seats-clause-point : goal.returns-then-packet-seats-clause-point
returns-then-packet-seats-clause-point c = sym (head_6 _ (omega arith) (omega arith) (omega arith) (omega arith) (omega arith) (omega arith))

pub returns-clause-point : goal.returns-clause-point
returns-clause-point c =
    sym (head_passes _ (record { long = omega arith; version = omega arith; zero_bits = omega arith; sender = omega arith; body = omega arith; exact = omega arith }))
