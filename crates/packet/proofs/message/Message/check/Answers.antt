-- `check` meets its contract: each way out is a law of points 7 and 8.
use Rattle.std.proofs.Common.{sym, arith}
use Rattle.packet.proofs.Formed.{point_seven_lem, vectors_7, vectors_8, vectors_ordinary, vectors_causal}
use Rattle.packet.proofs.message.Message.check.Goals as goal

pub returns-then-not-is_ordered : goal.returns-then-not-is_ordered
returns-then-not-is_ordered c = sym (vectors_7 _ _ _ _ (cc))

pub past_less_one-requires : goal.past_less_one-requires
past_less_one-requires c =
    let m = c.args.self.now in
    let seven = point_seven_lem m.heading.sender m.past m.barrier (cc) in
    omega arith

pub returns-in-Ordinary : goal.returns-in-Ordinary
returns-in-Ordinary c = rw c.in-Ordinary.is (sym (vectors_ordinary _ _ _ (cc)))

pub returns-then-is_same : goal.returns-then-is_same
returns-then-is_same c = rw c.in-Causal.is (sym (vectors_causal _ _ _ (cc) (cc)))

pub returns-else-is_same : goal.returns-else-is_same
returns-else-is_same c = rw c.in-Causal.is (sym (vectors_8 _ _ _ (cc) (cc)))
