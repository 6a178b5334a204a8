-- `to_write` meets its contract.
use Rattle.std.proofs.Common.{ℕ, Bool, true, false, ◌≡◌, refl, sym, ap, ◌∙◌, arith}
use Rattle.std.specs.Prelude.{eqb, is_some}
use Rattle.std.specs.Bool.{then_some}
use Rattle.packet.specs.Writing.{writable}
use Rattle.packet.proofs.Writable.{is_in_range}
use Rattle.packet.proofs.PointNumbers.{passes_where_ok}
use Rattle.packet.proofs.message.Message.to_write.Goals as goal

some_where_true : {T : Type 0} (b : Bool) (x : T) → is_some (then_some b x) ≡ b
some_where_true true x = refl
some_where_true false x = refl

pub returns-then-not-is_in_range-clause-some : goal.returns-then-not-is_in_range-clause-some
unfolding writable
returns-then-not-is_in_range-clause-some c = simp (sym c.is_in_range.ensures ∙ c.if-not-is_in_range.true)

pub is_zero_above-requires : goal.is_zero_above-requires
is_zero_above-requires c = let r = is_in_range c.args.header (cc) in omega arith

pub is_zero_above-requires-2 : goal.is_zero_above-requires-2
is_zero_above-requires-2 c = let r = is_in_range c.args.header (cc) in omega arith

pub invariant_of-message : goal.invariant_of-message
invariant_of-message c = let r = is_in_range c.args.header (cc) in record { seats_high = r.seats_high; sender_low = r.sender_low; sender_high = r.sender_high }

pub returns-clause-some : goal.returns-clause-some
unfolding writable
returns-clause-some c =
    ap is_some c.then_some.ensures
    ∙ some_where_true _ _
    ∙ simp
    (sym c.is_in_range.ensures ∙ c.if-not-is_in_range.false, c.is_ok.ensures.value ∙ passes_where_ok _ ∙ ap (λ (k : ℕ). eqb k 0) c.check.ensures, c.is_zero_above.ensures, c.is_zero_above-2.ensures)
