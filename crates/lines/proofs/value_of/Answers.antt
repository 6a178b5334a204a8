-- `value_of` meets its contract: the value of k digits is below 10 to the k.
use Rattle.std.proofs.Common.{ℕ, ◌+◌, ◌*◌, ◌-◌, get_or, ap, ◌∙◌, rules, arith}
use Rattle.lines.specs.Lines.{value_of}
use Rattle.lines.proofs.Numbers.{number_says, value_has_room, value_more}
use Rattle.lines.proofs.value_of.Goals as goal

pub loop-byte-init : goal.loop-byte-init
unfolding value_of
loop-byte-init c = search rules

pub overflow_mul-value : goal.overflow_mul-value
overflow_mul-value c =
    omega (arith, c.loop-byte.invariant.1, value_has_room _ (number_says _ c.requires) c.loop-byte.byte-index (omega arith))

pub overflow_sub-value : goal.overflow_sub-value
overflow_sub-value c = (number_says _ c.requires).digits_low c.loop-byte.byte-index (omega arith)

pub overflow_add-value : goal.overflow_add-value
overflow_add-value c =
    let n = number_says _ c.requires in
    omega (arith, c.loop-byte.invariant.1, value_has_room _ n c.loop-byte.byte-index (omega arith), n.digits_high c.loop-byte.byte-index (omega arith))

pub loop-byte-preserved : goal.loop-byte-preserved
loop-byte-preserved c = (
  omega arith,
  ap (λ (v : ℕ). v * 10 + (get_or c.args.word.now c.loop-byte.byte-index 0 - 48)) c.loop-byte.invariant.1 ∙ value_more _ c.loop-byte.byte-index,
)
