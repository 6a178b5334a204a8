-- `survey` meets its contract: after i slots it has found what stands on these.
use Rattle.std.proofs.Common.{ℕ, ◌≡◌, ◌<◌, List, length, sym, ap, ◌∙◌, rules, arith, length-take}
use Rattle.std.proofs.lemmas.List.{get_or-take}
use Rattle.shelf.specs.Shelf.{slots, all_zero, is_free}
use Rattle.shelf.proofs.Slots.{slot_in_chunks}
use Rattle.seat.specs.declared.stock.Stock.{Stock}
use Rattle.seat.proofs.SlotBySlot.{more_stay_unsound}
use Rattle.seat.proofs.Looked.{slot_is_free, looked_at_none, looked_at_all}
use Rattle.seat.proofs.stock.survey.Goals.{After-is_free, else-not-is_free-via-then-not-is_free+else-not-look, else-not-is_free-via-else-not-is_free}
use Rattle.seat.proofs.stock.survey.Goals as goal

pub loop-i-init : goal.loop-i-init
loop-i-init c = record { long = search rules; looked = looked_at_none _ _ _ }

-- Slot i is there, and is what was tested. The laws of `take` serve a walk over a part of the slots, as a must-fail edit
-- plants: all but its end is then proved, and it is refused for the slots left out.
there : (c : After-is_free) → c.loop-i.i < slots c.args.shelf.now
there c = omega (arith, c.as_chunks.ensures.front_len, length-take {A = List ℕ})

tested : (c : After-is_free) → c.is_free.result ≡ is_free c.args.shelf.now c.loop-i.i
tested c =
    let chunks = c.as_chunks.ensures in
    c.is_free.ensures
    ∙ ap all_zero (grind (arith, there c, chunks.front, chunks.front_len, slot_in_chunks, get_or-take, length-take {A = List ℕ}))

pub look-requires : goal.look-requires
look-requires c = record {
  there = there (goal.at.look-requires c).After-is_free;
  used = sym (tested (goal.at.look-requires c).After-is_free) ∙ c.if-not-is_free.true;
  long = c.loop-i.invariant.long;
  looked = c.loop-i.invariant.looked;
}

pub returns-then-not-look : goal.returns-then-not-look
returns-then-not-look c = more_stay_unsound _ _ _ _ (omega (arith, there (goal.at.returns-then-not-look c).After-is_free)) c.if-not-look.ensures.looked

pub loop-i-preserved : goal.loop-i-preserved
loop-i-preserved c =
    let at = c.loop-i.invariant in
    elim c.else-not-is_free.branch [
      | else-not-is_free-via-then-not-is_free+else-not-look w ↦ record {
        long = ap (λ (k : Stock). length k.marks) w.stock-is ∙ w.look.ensures.long;
        looked = rw w.stock-is w.if-not-look.ensures.looked;
      }
      | else-not-is_free-via-else-not-is_free w ↦ record {
        long = ap (λ (k : Stock). length k.marks) w.stock-is ∙ at.long;
        looked = rw w.stock-is (slot_is_free _ _ _ _ _ at.looked (sym (tested (goal.at.loop-i-preserved c).After-is_free) ∙ w.if-not-is_free.false));
      }
    ]

pub returns : goal.returns
returns c = looked_at_all _ _ _ _ _ c.loop-i.invariant.looked (omega (arith, c.as_chunks.ensures.front_len, length-take {A = List ℕ}))
