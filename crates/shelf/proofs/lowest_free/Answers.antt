-- `lowest_free` meets its contract.
use Rattle.std.proofs.Common.{◌≡◌, true, false, [], ap, ◌∙◌, get_or, rules, arith}
use Rattle.std.proofs.lemmas.Iterator.{IsFirst-from_position, YieldsList-from_slice}
use Rattle.shelf.specs.Shelf.{all_zero, is_free, lowest, slot_or_none}
use Rattle.shelf.proofs.Lowest.{found_is_lowest, as_it_stands}
use Rattle.shelf.proofs.Slots.{slot_in_chunks}
use Rattle.shelf.proofs.lowest_free.Goals as goal

pub returns : goal.returns
returns c =
    let shelf = c.args.shelf.now in
    let chunks = c.as_chunks.ensures in
    let whole : c.iter.result.rest.now ≡ c.as_chunks.result.0.now = c.iter.ensures.rest ∙ search (rules, as_it_stands, arith) in
    let found =
    IsFirst-from_position _ _ _ (λ s. all_zero s ≡ true) (λ s. all_zero s ≡ false) c.position.ensures.ran (YieldsList-from_slice _ whole)
    (λ x q k. search (rules, k))
    (λ x q k. (search rules, search (rules, k))) in
    let is = found_is_lowest _ all_zero (is_free shelf) _
    (λ k other h. ap all_zero (ap (λ (l : _). get_or l k other) chunks.front ∙ slot_in_chunks shelf k other (omega (arith, chunks.front_len)))) [] found
    ∙ ap (λ n. slot_or_none n (lowest n (is_free shelf))) chunks.front_len in
    search (rules, as_it_stands) ∙ is
