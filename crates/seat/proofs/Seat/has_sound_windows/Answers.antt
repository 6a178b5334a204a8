-- `has_sound_windows` meets its contract.
use Rattle.std.proofs.Common.{◌≡◌, ℕ, ◌&&◌, Bool, true, get_or, refl, ap, ◌∙◌, zero-add, rules, tests}
use Rattle.std.proofs.lemmas.Iterator.{YieldsList-from_range}
use Rattle.std.proofs.lemmas.Iterator.Consumers.{fold_from_yields_List}
use Rattle.std.proofs.lemmas.List.FromFn.{length-range_with_len, get_or-range_with_len}
use Rattle.std.specs.List.{fold, range_with_len}
use Rattle.vectors.specs.Vectors.{all}
use Rattle.vectors.proofs.Every.{all_same, fold_is_all}
use Rattle.window.specs.Window.{sound_window}
use Rattle.seat.specs.State.{window_at, sound_windows}
use Rattle.seat.proofs.Seat.has_sound_windows.Goals as goal

-- a test of each number below n, gathered
gathered_below : (n : ℕ) (test : ℕ → Bool) → fold (λ (ok : Bool) (k : ℕ). ok && test k) true (range_with_len 0 n) ≡ all n test
gathered_below n test =
    fold_is_all test 0 true (range_with_len 0 n)
    ∙ ap (λ (m : ℕ). all m (λ k. test (get_or (range_with_len 0 n) k 0))) (length-range_with_len 0 n)
    ∙ all_same n _ _ (λ k h. ap test (get_or-range_with_len 0 n k 0 h ∙ zero-add k))

pub returns : goal.returns
unfolding sound_windows
returns c =
    let sound : ℕ → Bool = λ k. sound_window (get_or c.args.self.past k 0) (window_at c.args.self k) in
    fold_from_yields_List _ (λ (ok : Bool) (k : ℕ). ok && sound k) true _ c.fold.ensures.ran (YieldsList-from_range 0 _ _ refl refl)
    (λ a x b q called. search (rules, tests))
    ∙ gathered_below _ sound
