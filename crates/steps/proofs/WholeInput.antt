-- What the library prints for a whole input is what the definition prints.
use Prim.Native.Nat.{ℕ}
use mathlib.Core.Path.{◌≡◌, refl, sym, ap, ◌∙◌}
use mathlib.Core.List.{List, [], ◌++◌, append_assoc, append-nil}
use lib.ListN.{take}
use native.Mathlib.Omega.{arith}
use mathlib.Core.Bool.{true}
use Rattle.lines.specs.Lines.{lines_of}
use Rattle.steps.specs.Printed.{printed}
use Rattle.steps.specs.Course.{line_in, for_lines, still, is_over}
use Rattle.steps.specs.WholeInput.{Runs, starts, takes, EndsEarly, WholeInput}
use Rattle.steps.specs.declared.list.Stage.{Stage}
use Rattle.steps.specs.declared.list.Stage.TheVariants.{First, Walking, Ended}
use Rattle.steps.specs.declared.list.Course.{Course}

-- whatever comes after it, what was printed and what is still to be printed are right
so_far : (input : List ℕ) (course : Course) (shelves packets output : List ℕ) → Runs input course shelves packets output
    → (rest : List ℕ) → output ++ still course shelves packets rest ≡ printed (input ++ rest)
so_far input course shelves packets output (starts is) rest = is rest
so_far input course shelves packets output (takes {input = before} {course = earlier} {shelves = shelves₀} {packets = packets₀} {output = printed-before} piece taken shelves-left packets-left out run so) rest =
    append_assoc printed-before (take taken.end out) (still taken.course shelves-left packets-left rest)
    ∙ ap (λ (l : List ℕ). printed-before ++ l) (so.prints rest)
    ∙ so_far before earlier shelves₀ packets₀ printed-before run (piece ++ rest)
    ∙ ap (λ (l : List ℕ). printed l) (sym (append_assoc before piece rest))

pub whole_input : WholeInput
whole_input input course shelves packets output end out run finished =
    ap (λ (l : List ℕ). output ++ l) finished.prints
    ∙ so_far input course shelves packets output run []
    ∙ ap (λ (l : List ℕ). printed l) (append-nil input)

nothing_more : (shelves packets : List ℕ) (lines : List (List ℕ)) (stage : Stage) → is_over stage ≡ true → for_lines stage shelves packets lines ≡ []
unfolding for_lines
nothing_more shelves packets lines First so = absurd (let z : ◌≡◌ {A = ℕ} 0 1 = cc in omega arith)
nothing_more shelves packets lines (Walking number walk) so = absurd (let z : ◌≡◌ {A = ℕ} 0 1 = cc in omega arith)
nothing_more shelves packets lines Ended so = refl

pub ends_early : EndsEarly
unfolding still
ends_early input course shelves packets output run over rest =
    sym (append-nil output)
    ∙ ap (λ (l : List ℕ). output ++ l) (sym (nothing_more shelves packets (lines_of (line_in course.line ++ rest)) course.stage over))
    ∙ so_far input course shelves packets output run rest
