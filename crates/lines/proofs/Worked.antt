-- Lines of document 01's listing, as the definitions have them.
use mathlib.Core.Path.{◌≡◌, refl}
use mathlib.Core.List.{[], ◌∷◌}
use Rattle.lines.specs.Lines.{lines_of}
use Rattle.lines.specs.AnswerLine.{decimal_from, answer_line}

-- `0 21 0 0`
bad_opening : answer_line 0 21 0 0 ≡ 48 ∷ 32 ∷ 50 ∷ 49 ∷ 32 ∷ 48 ∷ 32 ∷ 48 ∷ 10 ∷ []
unfolding answer_line decimal_from
bad_opening = refl

-- `10 0 1 1`
tenth_step : answer_line 10 0 1 1 ≡ 49 ∷ 48 ∷ 32 ∷ 48 ∷ 32 ∷ 49 ∷ 32 ∷ 49 ∷ 10 ∷ []
unfolding answer_line decimal_from
tenth_step = refl

-- `3 2` and `r 2`, the last without its line feed, and an empty line between
three_lines : lines_of (51 ∷ 32 ∷ 50 ∷ 10 ∷ 10 ∷ 114 ∷ 32 ∷ 50 ∷ []) ≡ (51 ∷ 32 ∷ 50 ∷ []) ∷ [] ∷ (114 ∷ 32 ∷ 50 ∷ []) ∷ []
unfolding lines_of
three_lines = refl

-- a line feed at the end starts no further line
fed_line : lines_of (114 ∷ 10 ∷ []) ≡ (114 ∷ []) ∷ []
unfolding lines_of
fed_line = refl
