-- The texts that the functions of this crate write: parts of a file (RULES "Change 1").
use Rattle.std.specs.Prelude.{ℕ, cond, ℤ}
use mathlib.Core.List.{List, [], ◌∷◌, ◌++◌, map, flat_map}
use Rattle.query.specs.Place.{Place, Rect}
use Rattle.query.specs.Deck.{AxisCosts, Stop}
use Rattle.text.specs.Ascii.{comma}
use Rattle.text.specs.Decimal.{spell_int}
use Rattle.job.specs.Spelling.{area_line, axis_line, post_line, stop_line, spell_line}
use Rattle.job.specs.File.{writes_axis}

-- a number and the byte behind it; two numbers, each with its byte
abbrev pub number_text : ℤ → ℕ → List ℕ
number_text z end = spell_int z ++ (end ∷ [])

abbrev pub place_text : ℤ → ℤ → ℕ → List ℕ
place_text x y end = number_text x comma ++ number_text y end

-- the line of the area
abbrev pub area_text : Rect → List ℕ
area_text r = spell_line (area_line r)

-- the line of axis costs: nothing where the file has none
abbrev pub axis_text : AxisCosts → List ℕ
axis_text c = flat_map spell_line (cond (writes_axis c) (axis_line c ∷ []) [])

-- the lines of a post and of a stop, and of several
abbrev pub post_text : Place → List ℕ
post_text p = spell_line (post_line p)

abbrev pub stop_text : Stop → List ℕ
stop_text s = spell_line (stop_line s)

abbrev pub post_texts : List Place → List ℕ
post_texts ps = flat_map spell_line (map post_line ps)

abbrev pub stop_texts : List Stop → List ℕ
stop_texts ss = flat_map spell_line (map stop_line ss)
