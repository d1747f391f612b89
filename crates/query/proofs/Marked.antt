-- The worked cases, by computation.
use mathlib.Core.Path.{refl}
use Rattle.query.specs.Figures.{figures}
use Rattle.query.specs.Marked.{Marked}

pub marked : Marked
unfolding figures
marked = record { a_0 = refl; a_1 = refl; a_2 = refl; a_3 = refl; B = refl; C = refl; d_0 = refl; d_1 = refl }
