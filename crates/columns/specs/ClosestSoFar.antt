-- Near found post by post (RULES "Change 4"), in columns of scaled places, between which travel is plain (Objects.antt).
use Rattle.std.specs.Prelude.{ℕ, suc, cond, ℤ, pos, drop}
use mathlib.Core.List.{List, [], ◌∷◌, map, zip_with}
use Rattle.std.proofs.Math.Seq.{paste}
use Rattle.std.specs.Int.Signed.{lt_z}
use Rattle.query.specs.Place.{Place}
use Rattle.query.specs.Deck.{plain}
use Rattle.query.specs.Travel.{travel, closest}
use Rattle.query.specs.Range.{travel_limit}
use Rattle.columns.specs.Columns.{y_column, near_column, places}

-- the figure of a stop at p by the posts that were taken: `closest`, by which near is defined. The number for no post, one more than any
-- travel, is of this definition alone: the code starts with the travel to the first post
unfoldable pub closest_so_far : List Place → Place → ℕ
unfolding closest
closest_so_far [] p = suc travel_limit
closest_so_far (post ∷ posts) p = closest plain p (post ∷ posts)

-- columns in which the figures of the first n stops, in the column of near, are those by these posts
unfoldable pub columns_so_far : List ℤ → ℕ → List Place → List ℤ
unfolding closest_so_far places
columns_so_far columns n posts =
    paste columns near_column (map (λ p. pos (closest_so_far posts p)) (places columns (drop y_column columns))) n

-- one more post: what it leaves of the figure of a stop at p, and of those of the first n stops in columns
unfoldable pub improved : Place → Place → ℤ → ℤ
unfolding travel
improved post p figure = cond (lt_z (pos (travel plain p post)) figure) (pos (travel plain p post)) figure

unfoldable pub columns_improved : List ℤ → ℕ → Place → List ℤ
unfolding improved places zip_with
columns_improved columns n post =
    paste columns near_column (zip_with (improved post) (places columns (drop y_column columns)) (drop near_column columns)) n
