-- What a reader may hold the definitions to, in plain terms: a record for each law. QueryTheorems.antt says of what each holds.
use Rattle.std.specs.Prelude.{ℕ, suc, ◌+◌, ◌*◌, ◌≤◌, ◌≡◌, not, ◌↔◌, T, ℤ, pos, ◌+ℤ◌, length, ◌≤ℤ◌, ◌<ℤ◌}
use mathlib.Core.List.{List, [], ◌∷◌, ◌++◌, Memᴰ, Pairwise}
use Rattle.numbers.specs.Integer.{half_up}
use Rattle.numbers.specs.Lists.{non_empty}
use Rattle.query.specs.Place.{Place, Rect, In, NonEmpty, Axis, x_axis, y_axis, coordinate, low_edge, high_edge, corner}
use Rattle.query.specs.Deck.{Stop, Deck}
use Rattle.query.specs.Travel.{travel, near}
use Rattle.query.specs.Cost.{cost, before}
use Rattle.query.specs.Reach.{travel_to, reach}
use Rattle.query.specs.Lines.{lines, gaps}
use Rattle.query.specs.Bound.{bound}
use Rattle.query.specs.CornerBound.{corner_bound}
use Rattle.query.specs.Grid.{Grid, lines_along, grid}
use Rattle.query.specs.Problem.{Problem, problem}
use Rattle.query.specs.Cut.{inside, can_cut, side, off_middle, cut_line, cut_before, cut_after}
use Rattle.query.specs.Order.{Cell, better, cell_before, CellsInOrder}
use Rattle.query.specs.Search.{is_live, run}
use Rattle.query.specs.Estimate.{cells_needed, estimate}
use Rattle.query.specs.Space.{all_numbers, space, space_needed}
use Rattle.query.specs.Partition.{dead, partition}
use Rattle.query.specs.History.{cell_cut, cuts_made}

-- halving towards plus infinity (RULES "Corner bound"): twice the half of z is z or one more
pub record HalfLaw (z : ℤ) : Type 0 where
  pub enough : z ≤ℤ (half_up z +ℤ half_up z)
  pub at_most_one_more : (half_up z +ℤ half_up z) ≤ℤ (z +ℤ pos 1)

-- RULES "Near": near is the travel to some post, and at most the travel to every post
pub record NearLaw (deck : Deck) (stop : Stop) : Type 0 where
  pub some_post : T (non_empty deck.posts) → (post : Place) × Memᴰ post deck.posts
      × (near deck stop ≡ travel deck.axis stop.at post)
  pub every_post : (post : Place) → Memᴰ post deck.posts → near deck stop ≤ travel deck.axis stop.at post

-- what follows from RULES "Travel": the travel to a rectangle is the least travel to its points
pub record TravelToLaw (deck : Deck) (r : Rect) (stop : Stop) : Type 0 where
  pub some_point : NonEmpty r → (p : Place) × In r p × (travel_to deck r stop ≡ travel deck.axis stop.at p)
  pub every_point : (p : Place) → In r p → travel_to deck r stop ≤ travel deck.axis stop.at p

-- the deck with other stops
abbrev pub with_stops : Deck → List Stop → Deck
with_stops deck stops = record deck { stops = stops }

-- RULES "Bound": what the bound of a rectangle is held to. r is any rectangle, whether or not a search makes it
pub record BoundLaw (deck : Deck) (r : Rect) : Type 0 where
  -- at most the cost of each of its points
  pub below : (p : Place) → In r p → bound deck r ≤ cost deck p
  -- at most what is paid before
  pub most : bound deck r ≤ before deck
  -- of a rectangle of one point just its cost
  pub point : r.xlo ≡ r.xhi → r.ylo ≡ r.yhi → bound deck r ≡ cost deck (corner r)
  -- at most the bound of each rectangle in it
  pub part : (q : Rect) → NonEmpty q → In r (corner q) → In r (record { x = q.xhi; y = q.yhi }) → bound deck r ≤ bound deck q
  -- so at most those of both parts of a cut, at any number between its edges
  pub parts : NonEmpty r → (axis : Axis) (v : ℤ) → low_edge axis r ≤ℤ v → v ≤ℤ high_edge axis r
      → (bound deck r ≤ bound deck (cut_before axis v r)) × (bound deck r ≤ bound deck (cut_after axis v r))
  -- of one stop alone the cost of some point, so the least cost of its points; of several stops the sum of what each alone has
  pub one_stop : NonEmpty r → (stop : Stop)
      → (p : Place) × In r p × (bound (with_stops deck (stop ∷ [])) r ≡ cost (with_stops deck (stop ∷ [])) p)
  pub stop_by_stop : (stop : Stop) (stops : List Stop)
      → bound (with_stops deck (stop ∷ stops)) r ≡ bound (with_stops deck (stop ∷ [])) r + bound (with_stops deck stops) r
  -- never below the corner bound
  pub above_corner_bound : NonEmpty r → corner_bound deck r ≤ℤ pos (bound deck r)

-- v is a coordinate at which a line must stand: that of an edge of the area, or of a stop that is within reach of it and in its range
pub data Named (deck : Deck) (axis : Axis) (v : ℤ) : Type 0 where
  edge_low : v ≡ low_edge axis deck.area → Named deck axis v
  edge_high : v ≡ high_edge axis deck.area → Named deck axis v
  of_stop : (stop : Stop) → Memᴰ stop deck.stops → T (reach deck deck.area stop) → v ≡ coordinate axis stop.at →
      low_edge axis deck.area ≤ℤ v → v ≤ℤ high_edge axis deck.area → Named deck axis v

-- RULES "Lines": lines are strictly increasing, and stand at exactly the named coordinates
pub record LinesLaw (deck : Deck) (axis : Axis) : Type 0 where
  pub increasing : Pairwise ◌<ℤ◌ (lines deck axis)
  pub named : (v : ℤ) → Memᴰ v (lines deck axis) ↔ Named deck axis v

-- what follows from RULES "Lines": gaps are the lines strictly inside the area and one more
pub record GapsLaw (deck : Deck) (axis : Axis) : Type 0 where
  pub at_least_one : 1 ≤ gaps deck axis
  pub inside_and_one : NonEmpty deck.area → gaps deck axis ≡ length (inside (grid deck) axis deck.area) + 1

-- q is a crossing of lines in the area that is as good as p: cheaper, or as cheap and not later. The paper's Theorem 2, ties included
pub record AsGood (deck : Deck) (p q : Place) : Type 0 where
  pub in_area : In deck.area q
  pub on_lines : (axis : Axis) → Memᴰ (coordinate axis q) (lines deck axis)
  pub not_worse : T (not (better (record { at = p; cost = cost deck p }) (record { at = q; cost = cost deck q })))

-- line v lies strictly inside r along an axis
pub record Inside (G : Grid) (axis : Axis) (r : Rect) (v : ℤ) : Type 0 where
  pub line : Memᴰ v (lines_along G axis)
  pub above : low_edge axis r <ℤ v
  pub below : v <ℤ high_edge axis r

-- RULES "Cuts": the line at which a cell is cut is inside; of those on its axis none is closer to the middle, and none as close is
-- smaller. Where the other axis has lines inside too, its side is not longer, and on equal sides it is the y axis
pub record CutLineLaw (G : Grid) (r : Rect) : Type 0 where
  pub is_inside : Inside G (cut_line G r).axis r (cut_line G r).at
  pub closest : (v : ℤ) → Inside G (cut_line G r).axis r v →
      off_middle (low_edge (cut_line G r).axis r) (high_edge (cut_line G r).axis r) (cut_line G r).at
      ≤ off_middle (low_edge (cut_line G r).axis r) (high_edge (cut_line G r).axis r) v
  pub smaller : (v : ℤ) → Inside G (cut_line G r).axis r v →
      off_middle (low_edge (cut_line G r).axis r) (high_edge (cut_line G r).axis r) v
      ≡ off_middle (low_edge (cut_line G r).axis r) (high_edge (cut_line G r).axis r) (cut_line G r).at → (cut_line G r).at ≤ℤ v
  pub longer_side_law : (axis : Axis) (v : ℤ) → Inside G axis r v → side axis r ≤ side (cut_line G r).axis r
  pub x_on_equal_sides : (v : ℤ) → Inside G x_axis r v → side x_axis r ≡ side y_axis r → (cut_line G r).axis ≡ x_axis

-- RULES "Cuts": a cell can be cut exactly if some line is strictly inside it on some axis, and is then cut as CutLineLaw says
pub record CutLaw (G : Grid) (r : Rect) : Type 0 where
  pub can_be_cut : T (can_cut G r) ↔ ((axis : Axis) × (v : ℤ) × Inside G axis r v)
  pub cut_line_holds : T (can_cut G r) → CutLineLaw G r

-- RULES "Rounds": round n + 1 makes one cut if some cell is live, and only then; where none is live, the search stays as it is
pub record RoundLaw (P : Problem) (n : ℕ) : Type 0 where
  pub one_cut : T (non_empty (run P n).live) ↔ ((run P (suc n)).cuts ≡ suc (run P n).cuts)
  pub no_cut : (run P n).live ≡ [] → run P (suc n) ≡ run P n

-- RULES "Rounds": the cell c that round n + 1 takes. Its cut follows those of the first n rounds, it is live, and no live cell comes
-- before it by (bound, xlo, ylo)
pub record TakenLaw (P : Problem) (n : ℕ) (c : Cell) : Type 0 where
  pub is_cut : cuts_made P (suc n) ≡ cuts_made P n ++ (cell_cut P.rules.grid c ∷ [])
  pub is_live_holds : T (is_live P.rules.grid (run P n).best c)
  pub is_first : (d : Cell) → Memᴰ d (run P n).live → T (not (cell_before d c))

-- what follows from RULES "Rounds": the cells that a search keeps are those of the partition that are live, so none that it dropped would
-- be live again. The partition covers the area
pub record PartitionLaw (P : Problem) (n : ℕ) : Type 0 where
  pub live_are_live : (c : Cell) → Memᴰ c (run P n).live → T (is_live P.rules.grid (run P n).best c)
  pub dead_are_not : (c : Cell) → Memᴰ c (dead P n) → T (not (is_live P.rules.grid (run P n).best c))
  pub covers : (p : Place) → In P.area p → (c : Cell) × Memᴰ c (partition P n) × In c.rect p

-- RULES "Change 3": what the estimate of a deck and rounds is held to
pub record EstimateLaw (deck : Deck) (rounds : ℕ) : Type 0 where
  -- one less than the product, which is at least 1: each axis has a gap
  pub less_one : (estimate deck rounds).limit + 1 ≡ (estimate deck rounds).across * (estimate deck rounds).deep
  -- no search of the deck makes more cuts, whatever its rounds are, and with as many rounds it is done
  pub cuts : (n : ℕ) → (run (problem deck) n).cuts ≤ (estimate deck rounds).limit
  pub done : (n : ℕ) → (estimate deck rounds).limit ≤ n → (run (problem deck) n).live ≡ []
  -- after none of these rounds are more cells live
  pub live : (n : ℕ) → n ≤ rounds → length (run (problem deck) n).live ≤ (estimate deck rounds).cells

-- RULES "Cell space": after n rounds no more cells are live than the estimate says, so five times as many numbers hold them, and all that
-- were lent are written; the cells are in order
pub record SpaceLaw (deck : Deck) (n : ℕ) : Type 0 where
  pub in_order : CellsInOrder (run (problem deck) n).live
  pub live_cells : length (run (problem deck) n).live ≤ cells_needed deck n
  pub numbers : length (all_numbers (run (problem deck) n).live) ≤ space_needed deck n
  pub whole : (lent : ℕ) → space_needed deck n ≤ lent → length (space deck n lent) ≡ lent
