-- Rows beside the worked cases: figures of small decks, each chosen so that a rule told wrongly (RULES "Wrong readings") gives another
-- figure. `proofs/Rows.antt` proves that the definitions give them.
use Rattle.std.specs.Prelude.{ℕ, ◌<◌, ◌≡◌, [], ◌∷◌, ◌++◌, map, pos, negsuc, length, replicate, ◌<ℤ◌}
use Rattle.numbers.specs.Integer.{half_up}
use Rattle.query.specs.Place.{Place, Rect, x_axis, y_axis}
use Rattle.query.specs.Deck.{Deck, plain}
use Rattle.query.specs.Lines.{gaps}
use Rattle.query.specs.Bound.{bound}
use Rattle.query.specs.CornerBound.{corner_bound}
use Rattle.query.specs.Problem.{problem}
use Rattle.query.specs.Search.{run}
use Rattle.query.specs.Figures.{figures, done, stopped}
use Rattle.query.specs.Estimate.{cut_limit, Estimate, estimate}
use Rattle.query.specs.Space.{space}
use Rattle.query.specs.Exhaustive.{exhaustive}
use Rattle.query.specs.Promise3.{Beaten}
use Rattle.query.specs.Marked.{at, rect, stop, report, deck_a, deck_b, deck_c, deck_d}

-- a cell whose bound equals the best cost holds an earlier place of that cost: 1,0 is priced first and costs 5, as 0,3 does
abbrev pub deck_equal : Deck
deck_equal = record { axis = plain; area = rect 0 0 2 4; posts = at 2 1 ∷ []; stops = stop 1 0 2 ∷ stop 0 3 1 ∷ stop 2 2 1 ∷ [] }

-- after one cut a cell's bound equals the best cost, and its corner 1,2 is later than the best place 1,1: it is not live
abbrev pub deck_level : Deck
deck_level = record { axis = plain; area = rect 1 1 1 4; posts = at 5 2 ∷ []; stops = stop 0 3 1 ∷ stop 0 2 1 ∷ stop 0 0 3 ∷ [] }

-- after one cut a cell's bound equals the best cost, and its corner 1,0 is the best place: it is not live, though a line is inside it
abbrev pub deck_corner : Deck
deck_corner = record { axis = plain; area = rect 0 0 2 2; posts = at 0 2 ∷ []; stops = stop 1 0 2 ∷ stop 0 1 1 ∷ [] }

-- the travel of stop 1,0 to the area equals its near: no line
abbrev pub deck_reach : Deck
deck_reach = record { axis = plain; area = rect 0 2 2 3; posts = at 0 1 ∷ []; stops = stop 2 0 1 ∷ stop 1 0 2 ∷ [] }

-- a stop that stands in the area's range and out of reach: no line
abbrev pub deck_far : Deck
deck_far = record { axis = plain; area = rect 0 0 2 5; posts = at 1 0 ∷ []; stops = stop 4 4 2 ∷ stop 1 0 2 ∷ [] }

-- a stop that is within reach of the area, and not of its part 0,0,2,3, to which its travel equals its near
abbrev pub deck_load : Deck
deck_load = record { axis = plain; area = rect 0 0 3 3; posts = at 2 3 ∷ []; stops = stop 3 4 1 ∷ stop 2 1 1 ∷ [] }

-- two lines as close to the middle
abbrev pub deck_tie : Deck
deck_tie = record { axis = plain; area = rect 0 0 3 0; posts = at 0 1 ∷ []; stops = stop 1 0 2 ∷ stop 2 0 2 ∷ [] }

-- the middle is at 2.5, between the lines 1 and 3, and closer to 3
abbrev pub deck_middle : Deck
deck_middle = record { axis = plain; area = rect 0 0 5 3; posts = at 8 6 ∷ []; stops = stop 3 2 1 ∷ stop 1 0 2 ∷ [] }

-- equal sides with a line inside each
abbrev pub deck_square : Deck
deck_square = record { axis = plain; area = rect 0 2 2 4; posts = at 5 2 ∷ []; stops = stop 1 3 1 ∷ [] }

-- the y side is the longer one
abbrev pub deck_long : Deck
deck_long = record { axis = plain; area = rect 0 0 2 5; posts = at 0 4 ∷ []; stops = stop 1 1 1 ∷ [] }

-- 0,3 is priced first and costs 6, as the earlier 0,1 does
abbrev pub deck_first : Deck
deck_first = record { axis = plain; area = rect 0 0 0 3; posts = at 4 1 ∷ []; stops = stop 0 4 2 ∷ stop 0 1 2 ∷ [] }

-- the first cut leaves two cells of bound 0, with corners 0,0 and 0,1; the second leaves two of bound 0, with corners 0,1 and 1,0
abbrev pub deck_order : Deck
deck_order = record { axis = plain; area = rect 0 0 3 4; posts = at 3 2 ∷ []; stops = stop 1 1 2 ∷ stop 2 1 3 ∷ [] }

-- the bound of the area is 8 and its corner bound 6, by which a search has other lows and makes one cut more
abbrev pub deck_closer : Deck
deck_closer = record { axis = plain; area = rect 0 0 4 2; posts = at 1 1 ∷ []; stops = stop 2 1 1 ∷ stop 9 5 1 ∷ [] }

-- the corner bound of the area is half of 3
abbrev pub deck_half : Deck
deck_half = record { axis = plain; area = rect 0 3 3 3; posts = at 0 0 ∷ []; stops = stop 2 1 1 ∷ [] }

-- a tenth along x costs 2: travel and bounds follow it, sides and middles do not; each post is the closer one for some stop
abbrev pub deck_axis : Deck
deck_axis = record {
  axis = record { a = 2; b = 1 };
  area = rect 0 3 4 6;
  posts = at 0 4 ∷ at 0 0 ∷ [];
  stops = stop 3 0 2 ∷ stop 2 4 1 ∷ [];
}

-- a narrow area: the best place is another one for each of three axis costs
abbrev pub deck_narrow : ℕ → ℕ → Deck
deck_narrow a b = record {
  axis = record { a = a; b = b };
  area = rect 1 1 3 9;
  posts = at 4 6 ∷ [];
  stops = stop 6 1 1 ∷ stop 2 4 1 ∷ [];
}

-- the area is deeper than wide in plain tenths, and not so by axis costs
abbrev pub deck_side : Deck
deck_side = record { axis = record { a = 2; b = 1 }; area = rect 0 0 2 4; posts = at 0 1 ∷ []; stops = stop 1 2 1 ∷ [] }

-- two axis costs that are not 1: if bounds counted one of them only, or the longer side went by them, a stopped search had other figures
abbrev pub deck_both : Deck
deck_both = record { axis = record { a = 2; b = 3 }; area = rect 0 0 5 4; posts = at 5 6 ∷ []; stops = stop 1 6 1 ∷ stop 2 2 2 ∷ [] }

-- a stop behind the area and one to its right, both out of reach: one of them would be within reach if only one of the axis costs counted
abbrev pub deck_beyond : Deck
deck_beyond = record {
  axis = record { a = 2; b = 3 };
  area = rect 0 0 4 2;
  posts = at 2 3 ∷ at 6 2 ∷ [];
  stops = stop 1 6 1 ∷ stop 6 1 1 ∷ stop 2 0 2 ∷ [];
}

-- two stops to the right of the area: both, one or none is within reach of it
abbrev pub deck_beside : ℕ → ℕ → Deck
deck_beside a b = record {
  axis = record { a = a; b = b };
  area = rect 0 0 2 4;
  posts = at 4 5 ∷ [];
  stops = stop 6 3 1 ∷ stop 8 1 1 ∷ [];
}

abbrev pub lowest : Place
lowest = record { x = negsuc 19999; y = negsuc 19999 }

abbrev pub widest : Rect
widest = record { xlo = negsuc 19999; ylo = negsuc 19999; xhi = pos 20000; yhi = pos 20000 }

-- the ends of all ranges: 64 posts and 512 stops, with the most that a place can cost, and with a corner bound far below 0
abbrev pub deck_ends : Place → Place → Deck
deck_ends post at = record {
  axis = record { a = 9; b = 9 };
  area = widest;
  posts = replicate 64 post;
  stops = replicate 512 (record { at = at; visits = 65535 });
}

abbrev pub needs : ℕ → ℕ → ℕ → ℕ → Estimate
needs across deep limit cells = record { across = across; deep = deep; limit = limit; cells = cells }

pub record Rows : Type 0 where
  -- halves go towards plus infinity, below 0 too
  pub half_3 : half_up (pos 3) ≡ pos 2
  pub half_minus_3 : half_up (negsuc 2) ≡ negsuc 0
  pub half_minus_4 : half_up (negsuc 3) ≡ negsuc 1
  -- a single line leaves a gap too
  pub gaps_a_across : gaps deck_a x_axis ≡ 2
  pub gaps_a_deep : gaps deck_a y_axis ≡ 2
  pub gaps_b_across : gaps deck_b x_axis ≡ 1
  pub gaps_c_across : gaps deck_c x_axis ≡ 1
  -- the limits of RULES "Promise 3" are reached: that of cuts is, a high falls, a low rises, and of two places of equal cost the
  -- right one is beaten
  pub limit_reached : (figures deck_a 3).rounds ≡ cut_limit deck_a
  pub high_falls : (figures deck_a 1).high < (figures deck_a 0).high
  pub low_rises : (figures deck_a 1).low <ℤ (figures deck_a 2).low
  pub further_right : Beaten deck_b (at 0 0) (at 10 0)
  -- the estimate of case A, with rounds + 1 below, at and above the product of the gaps
  pub estimate_a_0 : estimate deck_a 0 ≡ needs 2 2 3 1
  pub estimate_a_2 : estimate deck_a 2 ≡ needs 2 2 3 3
  pub estimate_a_3 : estimate deck_a 3 ≡ needs 2 2 3 4
  pub estimate_a_10 : estimate deck_a 10 ≡ needs 2 2 3 4
  -- after one round of case A as many cells are live
  pub all_live : length (run (problem deck_a) 1).live ≡ (estimate deck_a 1).cells
  -- one gap in a row, one point, two gaps in a row
  pub estimate_b : estimate deck_b 10 ≡ needs 1 1 0 1
  pub estimate_c : estimate deck_c 10 ≡ needs 1 1 0 1
  pub estimate_d_0 : estimate deck_d 0 ≡ needs 2 1 1 1
  pub estimate_d_1 : estimate deck_d 1 ≡ needs 2 1 1 2
  -- three gaps across and two deep; one across, of no width, and three deep
  pub estimate_both_3 : estimate deck_both 3 ≡ needs 3 2 5 4
  pub estimate_both : estimate deck_both 10 ≡ needs 3 2 5 6
  pub estimate_level : estimate deck_level 10 ≡ needs 1 3 2 3
  -- no line of a stop out of reach, which goes by axis costs
  pub estimate_far : estimate deck_far 10 ≡ needs 1 2 1 2
  pub estimate_plain : estimate (deck_beside 1 1) 10 ≡ needs 1 2 1 2
  pub estimate_x_cost : estimate (deck_beside 2 1) 10 ≡ needs 1 1 0 1
  pub estimate_y_cost : estimate (deck_beside 1 2) 10 ≡ needs 1 3 2 3
  -- when a cell is live
  pub equal : figures deck_equal 10 ≡ report done (at 0 3) 5 (pos 5) 9 4
  pub level : figures deck_level 10 ≡ report done (at 1 1) 11 (pos 11) 32 1
  -- excluded: at equal figures a cell is live where its corner is the best place (then 3 rounds)
  pub best_corner : figures deck_corner 10 ≡ report done (at 1 0) 1 (pos 1) 7 2
  -- what is within reach
  pub reach : figures deck_reach 10 ≡ report done (at 2 2) 6 (pos 6) 7 0
  pub far : figures deck_far 10 ≡ report done (at 2 4) 4 (pos 4) 14 1
  pub beyond : figures deck_beyond 10 ≡ report done (at 2 0) 14 (pos 14) 32 1
  -- where a cell is cut
  pub tie_1 : figures deck_tie 1 ≡ report stopped (at 1 0) 2 (pos 0) 10 1
  pub square_1 : figures deck_square 1 ≡ report stopped (at 1 2) 1 (pos 0) 5 1
  pub long_1 : figures deck_long 1 ≡ report stopped (at 0 1) 1 (pos 0) 4 1
  -- excluded: the middle rounded down, so that line 1 is as close to it as line 3 (then at 1,0, high 4)
  pub middle_1 : figures deck_middle 1 ≡ report stopped (at 3 0) 6 (pos 0) 35 1
  -- which place is the best, and which cell is next
  pub first : figures deck_first 10 ≡ report done (at 0 1) 6 (pos 6) 22 1
  pub order_2 : figures deck_order 2 ≡ report stopped (at 1 1) 3 (pos 0) 12 2
  -- low by the bound of the area and of its parts
  pub closer_0 : figures deck_closer 0 ≡ report stopped (at 4 2) 9 (pos 8) 13 0
  pub closer_1 : figures deck_closer 1 ≡ report stopped (at 4 2) 9 (pos 8) 13 1
  pub closer : figures deck_closer 2 ≡ report done (at 4 2) 9 (pos 9) 13 2
  -- axis costs, and the ends of the ranges
  pub axis_0 : figures deck_axis 0 ≡ report stopped (at 4 3) 14 (pos 6) 16 0
  pub axis_1 : figures deck_axis 1 ≡ report stopped (at 2 3) 11 (pos 6) 16 1
  pub axis_2 : figures deck_axis 2 ≡ report stopped (at 2 3) 11 (pos 6) 16 2
  pub axis : figures deck_axis 10 ≡ report done (at 3 3) 9 (pos 9) 16 4
  pub narrow_plain : figures (deck_narrow 1 1) 10 ≡ report done (at 2 1) 7 (pos 7) 11 3
  pub narrow_0 : figures (deck_narrow 2 1) 0 ≡ report stopped (at 3 1) 11 (pos 6) 15 0
  pub narrow_1 : figures (deck_narrow 2 1) 1 ≡ report stopped (at 1 4) 11 (pos 6) 15 1
  pub narrow : figures (deck_narrow 2 1) 10 ≡ report done (at 2 4) 9 (pos 9) 15 3
  pub narrow_deep : figures (deck_narrow 1 2) 10 ≡ report done (at 3 1) 9 (pos 9) 18 3
  pub side_1 : figures deck_side 1 ≡ report stopped (at 0 2) 2 (pos 0) 3 1
  pub both_1 : figures deck_both 1 ≡ report stopped (at 2 0) 20 (pos 6) 44 1
  pub both_2 : figures deck_both 2 ≡ report stopped (at 2 2) 8 (pos 6) 44 2
  pub both : figures deck_both 10 ≡ report done (at 2 2) 8 (pos 8) 44 5
  pub ends : figures (deck_ends lowest (at 20000 20000)) 1000 ≡ report done (at 20000 20000) 0 (pos 0) 24158822400000 0
  -- the bound of a rectangle that no stop is within reach of, which is before; that holds all stops; of one point, which is its cost; of a
  -- segment
  pub bound_out_of_reach : bound deck_a (rect 20 20 25 21) ≡ 34
  pub bound_inside : bound deck_a (rect 0 0 9 12) ≡ 0
  pub bound_point : bound deck_a (rect 5 5 5 5) ≡ 16
  pub bound_segment : bound deck_a (rect 2 5 6 5) ≡ 13
  -- of one that only the second stop is within reach of: the smaller of the sums of all near and of all travel is 23
  pub bound_one_reached : bound deck_a (rect 9 8 20 10) ≡ 17
  -- of one to which the travel of a stop equals its near
  pub bound_equal : bound deck_reach deck_reach.area ≡ 6
  -- by axis costs: 5 in plain tenths, and 7 and 8 with the two exchanged
  pub bound_x_cost : bound (deck_narrow 2 1) (rect 1 3 3 6) ≡ 8
  pub bound_y_cost : bound (deck_narrow 1 2) (rect 1 3 3 6) ≡ 7
  -- the largest of all, of the point farthest from the stops
  pub bound_most : bound (deck_ends lowest (at 20000 20000)) (record { xlo = lowest.x; ylo = lowest.y; xhi = lowest.x; yhi = lowest.y })
      ≡ 24158822400000
  -- corner bounds, where the diagonal to (xhi, yhi) is the dearer one
  pub corner_bound_part : corner_bound deck_load (rect 0 0 2 3) ≡ pos 2
  pub corner_bound_axis : corner_bound (deck_narrow 2 1) (rect 1 1 3 9) ≡ pos 3
  -- where the other one is, and where both are equal
  pub corner_bound_a : corner_bound deck_a deck_a.area ≡ pos 4
  pub corner_bound_closer : corner_bound deck_closer deck_closer.area ≡ pos 6
  pub corner_bound_half : corner_bound deck_half deck_half.area ≡ pos 2
  -- below 0
  pub corner_bound_d : corner_bound deck_d deck_d.area ≡ negsuc 2
  pub corner_bound_ends : corner_bound (deck_ends (at 0 1) (at 0 0)) widest ≡ negsuc 12079109214719
  -- the cell space, with two numbers more than suffice
  pub space_a_0 : space deck_a 0 7 ≡ map pos (2 ∷ 2 ∷ 8 ∷ 8 ∷ 4 ∷ 0 ∷ 0 ∷ [])
  pub space_a_1 : space deck_a 1 12 ≡ map pos (4 ∷ 2 ∷ 8 ∷ 8 ∷ 4 ∷ 2 ∷ 2 ∷ 4 ∷ 8 ∷ 8 ∷ 0 ∷ 0 ∷ [])
  pub space_a_2 : space deck_a 2 17 ≡ map pos (2 ∷ 2 ∷ 4 ∷ 8 ∷ 8 ∷ []) ++ replicate 12 (pos 0)
  pub space_a_3 : space deck_a 3 22 ≡ replicate 22 (pos 0)
  pub space_d_0 : space deck_d 0 7 ≡ map pos (0 ∷ 0 ∷ 9 ∷ 0 ∷ 0 ∷ 0 ∷ 0 ∷ [])
  -- excluded: cells of equal bound go by y before x, by x alone, or by x and then the larger y
  pub space_order_2 : space deck_order 2 17 ≡ map pos (0 ∷ 1 ∷ 3 ∷ 4 ∷ 0 ∷ 1 ∷ 0 ∷ 3 ∷ 1 ∷ 0 ∷ []) ++ replicate 7 (pos 0)
  -- the exhaustive search
  pub exhaustive_a : exhaustive (problem deck_a) ≡ record { at = at 4 3; cost = 13 }
  pub exhaustive_b : exhaustive (problem deck_b) ≡ record { at = at 0 0; cost = 10 }
  pub exhaustive_c : exhaustive (problem deck_c) ≡ record { at = at 5 5; cost = 16 }
  pub exhaustive_d : exhaustive (problem deck_d) ≡ record { at = at 5 0; cost = 0 }
  pub exhaustive_equal : exhaustive (problem deck_equal) ≡ record { at = at 0 3; cost = 5 }
  pub exhaustive_narrow : exhaustive (problem (deck_narrow 2 1)) ≡ record { at = at 2 4; cost = 9 }
  pub exhaustive_axis : exhaustive (problem deck_axis) ≡ record { at = at 3 3; cost = 9 }
