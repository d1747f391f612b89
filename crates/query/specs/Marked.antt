-- The worked cases A to D (RULES "Worked cases"): the figures of their eight reports. `proofs/Marked.antt` proves them.
use Rattle.std.specs.Prelude.{ℕ, ◌≡◌, [], ◌∷◌, ℤ, pos}
use Rattle.query.specs.Place.{Place, Rect}
use Rattle.query.specs.Deck.{Stop, Deck, plain}
use Rattle.query.specs.Figures.{Figures, figures, State, done, stopped}

abbrev pub at : ℕ → ℕ → Place
at x y = record { x = pos x; y = pos y }

abbrev pub rect : ℕ → ℕ → ℕ → ℕ → Rect
rect xlo ylo xhi yhi = record { xlo = pos xlo; ylo = pos ylo; xhi = pos xhi; yhi = pos yhi }

abbrev pub stop : ℕ → ℕ → ℕ → Stop
stop x y visits = record { at = at x y; visits = visits }

abbrev pub report : State → Place → ℕ → ℤ → ℕ → ℕ → Figures
report state at high low before rounds = record { state = state; at = at; high = high; low = low; before = before; rounds = rounds }

abbrev pub deck_a : Deck
deck_a = record { axis = plain; area = rect 2 2 8 8; posts = at 0 0 ∷ []; stops = stop 4 3 2 ∷ stop 8 12 1 ∷ [] }

abbrev pub deck_b : Deck
deck_b = record { axis = plain; area = rect 0 0 10 0; posts = at 0 50 ∷ []; stops = stop 0 0 1 ∷ stop 10 0 1 ∷ [] }

abbrev pub deck_c : Deck
deck_c = record { axis = plain; area = rect 5 5 5 5; posts = deck_a.posts; stops = deck_a.stops }

abbrev pub deck_d : Deck
deck_d = record { axis = plain; area = rect 0 0 9 0; posts = at 5 1 ∷ []; stops = stop 5 0 1 ∷ [] }

pub record Marked : Type 0 where
  pub a_0 : figures deck_a 0 ≡ report stopped (at 8 8) 18 (pos 4) 34 0
  pub a_1 : figures deck_a 1 ≡ report stopped (at 4 2) 16 (pos 4) 34 1
  pub a_2 : figures deck_a 2 ≡ report stopped (at 4 3) 13 (pos 8) 34 2
  pub a_3 : figures deck_a 3 ≡ report done (at 4 3) 13 (pos 13) 34 3
  pub B : figures deck_b 10 ≡ report done (at 0 0) 10 (pos 10) 110 0
  pub C : figures deck_c 10 ≡ report done (at 5 5) 16 (pos 16) 34 0
  pub d_0 : figures deck_d 0 ≡ report stopped (at 0 0) 1 (pos 0) 1 0
  pub d_1 : figures deck_d 1 ≡ report done (at 5 0) 0 (pos 0) 1 1
