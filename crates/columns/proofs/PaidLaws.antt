-- The sum of visits × near: term by term, and over the stops of a deck.
use mathlib.Core.Path.{◌≡◌, refl, sym, ap, ◌∙◌}
use mathlib.Core.List.{List, [], ◌∷◌, ◌++◌, map, zip_with}
use Prim.Native.Nat.{ℕ, ◌+◌, ◌*◌, ◌≤◌, ◌<◌}
use native.Mathlib.Nat.{mul-le-mul}
use native.Mathlib.Numerals.{add-one}
use native.Mathlib.Omega.{arith}
use lib.ListN.{length, get_or, take, length-map}
use lib.Seq.{take-suc, take_all}
use Rattle.numbers.specs.Lists.{sum_of}
use Rattle.numbers.proofs.Joined.{map_at}
use Rattle.query.specs.Deck.{Stop}
use Rattle.query.specs.Range.{visits_limit, travel_limit, cost_limit}
use Rattle.deck.specs.declared.Stop as Code
use Rattle.deck.specs.Values.{stop_of, no_stop}
use Rattle.deck.specs.Ranges.{VisitsInRange, NearsInRange}
use Rattle.deck.proofs.DeckLaws.{visits_in_range}
use Rattle.columns.specs.StopFigures.{paid}
use Rattle.columns.proofs.ClosestLaws.{zip_length, zip_at}

sum_snoc : (xs : List ℕ) (x : ℕ) → sum_of (λ (m : ℕ). m) (xs ++ (x ∷ [])) ≡ sum_of (λ (m : ℕ). m) xs + x
unfolding sum_of
sum_snoc [] x = omega arith
sum_snoc (y ∷ ys) x = omega (arith, sum_snoc ys x)

-- ---- the first i terms, each at most this
abbrev pub term_limit : ℕ
term_limit = visits_limit * travel_limit

abbrev terms : List Code.Stop → List ℕ → List ℕ
terms stops nears = zip_with (λ (s : Stop) near. s.visits * near) (map stop_of stops) nears

pub record Paid (stops : List Code.Stop) (nears : List ℕ) (sum i : ℕ) : Type 0 where
  pub count : i ≤ length stops
  pub is : sum ≡ sum_of (λ (m : ℕ). m) (take i (terms stops nears))
  pub most : sum ≤ i * term_limit

pub paid_none : (stops : List Code.Stop) (nears : List ℕ) → Paid stops nears 0 0
unfolding sum_of
paid_none stops nears = record { count = omega arith; is = refl; most = omega arith }

module _ {stops : List Code.Stop} {nears : List ℕ} (range : VisitsInRange stops) (k : NearsInRange nears (length stops)) where
  terms_count : length (terms stops nears) ≡ length stops
  terms_count = omega (arith, zip_length (λ (s : Stop) near. s.visits * near) (map stop_of stops) nears, length-map stops stop_of, k.count)

  term_at : (i : ℕ) → i < length stops → get_or (terms stops nears) i 0 ≡ (get_or stops i no_stop).visits * get_or nears i 0
  term_at i h =
      zip_at (λ (s : Stop) near. s.visits * near) (stop_of no_stop) 0 0 (map stop_of stops) nears i (omega (arith, length-map stops stop_of))
      (omega (arith, k.count))
      ∙ ap (λ (s : Stop). s.visits * get_or nears i 0) (map_at stop_of stops i (stop_of no_stop) no_stop h)

  -- the next term, of numbers that are read from the lists
  module _ {sum i : ℕ} {stop : Code.Stop} {m : ℕ} (so_far : Paid stops nears sum i) (turn : i < length stops) (e : stop ≡ get_or stops i no_stop)
      (f : m ≡ get_or nears i 0) where
    pub term_fits : stop.visits * m ≤ term_limit
    term_fits = rw (e, f) (mul-le-mul (visits_in_range range i no_stop turn) (k.range i turn))

    pub sum_fits : sum + stop.visits * m ≤ cost_limit
    sum_fits = omega (arith, term_fits, so_far.most, turn, range.few)

    pub paid_turn : Paid stops nears (sum + stop.visits * m) (i + 1)
    paid_turn = record {
      count = omega arith;
      is =
          ap (λ (n : ℕ). n + stop.visits * m) so_far.is
          ∙ sym (rw (add-one i, take-suc (terms stops nears) i 0 (omega (arith, terms_count)))
          (sum_snoc (take i (terms stops nears)) (get_or (terms stops nears) i 0))
          ∙ ap (λ (n : ℕ). sum_of (λ (m : ℕ). m) (take i (terms stops nears)) + n)
          (term_at i turn ∙ (λ j. (sym e j).visits * sym f j)));
      most = omega (arith, so_far.most, term_fits);
    }

  pub paid_all : {sum i : ℕ} → Paid stops nears sum i → length stops ≤ i → sum ≡ paid (map stop_of stops) nears
  unfolding paid
  paid_all {sum} {i} so_far h = so_far.is ∙ ap (sum_of (λ (m : ℕ). m)) (take_all i (terms stops nears) (omega (arith, terms_count)))

-- ---- over stops whose near stands in front of a column
pub paid_stops : (near : Stop → ℕ) (stops : List Stop) (behind : List ℕ) →
    paid stops (map near stops ++ behind) ≡ sum_of (λ s. s.visits * near s) stops
unfolding paid sum_of zip_with
paid_stops near [] behind = refl
paid_stops near (s ∷ ss) behind = ap (λ (m : ℕ). s.visits * near s + m) (paid_stops near ss behind)
