-- The figures of an opened job's record and problem are those of its deck.
use mathlib.Core.Path.{◌≡◌, ap, subst, ◌∙◌}
use mathlib.Core.Bool.{true, cond}
use mathlib.Core.List.{List, map}
use Prim.Native.Nat.{ℕ, ◌≤◌, ◌<◌}
use native.Mathlib.Omega.{arith}
use lib.Dec.{ltb}
use lib.IntN.{ℤ, pos}
use lib.ListN.{length, get_or, take, length-map}
use borrow.Author.Tests.{lt-ltb, le-ltb}
use mir.Syntax.{w64}
use mir.Val.{to_z, of_z}
use mir.ValLaws.{to_z-of_z, to_z_pos}
use Rattle.numbers.specs.Padded.{padded}
use Rattle.numbers.proofs.Padded.{padded_at}
use Rattle.deck.proofs.DeckLaws.{front_map}
use Rattle.numbers.proofs.Words.{word_fits}
use Rattle.query.proofs.Ranges.{figure_limits}
use Rattle.query.specs.Place.{Place, Rect}
use Rattle.query.specs.Deck as Query
use Rattle.query.specs.Travel.{near}
use Rattle.query.specs.Cost.{cost, before}
use Rattle.query.specs.Bound.{bound}
use Rattle.query.specs.CornerBound.{load, corner_bound}
use Rattle.query.specs.Range.{cost_limit, load_limit, stops_limit, travel_limit}
use Rattle.job.specs.Format.{read_job}
use Rattle.deck.specs.declared.Deck.{Deck}
use Rattle.deck.specs.DeckOf.{deck_record}
use Rattle.columns.specs.Objects.{Pricing, pricing_of}
use Rattle.deck.proofs.SoundLaws.{sound_limit}
use Rattle.reach.specs.Held.{pricing_of_objects}
use Rattle.pricing.specs.ObjectFigures.{cost_of, bound_of, Figure}
use Rattle.pricing.proofs.ObjectLaws.{cost_law, bound_law}
use Rattle.corner_bound.specs.ObjectCornerBound.{load_of, corner_bound_of, CornerBound}
use Rattle.corner_bound.proofs.LoadLaws.{load_law}
use Rattle.corner_bound.proofs.CornerLaws.{corner_bound_law}
use Rattle.trial.specs.Ranges.{place_in_range, rect_allowed}
use Rattle.trial.specs.Trial.{minus_one, least, before_figure, near_figure, cost_figure, load_figure, bound_figure, corner_bound_figure}
use Rattle.trial.specs.declared.opened.Opened.{Opened}
use Rattle.job.proofs.ReadDeck.{Spelt, spelt_range}
use Rattle.trial.proofs.OpenLaws.{Open, OpenIn, whole_pricing, open_deck, open_held, on_job_lem, inside}

-- a figure as a signed word
figure_word : {figure n : ℕ} → Figure figure cost_limit n → to_z w64 n ≡ pos figure
figure_word {figure} {n} fig = to_z_pos w64 n (omega (arith, fig.within)) ∙ ap pos fig.is

-- ---- the answers
module _ {bytes : List ℕ} {o : Opened} (w : Open bytes o) where
  abbrev s : Spelt bytes
  s = w.job

  pricing_is : pricing_of_objects o.problem.objects ≡ pricing_of s.job.deck
  pricing_is = whole_pricing o ∙ ap pricing_of (open_deck w)

  pub cost_answer : (at : Place) {n : ℕ} → place_in_range at ≡ true → Figure (cost_of (pricing_of_objects o.problem.objects) at) cost_limit n →
      to_z w64 n ≡ cost_figure at (read_job bytes)
  cost_answer at t fig =
      figure_word fig ∙ ap pos (ap (λ (P : Pricing). cost_of P at) pricing_is ∙ cost_law s.job.deck at)
      ∙ inside minus_one (place_in_range at) (λ job. pos (cost job.deck at)) s t

  -- ---- from the record
  held_before : o.deck.before ≡ before s.job.deck
  unfolding deck_record
  held_before = ap (λ (d : Deck). d.before) (open_held w)

  pub before_small : o.deck.before ≤ cost_limit
  before_small = rw held_before (figure_limits s.job.deck (spelt_range s)).before_limit

  pub before_answer : to_z w64 o.deck.before ≡ before_figure (read_job bytes)
  before_answer = figure_word (record { is = held_before; within = before_small }) ∙ on_job_lem minus_one (λ job. pos (before job.deck)) s

  count_is : o.deck.stop_count ≡ length s.job.deck.stops
  unfolding deck_record
  count_is = ap (λ (d : Deck). d.stop_count) (open_held w)

  pub few_stops : o.deck.stop_count ≤ stops_limit
  few_stops = omega (arith, count_is, (spelt_range s).most_stops)

  -- the nears of the stops that there are
  near_listed : take o.deck.stop_count o.deck.near ≡ map (near s.job.deck) s.job.deck.stops
  unfolding deck_record
  near_listed =
      ap (λ (d : Deck). take d.stop_count d.near) (open_held w) ∙ front_map stops_limit 0 (near s.job.deck) s.job.deck.stops

  near_figure_lem : (i : ℕ) →
      cond (ltb i (length s.job.deck.stops)) (pos (get_or (map (near s.job.deck) s.job.deck.stops) i 0)) minus_one ≡ near_figure i (read_job bytes)
  near_figure_lem i =
      on_job_lem minus_one (λ job. cond (ltb i (length job.deck.stops)) (pos (get_or (map (near job.deck) job.deck.stops) i 0)) minus_one) s

  module _ {column : List ℕ} (e : column ≡ take o.deck.stop_count o.deck.near) (i : ℕ) where
    column_is : column ≡ map (near s.job.deck) s.job.deck.stops
    column_is = e ∙ near_listed

    as_many : length column ≡ length s.job.deck.stops
    as_many = ap length column_is ∙ length-map s.job.deck.stops (near s.job.deck)

    pub near_small : i < length column → get_or column i 0 ≤ travel_limit
    near_small h =
        let nears = map (near s.job.deck) s.job.deck.stops in
        let few : i < length nears = omega (arith, as_many, length-map s.job.deck.stops (near s.job.deck)) in
        rw (column_is, ← padded_at stops_limit 0 nears i few)
        (subst (λ (d : Query.Deck). get_or (padded stops_limit 0 (map (near d) d.stops)) i 0 ≤ travel_limit) (open_deck w) (sound_limit o.sound i))

    pub near_answer : i < length column → to_z w64 (get_or column i 0) ≡ near_figure i (read_job bytes)
    near_answer h =
        let few : i < length s.job.deck.stops = omega (arith, as_many) in
        to_z_pos w64 _ (omega (arith, near_small h)) ∙ ap (λ (l : List ℕ). pos (get_or l i 0)) column_is
        ∙ rw (lt-ltb i (length s.job.deck.stops) few) at (near_figure_lem i)

    pub near_none : length column ≤ i → minus_one ≡ near_figure i (read_job bytes)
    near_none h =
        let many : length s.job.deck.stops ≤ i = omega (arith, as_many) in
        rw (le-ltb i (length s.job.deck.stops) many) at (near_figure_lem i)

-- ---- of a rectangle
module _ {bytes : List ℕ} {rect : Rect} {o : Opened} (w : OpenIn bytes rect o) where
  pub load_answer : {n : ℕ} → Figure (load_of (pricing_of_objects o.problem.objects) rect) load_limit n → to_z w64 n ≡ load_figure rect (read_job bytes)
  load_answer fig =
      figure_word (record { is = fig.is; within = omega (arith, fig.within) })
      ∙ ap pos (ap (λ (P : Pricing). load_of P rect) (pricing_is w.opened) ∙ load_law w.opened.job.job.deck rect)
      ∙ inside minus_one (rect_allowed rect) (λ job. pos (load job.deck rect)) w.opened.job w.allowed

  pub bound_answer : {n : ℕ} → Figure (bound_of (pricing_of_objects o.problem.objects) rect) cost_limit n → to_z w64 n ≡ bound_figure rect (read_job bytes)
  bound_answer fig =
      figure_word fig ∙ ap pos (ap (λ (P : Pricing). bound_of P rect) (pricing_is w.opened) ∙ bound_law w.opened.job.job.deck rect)
      ∙ inside minus_one (rect_allowed rect) (λ job. pos (bound job.deck rect)) w.opened.job w.allowed

  pub corner_bound_answer : {b : ℤ} → CornerBound (corner_bound_of (pricing_of_objects o.problem.objects) rect) b →
      to_z w64 (of_z w64 b) ≡ corner_bound_figure rect (read_job bytes)
  corner_bound_answer {b} found =
      to_z-of_z w64 b (word_fits w64 b (omega (arith, found.within))) ∙ found.is
      ∙ ap (λ (P : Pricing). corner_bound_of P rect) (pricing_is w.opened) ∙ corner_bound_law w.opened.job.job.deck rect
      ∙ inside least (rect_allowed rect) (λ job. corner_bound job.deck rect) w.opened.job w.allowed
