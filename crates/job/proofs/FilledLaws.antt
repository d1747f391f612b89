-- What was read of posts and stops: it is in range, and near and before found of it are those of the job's deck.
use mathlib.Core.Path.{◌≡◌, sym, ap, subst, ◌∙◌}
use mathlib.Core.Bool.{Bool, true, false, not}
use mathlib.Core.List.{List, [], map, Memᴰ}
use Prim.Native.Nat.{ℕ}
use native.Mathlib.Omega.{arith}
use lib.Dec.{T}
use lib.IntN.{ℤ}
use lib.ListN.{length, take, length-map}
use Rattle.std.specs.Prelude.{Ok}
use Rattle.std.proofs.lemmas.List.{append-nil}
use Rattle.numbers.specs.Padded.{padded}
use Rattle.numbers.proofs.Members.{each_map}
use Rattle.deck.proofs.DeckLaws.{front_map}
use Rattle.query.specs.Place as Query
use Rattle.query.specs.Deck as QueryDeck
use Rattle.query.specs.Travel.{near}
use Rattle.query.specs.Cost.{before}
use Rattle.query.specs.Range.{PlaceInRange, StopInRange, stops_limit}
use Rattle.deck.specs.Values as Values
use Rattle.deck.specs.Values.{held_axis, place_of}
use Rattle.deck.specs.Ranges.{CostsInRange, PostsInRange, StopsInRange}
use Rattle.deck.specs.declared.AxisCosts.{AxisCosts}
use Rattle.deck.specs.declared.Deck.{Deck}
use Rattle.deck.specs.declared.Place.{Place}
use Rattle.deck.specs.declared.Stop.{Stop}
use Rattle.columns.specs.StopFigures.{Nears, paid}
use Rattle.columns.proofs.PaidLaws.{paid_stops}
use Rattle.job_line.specs.Kinds.{Kind, axis, posts, post, stops, stop, row}
use Rattle.job_line.specs.OneLine.{line}
use Rattle.job_line.specs.Reading.{cost_numbers}
use Rattle.job_line.specs.declared.Unread.{Unread}
use Rattle.job.specs.Format.{axis_costs_of, count_of, post_of, stop_of}
use Rattle.job.specs.ManyLines.{AxisAt, many_lines, counted_lines, ListAt, PostsAt, StopsAt}
use Rattle.job.proofs.RangeLaws.{axis_range, post_range, stop_range, post_back_lem, stop_back_lem}
use Rattle.job.proofs.ReaderLaws.{Ranged, bind_got, all_got, OptionalGot, optional_got}
use Rattle.job.proofs.PartLaws.{Put}

-- ---- ranges
-- axis costs that were read, where those that stand for a missing line are in range
pub axis_in_range : {unread : Unread} {missing costs : AxisCosts} {left : Unread} → AxisAt unread missing (Ok (costs, left)) →
    CostsInRange (held_axis missing) → CostsInRange (held_axis costs)
axis_in_range {unread} {missing} {costs} {left} axis_at h =
    go (optional_got axis (cost_numbers missing) unread.line unread.text.now (cost_numbers costs) left.line left.text.now (sym axis_at.is))
  where
    carried_in : Ranged axis (cost_numbers costs) → CostsInRange (held_axis costs)
    carried_in t = let (some, most) = axis_range (held_axis costs) t in record { some = some; most = most }

    either : (b : Bool) → (T b → Ranged axis (cost_numbers costs)) → (T (not b) → cost_numbers costs ≡ cost_numbers missing) → CostsInRange (held_axis costs)
    either true f g = carried_in (f tt)
    either false f g = subst CostsInRange (sym (ap axis_costs_of (g tt))) h

    go : OptionalGot axis (cost_numbers missing) unread.text.now (cost_numbers costs) left.text.now → CostsInRange (held_axis costs)
    go o = either o.carried o.ranged o.left_out

-- lines that were all read
module _ (k kind : Kind) {put : Put} {most : ℕ} {unread left : Unread} {old new : Deck}
    (list_at : ListAt (counted_lines k kind) put most unread old new (Ok left)) where
  lines_ranged : (ns : List ℤ) → Memᴰ ns list_at.lines → Ranged kind ns
  unfolding counted_lines
  lines_ranged = bind_got (line (row k)) (λ c. many_lines kind (count_of c)) unread.line unread.text.now
      (λ c n₁ b₁ e₁ e₂. (all_got kind (count_of c) n₁ b₁ list_at.lines left.line left.text.now e₂).2) (sym list_at.is)

post_in : (ns : List ℤ) → Ranged post ns → PlaceInRange (post_of ns)
post_in ns t = post_range (post_of ns) (subst (Ranged post) (sym (post_back_lem ns t)) t)

stop_in_lem : (ns : List ℤ) → Ranged stop ns → StopInRange (stop_of ns)
stop_in_lem ns t = stop_range (stop_of ns) (subst (Ranged stop) (sym (stop_back_lem ns t)) t)

-- all posts, and all stops, that were read, as a record lists them
module _ {unread left : Unread} {old new : Deck} where
  pub posts_in : (posts_at : PostsAt unread old new (Ok left)) {ps : List Place} → map place_of ps ≡ map post_of posts_at.lines → PostsInRange ps
  posts_in posts_at {ps} e = record {
    few = omega (arith, posts_at.few, length-map ps place_of, ap length e, length-map posts_at.lines post_of);
    each = subst (λ (l : List Query.Place). (p : Query.Place) → Memᴰ p l → PlaceInRange p) (sym e)
        (each_map PlaceInRange post_of posts_at.lines (λ ns m. post_in ns (lines_ranged posts post posts_at ns m)));
  }

  pub stops_in : (stops_at : StopsAt unread old new (Ok left)) {ss : List Stop} → map Values.stop_of ss ≡ map stop_of stops_at.lines → StopsInRange ss
  stops_in stops_at {ss} e = record {
    few = omega (arith, stops_at.few, length-map ss Values.stop_of, ap length e, length-map stops_at.lines stop_of);
    each = subst (λ (l : List QueryDeck.Stop). (s : QueryDeck.Stop) → Memᴰ s l → StopInRange s) (sym e)
        (each_map StopInRange stop_of stops_at.lines (λ ns m. stop_in_lem ns (lines_ranged stops stop stops_at ns m)));
  }

-- ---- near and before, found of a deck
module _ (deck : QueryDeck.Deck) {column : List ℕ} (found : Nears deck.axis deck.posts deck.stops column) where
  pub near_is : column ≡ padded stops_limit 0 (map (near deck) deck.stops)
  unfolding near
  near_is = found.are

  near_front : take (length deck.stops) column ≡ map (near deck) deck.stops
  near_front = rw near_is (front_map stops_limit 0 (near deck) deck.stops)

  pub before_is : {sum : ℕ} → sum ≡ paid deck.stops (take (length deck.stops) column) → sum ≡ before deck
  unfolding before
  before_is e = e ∙ ap (paid deck.stops) (near_front ∙ sym (append-nil (map (near deck) deck.stops))) ∙ paid_stops (near deck) deck.stops []
