-- What `change::renew_before` owes.
use mathlib.Core.Path.{◌≡◌, refl, ap, ◌∙◌}
use mathlib.Core.List.{List, [], ◌∷◌, map, zip_with}
use Prim.Native.Nat.{ℕ, zero, suc, ◌*◌, ◌≤◌}
use native.Mathlib.Omega.{arith}
use lib.ListN.{length, take, length-take, length-map}
use Rattle.numbers.specs.Lists.{sum_of}
use Rattle.query.specs.Deck.{Stop}
use Rattle.deck.specs.DeckOf.{deck_of, with_figures}
use Rattle.deck.specs.Values.{stop_of}
use Rattle.columns.specs.StopFigures.{paid}
use Rattle.deck.proofs.DeckLaws.{nears_front, visits_of_stops}
use Rattle.change.proofs.renew_before.Goals as goal

-- near behind that of the last stop does not count
zip_front : {A B C : Type 0} (f : A → B → C) (n : ℕ) (xs : List A) (ys : List B) → length xs ≤ n → zip_with f xs (take n ys) ≡ zip_with f xs ys
unfolding zip_with
zip_front f n [] ys h = refl
zip_front f zero (x ∷ xs) ys h = absurd (omega arith)
zip_front f (suc n) (x ∷ xs) [] h = refl
zip_front f (suc n) (x ∷ xs) (y ∷ ys) h = ap (λ l. f x y ∷ l) (zip_front f n xs ys (omega arith))

paid_front : (n : ℕ) (stops : List Stop) (nears : List ℕ) → length stops ≤ n → paid stops (take n nears) ≡ paid stops nears
unfolding paid
paid_front n stops nears h = ap (sum_of (λ (m : ℕ). m)) (zip_front (λ (s : Stop) near. s.visits * near) n stops nears h)

pub before_of-deck-requires : goal.before_of-deck-requires
before_of-deck-requires c =
    rw (c.listed_stops.ensures, c.listed_near.ensures)
    (visits_of_stops c.requires.0, nears_front (omega (arith, length-take c.args.deck.now.stop_count c.args.deck.now.stops)) c.requires.1)

pub returns : goal.returns
unfolding deck_of
returns c =
    let deck = c.args.deck.now in
    let front = paid_front deck.stop_count (map stop_of (take deck.stop_count deck.stops)) deck.near
    (omega (arith, length-map (take deck.stop_count deck.stops) stop_of, length-take deck.stop_count deck.stops)) in
    ap (with_figures deck deck.near) (rw (c.listed_stops.ensures, c.listed_near.ensures) at c.before_of-deck.ensures ∙ front)
