-- The choice along a vertical line: after j lines what is left to compare are the lines from j on.
use mathlib.Core.Path.{◌≡◌, sym, ap, ◌∙◌}
use mathlib.Core.List.{List, ◌∷◌}
use Prim.Native.Nat.{ℕ, ◌+◌, ◌≤◌, ◌<◌}
use native.Mathlib.Numerals.{add-one}
use native.Mathlib.Omega.{arith}
use lib.IntN.{ℤ, pos}
use lib.ListN.{length, get_or, drop, drop_of_length-le}
use lib.Seq.{drop-cons}
use Rattle.columns.specs.Objects.{Pricing}
use Rattle.priced_place.specs.declared.PricedPlace.{PricedPlace}
use Rattle.priced_place.specs.ObjectProblem.{priced_place_of, priced_place_at}
use Rattle.numbers.proofs.WordTests.{back}
use Rattle.exhaustive.specs.Ramps.{LinesInRange}
use Rattle.exhaustive.specs.Cheapest.{cheaper_of, first_cheapest, along, costs_along, Chosen}
use Rattle.exhaustive.proofs.ObjectRamps.{small_back}
use Rattle.exhaustive.proofs.CostsAlong.{costs_at_lem}
use Rattle.exhaustive.proofs.CheapestLaws.{cheapest_none, cheapest_more}

-- the lines from j on are line j and those behind it
pub next_line : (ls : List ℤ) (j : ℕ) → j < length ls → drop j ls ≡ get_or ls j (pos 0) ∷ drop (j + 1) ls
next_line ls j h = drop-cons ls j (pos 0) h ∙ rw (add-one j)

pub record Choosing (ls : List ℤ) (v : ℤ) (costs : List ℕ) (first found : PricedPlace) (j : ℕ) : Type 0 where
  pub left : (P : Pricing) (old : List ℕ) → costs ≡ costs_along P ls v old → first_cheapest P first (along ls v) ≡ first_cheapest P found (along (drop j ls) v)

module _ (ls : List ℤ) (v : ℤ) (costs : List ℕ) (first : PricedPlace) where
  pub choose_all : {found : PricedPlace} {j : ℕ} → Choosing ls v costs first found j → length ls ≤ j → Chosen ls v costs first found
  choose_all {found} {j} s h = record {
    is = λ P old e. sym (s.left P old e ∙ rw (drop_of_length-le ls {i = j} h) (cheapest_none P found));
  }

  module _ (lines : LinesInRange ls) {found : PricedPlace} {j : ℕ} (s : Choosing ls v costs first found j) (h : j < length ls) where
    abbrev y : ℤ
    y = get_or ls j (pos 0)

    priced_is : (p : PricedPlace) → p ≡ priced_place_at v (back y) (get_or costs j 0) → (P : Pricing) (old : List ℕ) → costs ≡ costs_along P ls v old
        → p ≡ priced_place_of P (record { x = v; y = y })
    priced_is p f P old e = f ∙ rw (small_back y (omega (arith, lines.range j h)), e, costs_at_lem P ls v old j h)

    pub choose_more : (p found' : PricedPlace) → p ≡ priced_place_at v (back y) (get_or costs j 0) → found' ≡ cheaper_of found p
        → Choosing ls v costs first found' (j + 1)
    choose_more p found' f g = record {
      left =
          λ P old e. s.left P old e ∙ rw (next_line ls j h) (cheapest_more P found (record { x = v; y = y }) (along (drop (j + 1) ls) v))
          ∙ ap (λ (q : PricedPlace). first_cheapest P q (along (drop (j + 1) ls) v)) (sym (g ∙ ap (cheaper_of found) (priced_is p f P old e)));
    }
