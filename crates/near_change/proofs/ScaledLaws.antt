-- The closest post by scaled places: of a place and of posts that were scaled in words, it is that of the places themselves.
use mathlib.Core.Path.{◌≡◌, refl, sym, ap, ap₂, ◌∙◌}
use mathlib.Core.Bool.{Bool, true, false, cond}
use mathlib.Core.List.{List, [], ◌∷◌, map, zip_with}
use Prim.Native.Nat.{ℕ}
use lib.Dec.{eqb, not_T}
use lib.Seq.{paste}
use Rattle.numbers.proofs.Truth.{holds, fails}
use Rattle.query.specs.Place.{Place}
use Rattle.query.specs.Deck.{AxisCosts, plain}
use Rattle.query.specs.Travel.{travel, closest}
use Rattle.deck.specs.declared.Stop.{Stop}
use Rattle.deck.specs.Values.{stop_of}
use Rattle.columns.specs.Objects.{scaled_place}
use Rattle.columns.proofs.ClosestLaws.{closest_scaled}
use Rattle.near_change.specs.NearChange.{near_without, near_but}
use Rattle.items.proofs.ItemValues.{same_natural}

zip_each : {f g : Place → ℕ → ℕ} → ((p : Place) (m : ℕ) → f p m ≡ g p m) → (ss : List Stop) (ms : List ℕ) →
    zip_with (λ s m. f (stop_of s).at m) ss ms ≡ zip_with (λ s m. g (stop_of s).at m) ss ms
unfolding zip_with
zip_each h [] ms = refl
zip_each h (s ∷ ss) [] = refl
zip_each h (s ∷ ss) (m ∷ ms) = ap₂ (λ (n : ℕ) (l : List ℕ). n ∷ l) (h (stop_of s).at m) (zip_each h ss ms)

-- ---- by posts at their scaled places, for the posts themselves
module _ {axis axis' : AxisCosts} (e : axis' ≡ axis) (posts : List Place) {scaled : List Place} (f : scaled ≡ map (scaled_place axis) posts) where
  closest_same : (p : Place) → closest plain (scaled_place axis' p) scaled ≡ closest axis p posts
  closest_same p = rw (e, f) (sym (closest_scaled axis p posts))

  pub closest_found : (p : Place) {n : ℕ} → n ≡ closest plain (scaled_place axis' p) scaled → n ≡ closest axis p posts
  closest_found p g = g ∙ closest_same p

  without_same : (post q : Place) (near : ℕ) → near_but axis' post scaled q near ≡ near_without axis post posts q near
  unfolding near_but near_without
  without_same post q near =
      ap₂ (λ (t n : ℕ). cond (eqb near t) n near) (ap (λ (c : AxisCosts). travel c q post) e) (closest_same q)

  pub renewed_without : (post : Place) (near : List ℕ) (stops : List Stop) (n : ℕ) {to : List ℕ} →
      to ≡ paste near 0 (zip_with (λ s m. near_but axis' post scaled (stop_of s).at m) stops near) n →
      to ≡ paste near 0 (zip_with (λ s m. near_without axis post posts (stop_of s).at m) stops near) n
  renewed_without post near stops n g = g ∙ ap (λ (l : List ℕ). paste near 0 l n) (zip_each (without_same post) stops near)

-- ---- near of one stop without a post, by the code's test on the travel t
module _ (axis : AxisCosts) (post q : Place) (left : List Place) (near : ℕ) {t : ℕ} (found : t ≡ travel axis q post) where
  pub without_found : near ≡ t → {r : ℕ} → r ≡ closest plain (scaled_place axis q) left → r ≡ near_but axis post left q near
  unfolding near_but
  without_found e f = f ∙ ap (λ (b : Bool). cond b (closest plain (scaled_place axis q) left) near) (sym same)
    where
      same : eqb near (travel axis q post) ≡ true
      same = holds _ ((same_natural near (travel axis q post)).1 (e ∙ found))

  pub without_kept : (near ≡ t → ⊥) → near ≡ near_but axis post left q near
  unfolding near_but
  without_kept h = ap (λ (b : Bool). cond b (closest plain (scaled_place axis q) left) near) (sym other)
    where
      other : eqb near (travel axis q post) ≡ false
      other = fails _ (not_T (eqb near (travel axis q post)) (λ t. h ((same_natural near (travel axis q post)).0 t ∙ sym found)))
