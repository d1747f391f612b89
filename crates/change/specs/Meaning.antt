-- What refuses a change of a deck, and which lists a change leaves where it is made, in plain terms (RULES "Change 6").
use Rattle.std.specs.Prelude.{◌≤◌, ◌≡◌, length}
use mathlib.Core.List.{List, [], ◌∷◌, ◌++◌, Memᴰ}
use Rattle.query.specs.Place.{Place}
use Rattle.query.specs.Deck.{Stop, Deck}
use Rattle.query.specs.Range.{PlaceInRange, StopInRange, posts_limit, stops_limit}
use Rattle.refusal.specs.declared.Refusal.{Refusal}
use Rattle.refusal.specs.declared.Refusal.TheVariants.{OutOfRange, NoPosts, NoStops, NotHeld, Full}
use Rattle.change.specs.Change.{Change, add_post, remove_post, add_stop, remove_stop}

-- ---- the answers
-- the values of a change's item are in range
abbrev pub ItemInRange : Change → Type 0
ItemInRange (add_post p) = PlaceInRange p
ItemInRange (remove_post p) = PlaceInRange p
ItemInRange (add_stop s) = StopInRange s
ItemInRange (remove_stop s) = StopInRange s

-- which refusal a change of a deck meets, by its condition: that of 3 is tested first, so all others ask for values in range, and 5 and 6
-- for an item that the list holds
pub data ChangeApplies (deck : Deck) : Change → Refusal → Type 0 where
  out_of_range : {change : Change} → (ItemInRange change → ⊥) → ChangeApplies deck change (OutOfRange 0)
  no_such_post : {p : Place} → PlaceInRange p → (Memᴰ p deck.posts → ⊥) → ChangeApplies deck (remove_post p) NotHeld
  no_such_stop : {s : Stop} → StopInRange s → (Memᴰ s deck.stops → ⊥) → ChangeApplies deck (remove_stop s) NotHeld
  only_post : {p : Place} → PlaceInRange p → deck.posts ≡ p ∷ [] → ChangeApplies deck (remove_post p) NoPosts
  only_stop : {s : Stop} → StopInRange s → deck.stops ≡ s ∷ [] → ChangeApplies deck (remove_stop s) NoStops
  posts_full : {p : Place} → PlaceInRange p → posts_limit ≤ length deck.posts → ChangeApplies deck (add_post p) Full
  stops_full : {s : Stop} → StopInRange s → stops_limit ≤ length deck.stops → ChangeApplies deck (add_stop s) Full

-- ---- the lists
-- xs without its first x is ys
pub data FirstRemoved {A : Type 0} (x : A) : List A → List A → Type 0 where
  first : (front later : List A) → (Memᴰ x front → ⊥) → FirstRemoved x (front ++ (x ∷ later)) (front ++ later)

-- what a change leaves of the lists of a deck: one is changed, and the other is not
pub data Leaves (before after : Deck) : Change → Type 0 where
  post_added : {p : Place} → after.posts ≡ before.posts ++ (p ∷ []) → after.stops ≡ before.stops → Leaves before after (add_post p)
  post_removed : {p : Place} → FirstRemoved p before.posts after.posts → after.stops ≡ before.stops →
      Leaves before after (remove_post p)
  stop_added : {s : Stop} → after.stops ≡ before.stops ++ (s ∷ []) → after.posts ≡ before.posts → Leaves before after (add_stop s)
  stop_removed : {s : Stop} → FirstRemoved s before.stops after.stops → after.posts ≡ before.posts →
      Leaves before after (remove_stop s)
