-- Posts and stops as items of a list (RULES "Change 6"): equal ones, the first of these, and a list and an array without it.
use Rattle.std.specs.Prelude.{ℕ, suc, Bool, cond, ◌&&◌, List, [], ◌∷◌, ◌++◌, eqb, take, drop, Option, Some, None}
use Rattle.numbers.specs.Integer.{eq_z}
use Rattle.numbers.specs.Lists.{keep, non_empty}
use Rattle.query.specs.Place.{Place}
use Rattle.query.specs.Deck.{Stop}

-- items with equal values
abbrev pub is_same_place : Place → Place → Bool
is_same_place p q = eq_z p.x q.x && eq_z p.y q.y

abbrev pub is_same_stop : Stop → Stop → Bool
is_same_stop s t = is_same_place s.at t.at && eqb s.visits t.visits

-- a list without the first element that passes a test
unfoldable pub remove_first : {A : Type 0} → (A → Bool) → List A → List A
remove_first same [] = []
remove_first same (x ∷ xs) = let later = x ∷ remove_first same xs in cond (same x) xs later

-- whether an element passes a test
abbrev pub held : {A : Type 0} → (A → Bool) → List A → Bool
held same xs = non_empty (keep same xs)

-- how many elements stand before the first that passes a test
unfoldable pub first_place : {A : Type 0} → (A → Bool) → List A → ℕ
first_place same [] = 0
first_place same (x ∷ xs) = let later = suc (first_place same xs) in cond (same x) 0 later

-- the place of the first element that passes a test; none where no element does
abbrev pub first_found : {A : Type 0} → (A → Bool) → List A → Option ℕ
first_found same xs = cond (held same xs) (Some (first_place same xs)) None

-- an array without element i of its first n: those behind it are one place further in front, and z is where the last of them was
unfoldable pub taken_out_at : {A : Type 0} → ℕ → ℕ → A → List A → List A
taken_out_at n i z xs = take i xs ++ (drop (suc i) (take n xs) ++ (z ∷ drop n xs))
