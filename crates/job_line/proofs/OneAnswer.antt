-- Each public contract of this crate leaves one answer: it is had back from the reading that it stands for, so that two answers that meet the contract are the
-- same, wherever what is left of the text lies.
use mathlib.Core.Path.{◌≡◌, refl, sym, ap, ◌∙◌}
use mathlib.Core.List.{List}
use Prim.Native.Nat.{ℕ}
use lib.IntN.{ℤ, pos, nat_abs}
use lib.ListN.{get_or}
use Rattle.std.specs.Prelude.{Result, Ok, Err}
use Rattle.deck.specs.declared.AxisCosts.{AxisCosts}
use Rattle.deck.specs.declared.Place.{Place}
use Rattle.deck.specs.declared.Rect.{Rect}
use Rattle.deck.specs.declared.Stop.{Stop}
use Rattle.refusal.specs.declared.Refusal.{Refusal}
use Rattle.job_line.specs.Kinds.{Row}
use Rattle.job_line.specs.OneLine.{Reading, fault, got}
use Rattle.job_line.specs.Reading.{reading_of, LineAt}
use Rattle.job_line.specs.Reading.{area_numbers, cost_numbers, count_numbers, place_numbers, stop_numbers}
use Rattle.job_line.specs.declared.Unread.{Unread}

-- an answer with the text that is left in place of the reference to it
abbrev seen : {A : Type 0} → Result (A × Unread) Refusal → Result (A × ℕ × List ℕ) Refusal
seen (Ok r) = Ok (r.0, r.1.line, r.1.text.now)
seen (Err why) = Err why

-- what was read is had back from its numbers
module _ {A : Type 0} (numbers : A → List ℤ) (of : List ℤ → A) (back : (a : A) → of (numbers a) ≡ a) where
  abbrev answer : A → ℕ → List ℕ → Result (A × ℕ × List ℕ) Refusal
  answer a n bs = Ok (a, n, bs)

  abbrev answer_back : Reading (List ℤ) → Result (A × ℕ × List ℕ) Refusal
  answer_back (fault why) = Err why
  answer_back (got ns n bs) = answer (of ns) n bs

  answer_back_lem : (r : Result (A × Unread) Refusal) → answer_back (reading_of numbers r) ≡ seen r
  answer_back_lem (Ok r) = ap (λ a. answer a r.1.line r.1.text.now) (back r.0)
  answer_back_lem (Err why) = refl

  one : {row : Row} {unread : Unread} (r r' : Result (A × Unread) Refusal) → LineAt row unread (reading_of numbers r) →
      LineAt row unread (reading_of numbers r') → seen r ≡ seen r'
  one r r' p q = sym (answer_back_lem r) ∙ ap answer_back (p.is ∙ sym q.is) ∙ answer_back_lem r'

abbrev number : List ℤ → ℕ → ℤ
number ns i = get_or ns i (pos 0)

abbrev place_of : List ℤ → Place
place_of ns = record { x = number ns 0; y = number ns 1 }

module _ {row : Row} {unread : Unread} where
  pub one_area : (r r' : Result (Rect × Unread) Refusal) → LineAt row unread (reading_of area_numbers r) → LineAt row unread (reading_of area_numbers r') →
      seen r ≡ seen r'
  one_area = one area_numbers (λ ns. record { xlo = number ns 0; ylo = number ns 1; xhi = number ns 2; yhi = number ns 3 }) (λ a. refl)

  pub one_axis : (r r' : Result (AxisCosts × Unread) Refusal) → LineAt row unread (reading_of cost_numbers r) →
      LineAt row unread (reading_of cost_numbers r') → seen r ≡ seen r'
  one_axis = one cost_numbers (λ ns. record { a = nat_abs (number ns 0); b = nat_abs (number ns 1) }) (λ c. refl)

  pub one_count : (r r' : Result (ℕ × Unread) Refusal) → LineAt row unread (reading_of count_numbers r) → LineAt row unread (reading_of count_numbers r') →
      seen r ≡ seen r'
  one_count = one count_numbers (λ ns. nat_abs (number ns 0)) (λ count. refl)

  pub one_post : (r r' : Result (Place × Unread) Refusal) → LineAt row unread (reading_of place_numbers r) → LineAt row unread (reading_of place_numbers r') →
      seen r ≡ seen r'
  one_post = one place_numbers place_of (λ p. refl)

  pub one_stop : (r r' : Result (Stop × Unread) Refusal) → LineAt row unread (reading_of stop_numbers r) → LineAt row unread (reading_of stop_numbers r') →
      seen r ≡ seen r'
  one_stop = one stop_numbers (λ ns. record { at = place_of ns; visits = nat_abs (number ns 2) }) (λ p. refl)
