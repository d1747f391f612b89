-- Answers: a refusal's number and line tell which it is, and what is given is no refusal.
use Prim.Native.Nat.{ℕ}
use mathlib.Core.Path.{◌≡◌, ap}
use native.Mathlib.Omega.{arith}
use Rattle.refusal.specs.declared.Refusal.{Refusal}
use Rattle.refusal.proofs.Numbers.{number_and_line_lem}
use Rattle.calls.specs.Answers.{AnswerOf, gives, refuses, refusal}

module _ {A : Type 0} where
  abbrev number_in : AnswerOf A → ℕ
  number_in (gives a) = 0
  number_in (refuses number line) = number

  abbrev line_in : AnswerOf A → ℕ
  line_in (gives a) = 0
  line_in (refuses number line) = line

  abbrev given_in : A → AnswerOf A → A
  given_in other (gives a) = a
  given_in other (refuses number line) = other

  abbrev is_given : AnswerOf A → ℕ
  is_given (gives a) = 1
  is_given (refuses number line) = 0

  pub same_number : (n l n' l' : ℕ) → ◌≡◌ {A = AnswerOf A} (refuses n l) (refuses n' l') → n ≡ n'
  same_number n l n' l' e = ap number_in e

  pub same_line : (n l n' l' : ℕ) → ◌≡◌ {A = AnswerOf A} (refuses n l) (refuses n' l') → l ≡ l'
  same_line n l n' l' e = ap line_in e

  pub same_refusal : (why why' : Refusal) → ◌≡◌ {A = AnswerOf A} (refusal why) (refusal why') → why ≡ why'
  same_refusal why why' e = number_and_line_lem why why' (ap number_in e) (ap line_in e)

  pub same_given : (a b : A) → gives a ≡ gives b → a ≡ b
  same_given a b e = ap (given_in a) e

  pub not_refused : (a : A) (number line : ℕ) → gives a ≡ refuses number line → ⊥
  not_refused a number line e = let z : ◌≡◌ {A = ℕ} 1 0 = ap is_given e in omega arith
