-- Which refusals each call can give, by their numbers (RULES "Refusals", "Calls").
use Rattle.std.specs.Prelude.{ℕ, ◌≡◌, ◌↔◌, ℤ, pos, neg_ℤ}
use mathlib.Core.List.{List, [], ◌∷◌, ◌++◌, Memᴰ}
use Rattle.query.specs.Place.{Place}
use Rattle.query.specs.Deck.{Stop}
use Rattle.deck.specs.declared.Deck.{Deck}
use Rattle.report.specs.Text.{refusal_text}
use Rattle.change.specs.Change.{add_post, remove_post, add_stop, remove_stop}
use Rattle.calls.specs.Answers.{AnswerOf, refuses}
use Rattle.calls.specs.Call.{report_call}
use Rattle.calls.specs.Entry.{entry}
use Rattle.calls.specs.Program.{answer_text}
use Rattle.calls.specs.CheapestCall.{exhaustive_call}
use Rattle.calls.specs.EstimateCall.{estimate_call}
use Rattle.calls.specs.ReadCall.{read_call}
use Rattle.calls.specs.WriteCall.{write_call}
use Rattle.calls.specs.ChangeCall.{change_call}

-- the refusals of a job's text, and with that of its size the job's own ones, which are those of reading it. A later one is added here
abbrev pub text_refusals : List ℕ
text_refusals = 2 ∷ 3 ∷ 4 ∷ 5 ∷ 6 ∷ []

abbrev pub own_refusals : List ℕ
own_refusals = 1 ∷ text_refusals

-- an answer is a refusal with this number
abbrev pub Refuses : {A : Type 0} → AnswerOf A → ℕ → Type 0
Refuses answer number = (line : ℕ) × (answer ≡ refuses number line)

-- a call can give the numbers of this list, and no others
abbrev pub Exactly : List ℕ → (ℕ → Type 0) → Type 0
Exactly numbers CanGive = (number : ℕ) → CanGive number ↔ Memᴰ number numbers

-- a call can give a number where something that it is given or lent is answered by it. That it can be something that the code can hold,
-- the rows show (RefusalTable.antt, WriteTable.antt, ChangeTable.antt)
pub record CallRefusals : Type 0 where
  -- of a job; the C entry tells the number by its result, and the program by its text
  pub report : Exactly (own_refusals ++ (7 ∷ 8 ∷ []))
      (λ number. (job : List ℕ) × (cells : List ℤ) × (out : List ℕ) × Refuses (report_call job cells out).answer number)
  pub entry : Exactly (own_refusals ++ (8 ∷ []))
      (λ number. (job : List ℕ) × (out : List ℕ) × ((entry job out).result ≡ neg_ℤ (pos number)))
  pub program : Exactly own_refusals (λ number. (job : List ℕ) × (line : ℕ) × (answer_text job ≡ refusal_text number line))
  pub exhaustive : Exactly own_refusals (λ number. (job : List ℕ) × Refuses (exhaustive_call job) number)
  pub estimate : Exactly own_refusals (λ number. (job : List ℕ) × Refuses (estimate_call job) number)
  pub read : Exactly own_refusals (λ number. (job : List ℕ) × Refuses (read_call job) number)
  -- of a record, whatever it holds
  pub write : Exactly (text_refusals ++ (8 ∷ []))
      (λ number. (deck : Deck) × (rounds : ℕ) × (out : List ℕ) × Refuses (write_call deck rounds out).answer number)
  pub add_post : Exactly (3 ∷ 10 ∷ [])
      (λ number. (deck : Deck) × (post : Place) × Refuses (change_call deck (add_post post)).answer number)
  pub remove_post : Exactly (3 ∷ 5 ∷ 9 ∷ [])
      (λ number. (deck : Deck) × (post : Place) × Refuses (change_call deck (remove_post post)).answer number)
  pub add_stop : Exactly (3 ∷ 10 ∷ [])
      (λ number. (deck : Deck) × (stop : Stop) × Refuses (change_call deck (add_stop stop)).answer number)
  pub remove_stop : Exactly (3 ∷ 6 ∷ 9 ∷ [])
      (λ number. (deck : Deck) × (stop : Stop) × Refuses (change_call deck (remove_stop stop)).answer number)
