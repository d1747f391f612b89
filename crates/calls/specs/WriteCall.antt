-- What the call `write` answers for any record of a deck and any rounds, and what it leaves in the output (RULES "Change 1").
use Rattle.std.specs.Prelude.{ℕ, cond, List, ltb, length}
use Rattle.deck.specs.declared.Deck.{Deck}
use Rattle.job.specs.Format.{Result, refused, accepted, job_lines, checked, read_text}
use Rattle.job.specs.File.{file_text}
use Rattle.refusal.specs.declared.Refusal.{Refusal}
use Rattle.refusal.specs.declared.Refusal.TheVariants.{ShortOutput}
use Rattle.write.specs.Written.{overwritten}
use Rattle.calls.specs.Answers.{AnswerOf, gives, refusal}

-- the bytes written, or a refusal; and the output
pub record Saved : Type 0 where
  pub answer : AnswerOf ℕ
  pub out : List ℕ

abbrev pub not_saved : Refusal → List ℕ → Saved
not_saved why out = record { answer = refusal why; out = out }

-- of a file and how its text is read: the refusal of the text, or 8 where it does not fit, or the file at the start of the output
unfoldable pub saved_as : Result → List ℕ → List ℕ → Saved
unfolding overwritten
saved_as (refused why) text out = not_saved why out
saved_as (accepted job) text out =
    cond (ltb (length out) (length text)) (not_saved ShortOutput out) (record { answer = gives (length text); out = overwritten text out })

-- the text is read whatever its length, so a record is refused as its file would be, but never by 1
unfoldable pub write_call : Deck → ℕ → List ℕ → Saved
unfolding job_lines checked file_text saved_as
write_call deck rounds out = let text = file_text deck rounds in saved_as (read_text text) text out
