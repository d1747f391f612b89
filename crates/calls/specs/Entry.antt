-- What the C entry returns, and what it leaves in the output (RULES "Calls").
use Rattle.std.specs.Prelude.{ℕ, List, ℤ, pos, neg_ℤ, length}
use Rattle.query.specs.Figures.{Figures}
use Rattle.report.specs.Text.{report_text}
use Rattle.calls.specs.Answers.{AnswerOf, gives, refuses}
use Rattle.calls.specs.Call.{Left, report_call, own_space}

pub record Returned : Type 0 where
  pub result : ℤ
  pub out : List ℕ

-- the bytes written, or minus the number of a refusal, whose line it does not tell
unfoldable pub result_of : AnswerOf Figures → ℤ
unfolding report_text
result_of (gives f) = pos (length (report_text f))
result_of (refuses number line) = neg_ℤ (pos number)

abbrev pub returned : Left → Returned
returned left = record { result = result_of left.answer; out = left.out }

unfoldable pub entry : List ℕ → List ℕ → Returned
unfolding report_call result_of
entry job out = returned (report_call job own_space out)
