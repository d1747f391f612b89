-- What the program prints (RULES "Calls", "Report").
use Rattle.std.specs.Prelude.{ℕ, List, replicate}
use Rattle.query.specs.Figures.{Figures}
use Rattle.report.specs.Limits.{output_size}
use Rattle.report.specs.Text.{report_text, refusal_text}
use Rattle.calls.specs.Answers.{AnswerOf, gives, refuses}
use Rattle.calls.specs.Call.{report_call, own_space}

unfoldable pub text_of : AnswerOf Figures → List ℕ
unfolding report_text refusal_text
text_of (gives f) = report_text f
text_of (refuses number line) = refusal_text number line

-- of its input: the answer of the call that is lent enough for every job
unfoldable pub answer_text : List ℕ → List ℕ
unfolding report_call text_of
answer_text job = text_of (report_call job own_space (replicate output_size 0)).answer
