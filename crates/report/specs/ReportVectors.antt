-- Rows of printed text (RULES "Report", "Numbers"), byte by byte: the report of case A, reports of long figures, and refusals.
use Rattle.std.specs.Prelude.{◌≡◌, pos, negsuc}
use Rattle.query.specs.Place.{Place}
use Rattle.query.specs.Figures.{figures, done, stopped}
use Rattle.query.specs.Marked.{deck_a, report}
use Rattle.text.specs.Ascii.{bytes}
use Rattle.report.specs.Text.{report_text, refusal_text}

-- `negsuc n` is -(n + 1)
abbrev pub here : Place
here = record { x = negsuc 19379; y = pos 18075 }

pub record ReportVectors : Type 0 where
  pub case_a_law : report_text (figures deck_a 10) ≡ bytes "state=done\nat=4,3\nhigh=13\nlow=13\nbefore=34\nrounds=3\n"
  pub case_a_0 : report_text (figures deck_a 0) ≡ bytes "state=stopped\nat=8,8\nhigh=18\nlow=4\nbefore=34\nrounds=0\n"
  -- figures of seven digits and more, each digit unlike those beside it, and the largest cost with a low of 0
  pub seven_digits : report_text (report stopped here 7654321 (pos 1236548) 9081726 987)
      ≡ bytes "state=stopped\nat=-19380,18075\nhigh=7654321\nlow=1236548\nbefore=9081726\nrounds=987\n"
  pub ten_digits : report_text (report stopped here 1203948576 (pos 1098765432) 8405061703 102)
      ≡ bytes "state=stopped\nat=-19380,18075\nhigh=1203948576\nlow=1098765432\nbefore=8405061703\nrounds=102\n"
  pub most_digits : report_text (report done here 24158269830415 (pos 24158269830415) 3170598264031 1000)
      ≡ bytes "state=done\nat=-19380,18075\nhigh=24158269830415\nlow=24158269830415\nbefore=3170598264031\nrounds=1000\n"
  pub largest_cost : report_text (report stopped here 24158822400000 (pos 0) 24158822400000 0)
      ≡ bytes "state=stopped\nat=-19380,18075\nhigh=24158822400000\nlow=0\nbefore=24158822400000\nrounds=0\n"
  pub too_long : refusal_text 1 0 ≡ bytes "refused=1\nline=0\n"
  pub malformed : refusal_text 2 12 ≡ bytes "refused=2\nline=12\n"
  pub full : refusal_text 10 0 ≡ bytes "refused=10\nline=0\n"
