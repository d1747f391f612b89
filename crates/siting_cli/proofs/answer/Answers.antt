-- What `siting_cli::answer` owes.
use Rattle.siting_cli.proofs.answer.Goals as goal
use Rattle.std.proofs.Common.{arith, ◌≡◌, ℕ, ◌+◌, length, sym, ap, ◌∙◌, take, subst, length-take-le}
use Rattle.std.proofs.lemmas.List.{length-replicate}
use Rattle.std.specs.Io.KnownBytes.{Appends}
use Rattle.job.specs.Format.{size_limit}
use Rattle.calls.specs.Program.{answer_text}
use Rattle.siting_cli.specs.Output.{count_in}
use Rattle.siting_cli.proofs.OutputLaws.{all_lem, of_ok}

pub returns-in-Whole-clause-whole : goal.returns-in-Whole-clause-whole
returns-in-Whole-clause-whole g c =
    let read = c.read_full.ensures in
    let buf = c.read_full.new.buf in
    let size : length buf ≡ size_limit + 1 = read.same ∙ length-replicate {A = ℕ} (size_limit + 1) 0 in
    let count : count_in c.read_full.result ≡ c.in-Whole.count = ap count_in c.in-Whole.is in
    of_ok c.write_answer.result (λ written. all_lem _ _ _ _ _ (λ few. read.end c.in-Whole.count c.in-Whole.is (λ e. omega (
      arith,
      few,
      e,
      size,
      count,
      length-take-le (count_in c.read_full.result) buf read.bound,
    ))) read.bytes (subst (Appends _ _) (ap (λ n. answer_text (take n buf)) (sym count)) (c.write_answer.ensures written)))
