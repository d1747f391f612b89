-- Of a job that is too long its first bytes, if they are too many, are answered as all of it.
use Rattle.std.proofs.Common.{◌≡◌, ◌≤◌, ◌<◌, List, ℕ, arith, length, take, sym, ◌∙◌, length-take-le}
use Rattle.refusal.specs.declared.Refusal.TheVariants.{TooLong}
use Rattle.job.specs.Format.{size_limit}
use Rattle.job.specs.Meaning.{too_long}
use Rattle.calls.specs.Program.{answer_text}
use Rattle.calls.proofs.ProgramLaw.{program_law}

pub first_bytes : (job : List ℕ) (n : ℕ) → size_limit < n → n ≤ length job → answer_text (take n job) ≡ answer_text job
first_bytes job n many within = (program_law (take n job)).refusal TooLong (too_long (omega (arith, many, length-take-le n job within)))
    ∙ sym ((program_law job).refusal TooLong (too_long (omega (arith, many, within))))
