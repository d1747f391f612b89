-- A call that gives something of an accepted job, and refuses every other as reading does.
use Prim.Native.Nat.{ℕ}
use mathlib.Core.Path.{◌≡◌, refl, sym, ap, ◌∙◌}
use mathlib.Core.Logic.{◌↔◌}
use mathlib.Core.List.{List}
use Rattle.refusal.specs.Refusal.{number_of, line_of}
use Rattle.refusal.specs.declared.Refusal.{Refusal}
use Rattle.job.specs.Format.{Job, Result, refused, accepted, read_job}
use Rattle.job.specs.Meaning.{Condition}
use Rattle.job.proofs.Meaning.{refused_job}
use Rattle.calls.specs.Answers.{gives, refuses, refusal, for_accepted}
use Rattle.calls.proofs.AnswerLaws.{same_number, same_line, same_refusal, not_refused}

module _ {A : Type 0} (f : Job → A) (job : List ℕ) where
  pub for_accepted_lem : (j : Job) → read_job job ≡ accepted j → for_accepted f (read_job job) ≡ gives (f j)
  unfolding for_accepted
  for_accepted_lem j e = ap (for_accepted f) e

  pub for_refused : (why : Refusal) → read_job job ≡ refused why → for_accepted f (read_job job) ≡ refusal why
  unfolding for_accepted
  for_refused why e = ap (for_accepted f) e

  -- an answer that refuses, and one that gives something
  pub refused_one : (number line : ℕ) → for_accepted f (read_job job) ≡ refuses number line →
      (why : Refusal) × (read_job job ≡ refused why) × (number ≡ number_of why) × (line ≡ line_of why)
  refused_one number line e = go (read_job job) refl
    where
      go : (r : Result) → read_job job ≡ r → (why : Refusal) × (read_job job ≡ refused why) × (number ≡ number_of why) × (line ≡ line_of why)
      go (refused why) g = let same = sym e ∙ for_refused why g in (why, g, same_number {A = A} _ _ _ _ same, same_line {A = A} _ _ _ _ same)
      go (accepted j) g = absurd (not_refused (f j) number line (sym (for_accepted_lem j g) ∙ e))

  pub refused_listed : (number line : ℕ) → for_accepted f (read_job job) ≡ refuses number line → (why : Refusal)
      × (number ≡ number_of why) × (line ≡ line_of why)
  refused_listed number line e = let (why, g, n, l) = refused_one number line e in (why, n, l)

  pub accepted_one : (a : A) → for_accepted f (read_job job) ≡ gives a → (j : Job) × (read_job job ≡ accepted j)
  accepted_one a e = go (read_job job) refl
    where
      go : (r : Result) → read_job job ≡ r → (j : Job) × (read_job job ≡ accepted j)
      go (refused why) g = absurd (not_refused a (number_of why) (line_of why) (sym e ∙ for_refused why g))
      go (accepted j) g = (j, g)

  pub refused_exactly : (why : Refusal) → (for_accepted f (read_job job) ≡ refusal why) ↔ Condition job why
  refused_exactly why = (
    λ e. let (w, g, n, l) = refused_one (number_of why) (line_of why) e in
        (refused_job job why).0 (g ∙ ap refused (same_refusal w why (sym (for_refused w g) ∙ e))),
    λ c. for_refused why ((refused_job job why).1 c),
  )
