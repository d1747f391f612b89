-- A job that was opened: what the record says of the bytes, and of the deck that they spell.
use mathlib.Core.Path.{◌≡◌, refl, sym, ap, ◌∙◌}
use mathlib.Core.Bool.{Bool, true, false, cond}
use mathlib.Core.List.{List}
use Prim.Native.Nat.{ℕ, ◌≤◌}
use native.Mathlib.Omega.{arith}
use Rattle.std.specs.Prelude.{Ok, Err, Option, Some, None}
use Rattle.std.specs.Prelude as Std
use Rattle.std.specs.Option.{option_map}
use Rattle.std.specs.Result.{result_ok}
use Rattle.refusal.specs.declared.Refusal.{Refusal}
use Rattle.job.specs.Format.{Job, Result, refused, accepted, read_job}
use Rattle.job.specs.JobRecord.{job_result}
use Rattle.job.specs.declared.Job as Held
use Rattle.job.proofs.JobLaws.{most_rounds}
use Rattle.job.proofs.Meaning.{accepted_job}
use Rattle.deck.specs.DeckOf.{deck_of, deck_record}
use Rattle.deck.specs.Sound.{Sound}
use Rattle.deck.proofs.DeckLaws.{held_deck}
use Rattle.job.proofs.ReadDeck.{Spelt, read_accepted, read_deck, read_deck_of, read_sound, read_rounds}
use Rattle.prepare.specs.declared.PreparedJob.{PreparedJob}
use Rattle.prepare.specs.ProblemRecord.{parts_in, problem_record, given_by, given_for}
use Rattle.prepare.proofs.JobProblem.{spelt, problem_same, given_refused}
use Rattle.lines.specs.LineRecord.{grid_of}
use Rattle.query.specs.Grid.{grid}
use Rattle.columns.specs.Objects.{pricing_of}
use Rattle.reach.specs.Held.{pricing_of_objects}
use Rattle.priced_place.specs.Prepared.{Prepared}
use Rattle.priced_place.proofs.DeckProblem.{made_prepared, prepared_pricing, prepared_grid}
use Rattle.numbers.proofs.Words.{is_true}
use Rattle.query.specs.Place.{Rect}
use Rattle.query.specs.Range.{rounds_limit}
use Rattle.reach.specs.Columns.{Ranged}
use Rattle.trial.specs.Ranges.{rect_allowed}
use Rattle.trial.proofs.RectLaws.{rect_range}
use Rattle.trial.specs.Opened.{OpenedParts, parts_of, opened_deck, opened_record}
use Rattle.trial.specs.Trial.{on_job}
use Rattle.trial.specs.declared.opened.Opened.{Opened}

-- the rounds of an accepted job
pub rounds_read : (bytes : List ℕ) (r : Std.Result Held.Job Refusal) (e : r ≡ job_result (read_job bytes)) (j : Held.Job) (f : r ≡ Ok j) →
    (j.rounds ≤ rounds_limit) × (j.rounds ≡ (read_accepted bytes j (sym f ∙ e)).job.rounds)
rounds_read bytes r e j f =
    let s = read_accepted bytes j (sym f ∙ e) in
    let g = read_rounds bytes j (sym f ∙ e) s in
    (omega (arith, g, most_rounds s.allowed.writable), g)

-- ---- an `Ok` as an `Option`
pub ok_none : {A E : Type 0} (r : Std.Result A E) → result_ok r ≡ None → (why : E) × (r ≡ Err why)
ok_none (Ok a) e = cc
ok_none (Err why) e = (why, refl)

pub ok_some : {A E : Type 0} (r : Std.Result A E) (a : A) → result_ok r ≡ Some a → r ≡ Ok a
ok_some (Ok b) a e = cc
ok_some (Err why) a e = cc

-- ---- a job that was read, and what preparing it gives
module _ (bytes : List ℕ) (q : Std.Result PreparedJob Refusal) (f : given_by q ≡ given_for (read_job bytes)) where
  pub unprepared : (why : Refusal) → q ≡ Err why → None ≡ opened_record (read_job bytes)
  unfolding opened_record
  unprepared why o = sym (ap opened_record (given_refused bytes why (sym (ap given_by o) ∙ f)))

  module _ (g : PreparedJob) (o : q ≡ Ok g) (r : Std.Result Held.Job Refusal) (e : r ≡ job_result (read_job bytes)) where
    given : Ok (record { rounds = g.rounds; before = g.before; problem = parts_in g.problem }) ≡ given_for (read_job bytes)
    given = sym (ap given_by o) ∙ f

    pub read_too : (why : Refusal) → r ≡ Err why → ⊥
    unfolding job_result
    read_too why k = let same = e ∙ ap job_result (spelt bytes g given).read in cc

    module _ (j : Held.Job) (k : r ≡ Ok j) where
      read : Ok j ≡ job_result (read_job bytes)
      read = sym k ∙ e

      pub opened_sound : Sound j.deck
      opened_sound = read_sound (spelt bytes g given) j read

      pub opened_problem : parts_in g.problem ≡ problem_record (deck_of j.deck)
      opened_problem = problem_same bytes g given ∙ ap problem_record (sym (read_deck_of (spelt bytes g given) j read))

      pub opened : Some (record { deck = j.deck; problem = parts_in g.problem }) ≡ opened_record (read_job bytes)
      unfolding opened_record opened_deck
      opened =
          let s = spelt bytes g given in
          let deck = read_deck bytes j read s in
          let problem = problem_same bytes g given in
          (λ i. Some (record { deck = deck i; problem = problem i })) ∙ sym (ap opened_record s.read)

-- ---- the objects and the lines of a problem are those of the deck that is held
module _ (o : Opened) where
  abbrev prepared : Prepared o.problem
  prepared = made_prepared (deck_of o.deck) o.sound.range o.sound.full o.problem o.problem_is

  pub whole_pricing : pricing_of_objects o.problem.objects ≡ pricing_of (deck_of o.deck)
  whole_pricing = prepared_pricing prepared

  pub whole_grid : grid_of o.problem.vertical o.problem.horizontal ≡ grid (deck_of o.deck)
  whole_grid = prepared_grid prepared

-- ---- what `open_job` answers
some_none : {P : Type 0} {k : OpenedParts} → Some k ≡ None → P
some_none e = cc

same_some : {k m : OpenedParts} → ◌≡◌ {A = Option OpenedParts} (Some k) (Some m) → k ≡ m
same_some e = cc

-- what was opened of an accepted job
pub record Open (bytes : List ℕ) (o : Opened) : Type 0 where
  pub job : Spelt bytes
  pub is : parts_of o ≡ opened_deck job.job.deck

module _ (bytes : List ℕ) (r : Option Opened) (e : option_map parts_of r ≡ opened_record (read_job bytes)) where
  pub open_accepted : (o : Opened) → r ≡ Some o → Open bytes o
  unfolding opened_record
  open_accepted o f = go (read_job bytes) refl (sym (ap (option_map parts_of) f) ∙ e)
    where
      go : (q : Result) → read_job bytes ≡ q → Some (parts_of o) ≡ opened_record q → Open bytes o
      go (refused why) p g = some_none g
      go (accepted job) p g = record { job = record { job = job; read = p; allowed = ((accepted_job bytes job).0 p).2 }; is = same_some g }

  pub open_refused : {A : Type 0} (none : A) (f : Job → A) → r ≡ None → none ≡ on_job none f (read_job bytes)
  unfolding opened_record
  open_refused none f g = go (read_job bytes) (sym (ap (option_map parts_of) g) ∙ e)
    where
      go : (q : Result) → None ≡ opened_record q → none ≡ on_job none f q
      go (refused why) h = refl
      go (accepted job) h = some_none (sym h)

module _ {bytes : List ℕ} {o : Opened} (w : Open bytes o) where
  pub open_held : o.deck ≡ deck_record w.job.job.deck
  unfolding opened_deck
  open_held = ap (λ (k : OpenedParts). k.deck) w.is

  pub open_deck : deck_of o.deck ≡ w.job.job.deck
  open_deck = ap deck_of open_held ∙ held_deck w.job.job.deck

  pub open_problem : parts_in o.problem ≡ problem_record w.job.job.deck
  unfolding opened_deck
  open_problem = ap (λ (k : OpenedParts). k.problem) w.is

-- a figure of the job, where the place or rectangle is allowed and where it is not
pub on_job_lem : {A : Type 0} {bytes : List ℕ} (none : A) (f : Job → A) (s : Spelt bytes) → f s.job ≡ on_job none f (read_job bytes)
on_job_lem none f s = sym (ap (on_job none f) s.read)

pub inside : {A : Type 0} {bytes : List ℕ} (none : A) (b : Bool) (f : Job → A) (s : Spelt bytes) → b ≡ true →
    f s.job ≡ on_job none (λ job. cond b (f job) none) (read_job bytes)
inside none b f s e = rw e (on_job_lem none f s)

pub outside : {A : Type 0} (none : A) (b : Bool) (f : Job → A) (r : Result) → b ≡ false → none ≡ on_job none (λ job. cond b (f job) none) r
outside none b f (refused why) e = refl
outside none b f (accepted job) e = rw e

-- ---- a job that was opened for a rectangle that is allowed
pub record OpenIn (bytes : List ℕ) (rect : Rect) (o : Opened) : Type 0 where
  pub opened : Open bytes o
  pub allowed : rect_allowed rect ≡ true
  pub ranged : Ranged rect

module _ (rect : Rect) (bytes : List ℕ) (r : Option Opened)
    (e : option_map parts_of r ≡ cond (rect_allowed rect) (opened_record (read_job bytes)) None) where
  by_test : (b : Bool) → rect_allowed rect ≡ b → option_map parts_of r ≡ cond b (opened_record (read_job bytes)) None
  by_test b on = e ∙ ap (λ (b : Bool). cond b (opened_record (read_job bytes)) None) on

  pub open_in : (o : Opened) → r ≡ Some o → OpenIn bytes rect o
  open_in o f = go (rect_allowed rect) refl
    where
      go : (b : Bool) → rect_allowed rect ≡ b → OpenIn bytes rect o
      go true on = record {
        opened = open_accepted bytes r (by_test true on) o f;
        allowed = on;
        ranged = (rect_range rect).0 (is_true _ on);
      }
      go false off = some_none (sym (ap (option_map parts_of) f) ∙ by_test false off)

  -- where it is refused or not allowed
  pub none_in : {A : Type 0} (none : A) (f : Job → A) → r ≡ None → none ≡ on_job none (λ job. cond (rect_allowed rect) (f job) none) (read_job bytes)
  none_in none f g = go (rect_allowed rect) refl
    where
      go : (b : Bool) → rect_allowed rect ≡ b → none ≡ on_job none (λ job. cond (rect_allowed rect) (f job) none) (read_job bytes)
      go true on = rw on (open_refused bytes r (by_test true on) none f g)
      go false off = outside none (rect_allowed rect) f (read_job bytes) off
