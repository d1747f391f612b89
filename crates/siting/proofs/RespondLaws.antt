-- A search and the text of its report make up the call `report`.
use Prim.Native.Nat.{ℕ, ◌+◌, ◌*◌, ◌≤◌, ◌<◌}
use mathlib.Core.Path.{◌≡◌, refl, sym, ap, ap₂, subst, ◌∙◌}
use mathlib.Core.List.{List, [], ◌∷◌}
use native.Mathlib.Omega.{arith}
use mir.Syntax.{w64}
use mir.ValLaws.{to_z-of_z}
use lib.IntN.{ℤ, pos}
use lib.ListN.{length, length-replicate}
use Rattle.numbers.specs.Padded.{padded}
use Rattle.numbers.proofs.Integer.{order, abs_range}
use Rattle.numbers.proofs.Words.{word_fits}
use Rattle.numbers.proofs.WordTests.{back}
use Rattle.query.specs.Deck as Query
use Rattle.query.specs.Problem.{Problem, problem}
use Rattle.query.specs.Order.{Cell}
use Rattle.query.specs.Search.{run}
use Rattle.query.specs.Figures as Figures
use Rattle.query.specs.Figures.{figures, figures_of}
use Rattle.query.specs.Estimate as Estimate
use Rattle.query.specs.Space.{all_numbers, space, space_needed}
use Rattle.query.specs.Cost.{before}
use Rattle.query.specs.Range.{rounds_limit, cost_limit, InRange, FiguresInRange}
use Rattle.query.proofs.EstimateLaws.{needs_most}
use Rattle.query.proofs.SpaceLaws.{space_law}
use Rattle.query.proofs.Ranges.{figure_limits}
use Rattle.query.proofs.FigureRanges.{run_in_range}
use Rattle.job.specs.Format.{Job, accepted, read_job}
use Rattle.std.specs.Prelude.{Ok, Err}
use Rattle.std.specs.Prelude as Std
use Rattle.job.proofs.ReadDeck.{Spelt, spelt_range}
use Rattle.refusal.specs.declared.Refusal.{Refusal}
use Rattle.refusal.specs.declared.Refusal.TheVariants.{SmallSpace, ShortOutput}
use Rattle.reach.specs.Held.{pricing_of_objects}
use Rattle.pricing.specs.ObjectFigures.{before_of, Figure}
use Rattle.pricing.proofs.ObjectLaws.{before_law}
use Rattle.prepare.specs.declared.Problem as Held
use Rattle.prepare.specs.declared.PreparedJob.{PreparedJob}
use Rattle.prepare.specs.ProblemRecord.{given_by, given_for}
use Rattle.prepare.proofs.JobProblem.{spelt, rounds_same, rounds_limit_lem, before_same, problem_same}
use Rattle.priced_place.specs.Prepared.{problem_of, Prepared}
use Rattle.priced_place.proofs.DeckProblem.{prepared_pricing, prepared_problem, made_prepared}
use Rattle.report.specs.Limits.{output_size}
use Rattle.report.specs.Report.{report_state, report_figures}
use Rattle.report.specs.Text.{report_text}
use Rattle.write.specs.Written.{overwritten}
use Rattle.report.specs.declared.Report.{Report}
use Rattle.report.specs.declared.State.{State}
use Rattle.report.proofs.Fits.{report_fits}
use Rattle.search.specs.Answer.{is_done, found_of}
use Rattle.search.specs.declared.run.Found.{Found}
use Rattle.calls.specs.declared.Estimate as Calls
use Rattle.calls.specs.Answers.{gives, estimate_numbers}
use Rattle.calls.specs.Call.{Left, turned_down, reported, answered, report_call, own_space}
use Rattle.calls.proofs.Promises.{more_rounds, call_of, small_answer, short_answer, report_answer_lem}
use Rattle.estimate.specs.LineCounts.{estimate_by}
use Rattle.estimate.proofs.EstimateLaws.{deck_estimate}
use Rattle.siting.specs.declared.Response.{Response}
use Rattle.siting.specs.Response.{state_for, Reported, Responded, RespondedAlone}

-- ---- the report of what is found
state_is : (cells : List Cell) → report_state (state_for (is_done cells)) ≡ Figures.state_of cells
state_is [] = refl
state_is (c ∷ cs) = refl

found_report : (Q : Problem) (n : ℕ) (f : Found) (state : State) (b : ℕ) → f ≡ found_of (run Q n) → state ≡ state_for f.done → report_figures (record {
  state = state;
  x = f.best.at.x;
  y = f.best.at.y;
  high = f.best.cost;
  low = f.low;
  before = b;
  rounds = f.cuts;
}) ≡ figures_of b (run Q n)
unfolding figures_of found_of
found_report Q n f state b e s = rw (s, e, state_is (run Q n).live)

module _ {p : Held.Problem} (prepared : Prepared p) (n : ℕ) where
  figures_range : FiguresInRange n (figures prepared.deck n)
  figures_range = (run_in_range prepared.deck prepared.range prepared.full n).figures_range

  -- the signed fields of an answer, as the code holds them
  module _ (f : Found) (e : f ≡ found_of (run (problem_of p) n)) where
    found : f ≡ found_of (run (problem prepared.deck) n)
    found = e ∙ ap (λ (q : Problem). found_of (run q n)) (prepared_problem prepared)

    place_x : back f.best.at.x ≡ f.best.at.x
    unfolding figures figures_of found_of
    place_x = to_z-of_z w64 f.best.at.x (word_fits w64 f.best.at.x (rw found (omega (arith, figures_range.place.x_range))))

    place_y : back f.best.at.y ≡ f.best.at.y
    unfolding figures figures_of found_of
    place_y = to_z-of_z w64 f.best.at.y (word_fits w64 f.best.at.y (rw found (omega (arith, figures_range.place.y_range))))

    low_word : back f.low ≡ f.low
    unfolding figures figures_of found_of
    low_word = let few = (abs_range f.low cost_limit).1 (rw found (omega (arith, order, figures_range.low_some, figures_range.low_limit))) in
        to_z-of_z w64 f.low (word_fits w64 f.low (omega (arith, few)))

    pub found_figures : (state : State) (b : ℕ) → state ≡ state_for f.done → report_figures (record {
      state = state;
      x = back f.best.at.x;
      y = back f.best.at.y;
      high = f.best.cost;
      low = back f.low;
      before = b;
      rounds = f.cuts;
    }) ≡ figures_of b (run (problem_of p) n)
    found_figures state b t = rw (place_x, place_y, low_word) (found_report (problem_of p) n f state b e t)

-- ---- respond
pub respond_refused : (call : Left) (cells : List ℤ) (out : List ℕ) (why : Refusal) → call ≡ turned_down why cells out →
    Responded call out cells out (Err why)
unfolding overwritten
respond_refused call cells out why e = record {
  left = sym e;
  filled = record { number = refl; content = refl };
  few = omega arith;
}

alone : {call : Left} {cells : List ℤ} {out out' : List ℕ} {r : Std.Result Response Refusal} → Responded call out cells out' r →
    RespondedAlone call out out' r
alone {call} {cells} {out} {out'} {r} s =
    subst (λ (z : List ℤ). Responded call out z out' r) (ap (λ (left : Left). left.cells) s.left) s

pub refused_alone : (call : Left) (out : List ℕ) (why : Refusal) → call ≡ turned_down why own_space out → RespondedAlone call out out (Err why)
refused_alone call out why e = alone (respond_refused call own_space out why e)

reported_is : (job : Job) (cells cells' : List ℤ) (out out' : List ℕ) (r : Report) (text : List ℕ) → report_figures r ≡ figures job.deck job.rounds →
    cells' ≡ space job.deck job.rounds (length cells) → text ≡ report_text (figures job.deck job.rounds) → out' ≡ overwritten text out →
    record { answer = gives (report_figures r); cells = cells'; out = out' } ≡ reported job cells out
unfolding reported
reported_is job cells cells' out out' r text e f g h = rw (h, g, f, e)

-- ---- what an accepted job gives
module _ (bytes : List ℕ) (g : PreparedJob) (e : given_by (Ok g) ≡ given_for (read_job bytes)) where
  abbrev pub spells : Spelt bytes
  spells = spelt bytes g e

  abbrev deck : Query.Deck
  deck = spells.job.deck

  abbrev range : InRange deck
  range = spelt_range spells

  abbrev pub prepared : Prepared g.problem
  prepared = made_prepared deck range spells.allowed.area_full g.problem (problem_same bytes g e)

  paid : g.before ≡ before deck
  paid = before_same bytes g e

  pub few_rounds : g.rounds ≤ rounds_limit
  few_rounds = rounds_limit_lem bytes g e

  -- what both searches ask of what is paid before
  pub before_figure_lem : Figure (before_of (pricing_of_objects g.problem.objects)) cost_limit g.before
  before_figure_lem = record {
    is = paid ∙ sym (ap before_of (prepared_pricing prepared) ∙ before_law deck);
    within = rw paid (figure_limits deck range).before_limit;
  }

  -- what is answered is what the call answers
  call_is : (cells : List ℤ) (out : List ℕ) → answered (accepted (record { deck = deck; rounds = g.rounds })) cells out ≡ report_call bytes cells out
  call_is cells out = ap (λ (n : ℕ). answered (accepted (record { deck = deck; rounds = n })) cells out) (rounds_same bytes g e)
      ∙ sym (call_of bytes cells out (accepted spells.job) spells.read)

  -- ---- refusal 7, and what is enough for the live cells
  needed_is : 5 * (estimate_by (length g.problem.vertical) (length g.problem.horizontal) g.rounds).cells ≡ space_needed deck g.rounds
  unfolding Estimate.estimate
  needed_is = ap (λ (n : Estimate.Estimate). 5 * n.cells) (deck_estimate deck _ (problem_same bytes g e) g.rounds)

  needed_most : space_needed deck g.rounds ≤ 5 * (rounds_limit + 1)
  needed_most = omega (arith, needs_most deck g.rounds, few_rounds)

  module _ (needs : Calls.Estimate)
      (f : estimate_numbers needs ≡ estimate_by (length g.problem.vertical) (length g.problem.horizontal) g.rounds) where
    space_is : 5 * needs.cells ≡ space_needed deck g.rounds
    space_is = ap (λ (n : Estimate.Estimate). 5 * n.cells) f ∙ needed_is

    pub few_cells : needs.cells ≤ rounds_limit + 1
    few_cells = omega (arith, space_is, needed_most)

    pub small : (cells : List ℤ) (out : List ℕ) → length cells < 5 * needs.cells → report_call bytes cells out ≡ turned_down SmallSpace cells out
    small cells out h = sym (call_is cells out) ∙ small_answer _ cells out (omega (arith, space_is))

    pub enough : (lent : ℕ) → 5 * needs.cells ≤ lent → space_needed deck g.rounds ≤ lent
    enough lent h = omega (arith, space_is)

  -- ---- refusal 8 and the report, where the cell space is large enough
  live_is : (run (problem_of g.problem) g.rounds).live ≡ (run (problem deck) g.rounds).live
  live_is = ap (λ (q : Problem). (run q g.rounds).live) (prepared_problem prepared)

  pub live_fit : (lent : ℕ) → space_needed deck g.rounds ≤ lent → 5 * length (run (problem_of g.problem) g.rounds).live ≤ lent
  live_fit lent h = omega (arith, (space_law deck g.rounds).live_cells, ap length live_is)

  cells_are : (lent : ℕ) → padded lent (pos 0) (all_numbers (run (problem_of g.problem) g.rounds).live) ≡ space deck g.rounds lent
  unfolding space
  cells_are lent = ap (λ (cs : List Cell). padded lent (pos 0) (all_numbers cs)) live_is

  module _ (x : Report) (s : report_figures x ≡ figures_of g.before (run (problem_of g.problem) g.rounds)) where
    figures_are : report_figures x ≡ figures deck g.rounds
    unfolding figures
    figures_are = s ∙ ap₂ (λ (b : ℕ) (q : Problem). figures_of b (run q g.rounds)) paid (prepared_problem prepared)

    pub report_limits : FiguresInRange rounds_limit (report_figures x)
    report_limits = subst (FiguresInRange rounds_limit) (sym figures_are)
        (more_rounds (run_in_range deck range spells.allowed.area_full g.rounds).figures_range few_rounds)

  module _ (cells : List ℤ) (out : List ℕ) (h : space_needed deck g.rounds ≤ length cells) where
    pub lacking : length out < output_size → Responded (report_call bytes cells out) out cells out (Err ShortOutput)
    lacking k = respond_refused _ cells out ShortOutput (sym (call_is cells out) ∙ short_answer _ cells out h k)

    pub reporting : output_size ≤ length out → (cells' : List ℤ) (out' : List ℕ) (x : Response)
        → cells' ≡ padded (length cells) (pos 0) (all_numbers (run (problem_of g.problem) g.rounds).live) → Reported g out out' x
        → Responded (report_call bytes cells out) out cells' out' (Ok x)
    reporting long cells' out' x k r =
        let same = figures_are x.report r.figures_are in
        record {
          left =
              reported_is _ cells _ out out' x.report _ same (k ∙ cells_are (length cells)) (ap report_text same) r.text.content
              ∙ sym (report_answer_lem _ cells out h long) ∙ call_is cells out;
          filled = r.text;
          few = omega (arith, r.text.number, report_fits.report_fits (report_figures x.report) (report_limits x.report r.figures_are));
        }

  -- the same of one that has no cell space
  own_enough : space_needed deck g.rounds ≤ length own_space
  own_enough = omega (arith, needed_most, length-replicate (5 * (rounds_limit + 1)) (pos 0))

  module _ (out : List ℕ) where
    pub lacking_alone : length out < output_size → RespondedAlone (report_call bytes own_space out) out out (Err ShortOutput)
    lacking_alone k = alone (lacking own_space out own_enough k)

    pub reporting_alone : output_size ≤ length out → (out' : List ℕ) (x : Response) → Reported g out out' x
        → RespondedAlone (report_call bytes own_space out) out out' (Ok x)
    reporting_alone long out' x r = alone (reporting own_space out own_enough long _ out' x refl r)
