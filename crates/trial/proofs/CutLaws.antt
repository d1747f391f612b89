-- The cut that is found for an opened job is that of its deck, and so are the lines that are written out.
use mathlib.Core.Path.{◌≡◌, refl, sym, ap, ◌∙◌}
use mathlib.Core.Bool.{Bool, true, false, cond, ◌&&◌}
use mathlib.Core.List.{List, ◌++◌}
use Prim.Native.Nat.{ℕ, ◌+◌, ◌≤◌, ◌<◌}
use native.Mathlib.Omega.{arith}
use lib.IntN.{ℤ, pos}
use lib.Dec.{ltb}
use lib.ListN.{length, drop}
use Rattle.std.specs.Prelude.{Option, Some, None, is_some}
use mir.Syntax.{w64}
use mir.Val.{to_z}
use mir.ValLaws.{to_z_pos}
use borrow.Author.Tests.{lt-ltb, le-ltb}
use Rattle.query.specs.Place.{Rect, Axis}
use Rattle.query.specs.Lines.{lines}
use Rattle.query.specs.Grid.{grid}
use Rattle.query.specs.Cut.{can_cut, cut_line}
use Rattle.query.specs.Range.{stops_limit}
use Rattle.job.specs.Format.{Job, Result, refused, accepted, read_job}
use Rattle.deck.specs.DeckOf.{deck_of}
use Rattle.deck.specs.Values.{axis_of}
use Rattle.lines.proofs.DeckLines.{lines_in_order}
use Rattle.prepare.specs.ProblemRecord.{Parts, problem_record}
use Rattle.cuts.specs.CutRecord.{axis_record, cut_at, cut_record}
use Rattle.cuts.specs.declared.Cut.{Cut}
use Rattle.cuts.proofs.CutRecordLaws.{axis_back, cut_record_found, cut_record_cut}
use Rattle.trial.specs.Ranges.{rect_allowed}
use Rattle.trial.specs.Trial.{on_job, minus_one, least, axis_number, cut_axis_figure, cut_line_figure, Written, lines_axis, lines_written}
use Rattle.trial.specs.declared.opened.Opened.{Opened}
use Rattle.job.proofs.ReadDeck.{Spelt, spelt_range}
use Rattle.trial.proofs.OpenLaws.{Open, OpenIn, open_deck, open_problem, on_job_lem, inside}

-- ---- the answers
same_cut : {c d : Cut} → ◌≡◌ {A = Option Cut} (Some c) (Some d) → c ≡ d
same_cut e = cc

-- no line where the job is refused or the rectangle is not allowed
pub no_line : (rect : Rect) (r : Result) →
    least ≡ on_job least (λ job. cond (rect_allowed rect) (cond (can_cut (grid job.deck) rect) (cut_line (grid job.deck) rect).at least) least) r →
    least ≡ cut_line_figure rect r
no_line rect (refused why) e = refl
no_line rect (accepted job) e = e ∙ go (rect_allowed rect) (can_cut (grid job.deck) rect) (cut_line (grid job.deck) rect).at
  where
    go : (b t : Bool) (z : ℤ) → cond b (cond t z least) least ≡ cond (b && t) z least
    go true t z = refl
    go false t z = refl

module _ {bytes : List ℕ} {rect : Rect} {o : Opened} (w : OpenIn bytes rect o) {cut : Option Cut}
    (found : cut ≡ cut_record (grid (deck_of o.deck)) rect) where
  abbrev s : Spelt bytes
  s = w.opened.job

  cut_is : cut ≡ cut_record (grid s.job.deck) rect
  cut_is = found ∙ rw (open_deck w.opened)

  can_cut_lem : {t : Bool} → is_some cut ≡ t → can_cut (grid s.job.deck) rect ≡ t
  can_cut_lem g = sym (ap is_some cut_is ∙ cut_record_found (grid s.job.deck) rect) ∙ g

  abbrev axis : Axis
  axis = (cut_line (grid s.job.deck) rect).axis

  cut_at_lem : {c : Cut} → cut ≡ Some c → c ≡ cut_at (axis_record axis) (cut_line (grid s.job.deck) rect).at
  cut_at_lem e = same_cut (sym e ∙ cut_is ∙ cut_record_cut (grid s.job.deck) rect (can_cut_lem (ap is_some e)))

  axis_inside : cond (can_cut (grid s.job.deck) rect) (axis_number axis) (pos 0) ≡ cut_axis_figure rect (read_job bytes)
  axis_inside =
      inside minus_one (rect_allowed rect)
      (λ job. cond (can_cut (grid job.deck) rect) (axis_number (cut_line (grid job.deck) rect).axis) (pos 0)) s w.allowed

  pub axis_none : cut ≡ None → pos 0 ≡ cut_axis_figure rect (read_job bytes)
  axis_none e = rw (can_cut_lem (ap is_some e)) at axis_inside

  pub axis_answer : {c : Cut} → cut ≡ Some c → axis_number (axis_of c.axis) ≡ cut_axis_figure rect (read_job bytes)
  axis_answer e =
      ap (λ (c : Cut). axis_number (axis_of c.axis)) (cut_at_lem e) ∙ ap axis_number (axis_back axis) ∙ rw (can_cut_lem (ap is_some e)) at axis_inside

  pub line_none : cut ≡ None → least ≡ cut_line_figure rect (read_job bytes)
  line_none e = line_off (can_cut_lem (ap is_some e))
    where
      line_off : can_cut (grid s.job.deck) rect ≡ false → least ≡ cut_line_figure rect (read_job bytes)
      line_off k = rw (s.read, w.allowed, k)

  pub line_answer : {c : Cut} → cut ≡ Some c → c.at ≡ cut_line_figure rect (read_job bytes)
  line_answer e = ap (λ (c : Cut). c.at) (cut_at_lem e) ∙ rw (s.read, w.allowed, can_cut_lem (ap is_some e))

-- ---- the lines of the problem along an axis
-- what is left of an output that they are written to
abbrev written_of : List ℤ → List ℤ → Written
written_of out ls =
    cond (ltb (length out) (length ls)) (record { result = minus_one; out = out })
    (record { result = pos (length ls); out = ls ++ drop (length ls) out })

module _ {bytes : List ℕ} {o : Opened} (w : Open bytes o) (across : Bool) where
  abbrev job : Job
  job = w.job.job

  abbrev ls : List ℤ
  ls = lines job.deck (lines_axis across)

  pub few_lines : length ls ≤ stops_limit + 2
  few_lines = (lines_in_order job.deck (lines_axis across) (spelt_range w.job).most_stops).few

  pub vertical_lines : across ≡ true → o.problem.vertical ≡ ls
  unfolding problem_record
  vertical_lines on = ap (λ (p : Parts). p.vertical) (open_problem w) ∙ rw on

  pub horizontal_lines : across ≡ false → o.problem.horizontal ≡ ls
  unfolding problem_record
  horizontal_lines off = ap (λ (p : Parts). p.horizontal) (open_problem w) ∙ rw off

  -- n of them, written out
  module _ {n : ℕ} (count : n ≡ length ls) (out : List ℤ) where
    written : written_of out ls ≡ lines_written across out (read_job bytes)
    written = on_job_lem (record { result = minus_one; out = out }) (λ job. written_of out (lines job.deck (lines_axis across))) w.job

    pub written_none : length out < n → record { result = minus_one; out = out } ≡ lines_written across out (read_job bytes)
    written_none h = rw (lt-ltb (length out) (length ls) (omega (arith, count))) at written

    pub written_lines : {after : List ℤ} → n ≤ length out → after ≡ ls ++ drop (length ls) out →
        record { result = to_z w64 n; out = after } ≡ lines_written across out (read_job bytes)
    written_lines h g =
        rw (g, to_z_pos w64 n (omega (arith, count, few_lines)), count) (rw (le-ltb (length out) (length ls) (omega (arith, count))) at written)
