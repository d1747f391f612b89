-- What each function for tests answers, of a job's bytes: a figure of the deck that they spell (RULES "Cost", "Reach", "Lines", "Bound",
-- "Corner bound", "Cuts"), or of the refusal that they get (RULES "Refusals").
use Rattle.std.specs.Prelude.{ℕ, Bool, cond, ◌&&◌, List, [], ◌∷◌, map, ◌++◌, ltb, ℤ, pos, negsuc, length, get_or, drop, Option, None, Some}
use Rattle.query.specs.Place.{Place, Rect, corner, Axis, x_axis, y_axis}
use Rattle.query.specs.Travel.{near}
use Rattle.query.specs.Cost.{cost, before}
use Rattle.query.specs.Bound.{bound}
use Rattle.query.specs.CornerBound.{load, corner_bound}
use Rattle.query.specs.Lines.{lines}
use Rattle.query.specs.Grid.{grid}
use Rattle.query.specs.Cut.{can_cut, cut_line}
use Rattle.refusal.specs.Refusal.{number_of, line_of}
use Rattle.refusal.specs.declared.Refusal.{Refusal}
use Rattle.job.specs.Format.{Job, Result, refused, accepted}
use Rattle.trial.specs.Ranges.{place_in_range, rect_allowed}

-- a figure of an accepted job, and none where the job is refused
abbrev pub on_job : {A : Type 0} → A → (Job → A) → Result → A
on_job none f (refused why) = none
on_job none f (accepted job) = f job

abbrev pub minus_one : ℤ
minus_one = negsuc 0

-- the least number of 64 bits: no figure
abbrev pub least : ℤ
least = negsuc 9223372036854775807

-- a figure, or what stands for one that there is not
abbrev pub figure_or : ℤ → Option ℤ → ℤ
figure_or none (Some z) = z
figure_or none None = none

-- the number and the line of a refusal
abbrev pub refusal_numbers : Refusal → List ℤ
refusal_numbers why = pos (number_of why) ∷ pos (line_of why) ∷ []

-- of what reading gives, the number and the line of the refusal, and the rounds
abbrev pub reading_numbers : Result → List ℤ
reading_numbers (refused why) = pos (number_of why) ∷ pos (line_of why) ∷ minus_one ∷ []
reading_numbers (accepted job) = pos 0 ∷ pos 0 ∷ pos job.rounds ∷ []

-- ---- figures of the deck
abbrev pub before_figure : Result → ℤ
before_figure r = on_job minus_one (λ job. pos (before job.deck)) r

-- the near of stop i, counted from 0
abbrev pub near_figure : ℕ → Result → ℤ
near_figure i r =
    on_job minus_one (λ job. cond (ltb i (length job.deck.stops)) (pos (get_or (map (near job.deck) job.deck.stops) i 0)) minus_one) r

abbrev pub cost_figure : Place → Result → ℤ
cost_figure p r = on_job minus_one (λ job. cond (place_in_range p) (pos (cost job.deck p)) minus_one) r

abbrev pub load_figure : Rect → Result → ℤ
load_figure rect r = on_job minus_one (λ job. cond (rect_allowed rect) (pos (load job.deck rect)) minus_one) r

abbrev pub bound_figure : Rect → Result → ℤ
bound_figure rect r = on_job minus_one (λ job. cond (rect_allowed rect) (pos (bound job.deck rect)) minus_one) r

abbrev pub corner_bound_figure : Rect → Result → ℤ
corner_bound_figure rect r = on_job least (λ job. cond (rect_allowed rect) (corner_bound job.deck rect) least) r

-- 1 for a cut at an x, 2 for one at a y, 0 for none
abbrev pub axis_number : Axis → ℤ
axis_number x_axis = pos 1
axis_number y_axis = pos 2

abbrev pub cut_axis_figure : Rect → Result → ℤ
cut_axis_figure rect r = on_job minus_one
    (λ job. cond (rect_allowed rect) (cond (can_cut (grid job.deck) rect) (axis_number (cut_line (grid job.deck) rect).axis) (pos 0))
    minus_one) r

-- the line of the cut
abbrev pub cut_line_figure : Rect → Result → ℤ
cut_line_figure rect r =
    on_job least (λ job. cond (rect_allowed rect && can_cut (grid job.deck) rect) (cut_line (grid job.deck) rect).at least) r

-- the near of the stop with a signed number
abbrev pub near_at : ℤ → Result → ℤ
near_at (pos i) r = near_figure i r
near_at (negsuc i) r = minus_one

-- all these figures, in the order that `trial_figure` numbers them
abbrev pub deck_figures : Rect → Result → List ℤ
deck_figures rect r = before_figure r ∷ near_at rect.xlo r ∷ cost_figure (corner rect) r ∷ load_figure rect r ∷ bound_figure rect r
    ∷ cut_axis_figure rect r ∷ cut_line_figure rect r ∷ corner_bound_figure rect r ∷ []

-- a result, and what an output holds then
pub record Written : Type 0 where
  pub result : ℤ
  pub out : List ℤ

-- across, the lines at an x; else those at a y
abbrev pub lines_axis : Bool → Axis
lines_axis across = cond across x_axis y_axis

-- the lines along an axis are put in front of the output, and their number is the result.
-- Where the job is refused or the output too short the result is -1, and the output is as it was
abbrev pub lines_written : Bool → List ℤ → Result → Written
lines_written across out r = on_job (record { result = minus_one; out = out })
    (λ job. let ls = lines job.deck (lines_axis across) in
    cond (ltb (length out) (length ls)) (record { result = minus_one; out = out })
    (record { result = pos (length ls); out = ls ++ drop (length ls) out })) r
