-- What `job_check::check` owes.
use mathlib.Core.Path.{◌≡◌, ap, ◌∙◌}
use mathlib.Core.Option.{Option, none}
use Prim.Native.Nat.{ℕ, ◌+◌, ◌≤◌}
use native.Mathlib.Omega.{arith}
use borrow.Author.Rules.{rules}
use Rattle.query.specs.Range.{posts_limit, stops_limit}
use Rattle.deck.specs.DeckOf.{Sized}
use Rattle.deck.specs.Values.{held_axis}
use Rattle.deck.specs.declared.Deck.{Deck}
use Rattle.job_line.specs.Kinds.{area, axis, row}
use Rattle.job_line.specs.Reading.{area_numbers, cost_numbers}
use Rattle.job.specs.File.{writes_axis}
use Rattle.refusal.specs.declared.Refusal.{Refusal}
use Rattle.job_check.specs.LineFaults.{first_fault, numbers_fault, or_else, checked_as}
use Rattle.job_check.proofs.AxisLaws.{third_line}
use Rattle.job_check.proofs.FileFaults.{file_fault}
use Rattle.job_check.proofs.CheckLaws.{behind_area, behind_axis, behind_posts, behind_stops, posts_most, stops_most}
use Rattle.job_check.proofs.CheckLaws.{Left, part_fine, part_refused, all_left, post_part, posts_at, posts_behind, stop_part, stops_behind, rounds_behind}
use Rattle.job_check.proofs.CheckLaws.{parts_answer}
use Rattle.job_check.proofs.ShortLaws.{passed_on}
use Rattle.job_check.proofs.check.Goals as goal

-- ---- what is left of the refusal, part after part
module _ {deck : Deck} {n : ℕ} (sized : Sized deck) where
  left : Left deck n (or_else (numbers_fault (row area).ranges 1 (area_numbers deck.area)) (behind_area deck n))
  left = all_left _ (file_fault _ _ sized)

  -- behind the area
  module _ {a : Option Refusal} (a_is : a ≡ numbers_fault (row area).ranges 1 (area_numbers deck.area)) (a_fine : a ≡ none) where
    left-area : Left deck n (behind_area deck n)
    left-area = part_fine _ left a_is a_fine

    -- behind the axis costs, where the line of the posts' count is known
    module _ {x : Option Refusal} (x_is : x ≡ numbers_fault (row axis).ranges 2 (cost_numbers deck.axis)) (x_fine : x ≡ none)
        {first : ℕ} (first_is : first ≡ posts_at deck) where
      left-axis : Left deck n (behind_axis deck n first)
      left-axis = posts_behind first_is (part_fine _ left-area x_is x_fine)

      -- behind the posts
      module _ {p : Option Refusal} (p_is : p ≡ first_fault first (post_part deck)) (p_fine : p ≡ none) where
        left-posts : Left deck n (behind_posts deck n (first + 1 + deck.post_count))
        left-posts = stops_behind sized _ (posts_most deck _ p_is p_fine) (part_fine _ left-axis p_is p_fine)

        -- behind the stops
        module _ {s : Option Refusal} (s_is : s ≡ first_fault (first + 1 + deck.post_count) (stop_part deck)) (s_fine : s ≡ none) where
          left-stops : Left deck n (behind_stops deck n (first + 1 + deck.post_count + 1 + deck.stop_count))
          left-stops = rounds_behind sized _ (stops_most deck _ s_is s_fine) (part_fine _ left-posts s_is s_fine)

-- where the lines are
first_few : (deck : Deck) {first : ℕ} → first ≡ posts_at deck → first ≤ 3
first_few deck e = omega (arith, e, third_line (writes_axis (held_axis deck.axis)))

line_few : (deck : Deck) {first : ℕ} → first ≡ posts_at deck → deck.post_count ≤ posts_limit → first + 1 + deck.post_count ≤ posts_limit + 4
line_few deck e few = omega (arith, first_few deck e)

pub returns-in_err-area_line-clause-refusal : goal.returns-in_err-area_line-clause-refusal
returns-in_err-area_line-clause-refusal c =
    let s : Sized c.args.deck.now = record { posts = search rules; stops = search rules } in
    passed_on _ c.from_residual.ensures.1 ∙ part_refused _ (left s) c.area_line.ensures (ap checked_as c.in_err-area_line.was)

pub returns-in_err-axis_line-clause-refusal : goal.returns-in_err-axis_line-clause-refusal
returns-in_err-axis_line-clause-refusal c =
    let s : Sized c.args.deck.now = record { posts = search rules; stops = search rules } in
    passed_on _ c.from_residual-in_err-axis_line.ensures.1
    ∙ part_refused _ (left-area s c.area_line.ensures (ap checked_as c.in_ok-area_line.was)) c.axis_line.ensures
    (ap checked_as c.in_err-axis_line.was)

pub returns-in_err-all_posts-clause-refusal : goal.returns-in_err-all_posts-clause-refusal
returns-in_err-all_posts-clause-refusal c =
    let s : Sized c.args.deck.now = record { posts = search rules; stops = search rules } in
    passed_on _ c.from_residual-in_err-all_posts.ensures.1
    ∙ part_refused _ (left-axis s c.area_line.ensures (ap checked_as c.in_ok-area_line.was) c.axis_line.ensures
    (ap checked_as c.in_ok-axis_line.was) c.posts_at-first.ensures) c.all_posts.ensures (ap checked_as c.in_err-all_posts.was)

pub overflow_add-line-2 : goal.overflow_add-line-2
overflow_add-line-2 c =
    let few : c.args.deck.now.post_count ≤ posts_limit = posts_most c.args.deck.now _ c.all_posts.ensures (ap checked_as c.in_ok-all_posts.was) in
    omega (arith, line_few c.args.deck.now c.posts_at-first.ensures few)

pub all_stops-requires : goal.all_stops-requires
all_stops-requires c =
    let few : c.args.deck.now.post_count ≤ posts_limit = posts_most c.args.deck.now _ c.all_posts.ensures (ap checked_as c.in_ok-all_posts.was) in
    omega (arith, line_few c.args.deck.now c.posts_at-first.ensures few)

pub returns-in_err-all_stops-clause-refusal : goal.returns-in_err-all_stops-clause-refusal
returns-in_err-all_stops-clause-refusal c =
    let s : Sized c.args.deck.now = record { posts = search rules; stops = search rules } in
    passed_on _ c.from_residual-in_err-all_stops.ensures.1
    ∙ part_refused _ (left-posts s c.area_line.ensures (ap checked_as c.in_ok-area_line.was) c.axis_line.ensures
    (ap checked_as c.in_ok-axis_line.was) c.posts_at-first.ensures
    c.all_posts.ensures (ap checked_as c.in_ok-all_posts.was)) c.all_stops.ensures (ap checked_as c.in_err-all_stops.was)

pub overflow_add-line-3 : goal.overflow_add-line-3
overflow_add-line-3 c =
    let few : c.args.deck.now.post_count ≤ posts_limit = posts_most c.args.deck.now _ c.all_posts.ensures (ap checked_as c.in_ok-all_posts.was) in
    omega (arith, line_few c.args.deck.now c.posts_at-first.ensures few)

pub overflow_add-line-4 : goal.overflow_add-line-4
overflow_add-line-4 c =
    let few : c.args.deck.now.post_count ≤ posts_limit = posts_most c.args.deck.now _ c.all_posts.ensures (ap checked_as c.in_ok-all_posts.was) in
    let many : c.args.deck.now.stop_count ≤ stops_limit = stops_most c.args.deck.now _ c.all_stops.ensures (ap checked_as c.in_ok-all_stops.was) in
    omega (arith, line_few c.args.deck.now c.posts_at-first.ensures few, many)

pub returns-in_err-count_line-clause-refusal : goal.returns-in_err-count_line-clause-refusal
returns-in_err-count_line-clause-refusal c =
    let s : Sized c.args.deck.now = record { posts = search rules; stops = search rules } in
    passed_on _ c.from_residual-in_err-count_line.ensures.1
    ∙ part_refused _ (left-stops s c.area_line.ensures (ap checked_as c.in_ok-area_line.was) c.axis_line.ensures
    (ap checked_as c.in_ok-axis_line.was) c.posts_at-first.ensures
    c.all_posts.ensures (ap checked_as c.in_ok-all_posts.was) c.all_stops.ensures (ap checked_as c.in_ok-all_stops.was)) c.count_line.ensures
    (ap checked_as c.in_err-count_line.was)

pub returns-clause-refusal : goal.returns-clause-refusal
returns-clause-refusal c =
    let s : Sized c.args.deck.now = record { posts = search rules; stops = search rules } in
    parts_answer (part_fine _ (left-stops s c.area_line.ensures (ap checked_as c.in_ok-area_line.was)
    c.axis_line.ensures (ap checked_as c.in_ok-axis_line.was) c.posts_at-first.ensures
    c.all_posts.ensures (ap checked_as c.in_ok-all_posts.was) c.all_stops.ensures (ap checked_as c.in_ok-all_stops.was)) c.count_line.ensures
    (ap checked_as c.in_ok-count_line.was))
    c.check_parts.ensures
