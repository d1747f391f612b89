-- Reading every line of a job: it goes through for the spellings of jobs whose lines have their ranges, with the axis line or without it,
-- and for no other text.
use mathlib.Core.Path.{◌≡◌, refl, sym, ap, subst, ◌∙◌}
use mathlib.Core.Bool.{Bool, true, false, not, cond}
use mathlib.Core.List.Memᴰ
use mathlib.Core.List.{List, [], ◌∷◌, ◌++◌, map, map-map, map-id, flat_map, Memᴰ}
use Prim.Native.Nat.{ℕ, ◌+◌, ◌≤◌}
use native.Mathlib.Omega.{arith}
use lib.Dec.{T}
use lib.IntN.{ℤ, pos}
use lib.ListN.{length, length-append, length-map}
use Rattle.numbers.proofs.Joined.{flat_map_append, flat_map_map, flat_map_length, map_each}
use Rattle.numbers.proofs.Members.{each_cons, each_append, each_map}
use Rattle.query.specs.Place.{Place}
use Rattle.query.specs.Deck.{AxisCosts, Stop, Deck}
use Rattle.query.specs.Range.{RectInRange, PlaceInRange, StopInRange, posts_limit, stops_limit, rounds_limit, axis_cost_limit}
use Rattle.text.specs.Ascii.{bytes}
use Rattle.text.specs.TextReading.{starts_with}
use Rattle.job_line.specs.Kinds.{Kind, area, axis, posts, post, stops, stop, rounds, row, in_ranges}
use Rattle.job_line.specs.OneLine.{got, line}
use Rattle.job.specs.Reader.{repeated, optional, end}
use Rattle.job.specs.Format.{Job, axis_costs_of, axis_numbers, count_of, post_of, stop_of, job_of, job_lines}
use Rattle.job.specs.Spelling.{JobLine, area_line, axis_line, count_line, post_line, stop_line, later_lines, lines_of, spell_line, spell, Spells}
use Rattle.job.specs.Spelling.{with_line, without_line, Writable}
use Rattle.job.proofs.FormLaws.{text_of}
use Rattle.job.proofs.RangeLaws.{line_length, area_range, axis_range, count_range, post_range, stop_range, area_back_lem, axis_back_lem, count_back_lem}
use Rattle.job.proofs.RangeLaws.{count_limit, post_back_lem, stop_back_lem}
use Rattle.job.proofs.ReaderLaws.{line_of, Ranged, bind_got, line_got, line_gets, optional_got, optional_gets, all_got, repeated_gets, end_got}

-- ---- lines of a kind
line_text : (k : Kind) (ns : List ℤ) → text_of (row k) ns ≡ spell_line (line_of k ns)
unfolding spell_line
line_text k ns = refl

kind_text : (k : Kind) (all : List (List ℤ)) (others : List JobLine) →
    flat_map spell_line (map (line_of k) all ++ others) ≡ flat_map (text_of (row k)) all ++ flat_map spell_line others
kind_text k all others = flat_map_append spell_line (map (line_of k) all) others
    ∙ ap (λ (l : List ℕ). l ++ flat_map spell_line others) (sym (flat_map_map (text_of (row k)) spell_line (line_of k) all (λ ns m. line_text k ns)))

seven_length : (a b c d e f g : List ℕ) →
    length (a ++ (b ++ (c ++ (d ++ (e ++ (f ++ (g ++ []))))))) ≡ length a + length b + length c + length d + length e + length f + length g
seven_length a b c d e f g = simp length-append (omega arith)

unfoldable pub InRanges : JobLine → Type 0
InRanges l = T (in_ranges (row l.kind).ranges l.numbers)

-- ---- the axis line, where a job carries it
abbrev axis_lines : Bool → List ℤ → List JobLine
axis_lines carried c = cond carried (line_of axis c ∷ []) []

abbrev axis_text : Bool → List ℤ → List ℕ
axis_text carried c = cond carried (text_of (row axis) c) []

axis_text_lem : (carried : Bool) (c : List ℤ) (others : List JobLine) →
    flat_map spell_line (axis_lines carried c ++ others) ≡ axis_text carried c ++ flat_map spell_line others
unfolding flat_map
axis_text_lem true c others = ap (λ (l : List ℕ). l ++ flat_map spell_line others) (sym (line_text axis c))
axis_text_lem false c others = refl

axis_each : (carried : Bool) (c : List ℤ) → (T carried → Ranged axis c) → (l : JobLine) → Memᴰ l (axis_lines carried c) → InRanges l
unfolding InRanges
axis_each true c t = each_cons InRanges (t tt) (λ l j. absurd (Memᴰ.not-nil j))
axis_each false c t = λ l j. absurd (Memᴰ.not-nil j)

axis_same : (carried : Bool) (c : List ℤ) → (T carried → Ranged axis c) → cond carried (axis_line (axis_costs_of c) ∷ []) [] ≡ axis_lines carried c
axis_same true c t = ap (λ (ns : List ℤ). line_of axis ns ∷ []) (axis_back_lem c (t tt))
axis_same false c t = refl

axis_length : (carried : Bool) (c : List ℤ) → (T carried → Ranged axis c) → length (axis_text carried c) ≤ 9
axis_length true c t = line_length axis c (t tt)
axis_length false c t = omega arith

-- a line `posts=n` does not start as it does
pub posts_first : (n : List ℤ) (rest : List ℕ) → starts_with (row axis).key (text_of (row posts) n ++ rest) ≡ false
unfolding starts_with bytes
posts_first n rest = refl

-- ---- the lines of a job, by their numbers: those of the area, of the axis costs, of posts, of each post, of stops, of each stop, of rounds
module _ (carried : Bool) (a c n : List ℤ) (ps : List (List ℤ)) (m : List ℤ) (ss : List (List ℤ)) (k : List ℤ) where
  read_lines : List JobLine
  read_lines = line_of area a ∷ (axis_lines carried c ++
      (line_of posts n ∷ (map (line_of post) ps ++ (line_of stops m ∷ (map (line_of stop) ss ++ (line_of rounds k ∷ []))))))

  lines_text : List ℕ
  lines_text = text_of (row area) a ++ (axis_text carried c ++ (text_of (row posts) n ++
      (flat_map (text_of (row post)) ps ++ (text_of (row stops) m ++ (flat_map (text_of (row stop)) ss ++ (text_of (row rounds) k ++ []))))))

  text_is : flat_map spell_line read_lines ≡ lines_text
  unfolding read_lines lines_text flat_map spell_line
  text_is = rw (axis_text_lem carried c _, kind_text post ps _, kind_text stop ss _)

  record LinesInRange : Type 0 where
    area_in : Ranged area a
    axis_in_lem : T carried → Ranged axis c
    posts_in : Ranged posts n
    post_in : (ns : List ℤ) → Memᴰ ns ps → Ranged post ns
    stops_in : Ranged stops m
    stop_in_lem : (ns : List ℤ) → Memᴰ ns ss → Ranged stop ns
    rounds_in_lem : Ranged rounds k
    all_posts_lem : length ps ≡ count_of n
    all_stops_lem : length ss ≡ count_of m

  module _ (i : LinesInRange) where
    -- they are those of the job that they are read as
    lines_are : lines_of carried (job_of a c ps ss k) ≡ read_lines
    unfolding read_lines
    lines_are = cc (
      area_back_lem a i.area_in,
      axis_same carried c i.axis_in_lem,
      length-map ps post_of ∙ i.all_posts_lem,
      count_back_lem posts_limit n i.posts_in,
      map-map post_line post_of ps ∙ map_each (λ ns. post_line (post_of ns)) (line_of post) ps (λ ns j. ap (line_of post) (post_back_lem ns (i.post_in ns j))),
      length-map ss stop_of ∙ i.all_stops_lem,
      count_back_lem stops_limit m i.stops_in,
      map-map stop_line stop_of ss
          ∙ map_each (λ ns. stop_line (stop_of ns)) (line_of stop) ss (λ ns j. ap (line_of stop) (stop_back_lem ns (i.stop_in_lem ns j))),
      count_back_lem rounds_limit k i.rounds_in_lem,
    )

    each_line : (l : JobLine) → Memᴰ l read_lines → InRanges l
    unfolding read_lines InRanges
    each_line =
        each_cons InRanges i.area_in (each_append InRanges (axis_lines carried c) (axis_each carried c i.axis_in_lem) (each_cons InRanges i.posts_in
        (each_append InRanges (map (line_of post) ps) (each_map InRanges (line_of post) ps i.post_in)
        (each_cons InRanges i.stops_in (each_append InRanges (map (line_of stop) ss) (each_map InRanges (line_of stop) ss i.stop_in_lem)
        (each_cons InRanges i.rounds_in_lem (λ l j. absurd (Memᴰ.not-nil j))))))))

    lines_writable : Writable carried (job_of a c ps ss k)
    unfolding InRanges
    lines_writable =
        record { in_ranges_law = subst (λ (ls : List JobLine). (l : JobLine) → Memᴰ l ls → InRanges l) (sym lines_are) each_line }

    lines_spelled : spell carried (job_of a c ps ss k) ≡ lines_text
    unfolding spell
    lines_spelled = ap (flat_map spell_line) lines_are ∙ text_is

    -- they are read with the numbers of the axis costs, or with those of the costs that stand for a missing line
    lines_gets : (missing : AxisCosts) (from : ℕ) →
        (to : ℕ) × (job_lines missing from lines_text ≡ got (job_of a (cond carried c (axis_numbers missing)) ps ss k) to [])
    unfolding job_lines lines_text
    lines_gets missing from =
        let b₅ = text_of (row rounds) k ++ [] in
        let b₄ = flat_map (text_of (row stop)) ss ++ b₅ in
        let b₃ = text_of (row stops) m ++ b₄ in
        let b₂ = flat_map (text_of (row post)) ps ++ b₃ in
        let b₁ = text_of (row posts) n ++ b₂ in
        let (m₁, e₁) = optional_gets axis carried (axis_numbers missing) (from + 1) c b₁ i.axis_in_lem (posts_first n b₂) in
        let (m₃, e₃) = repeated_gets post ps [] (m₁ + 1) b₃ i.post_in in
        let (m₅, e₅) = repeated_gets stop ss [] (m₃ + 1) b₅ i.stop_in_lem in (
          m₅ + 1,
          rw (
            line_gets area from a (axis_text carried c ++ b₁) i.area_in,
            e₁,
            line_gets posts m₁ n b₂ i.posts_in,
            ← i.all_posts_lem,
            e₃,
            line_gets stops m₃ m b₄ i.stops_in,
            ← i.all_stops_lem,
            e₅,
            line_gets rounds m₅ k [] i.rounds_in_lem,
          ),
        )

    lines_length : length lines_text ≤ 14089
    unfolding lines_text
    lines_length = omega (
      arith,
      seven_length (text_of (row area) a) (axis_text carried c) (text_of (row posts) n) (flat_map (text_of (row post)) ps) (text_of (row stops) m)
          (flat_map (text_of (row stop)) ss) (text_of (row rounds) k),
      i.all_posts_lem,
      count_limit posts_limit n i.posts_in,
      i.all_stops_lem,
      count_limit stops_limit m i.stops_in,
      line_length area a i.area_in,
      axis_length carried c i.axis_in_lem,
      line_length posts n i.posts_in,
      flat_map_length (text_of (row post)) 19 ps (λ ns j. line_length post ns (i.post_in ns j)),
      line_length stops m i.stops_in,
      flat_map_length (text_of (row stop)) 25 ss (λ ns j. line_length stop ns (i.stop_in_lem ns j)),
      line_length rounds k i.rounds_in_lem,
    )

-- ---- the job that is read
-- whether the text carries the axis line; without it the costs are those that stand for a missing line
pub record Got (missing : AxisCosts) (bs : List ℕ) (job : Job) : Type 0 where
  pub carried : Bool
  pub spelled : bs ≡ spell carried job
  pub writable : Writable carried job
  pub left_out : T (not carried) → job.deck.axis ≡ missing

pub job_got : (missing : AxisCosts) (from : ℕ) (bs : List ℕ) (job : Job) (to : ℕ) (rest : List ℕ) → job_lines missing from bs ≡ got job to rest →
    Got missing bs job
unfolding job_lines lines_text
job_got missing from bs job to rest =
    bind_got (line (row area)) _ from bs (λ a n₁ b₁ e₁. bind_got (optional (row axis) (axis_numbers missing)) _ n₁ b₁ (λ c n₂ b₂ e₂.
    bind_got (line (row posts)) _ n₂ b₂ (λ n n₃ b₃ e₃. bind_got (repeated (count_of n) (line (row post)) []) _ n₃ b₃ (λ ps n₄ b₄ e₄.
    bind_got (line (row stops)) _ n₄ b₄ (λ m n₅ b₅ e₅. bind_got (repeated (count_of m) (line (row stop)) []) _ n₅ b₅
    (λ ss n₆ b₆ e₆. bind_got (line (row rounds)) _ n₆ b₆ (λ k n₇ b₇ e₇. bind_got end _ n₇ b₇ (λ u n₈ b₈ e₈ e₉.
    let (t₁, i₁) = line_got area from bs a n₁ b₁ e₁ in
    let o = optional_got axis (axis_numbers missing) n₁ b₁ c n₂ b₂ e₂ in
    let t₂ = o.text in
    let (t₃, i₃) = line_got posts n₂ b₂ n n₃ b₃ e₃ in
    let (t₄, l₄, i₄) = all_got post (count_of n) n₃ b₃ ps n₄ b₄ e₄ in
    let (t₅, i₅) = line_got stops n₄ b₄ m n₅ b₅ e₅ in
    let (t₆, l₆, i₆) = all_got stop (count_of m) n₅ b₅ ss n₆ b₆ e₆ in
    let (t₇, i₇) = line_got rounds n₆ b₆ k n₇ b₇ e₇ in
    let i : LinesInRange o.carried a c n ps m ss k = record {
      area_in = i₁;
      axis_in_lem = o.ranged;
      posts_in = i₃;
      post_in = i₄;
      stops_in = i₅;
      stop_in_lem = i₆;
      rounds_in_lem = i₇;
      all_posts_lem = l₄;
      all_stops_lem = l₆;
    } in
    let same : job_of a c ps ss k ≡ job = cc in
    rw (← same) (record {
      carried = o.carried;
      spelled = cc (end_got n₇ b₇ e₈, lines_spelled o.carried a c n ps m ss k i);
      writable = lines_writable o.carried a c n ps m ss k i;
      left_out = λ u. ap axis_costs_of (o.left_out u);
    })))))))))

-- it is one that the text spells
pub got_spells : {missing : AxisCosts} {bs : List ℕ} {job : Job} → Got missing bs job → Spells missing bs job
got_spells {missing} {bs} {job} g = go g.carried g.spelled g.left_out
  where
    go : (carried : Bool) → bs ≡ spell carried job → (T (not carried) → job.deck.axis ≡ missing) → Spells missing bs job
    go true e h = with_line e
    go false e h = without_line e (h tt)

-- ---- a job whose lines have their ranges
axis_numbers_in : (carried : Bool) {job : Job} → Writable carried job → T carried → Ranged axis (axis_numbers job.deck.axis)
axis_numbers_in true w t = w.in_ranges_law _ (Memᴰ.tail (Memᴰ.head refl))
axis_numbers_in false w t = absurd t

module _ {carried : Bool} {job : Job} (w : Writable carried job) where
  area_in : Ranged area (area_line job.deck.area).numbers
  area_in = w.in_ranges_law _ (Memᴰ.head refl)

  -- a line behind those of the area and the axis costs
  later_in : {l : JobLine} → Memᴰ l (later_lines (length job.deck.posts) (length job.deck.stops) job) →
      T (in_ranges (row l.kind).ranges l.numbers)
  later_in {l} i = w.in_ranges_law l (Memᴰ.tail (Memᴰ.append_right (cond carried (axis_line job.deck.axis ∷ []) []) i))

  posts_in : Ranged posts (pos (length job.deck.posts) ∷ [])
  posts_in = later_in (Memᴰ.head refl)

  post_in : (p : Place) → Memᴰ p job.deck.posts → Ranged post (post_line p).numbers
  post_in p i = later_in (Memᴰ.tail (Memᴰ.append_left _ (Memᴰ.map post_line i)))

  -- a line behind those of the posts
  behind : {l : JobLine} → Memᴰ l (count_line stops (length job.deck.stops)
      ∷ (map stop_line job.deck.stops ++ (count_line rounds job.rounds ∷ []))) → T (in_ranges (row l.kind).ranges l.numbers)
  behind i = later_in (Memᴰ.tail (Memᴰ.append_right (map post_line job.deck.posts) i))

  stops_in : Ranged stops (pos (length job.deck.stops) ∷ [])
  stops_in = behind (Memᴰ.head refl)

  stop_in_lem : (s : Stop) → Memᴰ s job.deck.stops → Ranged stop (stop_line s).numbers
  stop_in_lem s i = behind (Memᴰ.tail (Memᴰ.append_left _ (Memᴰ.map stop_line i)))

  rounds_in_lem : Ranged rounds (pos job.rounds ∷ [])
  rounds_in_lem = behind (Memᴰ.tail (Memᴰ.append_right (map stop_line job.deck.stops) (Memᴰ.head refl)))

  -- its values, by the ranges of a deck
  pub ranged_area : RectInRange job.deck.area
  ranged_area = area_range job.deck.area area_in

  pub ranged_posts : (p : Place) → Memᴰ p job.deck.posts → PlaceInRange p
  ranged_posts p i = post_range p (post_in p i)

  pub ranged_stops : (s : Stop) → Memᴰ s job.deck.stops → StopInRange s
  ranged_stops s i = stop_range s (stop_in_lem s i)

  pub most_posts : length job.deck.posts ≤ posts_limit
  most_posts = (count_range posts_limit (length job.deck.posts)).0 posts_in

  pub most_stops : length job.deck.stops ≤ stops_limit
  most_stops = (count_range stops_limit (length job.deck.stops)).0 stops_in

  pub most_rounds : job.rounds ≤ rounds_limit
  most_rounds = (count_range rounds_limit job.rounds).0 rounds_in_lem

-- and those of its axis costs, where its lines are those with the axis line
pub ranged_axis : {job : Job} → Writable true job →
    ((1 ≤ job.deck.axis.a) × (1 ≤ job.deck.axis.b)) × ((job.deck.axis.a ≤ axis_cost_limit) × (job.deck.axis.b ≤ axis_cost_limit))
ranged_axis {job} w = axis_range job.deck.axis (axis_numbers_in true w tt)

-- its lines with the axis line have their ranges exactly if those without it and the axis costs have theirs
pub line_added : {job : Job} → Writable false job → Ranged axis (axis_numbers job.deck.axis) → Writable true job
unfolding InRanges
line_added w t = record { in_ranges_law = each_cons InRanges (area_in w) (each_cons InRanges t (λ l i. later_in w i)) }

pub line_dropped : {job : Job} → Writable true job → (carried : Bool) → Writable carried job
unfolding InRanges
line_dropped w true = w
line_dropped w false = record { in_ranges_law = each_cons InRanges (area_in w) (λ l i. later_in w i) }

pub got_writable : {missing : AxisCosts} {bs : List ℕ} {job : Job} → Got missing bs job → Ranged axis (axis_numbers missing) → Writable true job
got_writable {missing} {bs} {job} g t = go g.carried g.writable g.left_out
  where
    go : (carried : Bool) → Writable carried job → (T (not carried) → job.deck.axis ≡ missing) → Writable true job
    go true w h = w
    go false w h = line_added w (subst (λ (c : AxisCosts). Ranged axis (axis_numbers c)) (sym (h tt)) t)

-- the numbers of its lines
module _ (deck : Deck) where
  abbrev posts_numbers : List (List ℤ)
  posts_numbers = map (λ p. (post_line p).numbers) deck.posts

  abbrev stops_numbers : List (List ℤ)
  stops_numbers = map (λ s. (stop_line s).numbers) deck.stops

  DeckLines : Bool → ℕ → Type 0
  DeckLines carried n = LinesInRange carried (area_line deck.area).numbers (axis_numbers deck.axis) (pos (length deck.posts) ∷ []) posts_numbers
      (pos (length deck.stops) ∷ []) stops_numbers (pos n ∷ [])

deck_lines : {carried : Bool} (job : Job) (n : ℕ) → Writable carried job → n ≤ rounds_limit → DeckLines job.deck carried n
unfolding DeckLines
deck_lines {carried} job n w h = record {
  area_in = area_in w;
  axis_in_lem = axis_numbers_in carried w;
  posts_in = posts_in w;
  post_in = each_map (Ranged post) (λ p. (post_line p).numbers) job.deck.posts (post_in w);
  stops_in = stops_in w;
  stop_in_lem = each_map (Ranged stop) (λ s. (stop_line s).numbers) job.deck.stops (stop_in_lem w);
  rounds_in_lem = (count_range rounds_limit n).1 h;
  all_posts_lem = length-map job.deck.posts (λ p. (post_line p).numbers);
  all_stops_lem = length-map job.deck.stops (λ s. (stop_line s).numbers);
}

-- the job that they are read as, with these axis costs
abbrev with_axis : AxisCosts → Job → Job
with_axis c job = record {
  deck = record { axis = c; area = job.deck.area; posts = job.deck.posts; stops = job.deck.stops };
  rounds = job.rounds;
}

job_back : (c : AxisCosts) (job : Job) → job_of (area_line job.deck.area).numbers (axis_numbers c) (posts_numbers job.deck) (stops_numbers job.deck)
    (pos job.rounds ∷ []) ≡ with_axis c job
job_back c job =
    let p = map-map post_of (λ p. (post_line p).numbers) job.deck.posts ∙ map-id job.deck.posts in
    let s = map-map stop_of (λ s. (stop_line s).numbers) job.deck.stops ∙ map-id job.deck.stops in
    λ i. record { deck = record { axis = c; area = job.deck.area; posts = p i; stops = s i }; rounds = job.rounds }

-- what a spelling is read as: the job, with the costs that stand for a missing line where the line is missing
abbrev pub read_as : Bool → AxisCosts → Job → Job
read_as carried missing job = with_axis (cond carried job.deck.axis missing) job

pub read_same : (carried : Bool) (missing : AxisCosts) (job : Job) → (T (not carried) → job.deck.axis ≡ missing) → read_as carried missing job ≡ job
read_same true missing job h = refl
read_same false missing job h = ap (λ (c : AxisCosts). with_axis c job) (sym (h tt))

either_numbers : (carried : Bool) (c d : AxisCosts) → cond carried (axis_numbers c) (axis_numbers d) ≡ axis_numbers (cond carried c d)
either_numbers true c d = refl
either_numbers false c d = refl

pub job_gets : {carried : Bool} (missing : AxisCosts) (from : ℕ) (job : Job) → Writable carried job →
    (to : ℕ) × (job_lines missing from (spell carried job) ≡ got (read_as carried missing job) to [])
unfolding DeckLines
job_gets {carried} missing from job w =
    let i = deck_lines job job.rounds w (most_rounds w) in
    let (to, e) = lines_gets _ _ _ _ _ _ _ _ i missing from in
    let text = ap (spell carried) (sym (job_back job.deck.axis job)) ∙ lines_spelled _ _ _ _ _ _ _ _ i in
    let same = job_back (cond carried job.deck.axis missing) job in
    (to, ap (job_lines missing from) text ∙ e ∙ ap (λ (j : Job). got j to []) (rw (either_numbers carried job.deck.axis missing) same))

pub spell_length : {carried : Bool} (job : Job) → Writable carried job → length (spell carried job) ≤ 14089
unfolding DeckLines
spell_length {carried} job w = let i = deck_lines job job.rounds w (most_rounds w) in
    subst (λ (j : Job). length (spell carried j) ≤ 14089) (job_back job.deck.axis job)
    (rw (lines_spelled _ _ _ _ _ _ _ _ i) (lines_length _ _ _ _ _ _ _ _ i))

-- its two spellings differ
spelling_with : (job : Job) → spell true job ≡ spell_line (area_line job.deck.area) ++ (spell_line (axis_line job.deck.axis) ++
    flat_map spell_line (later_lines (length job.deck.posts) (length job.deck.stops) job))
unfolding spell
spelling_with job = refl

spelling_without : (job : Job) → spell false job ≡ spell_line (area_line job.deck.area) ++
    flat_map spell_line (later_lines (length job.deck.posts) (length job.deck.stops) job)
unfolding spell
spelling_without job = refl

axis_key : (c : AxisCosts) → 1 ≤ length (spell_line (axis_line c))
unfolding spell_line
axis_key c = omega arith

pub line_tells : (job : Job) → spell false job ≡ spell true job → ⊥
line_tells job e =
    let area = spell_line (area_line job.deck.area) in
    let line = spell_line (axis_line job.deck.axis) in
    let later = flat_map spell_line (later_lines (length job.deck.posts) (length job.deck.stops) job) in
    let same = ap length (sym (spelling_without job) ∙ e ∙ spelling_with job) in
    omega (arith, same, axis_key job.deck.axis, length-append area later, length-append area (line ++ later), length-append line later)

-- another number of rounds
pub other_rounds : {carried : Bool} (job : Job) (n : ℕ) → Writable carried job → n ≤ rounds_limit → Writable carried (record { deck = job.deck; rounds = n })
unfolding DeckLines
other_rounds {carried} job n w h = subst (Writable carried) (job_back job.deck.axis (record { deck = job.deck; rounds = n }))
    (lines_writable _ _ _ _ _ _ _ _ (deck_lines job n w h))
