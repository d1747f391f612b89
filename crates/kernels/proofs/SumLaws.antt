-- Sums over turns, and the places and rectangles of the turns.
use mathlib.Core.Path.{◌≡◌, refl, sym, ap, ◌∙◌}
use mathlib.Core.Bool.{Bool, cond}
use mathlib.Core.List.{List}
use Prim.Native.Nat.{ℕ, ◌+◌, ◌*◌, ◌%◌, ◌≤◌, ◌<◌}
use native.Mathlib.Nat.{mul-le-mul}
use native.Mathlib.Numerals.{add-one}
use native.Mathlib.Omega.{arith}
use borrow.Author.Tests.{lt-ltb, le-ltb}
use lib.Dec.{ltb}
use lib.IntN.{ℤ, pos, nat_abs, ◌-ℤ◌}
use lib.Signed.{◌≤ℤ◌}
use mir.Syntax.{w64}
use mir.Val.{SFits, to_z, of_z}
use mir.ValLaws.{to_z-of_z, to_z_pos}
use Rattle.numbers.proofs.WordTests.{back}
use Rattle.numbers.proofs.Integer.{order, abs_range, sub_nat}
use Rattle.numbers.proofs.Words.{word_fits, difference, difference_fits}
use Rattle.query.specs.Place.{Place, Rect}
use Rattle.query.specs.Deck.{Deck}
use Rattle.query.specs.Range.{coordinate_limit, load_limit, cost_limit}
use Rattle.job.specs.Format.{Result, read_job}
use Rattle.job.proofs.ReadDeck.{Spelt}
use Rattle.deck.specs.DeckOf.{deck_of}
use Rattle.reach.specs.Columns.{Ranged}
use Rattle.reach.specs.Held.{pricing_of_objects}
use Rattle.pricing.specs.ObjectFigures.{cost_of, bound_of, Figure}
use Rattle.pricing.proofs.ObjectLaws.{cost_law, bound_law}
use Rattle.corner_bound.specs.ObjectCornerBound.{load_of, corner_bound_of, CornerBound}
use Rattle.corner_bound.proofs.LoadLaws.{load_law}
use Rattle.corner_bound.proofs.CornerLaws.{corner_bound_law}
use Rattle.priced_place.proofs.Coordinates.{rect_back}
use Rattle.std.specs.Prelude.{Option, None}
use Rattle.std.specs.Option.{option_map}
use Rattle.trial.specs.Opened.{parts_of, opened_record}
use Rattle.trial.specs.Trial.{on_job, minus_one, least}
use Rattle.trial.specs.declared.opened.Opened.{Opened}
use Rattle.trial.proofs.OpenLaws.{whole_pricing, open_refused, on_job_lem}
use Rattle.kernels.specs.Sums.{
  sum_to,
  turns_limit,
  residue,
  Sampled,
  TurnPlace,
  TurnRect,
  place_at,
  rect_at,
  positive,
  cost_turn,
  load_turn,
  bound_turn,
  corner_bound_turn,
  turn,
  kernel_sum,
}

-- ---- sums
pub record Summed (f : ℕ → ℕ) (limit k sum t : ℕ) : Type 0 where
  pub within : t ≤ k
  pub is : sum ≡ sum_to f t
  pub most : sum ≤ t * limit

pub summed_none : (f : ℕ → ℕ) (limit k : ℕ) → Summed f limit k 0 0
unfolding sum_to
summed_none f limit k = record { within = omega arith; is = refl; most = omega arith }

sum_more : (f : ℕ → ℕ) (t : ℕ) → sum_to f (t + 1) ≡ sum_to f t + f t
unfolding sum_to
sum_more f t = rw add-one

pub summed_more : {f : ℕ → ℕ} {limit k sum t : ℕ} (v : ℕ) → Summed f limit k sum t → t < k → v ≡ f t → v ≤ limit →
    Summed f limit k (sum + v) (t + 1)
summed_more {f} {limit} {k} {sum} {t} v s h e l = record {
  within = omega arith;
  is = ap (λ (n : ℕ). n + v) s.is ∙ ap (λ (n : ℕ). sum_to f t + n) e ∙ sym (sum_more f t);
  most = omega (arith, s.most);
}

pub summed_all : {f : ℕ → ℕ} {k sum t : ℕ} → Summed f cost_limit k sum t → k ≤ t → k ≤ turns_limit → Figure (sum_to f k) (turns_limit * cost_limit) sum
summed_all {f} {k} {sum} {t} s h few =
    let e : t ≡ k = omega (arith, s.within) in
    record { is = s.is ∙ ap (sum_to f) e; within = omega (arith, s.most) }

-- ---- a figure of the objects or the lines of an opened job is that of its deck
module _ (o : Opened) (t : ℕ) {n : ℕ} where
  pub cost_found : {p : Place} → p ≡ place_at t → Figure (cost_of (pricing_of_objects o.problem.objects) p) cost_limit n →
      Figure (cost_turn (deck_of o.deck) t) cost_limit n
  cost_found e fig = record {
    is = fig.is ∙ (λ i. cost_of (whole_pricing o i) (e i)) ∙ cost_law (deck_of o.deck) (place_at t);
    within = fig.within;
  }

  pub load_found : {r : Rect} → r ≡ rect_at t → Figure (load_of (pricing_of_objects o.problem.objects) r) load_limit n →
      Figure (load_turn (deck_of o.deck) t) cost_limit n
  load_found e fig = record {
    is = fig.is ∙ (λ i. load_of (whole_pricing o i) (e i)) ∙ load_law (deck_of o.deck) (rect_at t);
    within = omega (arith, fig.within);
  }

  pub bound_found : {r : Rect} → r ≡ rect_at t → Figure (bound_of (pricing_of_objects o.problem.objects) r) cost_limit n →
      Figure (bound_turn (deck_of o.deck) t) cost_limit n
  bound_found e fig = record {
    is = fig.is ∙ (λ i. bound_of (whole_pricing o i) (e i)) ∙ bound_law (deck_of o.deck) (rect_at t);
    within = fig.within;
  }

  pub corner_bound_found : {r : Rect} {b : ℤ} → r ≡ rect_at t → CornerBound (corner_bound_of (pricing_of_objects o.problem.objects) r) b →
      Figure (positive (to_z w64 (of_z w64 b))) 1 n → Figure (corner_bound_turn (deck_of o.deck) t) cost_limit n
  corner_bound_found {b = b} e found fig = record {
    is =
        fig.is
        ∙ ap positive (to_z-of_z w64 b (word_fits w64 b (omega (arith, found.within))) ∙ found.is
        ∙ (λ i. corner_bound_of (whole_pricing o i) (e i)) ∙ corner_bound_law (deck_of o.deck) (rect_at t));
    within = omega (arith, fig.within);
  }

-- ---- what `kernel_sum` answers
abbrev SumIs : (ℕ → ℕ) → ℕ → ℕ → Type 0
SumIs f k n = Figure (sum_to f k) (turns_limit * cost_limit) n

pub kernel_none : (which k : ℕ) (r : Result) → 5 < which → least ≡ kernel_sum which k r
kernel_none which k r h = rw (lt-ltb 5 which h)

module _ (which k : ℕ) (w : which ≤ 5) where
  abbrev on_deck : Result → ℤ
  on_deck r = on_job minus_one (λ job. cond (ltb turns_limit k) minus_one (pos (sum_to (turn job.deck which) k))) r

  kernel_is : (r : Result) → on_deck r ≡ kernel_sum which k r
  kernel_is r = rw (le-ltb 5 which w)

  pub kernel_refused : (bytes : List ℕ) (r : Option Opened) → option_map parts_of r ≡ opened_record (read_job bytes) → r ≡ None → minus_one ≡
      kernel_sum which k (read_job bytes)
  kernel_refused bytes r e f = open_refused bytes r e _ _ f ∙ kernel_is (read_job bytes)

  module _ {bytes : List ℕ} (s : Spelt bytes) where
    sum_is : cond (ltb turns_limit k) minus_one (pos (sum_to (turn s.job.deck which) k)) ≡ kernel_sum which k (read_job bytes)
    sum_is = on_job_lem minus_one (λ job. cond (ltb turns_limit k) minus_one (pos (sum_to (turn job.deck which) k))) s ∙ kernel_is (read_job bytes)

    pub too_many : turns_limit < k → minus_one ≡ kernel_sum which k (read_job bytes)
    too_many h = sym (ap (λ (b : Bool). cond b minus_one (pos (sum_to (turn s.job.deck which) k))) (lt-ltb turns_limit k h)) ∙ sum_is

    pub kernel_answer : {deck : Deck} {n : ℕ} → deck ≡ s.job.deck → k ≤ turns_limit → SumIs (turn deck which) k n →
        to_z w64 n ≡ kernel_sum which k (read_job bytes)
    kernel_answer {deck} {n} e h fig =
        to_z_pos w64 n (omega (arith, fig.within)) ∙ ap pos (fig.is ∙ ap (λ (d : Deck). sum_to (turn d which) k) e)
        ∙ sym (ap (λ (b : Bool). cond b minus_one (pos (sum_to (turn s.job.deck which) k))) (le-ltb turns_limit k h)) ∙ sum_is

-- ---- numbers of a turn
pub product_fits : (t factor : ℕ) → factor ≤ 65536 → (t % 65536) * factor ≤ 65536 * 65536
product_fits t factor h = let g : t % 65536 ≤ 65536 = omega arith in mul-le-mul g h

pub residue_most : (t factor : ℕ) → residue t factor ≤ coordinate_limit
residue_most t factor = go ((t % 65536) * factor)
  where
    go : (n : ℕ) → n % (coordinate_limit + 1) ≤ coordinate_limit
    go n = omega arith

module _ (m s : ℕ) (g : m ≤ coordinate_limit) (h : s ≤ coordinate_limit) where
  pub less_fits : SFits w64 (to_z w64 m -ℤ to_z w64 s)
  less_fits = difference_fits m s (omega arith) (omega arith)

  less_is : to_z w64 (of_z w64 (to_z w64 m -ℤ to_z w64 s)) ≡ pos m -ℤ pos s
  less_is = to_z-of_z w64 (to_z w64 m -ℤ to_z w64 s) less_fits ∙ difference m s (omega arith) (omega arith)

  less_range : nat_abs (pos m -ℤ pos s) ≤ coordinate_limit
  less_range = (abs_range (pos m -ℤ pos s) coordinate_limit).1 (omega (arith, sub_nat (pos m) (pos s)))

pub sample_is : (t factor less : ℕ) → less ≤ coordinate_limit → Sampled t factor less (to_z w64 (of_z w64 (to_z w64 (residue t factor) -ℤ to_z w64 less)))
sample_is t factor less h =
    let e = less_is (residue t factor) less (residue_most t factor) h in
    record { is = e; range = rw e (less_range (residue t factor) less (residue_most t factor) h) }

-- ---- the place and the rectangle of a turn
module _ {t : ℕ} {x y : ℤ} (a : Sampled t 7919 10000 x) (b : Sampled t 6007 10000 y) where
  pub place_turn : TurnPlace t (record { x = x; y = y })
  place_turn = record { is = λ i. record { x = a.is i; y = b.is i }; range = record { x_range = a.range; y_range = b.range } }

-- a low edge is not above a high one
low_high : (m s : ℕ) → m ≤ coordinate_limit → (pos m -ℤ pos coordinate_limit) ≤ℤ (pos s -ℤ pos 0)
low_high m s h = omega (arith, order, sub_nat (pos m) (pos coordinate_limit), sub_nat (pos s) (pos 0))

module _ {t : ℕ} {xlo ylo xhi yhi : ℤ} (a : Sampled t 7919 coordinate_limit xlo) (b : Sampled t 6007 coordinate_limit ylo) (c : Sampled t 4409 0 xhi)
    (d : Sampled t 3001 0 yhi) where
  turn_is : ◌≡◌ {A = Rect} (record { xlo = back xlo; ylo = back ylo; xhi = back xhi; yhi = back yhi }) (rect_at t)
  turn_is =
      rect_back (record { xlo = xlo; ylo = ylo; xhi = xhi; yhi = yhi })
      (record { low_corner_law = record { x_range = a.range; y_range = b.range }; high_corner_law = record { x_range = c.range; y_range = d.range } })
      ∙ rw (a.is, b.is, c.is, d.is)

  turn_ranged : Ranged (rect_at t)
  turn_ranged = record {
    range = record {
      low_corner_law = record { x_range = rw a.is at a.range; y_range = rw b.is at b.range };
      high_corner_law = record { x_range = rw c.is at c.range; y_range = rw d.is at d.range };
    };
    full = record {
      across = low_high (residue t 7919) (residue t 4409) (residue_most t 7919);
      deep = low_high (residue t 6007) (residue t 3001) (residue_most t 6007);
    };
  }

  pub rect_turn : TurnRect t (record { xlo = back xlo; ylo = back ylo; xhi = back xhi; yhi = back yhi })
  rect_turn = record { is = turn_is; ranged = rw turn_is turn_ranged }
