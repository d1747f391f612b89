-- The load of objects as a sum over them, as the load of the deck whose objects they are, and by one turn of the pass.
use mathlib.Core.Path.{◌≡◌, ap, ◌∙◌}
use mathlib.Core.Bool.{cond}
use mathlib.Core.List.{List}
use Prim.Native.Nat.{ℕ, ◌+◌, ◌≤◌}
use native.Mathlib.Omega.{arith}
use lib.Dec.{ltb}
use lib.IntN.{ℤ, nat_abs}
use Rattle.numbers.specs.Lists.{sum_of}
use Rattle.numbers.proofs.Sums.{sum_of_keep}
use Rattle.numbers.proofs.Truth.{cond_ind}
use Rattle.query.specs.Place.{Rect}
use Rattle.query.specs.Deck.{Deck}
use Rattle.query.specs.CornerBound.{load}
use Rattle.query.specs.Range.{visits_limit}
use Rattle.query.proofs.CornerBoundLaws.{load_sum}
use Rattle.columns.specs.Objects.{Object, scaled_rect, Pricing, pricing_of}
use Rattle.columns.specs.ObjectColumns.{object_at}
use Rattle.reach.specs.ObjectReach.{reaches, travel_to_of}
use Rattle.reach.specs.Held.{object_of_row}
use Rattle.reach.specs.declared.objects.Row.{Row}
use Rattle.reach.proofs.ExcessLaws.{away}
use Rattle.reach.proofs.ReachLaws.{reaches_to, reach_law}
use Rattle.reach.proofs.RowLaws.{reaches_away}
use Rattle.pricing.proofs.ColumnLaws.{Passed, passed_more}
use Rattle.pricing.proofs.ObjectLaws.{objects_sum}
use Rattle.corner_bound.specs.ObjectCornerBound.{load_of}

-- an object's part of the load of a scaled rectangle
abbrev pub borne_by : Rect → Object → ℕ
borne_by r s = cond (reaches_to r s) s.visits 0

pub load_of_sum : (P : Pricing) (r : Rect) → load_of P r ≡ sum_of (borne_by (scaled_rect P.axis r)) P.objects
unfolding load_of reaches travel_to_of
load_of_sum P r = sum_of_keep (λ (s : Object). s.visits) (reaches P r) P.objects

pub load_law : (deck : Deck) (r : Rect) → load_of (pricing_of deck) r ≡ load deck r
load_law deck r =
    load_of_sum (pricing_of deck) r ∙ objects_sum deck (borne_by (scaled_rect deck.axis r)) ∙ simp (reach_law deck, load_sum)

-- one more row
pub load_more : (row : Row) {columns : List ℤ} {sum i : ℕ} → object_of_row row ≡ object_at columns i → (v : ℕ) (r : Rect) →
    Passed (borne_by r) visits_limit columns sum i → v ≡ cond (ltb (away row.x row.y r.xlo r.ylo r.xhi r.yhi) (nat_abs row.near)) (nat_abs row.visits) 0 →
    Passed (borne_by r) visits_limit columns (sum + v) (i + 1)
load_more row {columns} at v r passed e =
    let own : v ≡ borne_by r (object_of_row row) = e ∙ rw reaches_away in
    let most = cond_ind (λ (k : ℕ). k ≤ visits_limit) (reaches_to r (object_of_row row)) (λ t. row.in_range.visits_range) (λ t. omega arith) in
    passed_more _ _ columns v passed (own ∙ ap (borne_by r) at) (rw own most)
