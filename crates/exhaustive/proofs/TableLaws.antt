-- The table of line numbers: how it is filled, run after run, and what is read from it.
use mathlib.Core.Path.{◌≡◌, sym, ap, subst, ◌∙◌}
use mathlib.Core.List.{List}
use mathlib.Core.Logic.{⊎_elim}
use Prim.Native.Nat.{ℕ, ◌+◌, ◌*◌, ◌-◌, ◌≤◌, ◌<◌}
use native.Mathlib.Nat.{mul-le-mul_left}
use native.Mathlib.Omega.{arith}
use lib.Dec.{ltb, ltb→lt, nltb→le}
use lib.IntN.{ℤ, pos, nat_abs}
use lib.ListN.{length, get_or, length-map}
use lib.Signed.{◌≤ℤ◌, ◌<ℤ◌}
use lib.Seq.{ext_get_or}
use Rattle.numbers.specs.Integer.{times}
use Rattle.numbers.proofs.Truth.{test}
use Rattle.numbers.proofs.Integer.{order}
use Rattle.numbers.proofs.Scaling.{scale_parts, scaled_at}
use Rattle.lines.specs.LineRecord.{FirstAtLeast}
use Rattle.lines.proofs.Indexed.{front_le}
use Rattle.numbers.proofs.WordTests.{back}
use Rattle.query.specs.Range.{coordinate_limit, axis_cost_limit}
use Rattle.exhaustive.specs.Ramps.{height_of, scaled_lines, LinesInRange, SlotsFilled, Parted, LineTable, height_base, table_base, table_size, start_limit}
use Rattle.exhaustive.proofs.Division.{Upwards}
use Rattle.exhaustive.proofs.Heights.{height_nat, height_most, height_least, height_le}
use Rattle.exhaustive.proofs.ObjectRamps.{small_back}

-- ---- lines
-- the slots before `from` are those of the heights up to the last of j lines
pub record Numbering (ls : List ℤ) (j from : ℕ) (table : List ℕ) : Type 0 where
  pub within : from ≤ table_size
  pub long : length table ≡ table_size
  pub passed : (k : ℕ) → k < j → height_of (get_or ls k (pos 0)) < from + table_base
  pub ahead : (k : ℕ) → j ≤ k → k < length ls → from + (table_base - 1) ≤ height_of (get_or ls k (pos 0))
  pub parted : (t : ℕ) → t < from → Parted ls (t + table_base) (get_or table t 0)

module _ (ls : List ℤ) (lines : LinesInRange ls) where
  wide : (k : ℕ) → k < length ls → nat_abs (get_or ls k (pos 0)) ≤ height_base
  wide k h = omega (arith, lines.range k h)

  rising : (k l : ℕ) → k ≤ l → l < length ls → height_of (get_or ls k (pos 0)) ≤ height_of (get_or ls l (pos 0))
  rising k l h g = height_le (get_or ls k (pos 0)) (get_or ls l (pos 0)) (wide k (omega arith)) (wide l g) (front_le ls lines.in_order.increasing k l h g)

  pub slot_most : (k : ℕ) → k < length ls → height_of (get_or ls k (pos 0)) ≤ height_base + coordinate_limit
  slot_most k h = height_most (get_or ls k (pos 0)) coordinate_limit (lines.range k h) (omega arith)

  pub slot_least : (k : ℕ) → k < length ls → table_base ≤ height_of (get_or ls k (pos 0))
  slot_least k h = omega (arith, height_least (get_or ls k (pos 0)) coordinate_limit (lines.range k h) (omega arith))

  pub numbering_none : (table : List ℕ) → length table ≡ table_size → Numbering ls 0 0 table
  numbering_none table e = record {
    within = omega arith;
    long = e;
    passed = λ k h. absurd (omega arith);
    ahead = λ k g h. omega (arith, slot_least k h);
    parted = λ t h. absurd (omega arith);
  }

  module _ {j from : ℕ} {table : List ℕ} (s : Numbering ls j from table) where
    -- the slots from `from` on
    parted_from : (r to : ℕ) (table' : List ℕ) → SlotsFilled table from to r table' → ((t : ℕ) → from ≤ t → t < to → Parted ls (t + table_base) r)
        → (t : ℕ) → t < to → Parted ls (t + table_base) (get_or table' t 0)
    parted_from r to table' f each t h =
        ⊎_elim (λ u. subst (Parted ls (t + table_base)) (sym (f.outside t (ltb→lt t from u))) (s.parted t (ltb→lt t from u)))
        (λ u. subst (Parted ls (t + table_base)) (sym (f.inside t (nltb→le t from u) h)) (each t (nltb→le t from u) h))
        (test (ltb t from))

    pub numbering_more : j < length ls → (to : ℕ) (table' : List ℕ) → to + (table_base - 1) ≡ height_of (get_or ls j (pos 0))
        → SlotsFilled table from to j table' → Numbering ls (j + 1) to table'
    numbering_more h to table' e f = record {
      within = omega (arith, e, slot_most j h);
      long = f.long ∙ s.long;
      passed = λ k g. omega (arith, rising k j (omega arith) h, e);
      ahead = λ k g l. omega (arith, rising j k (omega arith) l, e);
      parted = parted_from j to table' f (λ t g l. record {
        within = omega arith;
        before = λ k q. omega (arith, s.passed k q);
        after = λ k q p. omega (arith, rising j k q p, e);
      });
    }

  -- as the code computes it
  module _ (j : ℕ) (h : j < length ls) where
    line_back : back (get_or ls j (pos 0)) ≡ get_or ls j (pos 0)
    line_back = small_back (get_or ls j (pos 0)) (omega (arith, lines.range j h))

    pub line_range : nat_abs (back (get_or ls j (pos 0))) ≤ start_limit
    line_range = rw line_back (omega (arith, lines.range j h))

    module _ (t : ℕ) (e : t ≡ height_of (back (get_or ls j (pos 0)))) where
      height_is : t ≡ height_of (get_or ls j (pos 0))
      height_is = e ∙ rw line_back

      pub slot_is : (t - (table_base - 1)) + (table_base - 1) ≡ height_of (get_or ls j (pos 0))
      slot_is = omega (arith, height_is, slot_least j h)

      pub slot_low : table_base ≤ t
      slot_low = omega (arith, height_is, slot_least j h)

      pub slot_within : t - (table_base - 1) ≤ table_size
      slot_within = omega (arith, height_is, slot_most j h)

-- ---- what is read: the first line that is not below a start when it is multiplied by b
module _ (b : ℕ) (some : 1 ≤ b) (ls : List ℤ) (lines : LinesInRange ls) (start : ℤ) (g : nat_abs start ≤ start_limit) where
  module _ (k : ℕ) (h : k < length ls) where
    abbrev y : ℤ
    y = get_or ls k (pos 0)

    is_below : b * height_of y + height_base < height_of start + height_base * b → get_or (scaled_lines b ls) k (pos 0) <ℤ start
    is_below l = rw (scaled_at b ls k)
        (omega (arith, order, scale_parts b y, height_nat start (omega arith), ap (λ (n : ℕ). b * n) (height_nat y (wide ls lines k h))))

    is_not_below : height_of start + height_base * b ≤ b * height_of y + height_base → start ≤ℤ get_or (scaled_lines b ls) k (pos 0)
    is_not_below l = rw (scaled_at b ls k)
        (omega (arith, order, scale_parts b y, height_nat start (omega arith), ap (λ (n : ℕ). b * n) (height_nat y (wide ls lines k h))))

  module _ (t : ℕ) (e : t ≡ height_of start) (small : b ≤ axis_cost_limit) where
    pub from_below : t < height_base - coordinate_limit * b → FirstAtLeast (scaled_lines b ls) start 0
    from_below h = record {
      within = omega arith;
      before = λ k l. absurd (omega arith);
      after = λ k l m. let in_list : k < length ls = omega (arith, length-map ls (times b)) in
          is_not_below k in_list (omega (arith, e, mul-le-mul_left b (slot_least ls lines k in_list)));
    }

    module _ (low : height_base - coordinate_limit * b ≤ t) (s : ℕ) (up : Upwards (t - (height_base - coordinate_limit * b)) b s) where
      from_slot : {r : ℕ} → Parted ls (s + table_base) r → FirstAtLeast (scaled_lines b ls) start r
      from_slot p = record {
        within = omega (arith, p.within, length-map ls (times b));
        before = λ k l. is_below k (omega (arith, p.within)) (omega (arith, e, up.least, mul-le-mul_left b (p.before k l)));
        after = λ k l m. let in_list : k < length ls = omega (arith, length-map ls (times b)) in
            is_not_below k in_list (omega (arith, e, up.enough, mul-le-mul_left b (p.after k l in_list)));
      }

      pub from_above : 2 * coordinate_limit < s → FirstAtLeast (scaled_lines b ls) start (length ls)
      from_above h =
          from_slot (record { within = omega arith; before = λ k l. omega (arith, slot_most ls lines k l); after = λ k l m. absurd (omega arith) })

      pub from_table : (table : List ℕ) → LineTable ls table → s ≤ 2 * coordinate_limit → FirstAtLeast (scaled_lines b ls) start (get_or table s 0)
      from_table table numbered h = from_slot (numbered.parted s h)

-- ---- two tables of the same lines are the same
parted_one : {ls : List ℤ} {t r r' : ℕ} → Parted ls t r → Parted ls t r' → r ≤ r'
parted_one {r = r} {r'} p q = ⊎_elim (λ u. let l : r' < r = ltb→lt r' r u in
    absurd (omega (arith, p.before r' l, q.after r' (omega arith) (omega (arith, p.within))))) (λ u. nltb→le r' r u) (test (ltb r' r))

pub numbered_one : {ls : List ℤ} {table table' : List ℕ} → LineTable ls table → LineTable ls table' → table ≡ table'
numbered_one {table = table} {table'} p q = ext_get_or 0 table table' (omega (arith, p.long, q.long)) (λ t h. let a = p.parted t (omega (arith, p.long)) in
    let b = q.parted t (omega (arith, p.long)) in omega (arith, parted_one a b, parted_one b a))
