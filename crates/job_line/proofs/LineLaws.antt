-- The forms of a line at the start of a text, and a line by its form and its ranges.
use mathlib.Core.Path.{◌≡◌, refl, sym, ap, subst, ◌∙◌}
use mathlib.Core.Bool.{Bool, true, false, cond, ◌&&◌, true≢false}
use mathlib.Core.List.{List, [], ◌∷◌, ◌++◌}
use mathlib.Core.Option.{Option, none, some, bind}
use Prim.Native.Nat.{ℕ, ◌+◌, ◌<◌, ◌^◌}
use native.Mathlib.Omega.{arith}
use lib.Dec.{T, eqb}
use lib.IntN.{ℤ, pos, negsuc, nat_abs}
use lib.ListN.{length, drop}
use lib.Signed.{lt_z, non_neg, pos-nat_abs}
use mir.Syntax.{w64}
use mir.Val.{Fits, SFits}
use Rattle.std.specs.Prelude as Std
use Rattle.std.specs.Prelude.{Some, None, IfSome, Result, Ok, Err, IsErrAnd, unsigned_abs}
use Rattle.std.specs.Borrow.{Bor}
use Rattle.std.specs.Int.{FitsUnsignedBits}
use Rattle.std.specs.Option.{ok_or}
use Rattle.std.specs.Result.{result_ok, is_ok}
use Rattle.text.specs.Ascii.{newline}
use Rattle.text.specs.Numeral.{number}
use Rattle.text.specs.TextReading.{starts_with, behind}
use Rattle.job_line.specs.Form.{byte, key, field}
use Rattle.job_line.specs.Kinds.{Range, Row, end_of, numbers, form_of, in_ranges}
use Rattle.job_line.specs.OneLine.{Reading, fault, got, line, line_result}
use Rattle.job_line.specs.Reading.{KeyAt, FieldAt, NextLine, reading_of, in_64_bits, LineAt}
use Rattle.job_line.specs.declared.Unread.{Unread}
use Rattle.refusal.specs.declared.Refusal.{Refusal}
use Rattle.refusal.specs.declared.Refusal.TheVariants.{Malformed, OutOfRange}
use Rattle.numbers.proofs.WordTests.{back, back_is}

-- ---- an option as a result
pub ok_or_some : {A E : Type 0} (o : Std.Option A) (e : E) {a : A} → ok_or o e ≡ Ok a → o ≡ Some a
ok_or_some (Some x) e h = ap result_ok h
ok_or_some None e h = absurd (true≢false (sym (ap is_ok h)))

pub ok_or_none : {A E : Type 0} (o : Std.Option A) {e w : E} → ok_or o e ≡ Err w → (o ≡ None) × (w ≡ e)
ok_or_none (Some x) h = absurd (true≢false (ap is_ok h))
ok_or_none {E = E} None {w = w} h = (refl, sym (ap (err_or w) h))
  where
    err_or : {A : Type 0} → E → Result A E → E
    err_or d (Ok a) = d
    err_or d (Err e) = e

pub if_some : {A : Type 0} (P : A → Type 0) {o : Std.Option A} {a : A} → o ≡ Some a → IfSome o P → P a
if_some {A} P e h = subst (λ (o : Std.Option A). IfSome o P) e h

-- ---- bytes and keys
abbrev found : Std.Option (List ℕ) → Option (Unit {0} × List ℕ)
found (Some rest) = some (tt, rest)
found None = none

byte_behind : (b : ℕ) (bs : List ℕ) → byte b bs ≡ found (behind (b ∷ []) bs)
unfolding byte starts_with
byte_behind b [] = refl
byte_behind b (c ∷ cs) = go (eqb c b)
  where
    go : (t : Bool) → cond t (found (Some cs)) none ≡ found (cond (t && true) (Some cs) None)
    go true = refl
    go false = refl

key_behind : (ks bs : List ℕ) → key ks bs ≡ found (behind ks bs)
unfolding key starts_with
key_behind [] bs = refl
key_behind (k ∷ ks) [] = refl
key_behind (k ∷ ks) (b ∷ bs) = go (eqb b k) (key_behind ks bs)
  where
    go : (t : Bool) → key ks bs ≡ found (behind ks bs) →
        bind (cond t (found (Some bs)) none) (λ r. key ks r.1) ≡ found (cond (t && starts_with ks bs) (Some (drop (length ks) bs)) None)
    go true ih = ih
    go false ih = refl

module _ (name : List ℕ) (unread : Unread) where
  pub key_found : {rest : Bor (List ℕ)} → Some rest.now ≡ behind name unread.text.now → KeyAt name unread (Ok (record { text = rest; line = unread.line }))
  key_found e = record { is = ap found e ∙ sym (key_behind name unread.text.now); in_line = refl }

  pub key_missing : None ≡ behind name unread.text.now → {why : Refusal} → why ≡ Malformed unread.line →
      (r : Result Unread Refusal) → IsErrAnd r (λ e. e ≡ why) → KeyAt name unread r
  key_missing e f (Ok left) h = absurd h
  key_missing e f (Err why) h = record { is = ap found e ∙ sym (key_behind name unread.text.now); in_line = h ∙ f }

-- ---- fields
-- a number of at most nine digits fits 64 bits
nine_digits_lem : (z : ℤ) → nat_abs z < 10 ^ 9 → SFits w64 z
nine_digits_lem (pos n) h = record { sfits = omega arith }
nine_digits_lem (negsuc n) h = record { sfits = omega arith }

field_is : (end : ℕ) (bs : List ℕ) → field end bs ≡ bind (number bs) (λ r. bind (byte end r.1) (λ u. some (r.0, u.1)))
unfolding field
field_is end bs = refl

abbrev number_then : ℤ → List ℕ → Option (ℤ × List ℕ)
number_then z rest = some (z, rest)

module _ (end : ℕ) (unread : Unread) where
  module _ {why : Refusal} (f : why ≡ Malformed unread.line) where
    pub field_none : none ≡ number unread.text.now → (r : Result (ℤ × Unread) Refusal) → IsErrAnd r (λ e. e ≡ why) → FieldAt end unread r
    unfolding bind
    field_none e (Ok a) h = absurd h
    field_none e (Err why) h = record { is = rw (field_is, ← e); nine_digits = tt; in_line = h ∙ f }

  module _ (z : ℤ) (rest : List ℕ) (is_number : number_then z rest ≡ number unread.text.now) where
    pub field_off : None ≡ behind (end ∷ []) rest → {why : Refusal} → why ≡ Malformed unread.line →
        (r : Result (ℤ × Unread) Refusal) → IsErrAnd r (λ e. e ≡ why) → FieldAt end unread r
    unfolding bind
    field_off e f (Ok a) h = absurd h
    field_off e f (Err why) h = record { is = rw (field_is, ← is_number, byte_behind end rest, ← e); nine_digits = tt; in_line = h ∙ f }

    pub field_on : nat_abs z < 10 ^ 9 → {left : Bor (List ℕ)} → Some left.now ≡ behind (end ∷ []) rest →
        FieldAt end unread (Ok (back z, record { text = left; line = unread.line }))
    unfolding bind
    field_on h e = rw (back_is (nine_digits_lem z h)) (record {
      is = rw (field_is, ← is_number, byte_behind end rest, ← e);
      nine_digits = h;
      in_line = refl;
    })

-- what a field that was read is
module _ {end : ℕ} {unread left : Unread} {z : ℤ} (field_at : FieldAt end unread (Ok (z, left))) where
  field_back : back z ≡ z
  field_back = back_is (nine_digits_lem z field_at.nine_digits)

  field_reads : field end unread.text.now ≡ number_then (back z) left.text.now
  field_reads = rw field_back (sym field_at.is)

  -- it is negative where `try_from` finds that no unsigned word holds it
  pub field_below : (FitsUnsignedBits 64 (back z) → ⊥) → lt_z (back z) (pos 0) ≡ true
  field_below f = go (back z) (rw field_back field_at.nine_digits) f
    where
      go : (v : ℤ) → nat_abs v < 10 ^ 9 → (FitsUnsignedBits 64 v → ⊥) → lt_z v (pos 0) ≡ true
      go (pos n) h f = absurd (f (omega arith))
      go (negsuc n) h f = refl

  pub field_cast : T (non_neg (back z)) → T (non_neg (back z)) × Fits w64 (nat_abs (back z))
  field_cast t = (t, record { fits = rw field_back (omega (arith, field_at.nine_digits)) })

-- ---- the numbers of a line, from where they start
numbers_is : (range : Range) (others : List Range) (bs : List ℕ) →
    numbers (range ∷ others) bs ≡ bind (field (end_of others) bs) (λ r. bind (numbers others r.1) (λ t. some (r.0 ∷ t.0, t.1)))
unfolding numbers
numbers_is range others bs = refl

numbers_end : (bs : List ℕ) → numbers [] bs ≡ some ([], bs)
unfolding numbers
numbers_end bs = refl

abbrev numbers_then : List ℤ → List ℕ → Option (List ℤ × List ℕ)
numbers_then ns rest = some (ns, rest)

-- they are there, or one is not, and the line is malformed
pub record Numbers (ranges : List Range) (unread : Unread) (ns : List ℤ) (left : Unread) : Type 0 where
  pub is : numbers ranges unread.text.now ≡ numbers_then ns left.text.now
  pub in_line : left.line ≡ unread.line

pub record NoNumbers (ranges : List Range) (unread : Unread) (why : Refusal) : Type 0 where
  pub is : numbers ranges unread.text.now ≡ none
  pub malformed : why ≡ Malformed unread.line

module _ {range : Range} {others : List Range} {unread : Unread} where
  pub no_number : {why : Refusal} → FieldAt (end_of others) unread (Err why) → NoNumbers (range ∷ others) unread why
  unfolding bind
  no_number field_at = record { is = rw (numbers_is, ← field_at.is); malformed = field_at.in_line }

  module _ {z : ℤ} {next : Unread} (field_at : FieldAt (end_of others) unread (Ok (z, next))) where
    pub number_then_none : {why : Refusal} → NoNumbers others next why → NoNumbers (range ∷ others) unread why
    unfolding bind
    number_then_none f = record { is = rw (numbers_is, field_reads field_at, f.is); malformed = f.malformed ∙ ap Malformed field_at.in_line }

    pub number_then_more : {ns : List ℤ} {left : Unread} → Numbers others next ns left → Numbers (range ∷ others) unread (back z ∷ ns) left
    unfolding bind
    number_then_more f = record { is = rw (numbers_is, field_reads field_at, f.is); in_line = f.in_line ∙ field_at.in_line }

pub last_number : {range : Range} {unread : Unread} {z : ℤ} {left : Unread} → FieldAt newline unread (Ok (z, left)) →
    Numbers (range ∷ []) unread (back z ∷ []) left
last_number {left = left} field_at = number_then_more field_at (record { is = numbers_end left.text.now; in_line = refl })

-- ---- a line by its form and its ranges
form_is : (row : Row) (bs : List ℕ) → form_of row bs ≡ bind (key row.key bs) (λ k. numbers row.ranges k.1)
unfolding form_of
form_is row bs = refl

pub record HasForm (row : Row) (unread : Unread) (ns : List ℤ) (left : Unread) : Type 0 where
  pub is : form_of row unread.text.now ≡ numbers_then ns left.text.now
  pub in_line : left.line ≡ unread.line

pub record NoForm (row : Row) (unread : Unread) (why : Refusal) : Type 0 where
  pub is : form_of row unread.text.now ≡ none
  pub malformed : why ≡ Malformed unread.line

module _ {row : Row} {unread : Unread} where
  pub no_key : {why : Refusal} → KeyAt row.key unread (Err why) → NoForm row unread why
  unfolding bind
  no_key is_key = record { is = rw (form_is, ← is_key.is); malformed = is_key.in_line }

  module _ {next : Unread} (is_key : KeyAt row.key unread (Ok next)) where
    pub key_then_none : {why : Refusal} → NoNumbers row.ranges next why → NoForm row unread why
    unfolding bind
    key_then_none f = record { is = rw (form_is, ← is_key.is) f.is; malformed = f.malformed ∙ ap Malformed is_key.in_line }

    pub key_then : {ns : List ℤ} {left : Unread} → Numbers row.ranges next ns left → HasForm row unread ns left
    unfolding bind
    key_then f = record { is = rw (form_is, ← is_key.is) f.is; in_line = f.in_line ∙ is_key.in_line }

-- numbers, as unsigned words hold them
abbrev Natural : ℤ → ℕ → Type 0
Natural z n = FitsUnsignedBits 64 z × (n ≡ unsigned_abs z)

natural_is : (z : ℤ) {n : ℕ} → Natural z n → z ≡ pos n
natural_is (pos m) h = ap pos (sym h.1)
natural_is (negsuc m) h = absurd h.0

module _ {row : Row} {unread left : Unread} where
  pub one_natural : {z : ℤ} {n : ℕ} → Natural z n → HasForm row unread (z ∷ []) left → HasForm row unread (pos n ∷ []) left
  one_natural {z} h f = rw (natural_is z h) at f

  pub two_naturals : {x y : ℤ} {a b : ℕ} → Natural x a → Natural y b → HasForm row unread (x ∷ y ∷ []) left → HasForm row unread (pos a ∷ pos b ∷ []) left
  two_naturals {x} {y} g h f = rw (natural_is x g, natural_is y h) at f

module _ {row : Row} {unread : Unread} where
  -- where a part is not there, and `?` hands its refusal on
  pub malformed : {A : Type 0} {why : Refusal} (numbers_of : A → List ℤ) (r : Result (A × Unread) Refusal) → NoForm row unread why →
      IsErrAnd r (λ e. e ≡ why) → LineAt row unread (reading_of numbers_of r)
  unfolding line
  malformed numbers_of (Ok a) f h = absurd h
  malformed numbers_of (Err why) f h = record { is = ap fault (h ∙ f.malformed) ∙ rw f.is refl }

  module _ {ns : List ℤ} {left : Unread} (f : HasForm row unread ns left) where
    pub out_of_range : in_ranges row.ranges ns ≡ false → LineAt row unread (fault (OutOfRange left.line))
    unfolding line
    out_of_range t = record { is = rw (f.is, t, f.in_line) refl }

    pub line_read : in_ranges row.ranges ns ≡ true → {next : Unread} → NextLine left next → LineAt row unread (got ns next.line next.text.now)
    unfolding line
    line_read t after = record { is = rw (f.is, t, after.line_is, after.text_is, f.in_line) refl }

  -- the last number as its size, where it is not negative
  pub last_natural : (ns : List ℤ) (z : ℤ) {m : ℕ} {rest : List ℕ} → T (non_neg z) → LineAt row unread (got (ns ++ (z ∷ [])) m rest) →
      LineAt row unread (got (ns ++ (pos (nat_abs z) ∷ [])) m rest)
  last_natural ns z t l = rw (pos-nat_abs z t) l

-- ---- the number of the next line
-- which 64 bits hold, where this line is not the last that they can count
exact : (row : Row) (n : ℕ) (bs : List ℕ) → n + 1 < 2 ^ 64 → in_64_bits (line row n bs) ≡ line row n bs
unfolding line
exact row n bs h = go (form_of row bs)
  where
    either : (t : Bool) (ns : List ℤ) (rest : List ℕ) →
        in_64_bits (cond t (got ns (n + 1) rest) (fault (OutOfRange n))) ≡ cond t (got ns (n + 1) rest) (fault (OutOfRange n))
    either true ns rest = ap (λ m. got ns m rest) (omega arith)
    either false ns rest = refl

    go : (o : Option (List ℤ × List ℕ)) → in_64_bits (line_result row n o) ≡ line_result row n o
    go none = refl
    go (some r) = either (in_ranges row.ranges r.0) r.0 r.1

pub line_at_is : {row : Row} {unread : Unread} {r : Reading (List ℤ)} → LineAt row unread r → unread.line + 1 < 2 ^ 64 → r ≡ line row unread.line
    unread.text.now
line_at_is {row} {unread} line_at h = line_at.is ∙ exact row unread.line unread.text.now h

-- it is one more
pub line_counts : (row : Row) (n : ℕ) (bs : List ℕ) {ns : List ℤ} {m : ℕ} {rest : List ℕ} → got ns m rest ≡ line row n bs → m ≡ n + 1
unfolding line
line_counts row n bs {ns} {m} {rest} e = go (form_of row bs) e
  where
    either : (t : Bool) (ms : List ℤ) (more : List ℕ) → got ns m rest ≡ cond t (got ms (n + 1) more) (fault (OutOfRange n)) → m ≡ n + 1
    either true ms more e = cc
    either false ms more e = absurd (let z : ◌≡◌ {A = ℕ} 0 1 = cc in omega arith)

    go : (o : Option (List ℤ × List ℕ)) → got ns m rest ≡ line_result row n o → m ≡ n + 1
    go none e = absurd (let z : ◌≡◌ {A = ℕ} 0 1 = cc in omega arith)
    go (some r) e = either (in_ranges row.ranges r.0) r.0 r.1 e
