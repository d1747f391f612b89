-- What reading line by line gives where it finds no fault: the values that the lines spell, each in its range.
use mathlib.Core.Path.{◌≡◌, refl, sym, ap, ◌∙◌}
use mathlib.Core.Bool.{Bool, true, false, not, cond}
use mathlib.Core.List.Memᴰ
use mathlib.Core.List.{List, [], ◌∷◌, ◌++◌, append-nil, append_assoc, flat_map, Memᴰ}
use mathlib.Core.Option.{Option, none, some}
use Prim.Native.Nat.{ℕ, zero, suc, ◌+◌}
use native.Mathlib.Omega.{arith}
use lib.Dec.{T, eqb, eqb_refl}
use lib.IntN.{ℤ}
use lib.ListN.{length}
use lib.Seq.{append_snoc}
use Rattle.numbers.proofs.Truth.{holds}
use Rattle.numbers.proofs.Members.{each_cons}
use Rattle.text.specs.TextReading.{starts_with}
use Rattle.job_line.specs.OneLine.{Reading, fault, got, Reader, line, line_result}
use Rattle.job.specs.Reader.{and_then, ◌>>=◌, repeated, optional, end}
use Rattle.job_line.specs.Kinds.{Kind, Row, row, form_of, in_ranges}
use Rattle.job.specs.Spelling.{JobLine}
use Rattle.refusal.specs.declared.Refusal.{Refusal}
use Rattle.refusal.specs.declared.Refusal.TheVariants.{OutOfRange}
use Rattle.job.proofs.FormLaws.{text_of, form_spells}
use Rattle.job.proofs.RangeLaws.{range_fits}

pub not_got : {A C : Type 0} {why : Refusal} {a : A} {n : ℕ} {bs : List ℕ} → ◌≡◌ {A = Reading A} (fault why) (got a n bs) → C
not_got e = absurd (let z : ◌≡◌ {A = ℕ} 0 1 = cc in omega arith)

-- what two readers got, one after the other
pub bind_got : {A B C : Type 0} (first : Reader A) (next : A → Reader B) (n : ℕ) (bs : List ℕ) {b : B} {m : ℕ} {rest : List ℕ} →
    ((a : A) (k : ℕ) (mid : List ℕ) → first n bs ≡ got a k mid → next a k mid ≡ got b m rest → C) → (first >>= next) n bs ≡ got b m rest → C
unfolding ◌>>=◌
bind_got {A} {B} {C} first next n bs {b} {m} {rest} then = go (first n bs) refl
  where
    go : (r : Reading A) → first n bs ≡ r → and_then r next ≡ got b m rest → C
    go (fault why) p e = not_got e
    go (got a k mid) p e = then a k mid p e

got_parts : {A : Type 0} (b : Bool) (v : A) (n : ℕ) (l : List ℕ) (why : Refusal) {w : A} {m : ℕ} {rest : List ℕ} →
    cond b (got v n l) (fault why) ≡ got w m rest → T b × (v ≡ w) × (l ≡ rest)
got_parts true v n l why e = (tt, cc, cc)
got_parts false v n l why e = not_got e

pub end_got : (n : ℕ) (bs : List ℕ) {u : Unit {0}} {m : ℕ} {rest : List ℕ} → end n bs ≡ got u m rest → bs ≡ []
unfolding end
end_got n [] e = refl
end_got n (b ∷ bs) e = not_got e

pub starts_key : (ks bs : List ℕ) → starts_with ks (ks ++ bs) ≡ true
unfolding starts_with
starts_key [] bs = refl
starts_key (k ∷ ks) bs = rw (holds (eqb k k) (eqb_refl k)) (starts_key ks bs)

pub optional_is : (row : Row) (missing : List ℤ) (n : ℕ) (bs : List ℕ) →
    optional row missing n bs ≡ cond (starts_with row.key bs) (line row n bs) (got missing n bs)
unfolding optional
optional_is row missing n bs = refl

-- ---- lines of a kind
module _ (k : Kind) where
  -- a line that holds these numbers
  abbrev pub line_of : List ℤ → JobLine
  line_of ns = record { kind = k; numbers = ns }

  -- whose ranges they keep
  abbrev pub Ranged : List ℤ → Type 0
  Ranged ns = T (in_ranges (row k).ranges ns)

  pub line_got : (n : ℕ) (bs : List ℕ) (ns : List ℤ) (m : ℕ) (rest : List ℕ) → line (row k) n bs ≡ got ns m rest → (bs ≡ text_of (row k) ns ++ rest) × Ranged ns
  unfolding line
  line_got n bs ns m rest = go (form_of (row k) bs) refl
    where
      go : (o : Option (List ℤ × List ℕ)) → form_of (row k) bs ≡ o → line_result (row k) n o ≡ got ns m rest → (bs ≡ text_of (row k) ns ++ rest) × Ranged ns
      go none p e = not_got e
      go (some r) p e = let (t, same, last) = got_parts (in_ranges (row k).ranges r.0) r.0 (n + 1) r.1 (OutOfRange n) e in
          rw (← same, ← last) (((form_spells (row k)).reads bs r.0 r.1 p).0, t)

  pub line_gets : (n : ℕ) (ns : List ℤ) (rest : List ℕ) → Ranged ns → line (row k) n (text_of (row k) ns ++ rest) ≡ got ns (n + 1) rest
  unfolding line
  line_gets n ns rest t = rw ((form_spells (row k)).writes ns rest (range_fits k ns t), holds (in_ranges (row k).ranges ns) t)

  -- a line that may be missing: whether the text carries it, and what was read
  pub record OptionalGot (missing : List ℤ) (bs : List ℕ) (ns : List ℤ) (rest : List ℕ) : Type 0 where
    pub carried : Bool
    pub text : bs ≡ cond carried (text_of (row k) ns) [] ++ rest
    pub ranged : T carried → Ranged ns
    pub left_out : T (not carried) → ns ≡ missing

  pub optional_got : (missing : List ℤ) (n : ℕ) (bs : List ℕ) (ns : List ℤ) (m : ℕ) (rest : List ℕ) → optional (row k) missing n bs ≡ got ns m rest →
      OptionalGot missing bs ns rest
  optional_got missing n bs ns m rest e = go (starts_with (row k).key bs) (sym (optional_is (row k) missing n bs) ∙ e)
    where
      go : (b : Bool) → cond b (line (row k) n bs) (got missing n bs) ≡ got ns m rest → OptionalGot missing bs ns rest
      go true e = let (t, i) = line_got n bs ns m rest e in record { carried = true; text = t; ranged = λ u. i; left_out = λ u. absurd u }
      go false e = record { carried = false; text = cc; ranged = λ u. absurd u; left_out = λ u. cc }

  pub optional_gets : (carried : Bool) (missing : List ℤ) (n : ℕ) (ns : List ℤ) (rest : List ℕ) → (T carried → Ranged ns) →
      starts_with (row k).key rest ≡ false →
      (m : ℕ) × (optional (row k) missing n (cond carried (text_of (row k) ns) [] ++ rest) ≡ got (cond carried ns missing) m rest)
  optional_gets true missing n ns rest t off = (
    n + 1,
    rw (optional_is, append_assoc, starts_key, ← append_assoc) (line_gets n ns rest (t tt)),
  )
  optional_gets false missing n ns rest t off = (n, rw (optional_is, off))

  -- so many lines of a kind, behind those read before
  repeated_got : (count : ℕ) (read : List (List ℤ)) (n : ℕ) (bs : List ℕ) (all : List (List ℤ)) (m : ℕ) (rest : List ℕ) →
      repeated count (line (row k)) read n bs ≡ got all m rest →
      (more : List (List ℤ)) × (read ++ more ≡ all) × (bs ≡ flat_map (text_of (row k)) more ++ rest) × (length more ≡ count) × ((ns : List ℤ) →
      Memᴰ ns more → Ranged ns)
  unfolding repeated flat_map
  repeated_got zero read n bs all m rest = λ e. ([], cc (append-nil read), cc, refl, λ ns i. absurd (Memᴰ.not-nil i))
  repeated_got (suc count) read n bs all m rest = bind_got (line (row k)) (λ ns. repeated count (line (row k)) (read ++ (ns ∷ []))) n bs (λ ns j mid p e.
      let (text, t) = line_got n bs ns j mid p in
      let (more, same, texts, long, ts) = repeated_got count (read ++ (ns ∷ [])) j mid all m rest e in (
        ns ∷ more,
        sym (append_snoc read ns more) ∙ same,
        rw append_assoc (text ∙ ap (λ (l : List ℕ). text_of (row k) ns ++ l) texts),
        ap suc long,
        each_cons Ranged t ts,
      ))

  pub all_got : (count n : ℕ) (bs : List ℕ) (all : List (List ℤ)) (m : ℕ) (rest : List ℕ) → repeated count (line (row k)) [] n bs ≡ got all m rest →
      (bs ≡ flat_map (text_of (row k)) all ++ rest) × (length all ≡ count) × ((ns : List ℤ) → Memᴰ ns all → Ranged ns)
  all_got count n bs all m rest e = let (more, same, texts, long, ts) = repeated_got count [] n bs all m rest e in rw (← same) (texts, long, ts)

  pub repeated_gets : (more read : List (List ℤ)) (n : ℕ) (rest : List ℕ) → ((ns : List ℤ) → Memᴰ ns more → Ranged ns) →
      (m : ℕ) × (repeated (length more) (line (row k)) read n (flat_map (text_of (row k)) more ++ rest) ≡ got (read ++ more) m rest)
  unfolding repeated flat_map
  repeated_gets [] read n rest ts = (n, rw append-nil)
  repeated_gets (ns ∷ more) read n rest ts =
      let (m, e) = repeated_gets more (read ++ (ns ∷ [])) (n + 1) rest (λ w i. ts w (Memᴰ.tail i)) in
      (m, rw (append_assoc, line_gets n ns (flat_map (text_of (row k)) more ++ rest) (ts ns (Memᴰ.head refl)), ← append_snoc read ns more) e)
