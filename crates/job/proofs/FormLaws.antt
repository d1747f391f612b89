-- Lines: the form of a row reads a line as the numbers that it spells, and reads nothing but spellings.
use mathlib.Core.Path.{◌≡◌, refl, ap, ◌∙◌}
use mathlib.Core.Bool.{not}
use mathlib.Core.List.{List, [], ◌∷◌, ◌++◌, append-nil, append_assoc}
use mathlib.Core.Logic.{◌⊎◌, inl, inr}
use mathlib.Core.Option.{Option, none, some, bind-eq-some_iff, none-ne-some, some-injective}
use Prim.Native.Nat.{ℕ, suc, ◌^◌, ◌≤◌, ◌<◌}
use native.Mathlib.Omega.{arith}
use lib.Dec.{T, eqb, eqb→eq, eqb_refl}
use lib.IntN.{ℤ, nat_abs}
use lib.ListN.{length}
use Rattle.numbers.proofs.Truth.{cond_ind, cond-true, cond-false}
use Rattle.text.specs.Ascii.{is_digit}
use Rattle.text.specs.Numeral.{digits, number}
use Rattle.text.specs.Decimal.{spell_int}
use Rattle.text.proofs.NumeralLaws.{number_reads, number_spelled, number_too_long}
use Rattle.job_line.specs.Form.{Form, ◌>>=◌, ◌>>◌, byte, key, field, return}
use Rattle.job_line.specs.Kinds.{Range, Row, end_of, numbers, form_of}
use Rattle.job.specs.Spelling.{spell_numbers}

-- what it says of a form that it reads the texts of values, where the values are such, and nothing else
pub record Spells {A : Type 0} (form : Form A) (text : A → List ℕ → List ℕ) (Such : A → Type 0) : Type 0 where
  pub reads : (bs : List ℕ) (a : A) (rest : List ℕ) → form bs ≡ some (a, rest) → (bs ≡ text a rest) × Such a
  pub writes : (a : A) (rest : List ℕ) → Such a → form (text a rest) ≡ some (a, rest)

-- what was read, and the rest
some_parts : {A : Type 0} {a b : A} {l m : List ℕ} → ◌≡◌ {A = Option (A × List ℕ)} (some (a, l)) (some (b, m)) → (a ≡ b) × (l ≡ m)
some_parts {A} {a} {b} {l} {m} e = let p = some-injective (a, l) (b, m) e in (ap (λ (r : A × List ℕ). r.0) p, ap (λ (r : A × List ℕ). r.1) p)

-- what two forms read, one after the other
bind_reads : {A B C : Type 0} (first : Form A) (next : A → Form B) (bs : List ℕ) {r : B × List ℕ} →
    ((a : A) (mid : List ℕ) → first bs ≡ some (a, mid) → next a mid ≡ some r → C) → (first >>= next) bs ≡ some r → C
unfolding ◌>>=◌
bind_reads first next bs go e = let (s, p, q) = (bind-eq-some_iff (first bs) (λ s. next s.0 s.1)).0 e in go s.0 s.1 p q

pub byte_spells : (b : ℕ) → Spells (byte b) (λ u rest. b ∷ rest) (λ u. Unit)
unfolding byte
byte_spells b = record { reads = reads; writes = λ u rest s. cond-true (eqb b b) _ _ (eqb_refl b) }
  where
    reads : (bs : List ℕ) (u : Unit {0}) (rest : List ℕ) → byte b bs ≡ some (u, rest) → (bs ≡ b ∷ rest) × Unit {0}
    reads [] u rest = λ e. absurd (none-ne-some (u, rest) e)
    reads (c ∷ bs) u rest = cond_ind (λ (o : Option (Unit {0} × List ℕ)). o ≡ some (u, rest) →
        (c ∷ bs ≡ b ∷ rest) × Unit {0}) (eqb c b) (λ t e. (cc (eqb→eq c b t, (some_parts e).1), tt)) (λ t e. absurd (none-ne-some (u, rest) e))

pub key_spells : (ks : List ℕ) → Spells (key ks) (λ u rest. ks ++ rest) (λ u. Unit)
unfolding key
key_spells [] = record { reads = λ bs u rest e. ((some_parts e).1, tt); writes = λ u rest s. refl }
key_spells (k ∷ ks) = record {
  reads = λ bs u rest. bind_reads (byte k) (λ v. key ks) bs
      (λ v mid p q. (((byte_spells k).reads bs v mid p).0 ∙ ap (λ (l : List ℕ). k ∷ l) ((key_spells ks).reads mid u rest q).0, tt));
  writes = λ u rest s. rw ((byte_spells k).writes tt (ks ++ rest) tt) ((key_spells ks).writes u rest s);
}

-- a number and the byte that ends it, which is no digit
pub field_spells : (end : ℕ) → T (not (is_digit end)) → Spells (field end) (λ z rest. spell_int z ++ (end ∷ rest)) (λ z. nat_abs z < 10 ^ 9)
unfolding field digits
field_spells end t = record {
  reads = λ bs z rest. bind_reads number (λ z. byte end >> return z) bs (λ y mid p. bind_reads (byte end) (λ v. return y) mid (λ v after q e.
      let n = number_reads bs y mid p in
      let (same, last) = some_parts e in
      rw (← same, ← last) (n.text ∙ ap (λ (l : List ℕ). spell_int y ++ l) ((byte_spells end).reads mid v after q).0, n.small)));
  writes = λ z rest small. rw (number_spelled z (end ∷ rest) small (cond-false (is_digit end) _ _ t), (byte_spells end).writes tt rest tt);
}

-- ---- the numbers of a line, each with its end
-- each of at most nine digits
abbrev pub Within : List ℤ → Type 0
Within [] = Unit
Within (n ∷ ns) = (nat_abs n < 10 ^ 9) × Within ns

end_no_digit : {A : Type 0} (others : List A) → T (not (is_digit (end_of others)))
unfolding is_digit
end_no_digit [] = tt
end_no_digit (a ∷ others) = tt

end_same : {A B : Type 0} (xs : List A) (ys : List B) → length xs ≡ length ys → end_of xs ≡ end_of ys
end_same [] [] e = refl
end_same [] (y ∷ ys) e = absurd (omega arith)
end_same (x ∷ xs) [] e = absurd (omega arith)
end_same (x ∷ xs) (y ∷ ys) e = refl

-- as many numbers as ranges, and each of at most nine digits
pub record Fitting (ranges : List Range) (ns : List ℤ) : Type 0 where
  pub as_many : length ns ≡ length ranges
  pub small : Within ns

numbers_spells : (ranges : List Range) → Spells (numbers ranges) (λ ns rest. spell_numbers ns ++ rest) (Fitting ranges)
unfolding numbers spell_numbers
numbers_spells [] = record {
  reads = λ bs ns rest e. let (same, last) = some_parts e in rw (← same, ← last) (refl, record { as_many = refl; small = tt });
  writes = writes;
}
  where
    writes : (ns : List ℤ) (rest : List ℕ) → Fitting [] ns → numbers [] (spell_numbers ns ++ rest) ≡ some (ns, rest)
    writes [] rest f = refl
    writes (n ∷ ns) rest f = let e = f.as_many in absurd (omega arith)
numbers_spells (range ∷ others) = record {
  reads = λ bs ns rest. bind_reads (field (end_of others)) (λ z. numbers others >>= (λ zs. return (z ∷ zs))) bs
      (λ z mid p. bind_reads (numbers others) (λ zs. return (z ∷ zs)) mid (λ zs after q e.
      let (first, size) = (field_spells (end_of others) (end_no_digit others)).reads bs z mid p in
      let (text, fit) = (numbers_spells others).reads mid zs after q in
      let (same, last) = some_parts e in
      rw (← same, ← last) (
        rw (append_assoc, end_same zs others fit.as_many) (first ∙ ap (λ (l : List ℕ). spell_int z ++ (end_of others ∷ l)) text),
        record { as_many = ap suc fit.as_many; small = (size, fit.small) },
      )));
  writes = writes (numbers_spells others);
}
  where
    writes : Spells (numbers others) (λ ns rest. spell_numbers ns ++ rest) (Fitting others) → (ns : List ℤ) (rest : List ℕ) → Fitting (range ∷ others) ns →
        numbers (range ∷ others) (spell_numbers ns ++ rest) ≡ some (ns, rest)
    writes ih [] rest f = let e = f.as_many in absurd (omega arith)
    writes ih (n ∷ ns) rest f =
        let e : length ns ≡ length others = omega (arith, f.as_many) in
        rw (
          append_assoc,
          end_same ns others e,
          (field_spells (end_of others) (end_no_digit others)).writes n (spell_numbers ns ++ rest) f.small.0,
          ih.writes ns rest (record { as_many = e; small = f.small.1 }),
        )

-- ---- numbers of which one has ten digits or more
abbrev pub SomeLong : List ℤ → Type 0
SomeLong [] = ⊥
SomeLong (n ∷ ns) = (10 ^ 9 ≤ nat_abs n) ⊎ ((nat_abs n < 10 ^ 9) × SomeLong ns)

field_long : (end : ℕ) (z : ℤ) (rest : List ℕ) → 10 ^ 9 ≤ nat_abs z → field end (spell_int z ++ rest) ≡ none
unfolding field
field_long end z rest h = rw (number_too_long z rest h)

numbers_long : (ranges : List Range) (ns : List ℤ) (rest : List ℕ) → length ns ≡ length ranges → SomeLong ns → numbers ranges (spell_numbers ns ++ rest) ≡ none
unfolding numbers spell_numbers
numbers_long ranges [] rest e s = absurd s
numbers_long [] (n ∷ ns) rest e s = absurd (omega arith)
numbers_long (range ∷ others) (n ∷ ns) rest e (inl h) = rw (append_assoc, field_long (end_of others) n _ h)
numbers_long (range ∷ others) (n ∷ ns) rest e (inr s) =
    let as_many : length ns ≡ length others = omega arith in
    rw (
      append_assoc,
      end_same ns others as_many,
      (field_spells (end_of others) (end_no_digit others)).writes n (spell_numbers ns ++ rest) s.0,
      numbers_long others ns rest as_many s.1,
    )

-- ---- the lines
abbrev pub text_of : Row → List ℤ → List ℕ
text_of row ns = row.key ++ spell_numbers ns

module _ (row : Row) where
  pub form_spells : Spells (form_of row) (λ ns rest. text_of row ns ++ rest) (Fitting row.ranges)
  unfolding form_of
  form_spells = record {
    reads = λ bs ns rest. bind_reads (key row.key) (λ u. numbers row.ranges) bs (λ u mid p e. let (text, fit) =
        (numbers_spells row.ranges).reads mid ns rest e in
        (rw append_assoc (((key_spells row.key).reads bs u mid p).0 ∙ ap (λ (l : List ℕ). row.key ++ l) text), fit));
    writes = λ ns rest fit. rw (append_assoc, (key_spells row.key).writes tt (spell_numbers ns ++ rest) tt) ((numbers_spells row.ranges).writes ns rest fit);
  }

  pub form_long : (ns : List ℤ) (rest : List ℕ) → length ns ≡ length row.ranges → SomeLong ns → form_of row (text_of row ns ++ rest) ≡ none
  unfolding form_of
  form_long ns rest e s = rw (append_assoc, (key_spells row.key).writes tt (spell_numbers ns ++ rest) tt) (numbers_long row.ranges ns rest e s)

  pub form_whole : (ns : List ℤ) → Fitting row.ranges ns → form_of row (text_of row ns) ≡ some (ns, [])
  form_whole ns fit = rw append-nil at (form_spells.writes ns [] fit)

  -- a form that reads a text whole reads it at the start of any text
  pub form_local : (text : List ℕ) (ns : List ℤ) (rest : List ℕ) → form_of row text ≡ some (ns, []) → form_of row (text ++ rest) ≡ some (ns, rest)
  form_local text ns rest e = let (t, fit) = form_spells.reads text ns [] e in rw (t, append-nil) (form_spells.writes ns rest fit)
