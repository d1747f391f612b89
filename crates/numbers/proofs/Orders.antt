-- Strict orders: of ℕ, of ℤ, and lexicographic ones, which go by one order first and settle ties by another.
use mathlib.Core.Path.{◌≡◌, subst}
use mathlib.Core.Bool.{Bool, not, ◌&&◌, ◌||◌}
use mathlib.Core.Logic.{⊎_elim}
use Prim.Native.Nat.{ℕ}
use native.Mathlib.Omega.{arith}
use lib.Dec.{T, T_not, ltb, eqb, ltb→lt, nltb→le, eqb→eq, eqb_refl}
use lib.Arith.{le→nltb}
use lib.Signed.{lt_z}
use Rattle.numbers.specs.Integer.{eq_z}
use Rattle.numbers.proofs.Truth.{and_left, and_right, or_cases, not_either}
use Rattle.numbers.proofs.Integer.{order}
use Rattle.numbers.proofs.Members.{Strict}

pub ltb_strict : Strict ltb
ltb_strict = record {
  asym = λ x y t. le→nltb y x (omega (arith, ltb→lt));
  chain = λ x y z t u. le→nltb z x (omega (arith, nltb→le));
}

pub lt_z_strict : Strict lt_z
lt_z_strict = record {
  asym = λ x y t. omega (arith, order);
  chain = λ x y z t u. omega (arith, order);
}

-- `alike` says of which two `before` puts neither first
pub record Ties {A : Type 0} (before alike : A → A → Bool) : Type 0 where
  pub not_before : (x y : A) → T (alike x y) → T (not (before x y))
  pub not_after : (x y : A) → T (alike x y) → T (not (before y x))
  pub otherwise : (x y : A) → T (not (before x y)) → T (not (before y x)) → T (alike x y)

pub ltb_ties : Ties ltb eqb
ltb_ties = record {
  not_before = λ x y t. le→nltb x y (omega (arith, eqb→eq));
  not_after = λ x y t. le→nltb y x (omega (arith, eqb→eq));
  otherwise = λ x y t u. let e : x ≡ y = omega (arith, nltb→le) in subst (λ (z : ℕ). T (eqb x z)) e (eqb_refl x);
}

pub lt_z_ties : Ties lt_z eq_z
lt_z_ties = record {
  not_before = λ x y t. omega (arith, order);
  not_after = λ x y t. omega (arith, order);
  otherwise = λ x y t u. omega (arith, order);
}

-- an order by a key
module _ {A B : Type 0} (key : A → B) where
  pub strict_on : {before : B → B → Bool} → Strict before → Strict (λ x y. before (key x) (key y))
  strict_on strict = record { asym = λ x y. strict.asym (key x) (key y); chain = λ x y z. strict.chain (key x) (key y) (key z) }

  pub ties_on : {before alike : B → B → Bool} → Ties before alike → Ties (λ x y. before (key x) (key y)) (λ x y. alike (key x) (key y))
  ties_on ties = record {
    not_before = λ x y. ties.not_before (key x) (key y);
    not_after = λ x y. ties.not_after (key x) (key y);
    otherwise = λ x y. ties.otherwise (key x) (key y);
  }

-- by `before`, and where that puts neither first by `then`
pub lex_strict : {A : Type 0} {before alike then : A → A → Bool} → Strict before → Ties before alike → Strict then →
    Strict (λ x y. before x y || (alike x y && then x y))
lex_strict {A} {before} {alike} {then} strict ties rest = record { asym = asym; chain = chain }
  where
    asym : (x y : A) → T (before x y || (alike x y && then x y)) → T (not (before y x || (alike y x && then y x)))
    asym x y t =
        let either = or_cases (before x y) (alike x y && then x y) t in
        (not_either (before y x) (alike y x) (then y x)).1 (
          ⊎_elim (strict.asym x y) (λ u. ties.not_after x y (and_left (alike x y) (then x y) u)) either,
          λ v. ⊎_elim (λ u. absurd (T_not (before x y) (ties.not_after y x v) u)) (λ u. rest.asym x y (and_right (alike x y) (then x y) u)) either,
        )

    chain : (x y z : A) → T (not (before y x || (alike y x && then y x))) → T (not (before z y || (alike z y && then z y))) →
        T (not (before z x || (alike z x && then z x)))
    chain x y z t u =
        let p = (not_either (before y x) (alike y x) (then y x)).0 t in
        let q = (not_either (before z y) (alike z y) (then z y)).0 u in
        (not_either (before z x) (alike z x) (then z x)).1 (
          strict.chain x y z p.0 q.0,
          λ v. let r = ties.not_after z x v in rest.chain x y z (p.1 (ties.otherwise y x p.0 (strict.chain y z x q.0 r)))
              (q.1 (ties.otherwise z y q.0 (strict.chain z x y r p.0))),
        )
