-- Tests: what a conjunction, a disjunction and a choice say.
use mathlib.Core.Path.{◌≡◌, refl}
use mathlib.Core.Bool.{Bool, true, false, not, cond, ◌&&◌, ◌||◌}
use mathlib.Core.Logic.{◌⊎◌, inl, inr, ◌↔◌}
use lib.Dec.{T}

pub and_left : (a b : Bool) → T (a && b) → T a
and_left true b t = tt
and_left false b t = t

pub and_right : (a b : Bool) → T (a && b) → T b
and_right true b t = t
and_right false b t = absurd t

pub and_intro : (a b : Bool) → T a → T b → T (a && b)
and_intro true b p q = q
and_intro false b p q = p

-- a conjunction by what its parts say
pub and_iff : (a b : Bool) {P Q : Type 0} → T a ↔ P → T b ↔ Q → T (a && b) ↔ (P × Q)
and_iff a b p q = (λ t. (p.0 (and_left a b t), q.0 (and_right a b t)), λ r. and_intro a b (p.1 r.0) (q.1 r.1))

pub or_cases : (a b : Bool) → T (a || b) → T a ⊎ T b
or_cases true b t = inl tt
or_cases false b t = inr t

pub or_left : (a b : Bool) → T a → T (a || b)
or_left true b t = tt
or_left false b t = absurd t

pub or_right : (a b : Bool) → T b → T (a || b)
or_right true b t = tt
or_right false b t = t

-- a disjunction that fails
pub nor_left : (a b : Bool) → T (not (a || b)) → T (not a)
nor_left true b t = t
nor_left false b t = tt

pub nor_right : (a b : Bool) → T (not (a || b)) → T (not b)
nor_right true b t = absurd t
nor_right false b t = t

pub nor_intro : (a b : Bool) → T (not a) → T (not b) → T (not (a || b))
nor_intro true b t u = t
nor_intro false b t u = u

-- a conjunction that fails: its second part fails where its first holds
pub nand_right : (a b : Bool) → T (not (a && b)) → T a → T (not b)
nand_right true b t u = t
nand_right false b t u = absurd u

pub test : (b : Bool) → T b ⊎ T (not b)
test true = inl tt
test false = inr tt

-- a test by its outcome
pub holds : (b : Bool) → T b → b ≡ true
holds true t = refl
holds false t = absurd t

pub fails : (b : Bool) → T (not b) → b ≡ false
fails true t = absurd t
fails false t = refl

pub cond_ind {ℓ} : {A : Type ℓ} (P : A → Type 0) (b : Bool) {x y : A} → (T b → P x) → (T (not b) → P y) → P (cond b x y)
cond_ind P true f g = f tt
cond_ind P false f g = g tt

pub cond-true {ℓ} : {A : Type ℓ} (b : Bool) (x y : A) → T b → cond b x y ≡ x
cond-true true x y t = refl
cond-true false x y t = absurd t

pub cond-false {ℓ} : {A : Type ℓ} (b : Bool) (x y : A) → T (not b) → cond b x y ≡ y
cond-false true x y t = absurd t
cond-false false x y t = refl

pub and_fails_left : (a b : Bool) → T (not a) → T (not (a && b))
and_fails_left true b t = absurd t
and_fails_left false b t = tt

pub and_fails_right : (a b : Bool) → T (not b) → T (not (a && b))
and_fails_right true b t = t
and_fails_right false b t = tt

-- what it says that a first test fails and a second, where it holds, leaves a third to fail
pub not_either : (a b c : Bool) → T (not (a || (b && c))) ↔ (T (not a) × (T b → T (not c)))
not_either true b c = (λ t. absurd t, λ r. r.0)
not_either false true c = (λ t. (tt, λ u. t), λ r. r.1 tt)
not_either false false c = (λ t. (tt, λ u. absurd u), λ r. tt)
