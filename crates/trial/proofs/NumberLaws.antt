-- The numbers that `refusal_figure`, `trial_reading` and `trial_figure` choose from, by their place.
use Prim.Native.Nat.{ℕ, zero, suc, ◌<◌}
use mathlib.Core.Path.{◌≡◌, refl, ap, ◌∙◌}
use mathlib.Core.Logic.{◌≢◌}
use mathlib.Core.List.{List}
use native.Mathlib.Omega.{arith}
use lib.IntN.{ℤ, pos, negsuc, nat_abs}
use lib.ListN.{get_or}
use mir.Syntax.{w64}
use mir.Val.{SFits}
use Rattle.std.specs.Prelude.{Ok, Err, OkIff}
use Rattle.std.specs.Prelude as Std
use Rattle.std.specs.Int.{FitsUnsignedBits}
use Rattle.numbers.proofs.WordTests.{back, back_is}
use Rattle.job.specs.Format.{Job, Result, refused, accepted}
use Rattle.refusal.specs.declared.Refusal.{Refusal}
use Rattle.trial.specs.Trial.{minus_one, least, refusal_numbers, reading_numbers, near_figure, near_at}

pub number_at : (numbers : List ℤ) (which k : ℕ) (z : ℤ) → which ≡ k → z ≡ get_or numbers k least → z ≡ get_or numbers which least
number_at numbers which k z e f = rw e f

-- ---- an accepted job
zero_below : (job : Job) (which : ℕ) → which < 2 → pos 0 ≡ get_or (reading_numbers (accepted job)) which least
zero_below job zero h = refl
zero_below job (suc zero) h = refl
zero_below job (suc (suc which)) h = absurd (omega arith)

module _ {r : Result} {job : Job} (e : r ≡ accepted job) (which : ℕ) where
  pub no_refusal : which < 2 → pos 0 ≡ get_or (reading_numbers r) which least
  no_refusal h = rw e (zero_below job which h)

  pub rounds_number : which ≡ 2 → pos job.rounds ≡ get_or (reading_numbers r) which least
  rounds_number f = rw (e, f) refl

-- ---- a refused job
refusal_same : (why : Refusal) (which : ℕ) → which ≢ 2 → get_or (refusal_numbers why) which least ≡ get_or (reading_numbers (refused why)) which least
refusal_same why zero h = refl
refusal_same why (suc zero) h = refl
refusal_same why (suc (suc zero)) h = absurd (h refl)
refusal_same why (suc (suc (suc which))) h = refl

module _ {r : Result} {why : Refusal} (e : r ≡ refused why) (which : ℕ) where
  pub no_rounds : which ≡ 2 → minus_one ≡ get_or (reading_numbers r) which least
  no_rounds f = rw (e, f) refl

  pub refusal_number : which ≢ 2 → get_or (refusal_numbers why) which least ≡ get_or (reading_numbers r) which least
  refusal_number h = rw e (refusal_same why which h)

-- ---- a stop by its signed number
pub near_refused : (z : ℤ) (r : Result) → minus_one ≡ near_figure (nat_abs z) r → minus_one ≡ near_at z r
near_refused (pos i) r e = e
near_refused (negsuc i) r e = refl

-- the number that `try_from` makes of it
number_tried : {E : Type 0} (q : Std.Result ℕ E) (z : ℤ) → OkIff q (FitsUnsignedBits 64 z) (nat_abs z) → (n : ℕ) → q ≡ Ok n → (r : Result) →
    near_figure n r ≡ near_at z r
number_tried (Ok m) (pos k) h n e r = let same : n ≡ k = cc in rw same
number_tried (Ok m) (negsuc k) h n e r = absurd h.0
number_tried (Err why) z h n e r = cc

module _ {z : ℤ} (f : SFits w64 z) where
  pub near_number : {E : Type 0} (q : Std.Result ℕ E) → OkIff q (FitsUnsignedBits 64 (back z)) (nat_abs (back z)) → (n : ℕ) → q ≡ Ok n → (r : Result) →
      near_figure n r ≡ near_at z r
  near_number q h n e r = number_tried q (back z) h n e r ∙ ap (λ (z : ℤ). near_at z r) (back_is f)
