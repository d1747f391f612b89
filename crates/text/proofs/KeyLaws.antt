-- What a text starts with: laws of `starts_with` and of the text behind it.
use mathlib.Core.Path.{◌≡◌, refl, sym, ap}
use mathlib.Core.Bool.{Bool, true, false, cond, ◌&&◌}
use mathlib.Core.List.{List, [], ◌∷◌}
use Prim.Native.Nat.{ℕ, ◌+◌}
use native.Mathlib.Omega.{arith}
use borrow.Author.Tests.{eq-eqb, ne_eqb, eqb-true}
use lib.Dec.{eqb}
use lib.ListN.{length, take, drop}
use lib.Pointwise.{pointwise}
use Rattle.std.specs.Prelude.{Option, Some, None, option_copied, is_some, MatchOption}
use Rattle.std.specs.Borrow.{Bor}
use Rattle.text.specs.TextReading.{starts_with, behind}

-- the library's word for it
starts_prefix : (key bs : List ℕ) → pointwise eqb (take (length key) bs) key ≡ starts_with key bs
unfolding starts_with
starts_prefix [] bs = refl
starts_prefix (k ∷ ks) [] = refl
starts_prefix (k ∷ ks) (b ∷ bs) = rw (starts_prefix ks bs) refl

pub stripped : (key bs : List ℕ) (r : Option (Bor (List ℕ))) → MatchOption r (pointwise eqb (take (length key) bs) key ≡ false)
    (λ x. (pointwise eqb (take (length key) bs) key ≡ true) × (x.now ≡ drop (length key) bs) × (length x.now + length key ≡ length bs)) →
    option_copied r ≡ behind key bs
stripped key bs None h = rw (← starts_prefix key bs, h) refl
stripped key bs (Some x) h = rw (← starts_prefix key bs, h.0) (ap Some h.1)

-- ---- one byte
last_test : (t : Bool) → (t && true) ≡ t
last_test true = refl
last_test false = refl

pub starts_byte : (b x : ℕ) (bs : List ℕ) → starts_with (b ∷ []) (x ∷ bs) ≡ eqb x b
unfolding starts_with
starts_byte b x bs = last_test (eqb x b)

pub byte_past : (b : ℕ) (bs : List ℕ) → length bs ≡ 0 → None ≡ behind (b ∷ []) bs
unfolding starts_with
byte_past b [] e = refl
byte_past b (x ∷ bs) e = absurd (omega arith)

module _ {b x : ℕ} {bs rest : List ℕ} (is : bs ≡ x ∷ rest) where
  pub byte_found : x ≡ b → Some rest ≡ behind (b ∷ []) bs
  byte_found e = rw (is, starts_byte b x rest, eq-eqb x b e) refl

  pub byte_other : (x ≡ b → ⊥) → None ≡ behind (b ∷ []) bs
  byte_other e = rw (is, starts_byte b x rest, ne_eqb x b e) refl

-- a byte that is there
pub byte_there : (b : ℕ) (bs rest : List ℕ) → Some rest ≡ behind (b ∷ []) bs → bs ≡ b ∷ rest
unfolding starts_with
byte_there b [] rest e = absurd (let z : ◌≡◌ {A = ℕ} 0 1 = cc in omega arith)
byte_there b (x ∷ bs) rest e = go (eqb x b) refl e
  where
    go : (t : Bool) → eqb x b ≡ t → Some rest ≡ cond (t && true) (Some bs) None → x ∷ bs ≡ b ∷ rest
    go true q e = let p : rest ≡ bs = cc in λ i. eqb-true x b q i ∷ sym p i
    go false q e = absurd (let z : ◌≡◌ {A = ℕ} 0 1 = cc in omega arith)

-- and one that is not
pub byte_missing : (b : ℕ) (bs : List ℕ) → None ≡ behind (b ∷ []) bs → starts_with (b ∷ []) bs ≡ false
byte_missing b bs e = go (starts_with (b ∷ []) bs) refl e
  where
    go : (t : Bool) → starts_with (b ∷ []) bs ≡ t → None ≡ cond t (Some (drop 1 bs)) None → starts_with (b ∷ []) bs ≡ false
    go true q e = absurd (let z : ◌≡◌ {A = ℕ} 0 1 = cc in omega arith)
    go false q e = q

-- whether the text is there
pub behind_is_some : (key bs : List ℕ) (r : Option (Bor (List ℕ))) → option_copied r ≡ behind key bs → is_some r ≡ starts_with key bs
behind_is_some key bs r e = go (starts_with key bs) r e
  where
    go : (t : Bool) (r : Option (Bor (List ℕ))) → option_copied r ≡ cond t (Some (drop (length key) bs)) None → is_some r ≡ t
    go true None e = absurd (let z : ◌≡◌ {A = ℕ} 0 1 = cc in omega arith)
    go true (Some x) e = refl
    go false None e = refl
    go false (Some x) e = absurd (let z : ◌≡◌ {A = ℕ} 0 1 = cc in omega arith)
