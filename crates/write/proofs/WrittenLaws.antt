-- Bytes put over a part of a buffer: the length stays, and one part after another is their join.
use mathlib.Core.Path.{◌≡◌, refl, sym, ap, ◌∙◌}
use Prim.Native.Nat.{ℕ, ◌+◌, ◌-◌, ◌≤◌, ◌<◌}
use native.Mathlib.Nat.{zero-add, add-zero, add_assoc}
use native.Mathlib.Numerals.{add-one}
use native.Mathlib.Omega.{arith}
use mathlib.Core.List.{List, [], ◌∷◌, ◌++◌, append_assoc, append-nil}
use lib.ListN.{length, take, drop, set, length-append, length-set, length-take, length-drop, take-append-drop}
use borrow.Rule.Slice.Mut.{set_vals}
use borrow.Rule.Slice.PartMut.{put_mid}
use Rattle.std.proofs.lemmas.Slice.{put_mid-paste}
use lib.Seq.{take_at, drop_at, drop-drop, length-take-le, set_split, take_all}
use Rattle.write.specs.declared.Writer.{Writer}
use Rattle.write.specs.Written.{overwritten, written, Overwrote, HasRoom, Wrote}

-- what stands before the end of the new bytes
length_head : (out : List ℕ) (at : ℕ) (bs : List ℕ) → at ≤ length out → length (take at out ++ bs) ≡ at + length bs
length_head out at bs h = length-append (take at out) bs ∙ ap (λ (k : ℕ). k + length bs) (length-take-le at out h)

pub length_written : (out : List ℕ) (at : ℕ) (bs : List ℕ) → at + length bs ≤ length out → length (written out at bs) ≡ length out
unfolding written
length_written out at bs h =
    omega (arith, length-append (take at out ++ bs) (drop (at + length bs) out), length_head out at bs (omega arith), length-drop (at + length bs) out)

pub written_nil : (out : List ℕ) (at : ℕ) → written out at [] ≡ out
unfolding written
written_nil out at = rw (append-nil, add-zero) (take-append-drop at out)

-- one byte is a store
pub written_one : (out : List ℕ) (at b : ℕ) → at < length out → written out at (b ∷ []) ≡ set out at b
unfolding written
written_one out at b h = rw (append_assoc, add-one) (sym (set_split out at b h))

-- bytes, and then bytes from where those end
pub written_append : (out : List ℕ) (at : ℕ) (a b : List ℕ) → at ≤ length out → written (written out at a) (at + length a) b ≡ written out at (a ++ b)
unfolding written
written_append out at a b h =
    rw (
      take_at (take at out ++ a) (drop (at + length a) out) (at + length a) (length_head out at a h),
      sym (drop-drop (length b) (at + length a) (take at out ++ a ++ drop (at + length a) out)),
      drop_at (take at out ++ a) (drop (at + length a) out) (at + length a) (length_head out at a h),
      drop-drop (length b) (at + length a) out,
      length-append a b,
      append_assoc (take at out) a b,
      add_assoc at (length a) (length b),
    )

-- bytes from the start on
pub written_front : (out bs : List ℕ) → written out 0 bs ≡ overwritten bs out
unfolding written overwritten
written_front out bs = rw zero-add

-- ---- calls that write, one after another
pub wrote_nothing : (w : Writer) → Wrote w [] w
wrote_nothing w = record { same_slice = refl; size = refl; next = omega arith; text = sym (written_nil w.out.now w.at) }

-- bytes that fit are put at the place, or are none
append : (out : List ℕ) (at : ℕ) (a b : List ℕ) → length (written out at a) ≡ length out
    → written (written out at a) (at + length a) b ≡ written out at (a ++ b)
unfolding written
append out at [] b e = rw (written_nil, add-zero) refl
append out at (x ∷ a) b e = written_append out at (x ∷ a) b (omega (
  arith,
  e,
  length-append (take at out ++ (x ∷ a)) (drop (at + length (x ∷ a)) out),
  length-append (take at out) (x ∷ a),
  length-take at out,
))

pub wrote_both : {before mid after : Writer} {a b : List ℕ} → Wrote before a mid → Wrote mid b after → Wrote before (a ++ b) after
wrote_both {before} {a = a} {b = b} v w = record {
  same_slice = w.same_slice ∙ v.same_slice;
  size = w.size ∙ v.size;
  next = omega (arith, v.next, w.next, length-append a b);
  text = w.text ∙ rw (v.text, v.next) (append before.out.now before.at a b (ap length (sym v.text) ∙ v.size));
}

-- all of a text, from the start of a slice on, and what is left there
pub wrote_front : {before after : Writer} {out left : List ℕ} {count : ℕ} (text : List ℕ) → Wrote before text after → before.out.now ≡ out → before.at ≡ 0 →
    left ≡ after.out.now → count ≡ after.at → Overwrote out text left count
wrote_front text w o z l n = record {
  number = n ∙ w.next ∙ rw z (zero-add (length text));
  content = l ∙ w.text ∙ rw (o, z) (written_front _ text);
}

-- two parts behind what was written
pub wrote_pair : {before mid after : Writer} {front : List ℕ} (a b : List ℕ) → Wrote before front mid → Wrote mid (a ++ b) after →
    Wrote before (front ++ a ++ b) after
wrote_pair {front = front} a b v w = rw (append_assoc front a b) (wrote_both v w)

-- the part behind the place holds bs now
pub wrote_part : {part : List ℕ} (w : Writer) (bs : List ℕ) → HasRoom w (length bs) → part ≡ bs →
    Wrote w bs (record { out = set_vals (put_mid w.at (w.at + length bs - w.at) w.out.now part) w.out; at = w.at + length bs })
unfolding written
wrote_part {part} w bs h e =
    let text : put_mid w.at (w.at + length bs - w.at) w.out.now part ≡ written w.out.now w.at bs =
    put_mid-paste w.at (w.at + length bs - w.at) w.out.now part bs (length bs) e (omega arith) refl
    ∙ ap (λ (l : List ℕ). take w.at w.out.now ++ l ++ drop (w.at + length bs) w.out.now) (take_all (length bs) bs (omega arith)) in
    record { same_slice = refl; size = ap length text ∙ length_written w.out.now w.at bs h; next = refl; text = text }

-- a byte stored at the place
pub wrote_store : (w : Writer) (b : ℕ) → HasRoom w 1 → Wrote w (b ∷ []) (record { out = set_vals (set w.out.now w.at b) w.out; at = w.at + 1 })
wrote_store w b h = record { same_slice = refl; size = length-set w.out.now w.at b; next = refl; text = sym (written_one w.out.now w.at b (omega arith)) }
