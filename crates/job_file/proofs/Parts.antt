-- A text that is written part by part: what is written of it, and which parts are due.
use mathlib.Core.Path.{◌≡◌, ap, ◌∙◌}
use mathlib.Core.List.{List, [], ◌∷◌, ◌++◌, flatten, append_assoc, append-nil}
use Prim.Native.Nat.{ℕ, ◌+◌}
use native.Mathlib.Omega.{arith}
use lib.ListN.{length, length-append}
use Rattle.write.specs.declared.Writer.{Writer}
use Rattle.write.specs.Written.{HasRoom, Wrote}
use Rattle.write.proofs.WrittenLaws.{wrote_nothing, wrote_both}

pub record Writing (start : Writer) (text : List ℕ) (due : List (List ℕ)) (w : Writer) : Type 0 where
  pub done : List ℕ
  pub wrote : Wrote start done w
  pub whole : text ≡ done ++ flatten due
  pub room : HasRoom w (length (flatten due))

-- all of them are due where nothing is written yet
pub all_due : (start : Writer) {text : List ℕ} (due : List (List ℕ)) → HasRoom start (length text) → text ≡ flatten due → Writing start text due start
all_due start due room e = record { done = []; wrote = wrote_nothing start; whole = e; room = omega (arith, room, ap length e) }

module _ {start w : Writer} {text part : List ℕ} {due : List (List ℕ)} (t : Writing start text (part ∷ due) w) where
  joined : length (flatten (part ∷ due)) ≡ length part + length (flatten due)
  unfolding flatten
  joined = length-append part (flatten due)

  pub part_room : HasRoom w (length part)
  part_room = omega (arith, t.room, joined)

  pub part_written : {v : Writer} → Wrote w part v → Writing start text due v
  unfolding flatten
  part_written f = record {
    done = t.done ++ part;
    wrote = wrote_both t.wrote f;
    whole = t.whole ∙ rw (append_assoc t.done part (flatten due));
    room = omega (arith, t.room, joined, f.next, f.size);
  }

pub all_written : {start w : Writer} {text : List ℕ} → Writing start text [] w → Wrote start text w
unfolding flatten
all_written {start} {w} t = rw (t.whole, append-nil) t.wrote
