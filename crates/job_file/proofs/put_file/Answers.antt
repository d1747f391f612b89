-- What `job_file::put_file` owes.
use mathlib.Core.Path.{◌≡◌, ap}
use mathlib.Core.List.{List}
use Prim.Native.Nat.{ℕ, ◌≤◌}
use native.Mathlib.Omega.{arith}
use lib.ListN.{length}
use borrow.Author.Rules.{rules}
use Rattle.text.specs.Ascii.{bytes}
use Rattle.write.specs.declared.Writer.{Writer}
use Rattle.write.specs.Written.{slice_bytes, written_len}
use Rattle.write.proofs.WrittenLaws.{wrote_front}
use Rattle.deck.specs.declared.Deck.{Deck}
use Rattle.job.specs.File.{file_text}
use Rattle.job_file.proofs.FileLaws.{file_parts, file_joined}
use Rattle.job_file.proofs.Parts.{Writing, all_due, part_room, part_written, all_written}
use Rattle.job_file.proofs.put_file.Goals as goal

-- a new writer has room for as many bytes as the slice has
start : (deck : Deck) (n : ℕ) (w : Writer) {out : List ℕ} → length (file_text deck n) ≤ length out → written_len w ≡ 0 → slice_bytes w ≡ out →
    Writing w (file_text deck n) (file_parts deck n) w
start deck n w room z o = all_due w _ (omega (arith, room, z, ap length o)) (file_joined deck n)

pub put_area-requires : goal.put_area-requires
unfolding bytes
put_area-requires c = part_room (start c.args.deck.now c.args.rounds c.new-w.result c.requires.2 c.new-w.ensures.place c.new-w.ensures.content)

pub put_axis-requires : goal.put_axis-requires
unfolding bytes
put_axis-requires c =
    let s = start c.args.deck.now c.args.rounds c.new-w.result c.requires.2 c.new-w.ensures.place c.new-w.ensures.content in
    part_room (part_written s c.put_area.ensures)

pub put_count-requires : goal.put_count-requires
unfolding bytes
put_count-requires c =
    let s = start c.args.deck.now c.args.rounds c.new-w.result c.requires.2 c.new-w.ensures.place c.new-w.ensures.content in
    part_room (part_written (part_written s c.put_area.ensures) c.put_axis.ensures)

pub put_posts-requires : goal.put_posts-requires
unfolding bytes
put_posts-requires c =
    let s = start c.args.deck.now c.args.rounds c.new-w.result c.requires.2 c.new-w.ensures.place c.new-w.ensures.content in
    rw c.listed_posts.ensures (part_room (part_written (part_written (part_written s c.put_area.ensures) c.put_axis.ensures) c.put_count.ensures))

pub put_count-requires-2 : goal.put_count-requires-2
unfolding bytes
put_count-requires-2 c =
    let s = start c.args.deck.now c.args.rounds c.new-w.result c.requires.2 c.new-w.ensures.place c.new-w.ensures.content in
    part_room (part_written (part_written (part_written (part_written s c.put_area.ensures) c.put_axis.ensures) c.put_count.ensures)
    (rw c.listed_posts.ensures at c.put_posts.ensures))

pub put_stops-requires : goal.put_stops-requires
unfolding bytes
put_stops-requires c =
    let s = start c.args.deck.now c.args.rounds c.new-w.result c.requires.2 c.new-w.ensures.place c.new-w.ensures.content in
    rw c.listed_stops.ensures (part_room (part_written (part_written (part_written (part_written (part_written s c.put_area.ensures)
    c.put_axis.ensures) c.put_count.ensures) (rw c.listed_posts.ensures at c.put_posts.ensures)) c.put_count-2.ensures))

pub put_count-requires-3 : goal.put_count-requires-3
unfolding bytes
put_count-requires-3 c =
    let s = start c.args.deck.now c.args.rounds c.new-w.result c.requires.2 c.new-w.ensures.place c.new-w.ensures.content in
    part_room (part_written (part_written (part_written (part_written (part_written (part_written s c.put_area.ensures) c.put_axis.ensures)
    c.put_count.ensures) (rw c.listed_posts.ensures at c.put_posts.ensures)) c.put_count-2.ensures) (rw c.listed_stops.ensures at c.put_stops.ensures))

pub returns : goal.returns
unfolding bytes
returns c =
    let s = start c.args.deck.now c.args.rounds c.new-w.result c.requires.2 c.new-w.ensures.place c.new-w.ensures.content in
    wrote_front _ (all_written (part_written (part_written (part_written (part_written (part_written (part_written (part_written s c.put_area.ensures)
    c.put_axis.ensures) c.put_count.ensures) (rw c.listed_posts.ensures at c.put_posts.ensures)) c.put_count-2.ensures)
    (rw c.listed_stops.ensures at c.put_stops.ensures)) c.put_count-3.ensures)) c.new-w.ensures.content c.new-w.ensures.place
    (search rules) (search rules)
