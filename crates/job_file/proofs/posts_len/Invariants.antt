-- The loop of `job_file::posts_len`.
use mathlib.Core.Path.{◌≡◌}
use mathlib.Core.List.{map}
use Prim.Native.Nat.{◌*◌, ◌≤◌}
use lib.ListN.{length, take}
use Rattle.deck.specs.Values.{place_of}
use Rattle.job_file.specs.Texts.{post_texts}
use Rattle.job_file.proofs.posts_len.Given as goal

abbrev pub invariant-loop-post : goal.invariant-loop-post
invariant-loop-post l = (l.len ≡ length (post_texts (map place_of (take l.post-index l.posts)))) × (l.len ≤ l.post-index * 49)
