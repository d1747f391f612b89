-- The loop of `job_file::put_posts`.
use mathlib.Core.List.{map}
use lib.ListN.{take}
use Rattle.write.specs.Written.{Wrote}
use Rattle.deck.specs.Values.{place_of}
use Rattle.job_file.specs.Texts.{post_texts}
use Rattle.job_file.proofs.put_posts.Given as goal

abbrev pub invariant-loop-post : goal.invariant-loop-post
invariant-loop-post l = Wrote l.initial.w (post_texts (map place_of (take l.post-index l.posts))) l.w
