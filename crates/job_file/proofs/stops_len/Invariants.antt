-- The loop of `job_file::stops_len`.
use mathlib.Core.Path.{◌≡◌}
use mathlib.Core.List.{map}
use Prim.Native.Nat.{◌*◌, ◌≤◌}
use lib.ListN.{length, take}
use Rattle.deck.specs.Values.{stop_of}
use Rattle.job_file.specs.Texts.{stop_texts}
use Rattle.job_file.proofs.stops_len.Given as goal

abbrev pub invariant-loop-stop : goal.invariant-loop-stop
invariant-loop-stop l = (l.len ≡ length (stop_texts (map stop_of (take l.stop-index l.stops)))) × (l.len ≤ l.stop-index * 70)
