-- The loop of `job_file::put_stops`.
use mathlib.Core.List.{map}
use lib.ListN.{take}
use Rattle.write.specs.Written.{Wrote}
use Rattle.deck.specs.Values.{stop_of}
use Rattle.job_file.specs.Texts.{stop_texts}
use Rattle.job_file.proofs.put_stops.Given as goal

abbrev pub invariant-loop-stop : goal.invariant-loop-stop
invariant-loop-stop l = Wrote l.initial.w (stop_texts (map stop_of (take l.stop-index l.stops))) l.w
