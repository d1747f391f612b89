-- The rows of specs/RecordTable.antt, by computation.
use mathlib.Core.Path.{refl}
use Rattle.calls.specs.ReadCall.{read_call}
use Rattle.calls.specs.WriteCall.{write_call}
use Rattle.calls.specs.RecordTable.{RecordTable}

pub record_table : RecordTable
unfolding write_call read_call
record_table = record { case_a_law = refl; plain_costs = refl; heavy_costs = refl; longest = refl; written = refl }
