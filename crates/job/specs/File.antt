-- The file that a deck's record and a number of rounds are saved in (RULES "Change 1", "Change 2").
use Rattle.std.specs.Prelude.{ℕ, Bool, not, ◌&&◌, eqb}
use mathlib.Core.List.{List, flat_map}
use Rattle.query.specs.Deck.{AxisCosts}
use Rattle.deck.specs.DeckOf.{deck_of}
use Rattle.deck.specs.declared.Deck.{Deck}
use Rattle.job.specs.Format.{Job}
use Rattle.job.specs.Spelling.{JobLine, lines_counting, spell_line, spell}

-- the job that a record and rounds hold
abbrev pub held_job : Deck → ℕ → Job
held_job deck rounds = record { deck = deck_of deck; rounds = rounds }

-- whether it has the axis line
unfoldable pub writes_axis : AxisCosts → Bool
writes_axis c = not (eqb c.a 1 && eqb c.b 1)

-- the spelling that is written
abbrev pub saved_spelling : Job → List ℕ
saved_spelling job = spell (writes_axis job.deck.axis) job

-- the lines of its file. The counts that are written are the record's own, also where they are beyond its arrays
abbrev pub file_lines : Deck → ℕ → List JobLine
file_lines deck rounds = lines_counting (writes_axis (deck_of deck).axis) deck.post_count deck.stop_count (held_job deck rounds)

-- its bytes
unfoldable pub file_text : Deck → ℕ → List ℕ
unfolding writes_axis deck_of flat_map spell_line
file_text deck rounds = flat_map spell_line (file_lines deck rounds)
