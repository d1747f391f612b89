-- The text of a report, and of a refusal (RULES "Report").
use Rattle.std.specs.Prelude.{ℕ}
use mathlib.Core.List.{List, [], ◌∷◌, flatten}
use Rattle.query.specs.Figures.{Figures, State, done, stopped}
use Rattle.text.specs.Ascii.{bytes, comma}
use Rattle.text.specs.Decimal.{spell_nat, spell_int}

abbrev pub state_text : State → List ℕ
state_text done = bytes "done"
state_text stopped = bytes "stopped"

-- each line ends in byte 10, which stands here at the start of the next key
unfoldable pub report_text : Figures → List ℕ
unfolding flatten bytes spell_nat spell_int
report_text f = flatten (
    bytes "state=" ∷ state_text f.state
    ∷ bytes "\nat=" ∷ spell_int f.at.x ∷ (comma ∷ []) ∷ spell_int f.at.y
    ∷ bytes "\nhigh=" ∷ spell_nat f.high
    ∷ bytes "\nlow=" ∷ spell_int f.low
    ∷ bytes "\nbefore=" ∷ spell_nat f.before
    ∷ bytes "\nrounds=" ∷ spell_nat f.rounds
    ∷ bytes "\n" ∷ [])

-- by its number and its line
unfoldable pub refusal_text : ℕ → ℕ → List ℕ
unfolding flatten bytes spell_nat
refusal_text number line = flatten (bytes "refused=" ∷ spell_nat number ∷ bytes "\nline=" ∷ spell_nat line ∷ bytes "\n" ∷ [])
